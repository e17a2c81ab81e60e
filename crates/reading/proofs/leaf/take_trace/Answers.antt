-- `reading::leaf::take_trace` meets its contract: what is placed is the trace with its whole distance, and a trace that is not placed is
-- beyond the limit, so that it has no place.
use mathlib.Core.Path.{◌≡◌, sym, ap, subst, ◌∙◌}
use Prim.Native.Nat.{ℕ}
use native.Mathlib.Omega.{arith}
use lib.ListN.{length}
use Rattle.segment.specs.Figures.{distance}
use Rattle.segment.specs.Stored.{samples_of}
use Rattle.segment.specs.Within.{distance_within}
use Rattle.segment.proofs.Fewest.{exact_says, beyond_says}
use Rattle.dstree.specs.KNearest.{list_with}
use Rattle.dstree.specs.Measures.{Trace}
use Rattle.tables.specs.View.{trace_in}
use Rattle.tables.proofs.Parts.{words_length}
use Rattle.reading.specs.Nearest.{near}
use Rattle.reading.specs.Listed.{nears_in, ListBegins}
use Rattle.reading.proofs.Records.{placed_past}
use Rattle.reading.proofs.leaf.take_trace.Goals as goal

-- the distance is asked for
module _ (c : goal.After-slice_known-in-Exact-1) where
  abbrev start : goal.After-slice_known-in-Exact-1
  start = c

  abbrev query : Trace
  query = samples_of start.args.query.now

  abbrev trace : Trace
  trace = trace_in start.args.samples.now start.args.n start.args.t

  abbrev limit : ℕ
  limit = c.limit_of-limit.result

  answers : c.distance_within.result ≡ distance_within limit query trace
  answers = c.distance_within.ensures.value ∙ ap (distance_within limit query) c.trace_at-trace.ensures

-- the distance is asked for
module _ (c : goal.In-Beyond) where
  abbrev start_2 : goal.In-Beyond
  start_2 = c

  abbrev query_2 : Trace
  query_2 = samples_of start_2.args.query.now

  abbrev trace_2 : Trace
  trace_2 = trace_in start_2.args.samples.now start_2.args.n start_2.args.t

  abbrev limit_2 : ℕ
  limit_2 = c.limit_of-limit.result

  answers_2 : c.distance_within.result ≡ distance_within limit_2 query_2 trace_2
  answers_2 = c.distance_within.ensures.value ∙ ap (distance_within limit_2 query_2) c.trace_at-trace.ensures

pub distance_within-requires : goal.distance_within-requires
distance_within-requires c =
    let long : length c.trace_at-trace.result.now ≡ c.args.n =
    words_length c.args.samples.now c.trace_at-trace.result.now c.args.n c.args.t c.trace_at-trace.ensures c.requires.1 in
    (c.requires.2 ∙ sym long, omega (arith, c.requires.0, c.requires.2))

pub returns-in-Exact : goal.returns-in-Exact
returns-in-Exact c =
    let a = (start c).args in
    let whole : c.in-Exact.distance ≡ distance (query c) (trace c) =
    (exact_says (limit c) c.in-Exact.distance (query c) (trace c) c.distance_within.result (answers c) c.in-Exact.is).0 in
    subst
    (λ (r : ℕ). ListBegins a.k c.put_in_list.result (list_with a.k (nears_in a.listed a.list.now) (near a.t r))
    a.list.now
    c.put_in_list.new.list)
    whole c.put_in_list.ensures

pub returns-in-Beyond : goal.returns-in-Beyond
returns-in-Beyond c =
    let s = start_2 c in
    let a = s.args in
    let past = beyond_says (limit_2 c) c.in-Beyond.field-0 (query_2 c) (trace_2 c) c.distance_within.result (answers_2 c) c.in-Beyond.is in
    let l = c.limit_of-limit.ensures in
    let same = ap (distance (query_2 c)) c.trace_at-trace.ensures in
    placed_past a.k a.listed a.t (distance (query_2 c) (trace_2 c)) a.list.now s.requires.3 (omega (arith, past, l)) a.n s.requires.0
    (λ h. omega (arith, same, s.requires.2, c.distance_within.ensures.size (omega (arith, h, l, s.requires.2))))
