-- `sheet_line::answering::match_query` meets its contract: what is read is the sheet's last trace, and what the search finds is its match
-- in the tree that adding makes of the earlier ones.
use mathlib.Core.Path.{◌≡◌, ap, ◌∙◌}
use mathlib.Core.Option.{none}
use mathlib.Core.List.{List, []}
use Prim.Native.Nat.{ℕ, ◌+◌, ◌*◌, ◌-◌, ◌≤◌, ◌<◌}
use native.Mathlib.Omega.{arith}
use lib.ListN.{length, get_or, take}
use lib.Seq.{length-take-le}
use lib.Dec.{T}
use Rattle.segment.specs.Stored.{samples_of}
use Rattle.dstree.specs.Measures.{Trace, sample_limit, is_library, records_needed, work_needed}
use Rattle.dstree.specs.Refusals.{first_of}
use Rattle.dstree.specs.Sheet.{are_bytes}
use Rattle.dstree.specs.SheetWidths.{sheet_conditions}
use Rattle.dstree.specs.Program.{line_of}
use Rattle.tables.specs.Tables.{Tables, tables}
use Rattle.sheet_blocks.specs.Traces.{count_of, sheet_traces}
use Rattle.sheet_judging.proofs.Samples.{fine as good}
use Rattle.sheet_reading.proofs.Ends.{said}
use Rattle.dstree.proofs.SheetFields.{known_bytes}
use Rattle.sheet_reading.proofs.Library.{traces_count, first_library, trace_size}
use Rattle.sheet_line.specs.Conditions.{program_conditions}
use Rattle.sheet_line.specs.Stored.{most}
use Rattle.sheet_line.proofs.Judged.{sound, capacity_small, two_traces}
use Rattle.sheet_line.proofs.Matched.{ready, found_line}
use Rattle.sheet_line.proofs.answering.match_query.Goals as goal

-- a sheet that is not refused, and the number of its last trace
module _ (bytes : List ℕ) (last : ℕ) (fine : first_of (program_conditions bytes) ≡ none) (before : last + 1 ≡ count_of bytes) where
  abbrev earlier : List Trace
  earlier = take last (sheet_traces bytes)

  abbrev last_trace : Trace
  last_trace = get_or (sheet_traces bytes) last []

  sheet_fine : first_of (sheet_conditions bytes) ≡ none
  sheet_fine = sound bytes fine

  inside : last < count_of bytes
  inside = omega (arith, before)

  earlier_count : length earlier ≡ last
  earlier_count = length-take-le last (sheet_traces bytes) (omega (arith, inside, traces_count bytes))

  one : 0 < length earlier
  one = omega (arith, earlier_count, before, two_traces bytes fine)

  few : 2 * length earlier - 1 ≤ records_needed most
  unfolding records_needed
  few = omega (arith, earlier_count, inside, (good bytes sheet_fine).good.counted, capacity_small bytes fine)

  module _ (known : T (are_bytes bytes)) where
    library : T (is_library sample_limit (said bytes) earlier)
    library = first_library bytes sheet_fine known last

    last_size : length last_trace ≡ (said bytes).n
    last_size = trace_size bytes sheet_fine known last inside

    -- once the last trace is read
    query_size : (query : Trace) → query ≡ last_trace → length query ≡ (said bytes).n
    query_size query e = ap length e ∙ last_size

pub read_trace-requires : goal.read_trace-requires
read_trace-requires c =
    let r = c.requires.0 in
    (sheet_fine c.args.sheet.now c.args.last r.fine r.before_last, inside c.args.sheet.now c.args.last r.fine r.before_last, r.size)

pub search_all-seen-requires : goal.search_all-seen-requires
search_all-seen-requires c =
    let a = c.args in
    let b : List ℕ = a.sheet.now in
    let p = c.requires in
    let r = p.0 in
    let known = known_bytes b (λ i. (c.type_inv.sheet i).fits) in
    let lent : Tables = tables a.stored.control.now a.stored.samples.now a.stored.nodes.now a.stored.links.now [] in
    let ready_for =
    ready lent (said b) (earlier b a.last r.fine r.before_last) (samples_of c.read_trace.new.trace) r.earlier
    (library b a.last r.fine r.before_last known) (one b a.last r.fine r.before_last)
    (query_size b a.last r.fine r.before_last known _ c.read_trace.ensures) in
    let work_wide = ap work_needed r.earlier.measures_are in (
      ready_for (length a.trail.now) (omega (arith, few b a.last r.fine r.before_last, p.1)),
      omega (arith, work_wide, r.work_long),
    )

pub returns : goal.returns
returns c =
    let a = c.args in
    let b : List ℕ = a.sheet.now in
    let r = c.requires.0 in
    let known = known_bytes b (λ i. (c.type_inv.sheet i).fits) in
    let lent : Tables = tables a.stored.control.now a.stored.samples.now a.stored.nodes.now a.stored.links.now [] in
    let s = c.search_all-seen in
    let found = s.result in
    found_line lent (said b) (earlier b a.last r.fine r.before_last) (samples_of c.read_trace.new.trace) r.earlier
    (library b a.last r.fine r.before_last known) (one b a.last r.fine r.before_last)
    (query_size b a.last r.fine r.before_last known _ c.read_trace.ensures)
    found.trace found.distance found.out found.traces s.new.trail s.ensures.found
    ∙ ap (line_of (said b) (earlier b a.last r.fine r.before_last)) c.read_trace.ensures
