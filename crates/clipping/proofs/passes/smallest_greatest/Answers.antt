-- `clipping::passes::smallest_greatest` meets its contract: in each turn it is the smallest of the traces passed (`Smallest`).
use mathlib.Core.Path.{◌≡◌, sym, ap, ◌∙◌}
use Prim.Native.Nat.{ℕ, ◌*◌, ◌+◌, ◌≤◌, min}
use native.Mathlib.Omega.{arith}
use lib.ListN.{length}
use Rattle.segment.specs.Clipped.{greatest_from}
use Rattle.dstree.specs.Measures.{Trace}
use Rattle.tables.specs.View.{trace_in}
use Rattle.tables.proofs.Parts.{words_length}
use Rattle.clipping.proofs.Smallest.{trace_room, smallest_to, smallest_none, smallest_more, not_reached, smallest_all}
use Rattle.clipping.proofs.passes.smallest_greatest.Goals as goal

-- a turn
module _ (c : goal.In-loop-t) where
  abbrev s : goal.In-loop-t
  s = c

  room : c.loop-t.t * s.args.n + s.args.n ≤ length s.args.samples.now
  room = trace_room _ s.args.n s.args.count c.loop-t.t s.requires.0.room c.loop-t-test.true

-- a turn
module _ (c : goal.After-trace_at) where
  abbrev s_2 : goal.After-trace_at
  s_2 = c

  room_2 : c.loop-t.t * s_2.args.n + s_2.args.n ≤ length s_2.args.samples.now
  room_2 = trace_room _ s_2.args.n s_2.args.count c.loop-t.t s_2.requires.0.room c.loop-t-test.true

-- a turn
module _ (c : goal.After-greatest_within-smallest) where
  abbrev s_3 : goal.After-greatest_within-smallest
  s_3 = c

  room_3 : c.loop-t.t * s_3.args.n + s_3.args.n ≤ length s_3.args.samples.now
  room_3 = trace_room _ s_3.args.n s_3.args.count c.loop-t.t s_3.requires.0.room c.loop-t-test.true

pub loop-t-init : goal.loop-t-init
loop-t-init c =
    let a = c.args in
    sym (smallest_none a.samples.now a.n a.lows.now a.highs.now)

pub trace_at-requires : goal.trace_at-requires
trace_at-requires c = room c

pub greatest_within-smallest-requires : goal.greatest_within-smallest-requires
greatest_within-smallest-requires c =
    let a = (s_2 c).args in
    let f = (s_2 c).requires.0.figures in
    let long : length c.trace_at.result.now ≡ a.n =
    words_length a.samples.now c.trace_at.result.now a.n c.loop-t.t c.trace_at.ensures (room_2 c) in
    (f.low_size ∙ sym long, f.high_size ∙ sym long, omega (arith, long, f.narrow), f.lows_within, f.highs_within)

pub loop-t-preserved : goal.loop-t-preserved
loop-t-preserved c =
    let L = c.loop-t in
    let a = (s_3 c).args in
    let found = c.greatest_within-smallest.ensures
    ∙ ap (λ (x : Trace). min L.smallest (greatest_from a.lows.now a.highs.now x)) c.trace_at.ensures in
    found
    ∙ ap (λ (k : ℕ). min k (greatest_from a.lows.now a.highs.now (trace_in a.samples.now a.n L.t))) L.invariant
    ∙ sym (smallest_more a.samples.now a.n a.lows.now a.highs.now L.t)

pub returns : goal.returns
returns c =
    let L = c.loop-t in
    let a = c.args in
    let all : L.t ≡ a.count = omega arith in
    L.invariant ∙ ap (smallest_to a.samples.now a.n a.lows.now a.highs.now) all
    ∙ smallest_all a.samples.now a.n a.lows.now a.highs.now a.count c.requires.1
    (not_reached a.samples.now a.n a.lows.now a.highs.now c.requires.0.figures 0
    (trace_room _ a.n a.count 0 c.requires.0.room c.requires.1))
