-- `reading::leaf::read_leaf` meets its contract: what is listed so far and what the walk still meets give what the whole walk lists
-- (`Walked`), and so it is
-- with their number. The links rise, and the measure is how far the walk is from the count.
use mathlib.Core.Path.{ap}
use Prim.Native.Nat.{ℕ, ◌≤◌, ◌<◌}
use native.Mathlib.Omega.{arith}
use lib.ListN.{length}
use Rattle.segment.specs.Stored.{samples_of}
use Rattle.tables.specs.Walk.{behind_of}
use Rattle.tables.proofs.Listed.{met_from, met_start, behind_rises}
use Rattle.reading.proofs.Walked.{walk_start, walk_next, walk_end, length_more, length_end, trace_room}
use Rattle.reading.proofs.leaf.read_leaf.Goals as goal

-- a turn
module _ (c : goal.After-behind-t) where
  abbrev turn : goal.After-behind-t
  turn = c

  abbrev l : goal.After-behind-t
  l = turn

  abbrev s : goal.After-behind-t
  s = l

  inside : l.loop-t.t < s.args.count
  inside = omega (arith, turn.loop-t-test.true)

  rises :
      let b = behind_of s.args.links.now s.args.count l.loop-t.t in
      (l.loop-t.t < b) × (b ≤ s.args.count)
  rises = behind_rises s.args.links.now s.args.count s.requires.0.rising l.loop-t.t inside

pub loop-t-init : goal.loop-t-init
loop-t-init c =
    let a = c.args in
    let p = c.requires.0 in
    let e = met_start a.links.now a.count a.head p.inside in (
      omega (arith, p.inside),
      omega arith,
      walk_start a.samples.now a.n (samples_of a.query.now) a.links.now a.count a.k a.head a.listed a.list.now
          p.inside c.requires.2,
      omega (arith, ap length e),
    )

pub take_trace-m-requires : goal.take_trace-m-requires
take_trace-m-requires c =
    let room = trace_room c.requires.0 c.loop-t.t (omega (arith, c.loop-t-test.true)) in
    (c.requires.0.narrow, room, c.requires.1, c.loop-t.invariant.2.room)

pub overflow_add-traces : goal.overflow_add-traces
overflow_add-traces c = omega (arith, c.loop-t.invariant.0, c.loop-t.invariant.1, c.requires.0.few)

pub behind-t-requires : goal.behind-t-requires
behind-t-requires c =
    omega (arith, c.requires.0.links_room)

pub loop-t-smaller : goal.loop-t-smaller
loop-t-smaller c = omega (arith, c.behind-t.ensures, rises c, inside c)

pub loop-t-preserved : goal.loop-t-preserved
loop-t-preserved c =
    let a = (s c).args in
    let L = (l c).loop-t in (
      omega (arith, c.behind-t.ensures, rises c),
      omega (arith, c.behind-t.ensures, rises c, L.invariant.1),
      rw c.behind-t.ensures
          (walk_next a.samples.now a.n (samples_of a.query.now) a.links.now a.count a.k a.head a.listed a.list.now
          (s c).requires.0.rising L.invariant.2 (inside c) c.take_trace-m.ensures c.take_trace-m.auto.list),
      omega (
        arith,
        L.invariant.3,
        length_more a.links.now a.count (s c).requires.0.rising L.t (inside c),
        ap (λ (u : ℕ). length (met_from a.links.now a.count u)) c.behind-t.ensures,
      ),
    )

pub returns : goal.returns
returns c =
    let a = c.args in
    let L = c.loop-t in
    let done : a.count ≤ L.t = omega (arith, c.loop-t-test.false) in record {
      list = walk_end a.samples.now a.n (samples_of a.query.now) a.links.now a.count a.k a.head a.listed a.list.now
          L.invariant.2 done;
      traces = omega (arith, L.invariant.3, length_end a.links.now a.count L.t done);
      size = omega (arith, L.invariant.0, L.invariant.1);
    }
