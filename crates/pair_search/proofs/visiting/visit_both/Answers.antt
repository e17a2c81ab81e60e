-- `pair_search::visiting::visit_both` meets its contract: a turn keeps the invariant of both libraries (`BothTurns`).
use mathlib.Core.Path.{◌≡◌, refl, ap, ◌∙◌, subst}
use Prim.Native.Nat.{ℕ, ◌<◌}
use native.Mathlib.Omega.{arith}
use mathlib.Core.List.{List}
use lib.ListN.{length}
use Rattle.segment.specs.Stored.{samples_of}
use Rattle.dstree.specs.Measures.{Trace}
use Rattle.tables.specs.Tables.{Tables, node_count}
use Rattle.tables.specs.View.{shape_in}
use Rattle.leaf_order.specs.Waits.{Walkable}
use Rattle.search.specs.Lent.{stored_tables}
use Rattle.search.proofs.Facts.{walkable}
use Rattle.pair_search.specs.Stepping.{slices, Stepping}
use Rattle.pair_search.specs.Visiting.{Started, MayVisit}
use Rattle.pair_search.proofs.Taken.{ready_with}
use Rattle.pair_search.proofs.SideTurns.{may_step}
use Rattle.pair_search.proofs.BothTurns.{SameSize, both_start, both_end, both_on}
use Rattle.pair_search.proofs.visiting.visit_both.Goals as goal

-- one of the two libraries: with a node it may be gone through, and its first leaf leaves it one that may be searched
module _ {t : Tables} {query : Trace} {work trail list : List ℕ} (may : MayVisit t query work trail list) {m : ℕ} (e : m ≡ length work) where
  walks : 0 < m → Walkable t.nodes m query
  walks h =
      let long : m ≡ node_count t = e ∙ may.work_long in
      rw long (walkable t query (length trail) (ready_with t query (length trail) may.ready (omega (arith, h, long))))

module _ {t : Tables} {query : Trace} {work trail list : List ℕ} (may : MayVisit t query work trail list) where
  may_after : {work' : List ℕ} → length work' ≡ length work → MayVisit t query work' trail list
  may_after e = record { ready = may.ready; work_long = e ∙ may.work_long; list_long = may.list_long }

-- ---- before the loop

pub start-factory-requires : goal.start-factory-requires
start-factory-requires c =
    (walks c.requires.0 (ap length c.new-heap.ensures.stays), c.new-heap.ensures.none)

pub start-bench-requires : goal.start-bench-requires
start-bench-requires c =
    (walks c.requires.1 (ap length c.new-bench_heap.ensures.stays), c.new-bench_heap.ensures.none)

pub loop-next-init : goal.loop-next-init
loop-next-init c =
    let a = c.args in
    let ours = stored_tables a.stored in
    let theirs = stored_tables a.bench_stored in
    let query = samples_of a.query.now.trace.now in
    let f = c.start-factory in
    let b = c.start-bench in
    let x₀ = slices f.new.heap a.trail.now a.list.now in
    let y₀ = slices b.new.heap a.bench_trail.now a.bench_list.now in
    let may = may_after c.requires.0 (f.ensures.room.long ∙ ap length c.new-heap.ensures.stays) in
    let bench_may = may_after c.requires.1 (b.ensures.room.long ∙ ap length c.new-bench_heap.ensures.stays) in
    let long = ap length c.new-heap.ensures.stays ∙ c.requires.0.work_long in
    let bench_long = ap length c.new-bench_heap.ensures.stays ∙ c.requires.1.work_long in (
      both_start ours theirs query x₀ y₀ may bench_may may.work_long bench_may.work_long (refl, refl) (refl, refl)
          (subst (λ (m : ℕ). Started (shape_in ours.nodes m) query f.result f.new.heap) long f.ensures.started)
          (subst (λ (m : ℕ). Started (shape_in theirs.nodes m) query b.result b.new.heap) bench_long b.ensures.started),
      record { same = refl; long = refl },
      record { same = refl; long = refl },
    )

-- ---- a turn

pub step_both-requires : goal.step_both-requires
step_both-requires c =
    let a = c.args in
    let ours = stored_tables a.stored in
    let theirs = stored_tables a.bench_stored in
    let query = samples_of a.query.now.trace.now in
    let f = c.start-factory in
    let b = c.start-bench in
    let x₀ = slices f.new.heap a.trail.now a.list.now in
    let y₀ = slices b.new.heap a.bench_trail.now a.bench_list.now in
    let may = may_after c.requires.0 (f.ensures.room.long ∙ ap length c.new-heap.ensures.stays) in
    let bench_may = may_after c.requires.1 (b.ensures.room.long ∙ ap length c.new-bench_heap.ensures.stays) in
    let s = c.loop-next.invariant.0 in
    (may_step ours query x₀ may s.factory, may_step theirs query y₀ bench_may s.bench)

-- ---- the end

pub returns : goal.returns
unfolding Stepping
returns c =
    let a = c.args in
    let ours = stored_tables a.stored in
    let theirs = stored_tables a.bench_stored in
    let query = samples_of a.query.now.trace.now in
    let f = c.start-factory in
    let b = c.start-bench in
    let x₀ = slices f.new.heap a.trail.now a.list.now in
    let y₀ = slices b.new.heap a.bench_trail.now a.bench_list.now in
    let may = may_after c.requires.0 (f.ensures.room.long ∙ ap length c.new-heap.ensures.stays) in
    let bench_may = may_after c.requires.1 (b.ensures.room.long ∙ ap length c.new-bench_heap.ensures.stays) in
    both_end ours theirs query x₀ y₀ may bench_may c.loop-next.invariant.0 c.in_default.ensures.stepping

-- ---- the next turn

pub loop-next-smaller : goal.loop-next-smaller
unfolding Stepping
loop-next-smaller c =
    let a = c.args in
    let ours = stored_tables a.stored in
    let theirs = stored_tables a.bench_stored in
    let query = samples_of a.query.now.trace.now in
    let f = c.start-factory in
    let b = c.start-bench in
    let x₀ = slices f.new.heap a.trail.now a.list.now in
    let y₀ = slices b.new.heap a.bench_trail.now a.bench_list.now in
    let may = may_after c.requires.0 (f.ensures.room.long ∙ ap length c.new-heap.ensures.stays) in
    let bench_may = may_after c.requires.1 (b.ensures.room.long ∙ ap length c.new-bench_heap.ensures.stays) in
    let L = c.loop-next in
    let s = c.step_both in
    let same : SameSize (slices L.heap L.trail L.list) (slices s.new.heap s.new.trail s.new.list) =
    record { work = c.in-Some.ensures.room.long; trail = s.auto.trail; list = s.auto.list } in
    let bench_same : SameSize (slices L.bench_heap L.bench_trail L.bench_list) (slices s.new.bench_heap s.new.bench_trail s.new.bench_list) =
    record { work = c.in-Some.ensures.bench_room.long; trail = s.auto.bench_trail; list = s.auto.bench_list } in
    let on = both_on ours theirs query x₀ y₀ may bench_may L.invariant.0 same bench_same c.in-Some.ensures.stepping in
    on.1

pub loop-next-preserved : goal.loop-next-preserved
unfolding Stepping
loop-next-preserved c =
    let a = c.args in
    let ours = stored_tables a.stored in
    let theirs = stored_tables a.bench_stored in
    let query = samples_of a.query.now.trace.now in
    let f = c.start-factory in
    let b = c.start-bench in
    let x₀ = slices f.new.heap a.trail.now a.list.now in
    let y₀ = slices b.new.heap a.bench_trail.now a.bench_list.now in
    let may = may_after c.requires.0 (f.ensures.room.long ∙ ap length c.new-heap.ensures.stays) in
    let bench_may = may_after c.requires.1 (b.ensures.room.long ∙ ap length c.new-bench_heap.ensures.stays) in
    let L = c.loop-next in
    let s = c.step_both in
    let same : SameSize (slices L.heap L.trail L.list) (slices s.new.heap s.new.trail s.new.list) =
    record { work = c.in-Some.ensures.room.long; trail = s.auto.trail; list = s.auto.list } in
    let bench_same : SameSize (slices L.bench_heap L.bench_trail L.bench_list) (slices s.new.bench_heap s.new.bench_trail s.new.bench_list) =
    record { work = c.in-Some.ensures.bench_room.long; trail = s.auto.bench_trail; list = s.auto.bench_list } in
    let on = both_on ours theirs query x₀ y₀ may bench_may L.invariant.0 same bench_same c.in-Some.ensures.stepping in
    let i = L.invariant in
    let r = c.in-Some.ensures in (
      on.0,
      record { same = r.room.same ∙ i.1.same; long = r.room.long ∙ i.1.long },
      record { same = r.bench_room.same ∙ i.2.same; long = r.bench_room.long ∙ i.2.long },
    )
