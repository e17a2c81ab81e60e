-- `batch_leaves::read_for_all` meets its contract: the first records are read, the others are as they were (`Bests`).
use mathlib.Core.Path.{◌≡◌, refl, subst, ◌∙◌}
use mathlib.Core.List.{map}
use native.Mathlib.Omega.{arith}
use lib.ListN.{length}
use Rattle.dstree.specs.Measures.{Trace}
use Rattle.tables.specs.Walk.{numbers_of}
use Rattle.tables.proofs.Parts.{words_length}
use Rattle.reading.specs.Nearest.{near_of}
use Rattle.batch_leaves.specs.LeavesRead.{OneRead}
use Rattle.batch_leaves.proofs.Bests.{reading_start, reading_next}
use Rattle.batch_leaves.proofs.Runs.{query_room}
use Rattle.batch_leaves.proofs.read_for_all.Invariants.{more}
use Rattle.batch_leaves.proofs.read_for_all.Goals as goal

pub loop-i-init : goal.loop-i-init
loop-i-init c =
    let a = c.args in
    let all = more a.samples.now a.links.now a.n a.count a.head a.queries.now in
    (refl, reading_start a.leaves all a.bests.now)

-- a turn
pub trace_at-query-requires : goal.trace_at-query-requires
trace_at-query-requires c = query_room c.loop-i.i c.args.many c.args.n c.args.queries.now c.loop-i-test.true c.requires.stored.1

pub read_for-requires : goal.read_for-requires
read_for-requires c =
    let a = c.args in
    let i = c.loop-i.i in
    let room = query_room i a.many a.n a.queries.now c.loop-i-test.true c.requires.stored.1 in
    let long : length c.trace_at-query.result.now ≡ a.n = words_length a.queries.now c.trace_at-query.result.now a.n i c.trace_at-query.ensures room in (
      c.requires.stored.0,
      long,
      omega (arith, c.loop-i-test.true, c.requires.stored.2),
      omega (arith, c.loop-i-test.true, c.requires.stored.3, c.loop-i.invariant.0),
    )

pub loop-i-preserved : goal.loop-i-preserved
loop-i-preserved c =
    let a = c.args in
    let L = c.loop-i in
    let all = more a.samples.now a.links.now a.n a.count a.head a.queries.now in
    let bests = c.read_for.new.bests in
    let one : OneRead a.leaves L.i (all L.i) L.bests bests =
    subst (λ (query : Trace). OneRead a.leaves L.i
    (map (near_of a.samples.now a.n query) (numbers_of a.links.now a.count a.head)) L.bests bests)
    c.trace_at-query.ensures c.read_for.ensures in (
      c.read_for.auto.bests ∙ L.invariant.0,
      reading_next a.leaves L.i all a.bests.now L.bests bests L.invariant.1 one,
    )

-- the mark
pub bounds-marks-j : goal.bounds-marks-j
bounds-marks-j c = omega (arith, c.requires.mark.0)

pub overflow_add-marks : goal.overflow_add-marks
overflow_add-marks c = omega (arith, c.requires.mark.1)

pub bounds-marks-j-2 : goal.bounds-marks-j-2
bounds-marks-j-2 c = omega (arith, c.requires.mark.0)

pub overflow_add-result : goal.overflow_add-result
overflow_add-result c = omega (arith, c.requires.stored.4)

pub shape_of-bests : goal.shape_of-bests
shape_of-bests c = c.loop-i.invariant.0

pub returns : goal.returns
returns c =
    let L = c.loop-i in
    record { all_read = λ i h. L.invariant.1.done i (omega (arith, h, c.loop-i-test.false)); marked = refl; more = refl }
