-- `batch_search::marked::write_trail` meets its contract: what is written and the marked nodes still to come are all marked nodes
-- (`Written`).
use mathlib.Core.Path.{refl}
use native.Mathlib.Omega.{arith}
use Rattle.integer.proofs.Written.{writing_start, writing_end, note_room, writing_next}
use Rattle.batch_leaves.specs.LeavesRead.{is_marked}
use Rattle.batch_search.proofs.marked.write_trail.Goals as goal

pub loop-j-init : goal.loop-j-init
loop-j-init c = let a = c.args in writing_start (is_marked a.marks.now) a.count a.trail.now

pub note-out-requires : goal.note-out-requires
note-out-requires c =
    let L = c.loop-j in (
      omega (arith, c.loop-j-test.true, c.requires.1),
      omega (arith, c.loop-j-test.true, c.requires.0),
      λ e. (
        note_room (is_marked c.args.marks.now) c.args.count c.args.trail.now L.trail L.out L.j L.invariant c.loop-j-test.true
            c.requires.2 e,
        omega (arith, L.invariant.few, c.loop-j-test.true, c.requires.0),
      ),
    )

pub loop-j-preserved : goal.loop-j-preserved
loop-j-preserved c =
    let r = c.note-out in
    let a = c.args in
    let L = c.loop-j in
    writing_next (is_marked a.marks.now) a.count a.trail.now L.trail L.out L.j L.invariant c.loop-j-test.true c.requires.2
    (is_marked a.marks.now L.j) refl r.result r.new.trail r.ensures

pub returns : goal.returns
returns c =
    let a = c.args in
    let L = c.loop-j in
    (writing_end (is_marked a.marks.now) a.count a.trail.now L.trail L.out L.j L.invariant (omega (arith, c.loop-j-test.false))).1
