-- `batch_search::marked::note` meets its contract: a mark is read, and where there is one the number is written.
use mathlib.Core.Path.{refl}
use native.Mathlib.Omega.{arith}
use Rattle.batch_leaves.proofs.Marks.{marked_yes, marked_no}
use Rattle.batch_search.proofs.marked.note.Goals as goal

pub offset_bounds-trail-out : goal.offset_bounds-trail-out
offset_bounds-trail-out c = omega (arith, (c.requires.2 (marked_yes c.args.marks.now c.args.j c.if-marks-j-ne0.true)).1)

pub bounds-trail-out : goal.bounds-trail-out
bounds-trail-out c = omega (arith, (c.requires.2 (marked_yes c.args.marks.now c.args.j c.if-marks-j-ne0.true)).0)

pub overflow_add-result : goal.overflow_add-result
overflow_add-result c = omega (arith, (c.requires.2 (marked_yes c.args.marks.now c.args.j c.if-marks-j-ne0.true)).1)

pub returns-then-marks-j-ne0 : goal.returns-then-marks-j-ne0
returns-then-marks-j-ne0 c = rw (marked_yes c.args.marks.now c.args.j c.if-marks-j-ne0.true) (refl, refl)

pub returns : goal.returns
returns c =
    rw (marked_no c.args.marks.now c.args.j c.if-marks-j-ne0.false) (refl, refl)
