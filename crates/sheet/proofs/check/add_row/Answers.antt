-- `sheet::check::add_row` meets its contract: after j turns the first j columns have their bytes, and their sums as they were.
use mathlib.Core.Path.{◌≡◌, sym, ap, ap₂, ◌∙◌}
use mathlib.Core.List.{List}
use Prim.Native.Nat.{ℕ, ◌+◌}
use native.Mathlib.Numerals.{add-one}
use native.Mathlib.Omega.{arith}
use lib.ListN.{length, take, set, length-set}
use lib.Seq.{take_all}
use Rattle.sheet.specs.Columns.{added_up}
use Rattle.sheet.proofs.Columns.{added_none, added_more, column_sum, column_later}
use Rattle.sheet.proofs.check.add_row.Goals as goal

pub loop-j-init : goal.loop-j-init
loop-j-init c =
    let p = c.requires.0 in
    (sym (added_none c.args.sums.now), sym (added_none c.args.later.now), p.sums_long, p.later_long)

pub overflow_add-later : goal.overflow_add-later
overflow_add-later c =
    let p = c.requires.0 in
    let t = c.loop-j in
    omega (arith, column_sum p c.args.row.now t.j t.invariant.0, column_later p c.args.sums.now t.j t.invariant.1)

pub overflow_add-sums : goal.overflow_add-sums
overflow_add-sums c =
    let t = c.loop-j in
    omega (arith, column_sum c.requires.0 c.args.row.now t.j t.invariant.0)

pub loop-j-preserved : goal.loop-j-preserved
loop-j-preserved c =
    let p = c.requires.0 in
    let t = c.loop-j in
    let a = c.args in
    let sum = (column_sum p a.row.now t.j t.invariant.0).0 in
    let later = (column_later p a.sums.now t.j t.invariant.1).0 in (
      rw (add-one t.j) (ap₂ (λ (xs : List ℕ) (x : ℕ). set xs t.j x) t.invariant.0 (ap₂ ◌+◌ sum c.from.ensures)
          ∙ added_more a.sums.now a.row.now t.j (omega (arith, p.sums_long, c.requires.1)) (omega arith)),
      rw (add-one t.j) (ap₂ (λ (xs : List ℕ) (x : ℕ). set xs t.j x) t.invariant.1 (ap₂ ◌+◌ later sum)
          ∙ added_more a.later.now a.sums.now t.j (omega (arith, p.later_long, c.requires.1)) (omega (arith, p.sums_long, c.requires.1))),
      simp length-set t.invariant.2,
      simp length-set t.invariant.3,
    )

pub shape_of-sums : goal.shape_of-sums
shape_of-sums c = c.loop-j.invariant.2 ∙ sym c.requires.0.sums_long

pub shape_of-later : goal.shape_of-later
shape_of-later c = c.loop-j.invariant.3 ∙ sym c.requires.0.later_long

pub returns : goal.returns
returns c =
    let a = c.args in
    let t = c.loop-j in
    let e : t.j ≡ length a.row.now = omega arith in
    (t.invariant.0 ∙ ap (added_up a.sums.now) (take_all t.j a.row.now (omega arith)), t.invariant.1 ∙ ap (λ (k : ℕ). added_up a.later.now (take k a.sums.now)) e)
