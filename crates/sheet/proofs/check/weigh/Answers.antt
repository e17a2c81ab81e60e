-- `sheet::check::weigh` meets its contract: the total so far is that of the columns passed. The measure is how many of them are left.
use mathlib.Core.Path.{◌≡◌, ap₂, ◌∙◌}
use mathlib.Core.List.{List}
use Prim.Native.Nat.{ℕ, ◌+◌, ◌*◌}
use native.Mathlib.Omega.{arith}
use lib.Seq.{take_all}
use Rattle.integer.specs.Words.{total}
use Rattle.dstree.specs.Sheet.{weighted}
use Rattle.sheet.specs.Columns.{columns}
use Rattle.sheet.proofs.Columns.{weighted_more, total_more}
use Rattle.sheet.proofs.check.weigh.Goals as goal

pub loop-j-init : goal.loop-j-init
unfolding weighted total
loop-j-init c = (omega arith, omega arith, omega arith)

pub bounds-sums-j : goal.bounds-sums-j
bounds-sums-j c = omega (arith, c.loop-j-test.true, c.requires.sums_long)

pub bounds-later-j : goal.bounds-later-j
bounds-later-j c = omega (arith, c.loop-j-test.true, c.requires.later_long)

pub weight-total-requires : goal.weight-total-requires
weight-total-requires c =
    let p = c.requires in
    (c.loop-j-test.true, p.sums_small c.loop-j.j, p.later_small c.loop-j.j)

pub overflow_add-total : goal.overflow_add-total
overflow_add-total c = omega (arith, c.weight-total.ensures.1)

pub loop-j-preserved : goal.loop-j-preserved
loop-j-preserved c =
    let i = c.loop-j.j in
    let sums = weighted_more c.args.sums.now i (omega (arith, c.loop-j-test.true, c.requires.sums_long)) in
    let later = total_more c.args.later.now i (omega (arith, c.loop-j-test.true, c.requires.later_long)) in (
      omega (arith, c.loop-j-test.true),
      omega (arith, c.loop-j.invariant.1, c.weight-total.ensures.0, sums, later),
      omega (arith, c.loop-j.invariant.2, c.weight-total.ensures.1),
    )

pub returns : goal.returns
returns c =
    let e : c.loop-j.j ≡ columns = omega (arith, c.loop-j-test.false, c.loop-j.invariant.0) in
    let sums = take_all c.loop-j.j c.args.sums.now (omega (arith, e, c.requires.sums_long)) in
    let later = take_all c.loop-j.j c.args.later.now (omega (arith, e, c.requires.later_long)) in
    c.loop-j.invariant.1 ∙ ap₂ (λ (xs ys : List ℕ). weighted 0 xs + columns * total ys) sums later
