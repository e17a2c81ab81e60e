-- `sheet::check::check_of` meets its contract: the columns are those of the rows from `row` on. The measure is how many are left.
use mathlib.Core.Path.{◌≡◌, sym, ap, subst, subst₂, ◌∙◌}
use mathlib.Core.List.{List}
use Prim.Native.Nat.{ℕ, ◌+◌, ◌*◌, ◌-◌, ◌%◌}
use native.Mathlib.Omega.{arith}
use lib.ListN.{length, take, drop}
use Rattle.dstree.specs.Sheet.{part, check_modulus, check_of}
use Rattle.dstree.proofs.SheetPieces.{part_length}
use Rattle.sheet.specs.Columns.{columns, added_up, EachAtMost}
use Rattle.sheet.proofs.Columns.{RowsTaken, rows_first, rows_more, no_columns}
use Rattle.sheet.proofs.check.check_of.Goals as goal

-- the row before those taken, as the code cuts it out
row_is : (block : List ℕ) (k : ℕ) → take (columns * k + columns - columns * k) (drop (columns * k) block) ≡ part (columns * k) columns block
row_is block k =
    let e : columns * k + columns - columns * k ≡ columns = omega arith in
    ap (λ (i : ℕ). take i (drop (columns * k) block)) e

pub add_row-requires : goal.add_row-requires
add_row-requires c = (no_columns, omega (arith, part_length 448 62 c.args.block.now c.requires))

pub loop-row-init : goal.loop-row-init
loop-row-init c =
    let b = c.args.block.now in
    let bytes : EachAtMost 255 b = λ i. omega (arith, (c.type_inv.block i).fits) in
    (omega arith, subst₂ (RowsTaken b 7) (sym c.add_row.ensures.0) (sym c.add_row.ensures.1) (rows_first b bytes c.requires))

pub loop-row-preserved : goal.loop-row-preserved
loop-row-preserved c =
    let b = c.args.block.now in
    let t = c.loop-row in
    let k = t.row - 1 in
    let bytes : EachAtMost 255 b = λ i. omega (arith, (c.type_inv.block i).fits) in
    let before = rows_more b bytes c.requires k t.row (omega (arith, c.loop-row-test.true)) t.invariant.0 _ _ t.invariant.1 in
    let sums = c.add_row-in-loop-row.ensures.0 ∙ ap (added_up t.sums) (row_is b k) in
    let later = c.add_row-in-loop-row.ensures.1 ∙ ap (λ (x : List ℕ). added_up t.later (take (length x) t.sums)) (row_is b k) in
    (omega (arith, t.invariant.0), subst₂ (RowsTaken b k) (sym sums) (sym later) before)

pub returns : goal.returns
unfolding check_of
returns c =
    let l = c.loop-row in
    let e : l.row ≡ 0 = omega (arith, c.loop-row-test.false) in
    let all = subst (λ (k : ℕ). RowsTaken c.args.block.now k l.sums l.later) e l.invariant.1 in
    ap (λ (t : ℕ). t % check_modulus) (c.weigh.ensures ∙ all.weigh)
