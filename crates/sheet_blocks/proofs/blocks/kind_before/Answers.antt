-- `sheet_blocks::blocks::kind_before` meets its contract: byte 2 of the block before.
use mathlib.Core.Path.{◌≡◌, refl, sym, ap, ◌∙◌}
use mathlib.Core.List.{List}
use Prim.Native.Nat.{ℕ, zero, suc, ◌+◌, ◌*◌, ◌-◌}
use native.Mathlib.Omega.{arith}
use lib.ListN.{get_or}
use Rattle.dstree.specs.Sheet.{block_size}
use Rattle.sheet_blocks.specs.Blocks.{kind_before}
use Rattle.sheet_blocks.proofs.Places.{kind_at, blocks, block_inside}
use Rattle.sheet_blocks.proofs.blocks.kind_before.Goals as goal

kind_is : (bytes : List ℕ) (number : ℕ) → (number ≡ 0 → ⊥) → get_or bytes ((number - 1) * block_size + 2) 0 ≡ kind_before bytes number
unfolding kind_before
kind_is bytes zero f = absurd (f refl)
kind_is bytes (suc number) f =
    let e : suc number - 1 ≡ number = omega arith in
    ap (λ (k : ℕ). get_or bytes (k * block_size + 2) 0) e ∙ sym (kind_at bytes number)

pub returns-then-number-eq0 : goal.returns-then-number-eq0
unfolding kind_before
returns-then-number-eq0 c = rw c.if-number-eq0.true refl

pub overflow_mul-result : goal.overflow_mul-result
overflow_mul-result c = omega (arith, c.requires.1, (blocks c.args.sheet.now c.requires.0).few)

pub overflow_add-result : goal.overflow_add-result
overflow_add-result c = omega (arith, c.requires.1, (blocks c.args.sheet.now c.requires.0).few)

pub bounds-sheet-number : goal.bounds-sheet-number
bounds-sheet-number c =
    omega (arith, block_inside c.args.sheet.now c.requires.0 (c.args.number - 1) (omega (arith, c.if-number-eq0.false, c.requires.1)))

pub returns : goal.returns
returns c = kind_is c.args.sheet.now c.args.number c.if-number-eq0.false
