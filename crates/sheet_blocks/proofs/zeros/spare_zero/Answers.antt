-- `sheet_blocks::zeros::spare_zero` meets its contract. The loop's invariant: the bytes behind cells are 0 in all these blocks exactly if
-- they are in those from `number` on.
use mathlib.Core.Path.{◌≡◌, refl, sym, ap, ◌∙◌}
use mathlib.Core.Bool.{Bool}
use mathlib.Core.List.{List}
use Prim.Native.Nat.{ℕ, ◌+◌, ◌*◌, ◌-◌, ◌≤◌}
use native.Mathlib.Numerals.{add-one}
use native.Mathlib.Omega.{arith}
use Rattle.dstree.specs.Sheet.{block_size, carried_size, part, are_zero}
use Rattle.sheet_blocks.proofs.Places.{block_inside}
use Rattle.sheet_blocks.proofs.AllZero.{spare_next, spare_none}
use Rattle.sheet_blocks.proofs.zeros.spare_zero.Goals as goal

-- what the look at a block's bytes showed
shown : (bytes : List ℕ) (place size : ℕ) {r : Bool} → size ≤ carried_size → r ≡ are_zero (part (place + size) (place + carried_size - (place + size)) bytes)
    → r ≡ are_zero (part (place + size) (carried_size - size) bytes)
shown bytes place size h e =
    let k : place + carried_size - (place + size) ≡ carried_size - size = omega (arith, h) in
    e ∙ ap (λ (n : ℕ). are_zero (part (place + size) n bytes)) k

pub zeros-requires : goal.zeros-requires
zeros-requires c =
    (omega arith, omega (arith, block_inside c.args.sheet.now c.requires.0 c.loop-number.number (omega (arith, c.requires.1, c.loop-number-test.true))))

pub returns-then-not-zeros : goal.returns-then-not-zeros
returns-then-not-zeros c =
    let a = c.args in
    let number = c.loop-number.number in
    let seen = shown a.sheet.now (number * block_size + 4) a.size c.requires.2 c.zeros.ensures in
    sym (c.loop-number.invariant ∙ spare_next a.size c.requires.2 a.sheet.now a.to number c.loop-number-test.true
    ∙ rw (sym seen ∙ c.if-not-zeros.true) refl)

pub loop-number-preserved : goal.loop-number-preserved
loop-number-preserved c =
    let a = c.args in
    let number = c.loop-number.number in
    let seen = shown a.sheet.now (number * block_size + 4) a.size c.requires.2 c.zeros.ensures in
    rw (add-one number) (c.loop-number.invariant ∙ spare_next a.size c.requires.2 a.sheet.now a.to number c.loop-number-test.true
    ∙ rw (sym seen ∙ c.if-not-zeros.false) refl)

pub returns : goal.returns
returns c =
    sym (c.loop-number.invariant ∙ spare_none c.args.size c.requires.2 c.args.sheet.now c.args.to c.loop-number.number c.loop-number-test.false)
