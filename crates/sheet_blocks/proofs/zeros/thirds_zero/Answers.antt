-- `sheet_blocks::zeros::thirds_zero` meets its contract. The loop's invariant: byte 3 is 0 in all blocks exactly if it is in those from
-- the cursor on.
use mathlib.Core.Path.{◌≡◌, sym, ap, ◌∙◌}
use mathlib.Core.List.{List}
use Prim.Native.Nat.{ℕ, suc, ◌+◌, ◌*◌}
use native.Mathlib.Omega.{arith}
use lib.ListN.{get_or}
use Rattle.dstree.specs.Sheet.{block_size, are_zero, thirds_in, blocks_in}
use Rattle.sheet_blocks.specs.Blocks.{later_blocks}
use Rattle.sheet_blocks.proofs.Places.{blocks, block_inside}
use Rattle.sheet_blocks.proofs.AllZero.{thirds_first, third_here, third_later, thirds_none}
use Rattle.sheet_blocks.proofs.zeros.thirds_zero.Goals as goal

-- byte 3 of the block that starts there
third_is : (bytes : List ℕ) (number : ℕ) {start : ℕ} → start ≡ number * block_size
    → get_or bytes (start + 3) 0 ≡ get_or bytes (number * block_size + 3) 0
third_is bytes number e = ap (λ (k : ℕ). get_or bytes (k + 3) 0) e

pub loop-cursor-init : goal.loop-cursor-init
loop-cursor-init c = (omega arith, rw c.first-cursor.ensures (thirds_first c.args.sheet.now))

pub start-third-requires : goal.start-third-requires
start-third-requires c = let w = blocks c.args.sheet.now c.requires in omega (arith, c.loop-cursor-test.true, w.few)

pub bounds-sheet-third : goal.bounds-sheet-third
bounds-sheet-third c =
    omega (arith, c.start-third.ensures, block_inside c.args.sheet.now c.requires c.loop-cursor.cursor.number c.loop-cursor-test.true)

pub returns-then-sheet-third-ne0 : goal.returns-then-sheet-third-ne0
returns-then-sheet-third-ne0 c =
    let bytes = c.args.sheet.now in
    let number = c.loop-cursor.cursor.number in
    let third = third_is bytes number c.start-third.ensures in
    sym (c.loop-cursor.invariant.1 ∙ third_here bytes number c.loop-cursor-test.true (λ e. c.if-sheet-third-ne0.true (third ∙ e)))

pub next-cursor-requires : goal.next-cursor-requires
next-cursor-requires c = let w = blocks c.args.sheet.now c.requires in omega (arith, c.loop-cursor-test.true, w.few)

pub loop-cursor-smaller : goal.loop-cursor-smaller
loop-cursor-smaller c = let e = c.next-cursor.ensures.0 in omega arith

pub loop-cursor-preserved : goal.loop-cursor-preserved
loop-cursor-preserved c =
    let bytes = c.args.sheet.now in
    let number = c.loop-cursor.cursor.number in
    let third = third_is bytes number c.start-third.ensures in
    let e : c.next-cursor.result.number ≡ suc number = c.next-cursor.ensures.0 in
    let rest : are_zero (thirds_in (blocks_in bytes)) ≡ are_zero (thirds_in (later_blocks bytes (suc number))) =
    c.loop-cursor.invariant.1 ∙ third_later bytes number c.loop-cursor-test.true (sym third ∙ c.if-sheet-third-ne0.false) in
    (omega arith, rw e rest)

pub returns : goal.returns
returns c = sym (c.loop-cursor.invariant.1 ∙ thirds_none c.args.sheet.now c.loop-cursor.cursor.number c.loop-cursor-test.false)
