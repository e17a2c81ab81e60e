-- `sheet_blocks::blocks::label_start` meets its contract. The loop's invariant: block 0 and the blocks before `number` come before the
-- labels.
use mathlib.Core.Path.{◌≡◌, sym, ap, ◌∙◌}
use Prim.Native.Nat.{suc}
use native.Mathlib.Numerals.{add-one}
use native.Mathlib.Omega.{arith}
use borrow.Author.Tests.{eq-eqb, ne_eqb}
use Rattle.dstree.specs.Sheet.{label_kind, kind_in, before_labels}
use Rattle.sheet_blocks.specs.Blocks.{block_count, block_at, later_blocks}
use Rattle.sheet_blocks.proofs.Places.{blocks, block_inside, next_block, no_block, kind_at, labels_here, labels_later, labels_none}
use Rattle.sheet_blocks.proofs.blocks.label_start.Goals as goal

pub loop-number-init : goal.loop-number-init
loop-number-init c = omega arith

pub bounds-sheet-number : goal.bounds-sheet-number
bounds-sheet-number c = omega (arith, block_inside c.args.sheet.now c.requires c.loop-number.number c.loop-number-test.true)

pub returns-then-sheet-number : goal.returns-then-sheet-number
returns-then-sheet-number c =
    let bytes = c.args.sheet.now in
    let number = c.loop-number.number in
    let first : kind_in (block_at bytes number) ≡ label_kind = kind_at bytes number ∙ c.if-sheet-number.true ∙ c.from-labels.ensures in
    let none : before_labels (later_blocks bytes number) ≡ 0 =
    ap before_labels (next_block bytes (block_count bytes) number c.loop-number-test.true)
    ∙ labels_here (block_at bytes number) (later_blocks bytes (suc number)) (eq-eqb _ _ first) in
    omega (arith, c.loop-number.invariant, none)

pub loop-number-preserved : goal.loop-number-preserved
loop-number-preserved c =
    let bytes = c.args.sheet.now in
    let number = c.loop-number.number in
    let other : kind_in (block_at bytes number) ≡ label_kind → ⊥ =
    λ e. c.if-sheet-number.false (sym (kind_at bytes number) ∙ e ∙ sym c.from-labels.ensures) in
    let more : before_labels (later_blocks bytes number) ≡ suc (before_labels (later_blocks bytes (suc number))) =
    ap before_labels (next_block bytes (block_count bytes) number c.loop-number-test.true)
    ∙ labels_later (block_at bytes number) (later_blocks bytes (suc number)) (ne_eqb _ _ other) in
    rw (add-one number) (omega (arith, c.loop-number.invariant, more))

pub returns : goal.returns
returns c =
    let bytes = c.args.sheet.now in
    let none : before_labels (later_blocks bytes c.loop-number.number) ≡ 0 =
    ap before_labels (no_block bytes (block_count bytes) c.loop-number.number c.loop-number-test.false) ∙ labels_none in
    omega (arith, c.loop-number.invariant, none, (blocks bytes c.requires).some_block)
