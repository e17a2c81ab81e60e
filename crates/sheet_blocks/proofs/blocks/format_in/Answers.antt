-- `sheet_blocks::blocks::format_in` meets its contract.
use mathlib.Core.Path.{sym, ◌∙◌}
use native.Mathlib.Omega.{arith}
use borrow.Author.Tests.{eq-eqb, ne_eqb}
use Rattle.dstree.specs.SheetWidths.{is_wide}
use Rattle.sheet_blocks.proofs.Places.{first_inside}
use Rattle.sheet_blocks.proofs.blocks.format_in.Goals as goal

pub bounds-sheet-2 : goal.bounds-sheet-2
bounds-sheet-2 c = omega (arith, first_inside c.args.sheet.now c.requires)

pub returns-then-sheet-from : goal.returns-then-sheet-from
unfolding is_wide
returns-then-sheet-from c = sym (eq-eqb _ _ (c.if-sheet-from.true ∙ c.from.ensures))

pub returns-else-sheet-from : goal.returns-else-sheet-from
unfolding is_wide
returns-else-sheet-from c = sym (ne_eqb _ _ (λ e. c.if-sheet-from.false (e ∙ sym c.from.ensures)))
