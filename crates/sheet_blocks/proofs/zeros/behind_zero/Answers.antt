-- `sheet_blocks::zeros::behind_zero` meets its contract: what no cell can take, then what is left behind the last one.
use mathlib.Core.Path.{refl, sym, ◌∙◌}
use lib.ListN.{drop}
use Rattle.sheet_blocks.specs.Blocks.{cells_between, spare_between}
use Rattle.sheet_blocks.proofs.AllZero.{zero_append}
use Rattle.sheet_blocks.proofs.zeros.behind_zero.Goals as goal

pub returns-then-not-spare_zero : goal.returns-then-not-spare_zero
returns-then-not-spare_zero c =
    let a = c.args in
    sym (zero_append (spare_between a.size a.sheet.now a.from a.to)
    (drop a.taken (cells_between a.size a.sheet.now a.from a.to))
    ∙ rw (sym c.spare_zero.ensures ∙ c.if-not-spare_zero.true) refl)

pub returns : goal.returns
returns c =
    let a = c.args in
    sym (zero_append (spare_between a.size a.sheet.now a.from a.to)
    (drop a.taken (cells_between a.size a.sheet.now a.from a.to))
    ∙ rw (sym c.spare_zero.ensures ∙ c.if-not-spare_zero.false) (sym c.left_zero.ensures))
