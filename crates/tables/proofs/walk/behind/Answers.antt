-- `tables::walk::behind` meets its contract: the test is the definition's, on the link that was read.
use mathlib.Core.Path.{sym, ◌∙◌}
use borrow.Author.Tests.{eq-eqb, ne_eqb}
use Rattle.tables.proofs.walk.behind.Goals as goal

pub returns-then-next-eq0 : goal.returns-then-next-eq0
returns-then-next-eq0 c = rw (eq-eqb _ _ (sym c.wide-next.ensures ∙ c.if-next-eq0.true))

pub returns-else-next-eq0 : goal.returns-else-next-eq0
returns-else-next-eq0 c = rw (← c.wide-next.ensures, ne_eqb _ _ c.if-next-eq0.false)
