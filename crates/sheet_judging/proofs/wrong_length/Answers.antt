-- `sheet_judging::wrong_length` meets its contract: each return answers for one part of the condition, the ones before it being false.
use borrow.Author.Tests.{eq-eqb, ne_eqb}
use Rattle.dstree.specs.Sheet.{is_wrong_length}
use Rattle.sheet_judging.proofs.wrong_length.Goals as goal

pub returns-then-size-eq0 : goal.returns-then-size-eq0
unfolding is_wrong_length
returns-then-size-eq0 c = simp (eq-eqb _ _ c.if-size-eq0.true)

pub returns-then-size-ne0 : goal.returns-then-size-ne0
unfolding is_wrong_length
returns-then-size-ne0 c = simp (ne_eqb _ _ c.if-size-eq0.false, ne_eqb _ _ c.if-size-ne0.true)

pub returns : goal.returns
unfolding is_wrong_length
returns c = simp (ne_eqb _ _ c.if-size-eq0.false, eq-eqb _ _ c.if-size-ne0.false)
