-- `limiting::judging::judge_own` meets its contract: the limit first, then query and trail.
use native.Mathlib.Omega.{arith}
use borrow.Author.Tests.{eq-eqb, ne_eqb}
use Rattle.dstree.specs.Refusals.{first_of}
use Rattle.tables.specs.Answers.{word_of, found_by}
use Rattle.limiting.proofs.judging.judge_own.Goals as goal

pub returns-then-most-eq0 : goal.returns-then-most-eq0
unfolding found_by word_of first_of
returns-then-most-eq0 c samples links work =
    rw (eq-eqb c.args.most 0 (omega (arith, c.if-most-eq0.true)))

pub returns : goal.returns
unfolding first_of
returns c samples links work =
    rw (ne_eqb c.args.most 0 (λ q. omega (arith, q, c.if-most-eq0.false))) (c.judge_query.ensures samples links work)
