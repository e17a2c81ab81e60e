-- `sheet_line::judging::judge_small` meets its contract: each return answers for one condition, the ones before it being false.
use borrow.Author.Tests.{lt-ltb, le-ltb, le-leb, lt-leb}
use Rattle.dstree.specs.Refusals.{first_of}
use Rattle.tables.specs.Answers.{word_of, found_by}
use Rattle.sheet_line.specs.Conditions.{small_conditions}
use Rattle.sheet_line.proofs.judging.judge_small.Goals as goal

pub returns-then-n-gt64 : goal.returns-then-n-gt64
unfolding found_by word_of small_conditions first_of
returns-then-n-gt64 c = λ leaf_size. (rw (lt-ltb _ _ c.if-n-gt64.true))

pub returns-then-capacity-gt64 : goal.returns-then-capacity-gt64
unfolding found_by word_of small_conditions first_of
returns-then-capacity-gt64 c = λ leaf_size. (rw (le-ltb _ _ c.if-n-gt64.false, lt-ltb _ _ c.if-capacity-gt64.true))

pub returns-then-count-le1 : goal.returns-then-count-le1
unfolding found_by word_of small_conditions first_of
returns-then-count-le1 c = λ leaf_size. (rw (le-ltb _ _ c.if-n-gt64.false, le-ltb _ _ c.if-capacity-gt64.false, le-leb _ _ c.if-count-le1.true))

pub returns : goal.returns
unfolding found_by word_of small_conditions first_of
returns c = λ leaf_size. (rw (le-ltb _ _ c.if-n-gt64.false, le-ltb _ _ c.if-capacity-gt64.false, lt-leb _ _ c.if-count-le1.false))
