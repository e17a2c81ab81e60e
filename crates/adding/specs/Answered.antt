-- What `add` answers, in document 01's terms.
use Rattle.std.specs.Prelude.{ℕ, Result, Ok, Err}
use Rattle.dstree.specs.Book.{Answer, answering, refusing, added}
use Rattle.tables.specs.Answers.{word_of}
use Rattle.tables.specs.declared.Refusal.{Refusal}

-- adding answers "the new trace's number"
unfoldable pub answer_by : Result ℕ Refusal → Answer
answer_by (Ok number) = answering (added number)
answer_by (Err why) = refusing (word_of why)
