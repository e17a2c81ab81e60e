-- What `check_tables` answers, in document 02's terms.
use Rattle.std.specs.Prelude.{Result, Ok, Err, ⊤}
use Rattle.dstree.specs.Book.{Answer, answering, refusing, accepted}
use Rattle.tables.specs.Answers.{word_of}
use Rattle.tables.specs.declared.Refusal.{Refusal}

unfoldable pub answer_by : Result ⊤ Refusal → Answer
answer_by (Ok _) = answering accepted
answer_by (Err why) = refusing (word_of why)
