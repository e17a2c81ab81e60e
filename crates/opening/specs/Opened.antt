-- What `open` answers, in document 01's terms.
use Rattle.std.specs.Prelude.{Result, Ok, Err, ⊤}
use Rattle.dstree.specs.Book.{Answer, answering, refusing, done}
use Rattle.tables.specs.Answers.{word_of}
use Rattle.tables.specs.declared.Refusal.{Refusal}

-- "Opening and sheet reading answer only that they succeeded"
unfoldable pub answer_by : Result ⊤ Refusal → Answer
answer_by (Ok _) = answering done
answer_by (Err why) = refusing (word_of why)
