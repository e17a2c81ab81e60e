-- What `export_recording` answers, in document 02's terms: with the recording, which code leaves at the beginning of the lent bytes.
use Rattle.std.specs.Prelude.{ℕ, List, take, Result, Ok, Err}
use Rattle.dstree.specs.Book.{Answer, answering, refusing, exported}
use Rattle.tables.specs.Answers.{word_of}
use Rattle.tables.specs.declared.Refusal.{Refusal}

-- "its bytes' number"
unfoldable pub answer_by : Result ℕ Refusal → List ℕ → Answer
answer_by (Ok size) buffer = answering (exported size (take size buffer))
answer_by (Err why) buffer = refusing (word_of why)
