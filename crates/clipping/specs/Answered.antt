-- What `match_clipped` answers, in document 02's terms: with the beginning of the list, which code leaves there.
use Rattle.std.specs.Prelude.{ℕ, List, take, Result, Ok, Err}
use Rattle.dstree.specs.Book.{Answer, answering, refusing, possible}
use Rattle.tables.specs.Answers.{word_of}
use Rattle.tables.specs.declared.Refusal.{Refusal}

unfoldable pub answer_by : Result ℕ Refusal → List ℕ → Answer
answer_by (Ok count) list = answering (possible (record { list = take count list; count = count }))
answer_by (Err why) list = refusing (word_of why)
