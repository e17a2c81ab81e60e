-- What a batch answers, in document 02's terms: with the records that then stand in the caller's list, and the beginning of the trail. Code
-- that does not write that list gives back what is to be stored.
use Rattle.std.specs.Prelude.{ℕ, ◌+◌, ◌*◌, List, length, get_or, take, eqb, if◌then◌else◌, Result, Ok, Err}
use Rattle.dstree.specs.Matching.{Near}
use Rattle.dstree.specs.Book as book
use Rattle.dstree.specs.Book.{answering, refusing, batched}
use Rattle.tables.specs.Answers.{word_of}
use Rattle.reading.specs.Listed.{nears_in}
use Rattle.batching.specs.declared.AnswerRecord.{AnswerRecord}
use Rattle.batching.specs.declared.BatchFound.{BatchFound}
use Rattle.tables.specs.declared.Refusal.{Refusal}

-- the count of leaves, with the records in the list and the trail's beginning; or a refusal
unfoldable pub answer_by : Result ℕ Refusal → List Near → List ℕ → book.Answer
answer_by (Ok leaves) records trail = answering (batched (record { answers = records; leaves = leaves; trail = take leaves trail }))
answer_by (Err why) records trail = refusing (word_of why)

-- the record of query i
abbrev pub answer_at : BatchFound → ℕ → AnswerRecord
answer_at found i = record { trace = get_or found.bests (2 * i) 0; distance = get_or found.bests (2 * i + 1) 0 }

-- "One answer record for each query is filled in the caller's list": what is left of a list in which so many are stored, if it has as many
unfoldable pub list_by : ℕ → List ℕ → List Near → List Near
list_by count bests list = if eqb (length list) count then nears_in count bests else list

abbrev pub list_after : BatchFound → List Near → List Near
list_after found list = list_by found.count found.bests list
