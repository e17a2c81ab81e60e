-- What `nearest` answers, in document 01's terms: with the trail's beginning, which code leaves in the trail.
use Rattle.std.specs.Prelude.{ℕ, List, take, Result, Ok, Err}
use Rattle.dstree.specs.Book.{Answer, answering, refusing, matched}
use Rattle.tables.specs.Answers.{word_of}
use Rattle.tables.specs.declared.Refusal.{Refusal}
use Rattle.matching.specs.declared.Found.{Found}

-- "The answer is trace number, distance, leaves read and traces read"
unfoldable pub answer_by : Result Found Refusal → List ℕ → Answer
answer_by (Ok f) trail =
    answering (matched (record { trace = f.trace; distance = f.distance; leaves = f.leaves; traces = f.traces; trail = take f.leaves trail }))
answer_by (Err why) trail = refusing (word_of why)
