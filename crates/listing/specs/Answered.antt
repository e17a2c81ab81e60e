-- What `k_nearest` answers, in document 02's terms: with the beginnings of trail and list, which code leaves there.
use Rattle.std.specs.Prelude.{ℕ, List, take, Result, Ok, Err}
use Rattle.dstree.specs.Book.{Answer, answering, refusing, neighbours}
use Rattle.tables.specs.Answers.{word_of}
use Rattle.reading.specs.Listed.{nears_in}
use Rattle.listing.specs.declared.Listed.{Listed}
use Rattle.tables.specs.declared.Refusal.{Refusal}

-- leaves read, traces read, and how many are listed: a list's records are two places each, trace number and distance
unfoldable pub answer_by : Result Listed Refusal → List ℕ → List ℕ → Answer
answer_by (Ok l) trail list =
    answering (neighbours (record { list = nears_in l.many list; leaves = l.leaves; traces = l.traces; trail = take l.leaves trail }))
answer_by (Err why) trail list = refusing (word_of why)
