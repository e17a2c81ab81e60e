-- What `count_bands` answers, in document 02's terms: with the beginning of the list, which code leaves there.
use Rattle.std.specs.Prelude.{ℕ, List, Result, Ok, Err, ⊤}
use Rattle.dstree.specs.Book.{Answer, answering, refusing, banded}
use Rattle.tables.specs.Answers.{word_of}
use Rattle.band_counts.specs.Counted.{counts_in}
use Rattle.tables.specs.declared.Refusal.{Refusal}

-- of so many bands
unfoldable pub answer_by : Result ⊤ Refusal → ℕ → List ℕ → Answer
answer_by (Ok _) bands list = answering (banded (counts_in bands list))
answer_by (Err why) bands list = refusing (word_of why)
