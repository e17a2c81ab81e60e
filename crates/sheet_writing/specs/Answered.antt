-- What `write_sheet` answers, in document 01's terms: with the sheet, which code leaves at the beginning of the lent bytes. Before it, what
-- its judge found.
use Rattle.std.specs.Prelude.{ℕ, ◌*◌, ◌≡◌, not, List, take, Result, Ok, Err}
use Rattle.std.proofs.Math.Option.{Option, none, some}
use Rattle.dstree.specs.Measures.{Trace}
use Rattle.dstree.specs.Refusals.{Refusal}
use Rattle.dstree.specs.Sheet.{block_size}
use Rattle.dstree.specs.SheetWidths.{all_narrow}
use Rattle.dstree.specs.Book.{Answer, answering, written, refusing}
use Rattle.tables.specs.Answers.{word_of}
use Rattle.sheet.specs.declared.formats.Format.{Format}
use Rattle.sheet.specs.Formats.{says_wide}
use Rattle.tables.specs.declared.Refusal as declared

-- the refusal, if any
unfoldable pub refusal_in : Result Format declared.Refusal → Option Refusal
refusal_in (Err why) = some (word_of why)
refusal_in (Ok format) = none

-- if there is none, the format that was found is the one that these traces take
unfoldable pub FindsFormat : List Trace → Result Format declared.Refusal → Type 0
FindsFormat traces (Err why) = Unit
FindsFormat traces (Ok format) = says_wide format ≡ not (all_narrow traces)

-- "writing the number of blocks"
unfoldable pub answer_by : Result ℕ declared.Refusal → List ℕ → Answer
answer_by (Ok count) sheet = answering (written count (take (block_size * count) sheet))
answer_by (Err why) sheet = refusing (word_of why)
