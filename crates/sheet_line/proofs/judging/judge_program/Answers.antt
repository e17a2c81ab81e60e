-- `sheet_line::judging::judge_program` meets its contract: the length, the sheet, and then what block 0 says.
use mathlib.Core.Path.{◌≡◌, sym, ap₂, ◌∙◌}
use mathlib.Core.List.{List, ◌++◌}
use Prim.Native.Nat.{ℕ, ◌≤◌}
use lib.ListN.{length}
use borrow.Author.Tests.{lt-ltb, le-ltb}
use Rattle.dstree.specs.Measures.{Measures}
use Rattle.dstree.specs.Refusals.{first_of}
use Rattle.dstree.specs.Sheet.{measures_in, count_in}
use Rattle.dstree.specs.SheetWidths.{sheet_conditions}
use Rattle.dstree.specs.Program.{most_bytes}
use Rattle.dstree.proofs.Conditions.{first_none}
use Rattle.tables.specs.Answers.{word_of, found_by}
use Rattle.well_formed.proofs.Refused.{passed_first}
use Rattle.sheet_blocks.specs.Blocks.{block_at}
use Rattle.sheet_blocks.proofs.Places.{first_inside}
use Rattle.sheet_judging.proofs.Samples.{fine}
use Rattle.sheet_line.specs.Conditions.{small_conditions, program_conditions}
use Rattle.sheet_line.proofs.judging.judge_program.Goals as goal

-- where the length is not above the limit
later : (bytes : List ℕ) → length bytes ≤ most_bytes
    → first_of (program_conditions bytes)
    ≡ first_of (sheet_conditions bytes ++ small_conditions (measures_in (block_at bytes 0)) (count_in (block_at bytes 0)))
unfolding program_conditions first_of
later bytes h = rw (le-ltb most_bytes (length bytes) h)

pub returns-then-sheet-gt65536 : goal.returns-then-sheet-gt65536
unfolding found_by word_of program_conditions first_of
returns-then-sheet-gt65536 c = rw (lt-ltb _ _ c.if-sheet-gt65536.true)

pub head_of-head-requires : goal.head_of-head-requires
unfolding found_by
head_of-head-requires c = first_inside c.args.sheet.now (fine c.args.sheet.now (sym c.in_ok-judge_sheet.ensures)).whole

pub returns-in_err-judge_sheet : goal.returns-in_err-judge_sheet
returns-in_err-judge_sheet c =
    let bytes = c.args.sheet.now in
    passed_first (sheet_conditions bytes) (small_conditions (measures_in (block_at bytes 0)) (count_in (block_at bytes 0))) _ _
    c.from_residual.ensures.1 c.in_err-judge_sheet.ensures
    ∙ sym (later bytes c.if-sheet-gt65536.false)

pub returns : goal.returns
unfolding found_by
returns c =
    let bytes = c.args.sheet.now in
    c.judge_small.ensures c.head_of-head.result.leaf
    ∙ ap₂ (λ (m : Measures) (k : ℕ). first_of (small_conditions m k)) (sym c.head_of-head.ensures.measures_are) (sym c.head_of-head.ensures.count_is)
    ∙ sym (later bytes c.if-sheet-gt65536.false ∙ first_none (sheet_conditions bytes) _ (sym c.in_ok-judge_sheet.ensures))
