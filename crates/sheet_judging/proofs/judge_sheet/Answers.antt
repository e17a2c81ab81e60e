-- `sheet_judging::judge_sheet` meets its contract: length, then torn blocks, then the rest.
use mathlib.Core.Path.{◌≡◌, sym, ap, ◌∙◌}
use mathlib.Core.Bool.{Bool}
use mathlib.Core.List.{List, ◌++◌, append_assoc}
use Prim.Native.Nat.{ℕ}
use Rattle.std.proofs.lemmas.Result.{err_from_is_err_and}
use Rattle.dstree.specs.Refusals.{Condition, first_of}
use Rattle.dstree.specs.Sheet.{blocks_in, torn_conditions, bad_conditions, conditions_as}
use Rattle.dstree.specs.SheetWidths.{format_by, is_wide, format_in, traces_held, range_conditions, sheet_conditions}
use Rattle.dstree.proofs.Conditions.{first_some, first_none}
use Rattle.tables.specs.Answers.{word_of, found_by}
use Rattle.sheet_blocks.specs.Blocks.{InBlocks}
use Rattle.sheet_judging.proofs.judge_sheet.Goals as goal

-- of whole blocks
module _ (bytes : List ℕ) (whole : InBlocks bytes) where
  abbrev torn : Bool → List Condition
  torn four = torn_conditions (format_by four) 0 0 (blocks_in bytes)

  abbrev rest : Bool → List Condition
  rest four = bad_conditions (format_by four) (blocks_in bytes) ++ range_conditions four (traces_held (format_by four) (blocks_in bytes))

  later : first_of (sheet_conditions bytes) ≡ first_of (torn (is_wide bytes) ++ rest (is_wide bytes))
  unfolding sheet_conditions conditions_as first_of
  later =
      rw whole
      (ap first_of (append_assoc (torn (is_wide bytes)) (bad_conditions (format_in bytes) (blocks_in bytes))
      (range_conditions (is_wide bytes) (traces_held (format_in bytes) (blocks_in bytes)))))

pub returns-then-wrong_length : goal.returns-then-wrong_length
unfolding found_by word_of sheet_conditions conditions_as first_of
returns-then-wrong_length c = rw (sym c.wrong_length.ensures ∙ c.if-wrong_length.true)

pub format_in-format-requires : goal.format_in-format-requires
format_in-format-requires c = sym c.wrong_length.ensures ∙ c.if-wrong_length.false

pub first_torn-requires : goal.first_torn-requires
first_torn-requires c = sym c.wrong_length.ensures ∙ c.if-wrong_length.false

pub judge_whole-requires : goal.judge_whole-requires
unfolding found_by
judge_whole-requires c = (sym c.wrong_length.ensures ∙ c.if-wrong_length.false, sym c.in_ok-first_torn.ensures)

pub returns-in_err-first_torn : goal.returns-in_err-first_torn
unfolding found_by
returns-in_err-first_torn c =
    let bytes = c.args.sheet.now in
    let whole = sym c.wrong_length.ensures ∙ c.if-wrong_length.false in
    let found = c.in_err-first_torn.ensures ∙ ap (λ (b : Bool). first_of (torn bytes whole b)) c.format_in-format.ensures in
    let p = err_from_is_err_and c.from_residual.result c.from_residual.ensures.1 in
    rw (p.1, p.2) (sym (later bytes whole ∙ first_some (torn bytes whole (is_wide bytes)) (rest bytes whole (is_wide bytes)) _ (sym found)))

pub returns : goal.returns
unfolding found_by
returns c =
    let bytes = c.args.sheet.now in
    let whole = sym c.wrong_length.ensures ∙ c.if-wrong_length.false in
    let none_torn = sym (c.in_ok-first_torn.ensures ∙ ap (λ (b : Bool). first_of (torn bytes whole b)) c.format_in-format.ensures) in
    c.judge_whole.ensures ∙ ap (λ (b : Bool). first_of (rest bytes whole b)) c.format_in-format.ensures
    ∙ sym (later bytes whole ∙ first_none (torn bytes whole (is_wide bytes)) (rest bytes whole (is_wide bytes)) none_torn)
