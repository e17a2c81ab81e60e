-- `sheet_judging::judge_whole` meets its contract: contents, then samples.
use mathlib.Core.Path.{sym, ◌∙◌}
use Rattle.std.proofs.lemmas.Result.{err_from_is_err_and}
use Rattle.dstree.specs.Refusals.{first_of}
use Rattle.dstree.specs.Sheet.{blocks_in, torn_conditions, bad_conditions, conditions_as}
use Rattle.dstree.specs.SheetWidths.{traces_held, range_conditions}
use Rattle.dstree.proofs.Conditions.{first_some, first_none}
use Rattle.tables.specs.Answers.{found_by}
use Rattle.sheet.specs.Formats.{format_by, says_wide}
use Rattle.sheet_judging.proofs.judge_whole.Goals as goal

pub judge_range-requires : goal.judge_range-requires
unfolding conditions_as first_of found_by
judge_range-requires c =
    let f = format_by c.args.format in
    let blocks = blocks_in c.args.sheet.now in
    rw c.requires.0 (first_none (torn_conditions f 0 0 blocks) (bad_conditions f blocks) c.requires.1 ∙ sym c.in_ok-judge_contents.ensures)

pub returns-in_err-judge_contents : goal.returns-in_err-judge_contents
unfolding found_by
returns-in_err-judge_contents c =
    let f = format_by c.args.format in
    let blocks = blocks_in c.args.sheet.now in
    let p = err_from_is_err_and c.from_residual.result c.from_residual.ensures.1 in
    rw (p.1, p.2)
    (sym (first_some (bad_conditions f blocks) (range_conditions (says_wide c.args.format) (traces_held f blocks)) _ (sym c.in_err-judge_contents.ensures)))

pub returns : goal.returns
unfolding found_by
returns c =
    let f = format_by c.args.format in
    let blocks = blocks_in c.args.sheet.now in
    c.judge_range.ensures
    ∙ sym (first_none (bad_conditions f blocks) (range_conditions (says_wide c.args.format) (traces_held f blocks)) (sym c.in_ok-judge_contents.ensures))
