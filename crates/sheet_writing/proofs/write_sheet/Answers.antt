-- `sheet_writing::write_sheet` meets its contract: what the judge found says which way the call ends, and a sheet that refuses nothing has
-- room.
use mathlib.Core.Path.{sym}
use Rattle.tables.specs.Tables.{labelled_tables}
use Rattle.tables.proofs.Passed.{passed}
use Rattle.sheet_writing.specs.Answered.{refusal_in, FindsFormat}
use Rattle.sheet_writing.proofs.Conditions.{fillable}
use Rattle.sheet_writing.proofs.Ends.{refused_answer, written_answer}
use Rattle.sheet_writing.proofs.write_sheet.Goals as goal

pub fill_sheet-requires : goal.fill_sheet-requires
unfolding refusal_in FindsFormat
fill_sheet-requires c =
    let a = c.args in
    let t = labelled_tables a.control.now a.samples.now a.nodes.now a.links.now a.work.now a.labels.now in
    fillable t a.sheet.now _ (sym c.in_ok-format.ensures.result_value) c.in_ok-format.ensures.format

pub returns-in_err-format : goal.returns-in_err-format
returns-in_err-format c =
    let a = c.args in
    let t = labelled_tables a.control.now a.samples.now a.nodes.now a.links.now a.work.now a.labels.now in
    rw (passed c.from_residual.result _ c.from_residual.ensures.1) (refused_answer t a.sheet.now _ (sym c.in_err-format.ensures.result_value))

pub returns : goal.returns
unfolding refusal_in FindsFormat
returns c =
    let f = c.fill_sheet in
    let a = c.args in
    written_answer a.control.now a.samples.now a.nodes.now a.links.now a.work.now a.labels.now a.sheet.now
    _ c.in_ok-format.ensures.format f.new.sheet f.result
    (sym c.in_ok-format.ensures.result_value) f.ensures.0 f.ensures.1
