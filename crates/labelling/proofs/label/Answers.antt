-- `labelling::label` meets its contract: what the judge found says which way the call ends, and where nothing is refused the trace's place
-- says its label.
use Prim.Native.Nat.{ℕ}
use mathlib.Core.Path.{sym, ap, ◌∙◌}
use Rattle.dstree.specs.Labels.{label_at}
use Rattle.tables.specs.Tables.{labelled_tables}
use Rattle.tables.specs.Answers.{found_by}
use Rattle.tables.proofs.Passed.{passed}
use Rattle.labelling.proofs.Ends.{refused_answer, told_answer}
use Rattle.labelling.proofs.label.Goals as goal

pub returns-in_err-judge : goal.returns-in_err-judge
returns-in_err-judge c =
    let a = c.args in
    let t = labelled_tables a.control.now a.samples.now a.nodes.now a.links.now a.work.now a.labels.now in
    rw (passed c.from_residual.result _ c.from_residual.ensures.1) (refused_answer t a.number _ (sym c.in_err-judge.ensures))

pub returns : goal.returns
unfolding found_by
returns c =
    let a = c.args in
    let t = labelled_tables a.control.now a.samples.now a.nodes.now a.links.now a.work.now a.labels.now in
    told_answer t a.number (sym c.in_ok-judge.ensures) c.code_in-code.result c.serial_in-serial.result
    (c.code_in-code.ensures ∙ ap (λ (place : ℕ). (label_at place).code) c.place_at-place.ensures)
    (c.serial_in-serial.ensures ∙ ap (λ (place : ℕ). (label_at place).serial) c.place_at-place.ensures)
