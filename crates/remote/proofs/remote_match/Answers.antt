-- `remote::remote_match` meets its contract: it ends as the match does, and the code is that of the place of the trace found.
use Prim.Native.Nat.{ℕ}
use mathlib.Core.Path.{ap, ◌∙◌}
use mathlib.Core.List.{List}
use Rattle.dstree.specs.Labels.{label_at}
use Rattle.tables.specs.Tables.{Tables, labelled_tables}
use Rattle.tables.proofs.Passed.{passed}
use Rattle.remote.proofs.Ends.{refused_answer, found_answer}
use Rattle.remote.proofs.remote_match.Goals as goal

pub returns-in_err-found : goal.returns-in_err-found
returns-in_err-found c =
    let a = c.args in
    let t : List ℕ → Tables = λ work. labelled_tables a.control.now a.samples.now a.nodes.now a.links.now work a.labels.now in
    rw (passed c.from_residual.result _ c.from_residual.ensures.1)
    (refused_answer (t a.work.now) (t c.nearest.new.work) a.query.now a.trail.now c.nearest.new.trail c.nearest.result c.nearest.ensures _ c.in_err-found.was)

pub returns : goal.returns
returns c =
    let a = c.args in
    let t : List ℕ → Tables = λ work. labelled_tables a.control.now a.samples.now a.nodes.now a.links.now work a.labels.now in
    found_answer (t a.work.now) (t c.nearest.new.work) a.query.now a.trail.now c.nearest.new.trail c.nearest.result c.nearest.ensures _ _ _ _ c.in_ok-found.was _
    (c.code_in.ensures ∙ ap (λ (place : ℕ). (label_at place).code) c.place_at-place.ensures)
