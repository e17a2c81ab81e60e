-- `query_judging::judge_query` meets its contract: a query is a run as long as a trace.
use Prim.Native.Nat.{ℕ}
use mathlib.Core.Path.{ap, ◌∙◌}
use Rattle.dstree.specs.Refusals.{first_of}
use Rattle.tables.specs.Tables.{tables}
use Rattle.calls.specs.Effects.{run_conditions_in}
use Rattle.query_judging.proofs.judge_query.Goals as goal

pub returns : goal.returns
returns c samples links work =
    let a = c.args in
    let t = tables a.control.now samples a.nodes.now links work in
    c.judge_run.ensures samples links work
    ∙ ap (λ (n : ℕ). first_of (run_conditions_in t n a.query.now a.trail.now))
    (c.wide-n.ensures ∙ c.field.ensures)
