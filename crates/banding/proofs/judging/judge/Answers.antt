-- `banding::judging::judge` meets its contract: tables are judged first, then the rest.
use mathlib.Core.Path.{sym, ◌∙◌}
use Rattle.dstree.proofs.Conditions.{first_none}
use Rattle.tables.specs.Shared.{tables_lent}
use Rattle.tables.specs.Answers.{found_by, made_conditions}
use Rattle.well_formed.proofs.Refused.{passed_first}
use Rattle.calls.specs.Effects.{band_conditions_in}
use Rattle.banding.proofs.judging.judge.Goals as goal

pub returns-in_err-judge_tables : goal.returns-in_err-judge_tables
returns-in_err-judge_tables c =
    let a = c.args in
    let t = tables_lent a.lent in
    passed_first (made_conditions t) (band_conditions_in t a.query.now a.edges.now a.list.now) _ _ c.from_residual.ensures.1 c.in_err-judge_tables.ensures

pub returns : goal.returns
unfolding found_by
returns c =
    let a = c.args in
    let t = tables_lent a.lent in
    c.judge_own.ensures
    ∙ sym (first_none (made_conditions t) (band_conditions_in t a.query.now a.edges.now a.list.now)
    (sym c.in_ok-judge_tables.ensures))
