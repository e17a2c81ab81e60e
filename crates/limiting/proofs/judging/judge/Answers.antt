-- `limiting::judging::judge` meets its contract: tables are judged first, then the rest.
use mathlib.Core.Path.{sym, ◌∙◌}
use Rattle.dstree.proofs.Conditions.{first_none}
use Rattle.tables.specs.View.{tree_in}
use Rattle.tables.specs.Shared.{tables_lent}
use Rattle.tables.specs.Answers.{found_by, made_conditions}
use Rattle.well_formed.proofs.Refused.{passed_first}
use Rattle.calls.specs.Effects.{limit_conditions_in}
use Rattle.query_judging.proofs.Taken.{records_fit}
use Rattle.limiting.proofs.judging.judge.Goals as goal

pub judge_own-requires : goal.judge_own-requires
unfolding found_by
judge_own-requires c =
    let a = c.args in
    let t = tables_lent a.lent in
    records_fit t (sym c.in_ok-judge_tables.ensures)

pub returns-in_err-judge_tables : goal.returns-in_err-judge_tables
returns-in_err-judge_tables c =
    let a = c.args in
    let t = tables_lent a.lent in
    passed_first (made_conditions t) (limit_conditions_in t a.most a.query.now a.trail.now) _ _ c.from_residual.ensures.1 c.in_err-judge_tables.ensures

pub returns : goal.returns
unfolding found_by tree_in
returns c =
    let a = c.args in
    let t = tables_lent a.lent in
    c.judge_own.ensures t.samples t.links t.work
    ∙ sym (first_none (made_conditions t) (limit_conditions_in t a.most a.query.now a.trail.now)
    (sym c.in_ok-judge_tables.ensures))
