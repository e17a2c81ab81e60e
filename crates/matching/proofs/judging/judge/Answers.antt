-- `matching::judging::judge` meets its contract: tables are judged first, then query and trail.
use mathlib.Core.Path.{sym, ◌∙◌}
use Rattle.tables.specs.Shared.{tables_lent}
use Rattle.tables.specs.View.{tree_in}
use Rattle.tables.specs.Answers.{found_by, made_conditions}
use Rattle.well_formed.proofs.Refused.{passed_first, none_first_of}
use Rattle.calls.specs.Effects.{query_conditions_in}
use Rattle.query_judging.proofs.Taken.{records_fit}
use Rattle.matching.proofs.judging.judge.Goals as goal

pub judge_query-requires : goal.judge_query-requires
unfolding found_by
judge_query-requires c = records_fit (tables_lent c.args.lent) (sym c.in_ok-judge_tables.ensures)

pub returns-in_err-judge_tables : goal.returns-in_err-judge_tables
returns-in_err-judge_tables c =
    let t = tables_lent c.args.lent in
    passed_first (made_conditions t) (query_conditions_in t c.args.query.now c.args.trail.now) _ _ c.from_residual.ensures.1 c.in_err-judge_tables.ensures

pub returns : goal.returns
unfolding tree_in
returns c =
    let t = tables_lent c.args.lent in
    c.judge_query.ensures t.samples t.links t.work
    ∙ sym (none_first_of (made_conditions t) (query_conditions_in t c.args.query.now c.args.trail.now) c.in_ok-judge_tables.ensures)
