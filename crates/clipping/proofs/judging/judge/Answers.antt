-- `clipping::judging::judge` meets its contract: tables are judged first, then the rest.
use mathlib.Core.Path.{sym, ◌∙◌}
use Rattle.tables.specs.Shared.{tables_lent}
use Rattle.tables.specs.Answers.{made_conditions}
use Rattle.well_formed.proofs.Refused.{passed_first, none_first_of}
use Rattle.calls.specs.Effects.{clipped_conditions_in}
use Rattle.clipping.proofs.judging.judge.Goals as goal

pub returns-in_err-judge_tables : goal.returns-in_err-judge_tables
returns-in_err-judge_tables c =
    let a = c.args in
    let t = tables_lent a.lent in
    passed_first (made_conditions t) (clipped_conditions_in t a.lows.now a.highs.now a.list.now) _ _ c.from_residual.ensures.1 c.in_err-judge_tables.ensures

pub returns : goal.returns
returns c =
    let a = c.args in
    let t = tables_lent a.lent in
    c.judge_own.ensures ∙ sym (none_first_of (made_conditions t) (clipped_conditions_in t a.lows.now a.highs.now a.list.now) c.in_ok-judge_tables.ensures)
