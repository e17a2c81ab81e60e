-- `pairing::judging::judge` meets its contract: the factory's tables are judged first, then the bench's, then both together.
use mathlib.Core.Path.{sym, ◌∙◌}
use Rattle.tables.specs.Shared.{tables_lent}
use Rattle.tables.specs.Answers.{found_by}
use Rattle.tables.proofs.Passed.{passed}
use Rattle.query_judging.proofs.Taken.{records_fit}
use Rattle.pairing.proofs.Conditions.{factory_refused, bench_refused, own_decides}
use Rattle.pairing.proofs.judging.judge.Goals as goal

pub judge_own-requires : goal.judge_own-requires
unfolding found_by
judge_own-requires c =
    let f = records_fit (tables_lent c.args.factory) (sym c.in_ok-judge_tables.ensures) in
    let b = records_fit (tables_lent c.args.bench) (sym c.in_ok-judge_tables-2.ensures) in
    (f.0, f.1, b.0, b.1)

pub returns-in_err-judge_tables : goal.returns-in_err-judge_tables
returns-in_err-judge_tables c =
    let a = c.args in
    rw (passed c.from_residual.result _ c.from_residual.ensures.1)
    (factory_refused (tables_lent a.factory) (tables_lent a.bench) a.query.now a.trail.now a.bench_trail.now _ c.in_err-judge_tables.ensures)

pub returns-in_err-judge_tables-2 : goal.returns-in_err-judge_tables-2
unfolding found_by
returns-in_err-judge_tables-2 c =
    let a = c.args in
    rw (passed c.from_residual-in_err-judge_tables-2.result _ c.from_residual-in_err-judge_tables-2.ensures.1)
    (bench_refused (tables_lent a.factory) (tables_lent a.bench) a.query.now a.trail.now a.bench_trail.now (sym c.in_ok-judge_tables.ensures) _ c.in_err-judge_tables-2.ensures)

pub returns : goal.returns
unfolding found_by
returns c =
    let a = c.args in
    c.judge_own.ensures
    ∙ sym (own_decides (tables_lent a.factory) (tables_lent a.bench) a.query.now a.trail.now a.bench_trail.now (sym c.in_ok-judge_tables.ensures) (sym c.in_ok-judge_tables-2.ensures))
