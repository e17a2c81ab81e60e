-- `pair_search::winning::winner` meets its contract, way by way (`Wins`).
use mathlib.Core.Path.{sym, ◌∙◌}
use Rattle.pair_search.proofs.Wins.{bench_answer, factory_answer}
use Rattle.pair_search.proofs.winning.winner.Goals as goal

pub returns-then-bench_wins : goal.returns-then-bench_wins
returns-then-bench_wins c =
    let a = c.args in
    bench_answer a.listed a.bench_listed a.list.now a.bench_list.now c.requires.listed_bound.0 c.requires.bench.0
    (sym c.bench_wins.ensures ∙ c.if-bench_wins.true)

pub returns : goal.returns
returns c =
    let a = c.args in
    factory_answer a.listed a.bench_listed a.list.now a.bench_list.now c.requires.listed_bound.0 c.requires.bench.0 c.requires.listed_bound.2
    (sym c.bench_wins.ensures ∙ c.if-bench_wins.false)
