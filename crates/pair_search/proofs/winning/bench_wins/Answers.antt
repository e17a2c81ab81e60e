-- `pair_search::winning::bench_wins` meets its contract, test by test.
use borrow.Author.Tests.{eq-eqb, ne_eqb}
use Rattle.pair_search.proofs.winning.bench_wins.Goals as goal

pub returns-then-bench_listed-eq0 : goal.returns-then-bench_listed-eq0
returns-then-bench_listed-eq0 c = let b = eq-eqb c.args.bench_listed 0 c.if-bench_listed-eq0.true in rw b

pub returns-then-listed-eq0 : goal.returns-then-listed-eq0
returns-then-listed-eq0 c =
    let b = ne_eqb c.args.bench_listed 0 c.if-bench_listed-eq0.false in
    let f = eq-eqb c.args.listed 0 c.if-listed-eq0.true in
    rw (b, f)

pub returns : goal.returns
returns c =
    let b = ne_eqb c.args.bench_listed 0 c.if-bench_listed-eq0.false in
    let f = ne_eqb c.args.listed 0 c.if-listed-eq0.false in
    rw (b, f)
