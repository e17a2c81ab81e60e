-- `pair_search::stepping::step_both` meets its contract, way by way.
use mathlib.Core.Path.{◌≡◌, refl, sym, ◌∙◌, ap}
use mathlib.Core.Logic.{inl, inr}
use Rattle.std.specs.Prelude.{Some, None}
use Rattle.pair_search.specs.declared.turns.Whose.TheVariants.{Factory, Bench}
use Rattle.pair_search.specs.Stepping.{slices, Reach, Stepping}
use Rattle.pair_search.proofs.Whose.{factorys_turn, benchs_turn}
use Rattle.pair_search.proofs.stepping.step_both.Goals as goal

pub limit_in-own-requires : goal.limit_in-own-requires
limit_in-own-requires c = (c.requires.0.few, c.requires.0.list_long)

pub limit_in-other-requires : goal.limit_in-other-requires
limit_in-other-requires c = (c.requires.1.few, c.requires.1.list_long)

-- no leaf ahead is within the limit
pub returns-in_err-turn-clause-stepping : goal.returns-in_err-turn-clause-stepping
unfolding Stepping
returns-in_err-turn-clause-stepping c =
    let a = c.args in
    let x = slices a.heap.now a.trail.now a.list.now in
    let y = slices a.bench_heap.now a.bench_trail.now a.bench_list.now in
    let reach : Reach x y a.factory a.bench = record {
      own = c.limit_in-own.result;
      other = c.limit_in-other.result;
      within = c.nearer_of-within.result;
      own_is = c.limit_in-own.ensures;
      other_is = c.limit_in-other.ensures;
      within_is = c.nearer_of-within.ensures;
    } in
    let was : c.turn.result ≡ None = c.in_err-turn.was in
    rw c.from_residual.ensures (record { reach = reach; turn_is = sym c.turn.ensures ∙ was; factory_stays = refl; bench_stays = refl })

-- the factory's turn
pub advance-next-requires : goal.advance-next-requires
advance-next-requires c =
    let a = c.args in
    let was : c.turn.result ≡ Some Factory = c.in_ok-turn.was ∙ ap Some c.in-Factory.is in
    let mine = factorys_turn a.factory a.bench c.nearer_of-within.result (sym c.turn.ensures ∙ was) in
    (c.requires.0.may_read mine.0, c.requires.0.long, c.requires.0.waits)

pub returns-in-Factory-clause-stepping : goal.returns-in-Factory-clause-stepping
unfolding Stepping
returns-in-Factory-clause-stepping c =
    let a = c.args in
    let x = slices a.heap.now a.trail.now a.list.now in
    let y = slices a.bench_heap.now a.bench_trail.now a.bench_list.now in
    let reach : Reach x y a.factory a.bench = record {
      own = c.limit_in-own.result;
      other = c.limit_in-other.result;
      within = c.nearer_of-within.result;
      own_is = c.limit_in-own.ensures;
      other_is = c.limit_in-other.ensures;
      within_is = c.nearer_of-within.ensures;
    } in
    let was : c.turn.result ≡ Some Factory = c.in_ok-turn.was ∙ ap Some c.in-Factory.is in
    inl (record {
      reach = reach;
      turn_is = sym c.turn.ensures ∙ was;
      advanced = c.advance-next.ensures.advanced;
      bench_stays = (refl, refl);
    })

-- the bench's
pub advance-next-requires-in-Bench : goal.advance-next-requires-in-Bench
advance-next-requires-in-Bench c =
    let a = c.args in
    let was : c.turn.result ≡ Some Bench = c.in_ok-turn.was ∙ ap Some c.in-Bench.is in
    let mine = benchs_turn a.factory a.bench c.nearer_of-within.result (sym c.turn.ensures ∙ was) in
    (c.requires.1.may_read mine.0, c.requires.1.long, c.requires.1.waits)

pub returns-in-Bench-clause-stepping : goal.returns-in-Bench-clause-stepping
unfolding Stepping
returns-in-Bench-clause-stepping c =
    let a = c.args in
    let x = slices a.heap.now a.trail.now a.list.now in
    let y = slices a.bench_heap.now a.bench_trail.now a.bench_list.now in
    let reach : Reach x y a.factory a.bench = record {
      own = c.limit_in-own.result;
      other = c.limit_in-other.result;
      within = c.nearer_of-within.result;
      own_is = c.limit_in-own.ensures;
      other_is = c.limit_in-other.ensures;
      within_is = c.nearer_of-within.ensures;
    } in
    let was : c.turn.result ≡ Some Bench = c.in_ok-turn.was ∙ ap Some c.in-Bench.is in
    inr (record {
      reach = reach;
      turn_is = sym c.turn.ensures ∙ was;
      advanced = c.advance-next-in-Bench.ensures.advanced;
      factory_stays = (refl, refl);
    })
