-- `pairing::match_both` meets its contract: what the judge found says which way the call ends, and libraries of which nothing is refused
-- may be searched.
use mathlib.Core.Path.{refl, sym, subst}
use mathlib.Core.List.{[], ◌∷◌}
use Prim.Native.Nat.{◌≤◌}
use native.Mathlib.Omega.{arith}
use lib.ListN.{length}
use Rattle.dstree.specs.Pair.{of_factory}
use Rattle.dstree.specs.Book.{beside_of}
use Rattle.tables.specs.Tables.{labelled_tables}
use Rattle.tables.specs.Answers.{found_by}
use Rattle.calls.specs.Effects.{other_in, pairs, effect_of, outcome_on}
use Rattle.tables.proofs.Passed.{passed}
use Rattle.calls.proofs.Ends.{ends_refused}
use Rattle.pairing.specs.Answered.{answer_by}
use Rattle.pairing.proofs.Conditions.{may_search}
use Rattle.pairing.proofs.Answers.{found_answer}
use Rattle.pairing.proofs.match_both.Goals as goal
use Rattle.dstree.specs.Measures.{Trace}
use Rattle.tables.proofs.Views.{measures_fit}
use Rattle.search.specs.Searched.{without_work}
use Rattle.pair_search.specs.BothSearched.{SideReady, BothSearched}

pub words_for-words-requires : goal.words_for-words-requires
unfolding found_by
words_for-words-requires c =
    let a = c.args in
    let F = labelled_tables a.control.now a.samples.now a.nodes.now a.links.now a.work.now a.labels.now in
    let B = labelled_tables a.bench_control.now a.bench_samples.now a.bench_nodes.now a.bench_links.now a.bench_work.now a.bench_labels.now in
    let f = without_work a.control.now a.samples.now a.nodes.now a.links.now in
    let b = without_work a.bench_control.now a.bench_samples.now a.bench_nodes.now a.bench_links.now in
    let m = may_search F B a.query.now a.trail.now a.bench_trail.now (sym c.in_ok-judge.ensures) in
    let ready = m.factory.ready in
    let few : length a.query.now ≤ 256 = omega (arith, ready.same_length, (measures_fit f ready.formed).n_high) in
    (few, m.inside)

pub search_both-seen-requires : goal.search_both-seen-requires
unfolding found_by
search_both-seen-requires c =
    let a = c.args in
    let F = labelled_tables a.control.now a.samples.now a.nodes.now a.links.now a.work.now a.labels.now in
    let B = labelled_tables a.bench_control.now a.bench_samples.now a.bench_nodes.now a.bench_links.now a.bench_work.now a.bench_labels.now in
    let f = without_work a.control.now a.samples.now a.nodes.now a.links.now in
    let b = without_work a.bench_control.now a.bench_samples.now a.bench_nodes.now a.bench_links.now in
    let m = may_search F B a.query.now a.trail.now a.bench_trail.now (sym c.in_ok-judge.ensures) in
    let stands = sym c.words_for-words.ensures in
    let ready = subst (λ (x : Trace). SideReady f x (length a.trail.now)) stands m.factory.ready in
    let bench_ready = subst (λ (x : Trace). SideReady b x (length a.bench_trail.now)) stands m.bench.ready in
    record { side_ready = (ready, m.factory.work_room); bench = (bench_ready, m.bench.work_room) }

pub returns-in_err-judge : goal.returns-in_err-judge
unfolding answer_by outcome_on effect_of beside_of other_in
returns-in_err-judge c =
    let a = c.args in
    let F = labelled_tables a.control.now a.samples.now a.nodes.now a.links.now a.work.now a.labels.now in
    let B = labelled_tables a.bench_control.now a.bench_samples.now a.bench_nodes.now a.bench_links.now a.bench_work.now a.bench_labels.now in
    rw (passed c.from_residual.result _ c.from_residual.ensures.1) (ends_refused F (a.trail.now ∷ a.bench_trail.now ∷ a.bench_work.now ∷ [])
    (pairs F of_factory (other_in B a.bench_trail.now) a.query.now a.trail.now) _
    (sym c.in_err-judge.ensures))

pub returns : goal.returns
unfolding found_by answer_by
returns c =
    let a = c.args in
    let F = labelled_tables a.control.now a.samples.now a.nodes.now a.links.now a.work.now a.labels.now in
    let B = labelled_tables a.bench_control.now a.bench_samples.now a.bench_nodes.now a.bench_links.now a.bench_work.now a.bench_labels.now in
    let f = without_work a.control.now a.samples.now a.nodes.now a.links.now in
    let b = without_work a.bench_control.now a.bench_samples.now a.bench_nodes.now a.bench_links.now in
    let r = c.search_both-seen.result in
    let left = c.search_both-seen.new in
    let kept = c.search_both-seen.auto in
    let found = subst
    (λ (x : Trace). BothSearched f b x a.work.now left.work a.trail.now left.trail a.bench_work.now left.bench_work a.bench_trail.now left.bench_trail
    r.library r.trace r.distance r.out r.bench_out r.traces) c.words_for-words.ensures c.search_both-seen.ensures in
    found_answer F B a.query.now a.trail.now a.bench_trail.now left.work left.trail left.bench_work
    left.bench_trail r.library r.trace r.distance r.out r.bench_out r.traces kept.trail kept.bench_trail
    found _ refl (sym c.in_ok-judge.ensures)
