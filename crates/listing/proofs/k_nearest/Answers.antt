-- `listing::k_nearest` meets its contract: what the judge found says which way the call ends, and tables that refuse nothing may be
-- searched.
use mathlib.Core.Path.{◌≡◌, sym, subst}
use mathlib.Core.Option.{none}
use mathlib.Core.List.{[], ◌∷◌}
use lib.ListN.{length}
use Rattle.dstree.specs.Measures.{Trace}
use Rattle.search.specs.Searched.{without_work, Ready, ListSearched}
use Rattle.search.proofs.Facts.{length_fits}
use Rattle.dstree.specs.Refusals.{first_of}
use Rattle.dstree.specs.Book.{beside_of}
use Rattle.tables.specs.Tables.{labelled_tables}
use Rattle.tables.specs.Answers.{found_by}
use Rattle.calls.specs.Effects.{lists, effect_of, outcome_on}
use Rattle.tables.proofs.Passed.{passed}
use Rattle.calls.proofs.Ends.{ends_refused}
use Rattle.listing.specs.Answered.{answer_by}
use Rattle.listing.proofs.Conditions.{may_list}
use Rattle.listing.proofs.Answers.{list_answer}
use Rattle.listing.proofs.k_nearest.Goals as goal

pub words_for-words-requires : goal.words_for-words-requires
unfolding found_by
words_for-words-requires c =
    let a = c.args in
    let t = labelled_tables a.control.now a.samples.now a.nodes.now a.links.now a.work.now a.labels.now in
    let m = may_list t a.k a.query.now a.trail.now a.list.now (sym c.in_ok-judge.ensures) in
    (length_fits (without_work a.control.now a.samples.now a.nodes.now a.links.now) a.query.now (length a.trail.now) m.may_search.ready, m.may_search.inside)

pub search_list-seen-requires : goal.search_list-seen-requires
unfolding found_by
search_list-seen-requires c =
    let a = c.args in
    let t = labelled_tables a.control.now a.samples.now a.nodes.now a.links.now a.work.now a.labels.now in
    let m = may_list t a.k a.query.now a.trail.now a.list.now (sym c.in_ok-judge.ensures) in
    let given = without_work a.control.now a.samples.now a.nodes.now a.links.now in
    let ready = subst (λ (x : Trace). Ready given x (length a.trail.now)) (sym c.words_for-words.ensures) m.may_search.ready in
    record { ready = (ready, m.may_search.work_room); list = (m.k_low, m.list_room) }

pub returns-in_err-judge : goal.returns-in_err-judge
unfolding answer_by outcome_on effect_of beside_of
returns-in_err-judge c =
    let a = c.args in
    let t = labelled_tables a.control.now a.samples.now a.nodes.now a.links.now a.work.now a.labels.now in
    rw (passed c.from_residual.result _ c.from_residual.ensures.1) (ends_refused t (a.trail.now ∷ a.list.now ∷ []) (lists t a.k a.query.now a.trail.now a.list.now) _ (sym c.in_err-judge.ensures))

pub returns : goal.returns
unfolding found_by
returns c =
    let a = c.args in
    let t = labelled_tables a.control.now a.samples.now a.nodes.now a.links.now a.work.now a.labels.now in
    let nothing : first_of (lists t a.k a.query.now a.trail.now a.list.now).conditions ≡ none = sym c.in_ok-judge.ensures in
    let r = c.search_list-seen.result in
    let left = c.search_list-seen.new in
    let kept = c.search_list-seen.auto in
    let given = without_work a.control.now a.samples.now a.nodes.now a.links.now in
    let listed = subst
    (λ (x : Trace). ListSearched a.k given x a.work.now left.work a.trail.now left.trail a.list.now left.list r.listed r.out r.traces)
    c.words_for-words.ensures c.search_list-seen.ensures in
    list_answer a.control.now a.samples.now a.nodes.now a.links.now a.work.now a.labels.now a.k a.query.now
    a.trail.now a.list.now left.work left.trail left.list r.listed r.out r.traces kept.trail kept.list
    (may_list t a.k a.query.now a.trail.now a.list.now nothing).list_room listed nothing
