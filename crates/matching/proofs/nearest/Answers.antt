-- `matching::nearest` meets its contract: what the judge found says which way the call ends, and tables that refuse nothing may be
-- searched. The words stand for the query.
use mathlib.Core.Path.{sym, subst}
use mathlib.Core.List.{[], ◌∷◌}
use lib.ListN.{length}
use Rattle.dstree.specs.Measures.{Trace}
use Rattle.dstree.specs.Book.{beside_of}
use Rattle.tables.specs.Tables.{labelled_tables}
use Rattle.tables.specs.Answers.{found_by}
use Rattle.tables.proofs.Passed.{passed}
use Rattle.search.specs.Searched.{without_work, Ready, Searched}
use Rattle.search.proofs.Facts.{length_fits}
use Rattle.calls.specs.Effects.{matches, effect_of, outcome_on}
use Rattle.calls.proofs.Ends.{ends_refused}
use Rattle.matching.specs.Answered.{answer_by}
use Rattle.matching.proofs.Conditions.{may_search}
use Rattle.matching.proofs.Answers.{found_answer}
use Rattle.matching.proofs.nearest.Goals as goal

pub words_for-words-requires : goal.words_for-words-requires
unfolding found_by
words_for-words-requires c =
    let a = c.args in
    let t = labelled_tables a.control.now a.samples.now a.nodes.now a.links.now a.work.now a.labels.now in
    let m = may_search t a.query.now a.trail.now (sym c.in_ok-judge.ensures) in
    (length_fits (without_work a.control.now a.samples.now a.nodes.now a.links.now) a.query.now (length a.trail.now) m.ready, m.inside)

pub search_all-seen-requires : goal.search_all-seen-requires
unfolding found_by
search_all-seen-requires c =
    let a = c.args in
    let t = labelled_tables a.control.now a.samples.now a.nodes.now a.links.now a.work.now a.labels.now in
    let m = may_search t a.query.now a.trail.now (sym c.in_ok-judge.ensures) in
    (subst (λ (x : Trace). Ready (without_work a.control.now a.samples.now a.nodes.now a.links.now) x (length a.trail.now)) (sym c.words_for-words.ensures) m.ready, m.work_room)

pub returns-in_err-judge : goal.returns-in_err-judge
unfolding answer_by outcome_on effect_of beside_of
returns-in_err-judge c =
    let a = c.args in
    let t = labelled_tables a.control.now a.samples.now a.nodes.now a.links.now a.work.now a.labels.now in
    rw (passed c.from_residual.result _ c.from_residual.ensures.1) (ends_refused t (a.trail.now ∷ []) (matches t a.query.now a.trail.now) _ (sym c.in_err-judge.ensures))

pub returns : goal.returns
unfolding found_by
returns c =
    let a = c.args in
    let r = c.search_all-seen.result in
    let left = c.search_all-seen.new in
    let found = subst
    (λ (x : Trace). Searched (without_work a.control.now a.samples.now a.nodes.now a.links.now) x a.work.now left.work a.trail.now left.trail
    r.trace r.distance r.out r.traces) c.words_for-words.ensures c.search_all-seen.ensures in
    found_answer a.control.now a.samples.now a.nodes.now a.links.now a.work.now a.labels.now a.query.now a.trail.now
    left.work left.trail r.trace r.distance r.out r.traces c.search_all-seen.auto.trail found (sym c.in_ok-judge.ensures)
