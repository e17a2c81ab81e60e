-- `limiting::match_within` meets its contract: what the judge found says which way the call ends, and tables that refuse nothing may be
-- searched.
use mathlib.Core.Path.{sym, subst}
use mathlib.Core.List.{[], ◌∷◌}
use lib.ListN.{length}
use Rattle.dstree.specs.Measures.{Trace}
use Rattle.search.proofs.Facts.{length_fits}
use Rattle.dstree.specs.Book.{beside_of}
use Rattle.tables.specs.Tables.{labelled_tables}
use Rattle.tables.specs.Answers.{found_by}
use Rattle.calls.specs.Effects.{limits, effect_of, outcome_on}
use Rattle.tables.proofs.Passed.{passed}
use Rattle.calls.proofs.Ends.{ends_refused}
use Rattle.search.specs.Searched.{without_work, Ready, MatchedWithin}
use Rattle.limiting.specs.Answered.{answer_by}
use Rattle.limiting.proofs.Conditions.{may_search}
use Rattle.limiting.proofs.Answers.{found_answer}
use Rattle.limiting.proofs.match_within.Goals as goal

pub words_for-words-requires : goal.words_for-words-requires
unfolding found_by
words_for-words-requires c =
    let a = c.args in
    let t = labelled_tables a.control.now a.samples.now a.nodes.now a.links.now a.work.now a.labels.now in
    let m = may_search t a.most a.query.now a.trail.now (sym c.in_ok-judge.ensures) in
    (length_fits (without_work a.control.now a.samples.now a.nodes.now a.links.now) a.query.now (length a.trail.now) m.ready, m.inside)

pub search_within-seen-requires : goal.search_within-seen-requires
unfolding found_by
search_within-seen-requires c =
    let a = c.args in
    let t = labelled_tables a.control.now a.samples.now a.nodes.now a.links.now a.work.now a.labels.now in
    let m = may_search t a.most a.query.now a.trail.now (sym c.in_ok-judge.ensures) in
    (subst (λ (x : Trace). Ready (without_work a.control.now a.samples.now a.nodes.now a.links.now) x (length a.trail.now)) (sym c.words_for-words.ensures) m.ready, m.work_room)

pub returns-in_err-judge : goal.returns-in_err-judge
unfolding answer_by outcome_on effect_of beside_of
returns-in_err-judge c =
    let a = c.args in
    let t = labelled_tables a.control.now a.samples.now a.nodes.now a.links.now a.work.now a.labels.now in
    rw (passed c.from_residual.result _ c.from_residual.ensures.1) (ends_refused t (a.trail.now ∷ []) (limits t a.most a.query.now a.trail.now) _ (sym c.in_err-judge.ensures))

pub returns : goal.returns
unfolding found_by
returns c =
    let a = c.args in
    let r = c.search_within-seen.result in
    let left = c.search_within-seen.new in
    let found = subst
    (λ (x : Trace). MatchedWithin a.most (without_work a.control.now a.samples.now a.nodes.now a.links.now) x a.work.now left.work a.trail.now left.trail
    r.trace r.distance r.out r.traces r.unread) c.words_for-words.ensures c.search_within-seen.ensures in
    found_answer a.control.now a.samples.now a.nodes.now a.links.now a.work.now a.labels.now a.most
    a.query.now a.trail.now left.work left.trail r.trace r.distance r.out r.traces r.unread
    c.search_within-seen.auto.trail found (sym c.in_ok-judge.ensures)
