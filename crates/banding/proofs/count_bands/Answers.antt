-- `banding::count_bands` meets its contract: what the judge found says which way the call ends, and of tables that refuse nothing a report
-- may be made.
use mathlib.Core.Path.{◌≡◌, sym, subst}
use mathlib.Core.List.{[], ◌∷◌}
use lib.ListN.{length}
use Rattle.dstree.specs.Book.{beside_of}
use Rattle.tables.specs.Tables.{labelled_tables}
use Rattle.tables.specs.Answers.{found_by}
use Rattle.calls.specs.Effects.{bands, effect_of, outcome_on}
use Rattle.tables.proofs.Passed.{passed}
use Rattle.calls.proofs.Ends.{ends_refused}
use Rattle.banding.specs.Answered.{answer_by}
use Rattle.banding.proofs.Conditions.{may_report}
use Rattle.banding.proofs.Answers.{band_answer}
use Rattle.banding.proofs.count_bands.Goals as goal
use Rattle.dstree.specs.Measures.{Trace}
use Rattle.dstree.specs.Bands.{band_report, report_places}
use Rattle.dstree.specs.Book.{over}
use Rattle.tables.specs.View.{tree_in}
use Rattle.band_counts.specs.Reported.{records_only, Reportable}
use Rattle.band_counts.proofs.Ready.{few_samples}

pub words_for-words-requires : goal.words_for-words-requires
unfolding found_by
words_for-words-requires c =
    let a = c.args in
    let t = labelled_tables a.control.now a.samples.now a.nodes.now a.links.now a.work.now a.labels.now in
    let m = may_report t a.query.now a.edges.now a.list.now (sym c.in_ok-judge.ensures) in
    (few_samples (records_only a.control.now a.nodes.now a.links.now) a.query.now a.edges.now _ _ m.ready, m.inside)

pub report-requires : goal.report-requires
unfolding found_by
report-requires c =
    let a = c.args in
    let t = labelled_tables a.control.now a.samples.now a.nodes.now a.links.now a.work.now a.labels.now in
    let m = may_report t a.query.now a.edges.now a.list.now (sym c.in_ok-judge.ensures) in
    subst (λ (x : Trace). Reportable (records_only a.control.now a.nodes.now a.links.now) x a.edges.now (length a.work.now) (length a.list.now))
    (sym c.words_for-words.ensures) m.ready

pub returns-in_err-judge : goal.returns-in_err-judge
unfolding answer_by outcome_on effect_of beside_of
returns-in_err-judge c =
    let a = c.args in
    let t = labelled_tables a.control.now a.samples.now a.nodes.now a.links.now a.work.now a.labels.now in
    rw (passed c.from_residual.result _ c.from_residual.ensures.1) (ends_refused t (a.list.now ∷ []) (bands t a.query.now a.edges.now a.list.now) _ (sym c.in_err-judge.ensures))

pub returns : goal.returns
unfolding found_by
returns c =
    let a = c.args in
    let left = c.report.new in
    let given = records_only a.control.now a.nodes.now a.links.now in
    let made = subst (λ (x : Trace). left.list ≡ over (report_places (band_report (tree_in given) x a.edges.now)) a.list.now)
    c.words_for-words.ensures c.report.ensures.list_after in
    band_answer a.control.now a.samples.now a.nodes.now a.links.now a.work.now a.labels.now a.query.now
    a.edges.now a.list.now left.work left.list made c.report.ensures.zero (sym c.in_ok-judge.ensures)
