-- `clipping::match_clipped` meets its contract: what the judge found says which way the call ends, and of tables that refuse nothing the
-- possible matches may be listed.
use mathlib.Core.Path.{sym}
use mathlib.Core.List.{[], ◌∷◌}
use Rattle.dstree.specs.Book.{beside_of}
use Rattle.tables.specs.Tables.{labelled_tables}
use Rattle.tables.specs.Answers.{found_by}
use Rattle.calls.specs.Effects.{clips, effect_of, outcome_on}
use Rattle.tables.proofs.Passed.{passed}
use Rattle.calls.proofs.Ends.{ends_refused}
use Rattle.clipping.specs.Answered.{answer_by}
use Rattle.clipping.proofs.Conditions.{may_list}
use Rattle.clipping.proofs.Answers.{clipped_answer}
use Rattle.clipping.proofs.match_clipped.Goals as goal

pub list_possible-count-requires : goal.list_possible-count-requires
unfolding found_by
list_possible-count-requires c =
    let a = c.args in
    let t = labelled_tables a.control.now a.samples.now a.nodes.now a.links.now a.work.now a.labels.now in
    may_list t a.lows.now a.highs.now a.list.now (sym c.in_ok-judge.ensures)

pub returns-in_err-judge : goal.returns-in_err-judge
unfolding answer_by outcome_on effect_of beside_of
returns-in_err-judge c =
    let a = c.args in
    let t = labelled_tables a.control.now a.samples.now a.nodes.now a.links.now a.work.now a.labels.now in
    rw (passed c.from_residual.result _ c.from_residual.ensures.1) (ends_refused t (a.list.now ∷ []) (clips t a.lows.now a.highs.now a.list.now) _ (sym c.in_err-judge.ensures))

pub returns : goal.returns
unfolding found_by
returns c =
    let a = c.args in
    let left = c.list_possible-count.new in
    let made = c.list_possible-count.ensures in
    clipped_answer a.control.now a.samples.now a.nodes.now a.links.now a.work.now a.labels.now a.lows.now
    a.highs.now a.list.now left.work left.list c.list_possible-count.result made.value made.list made.zero
    (sym c.in_ok-judge.ensures)
