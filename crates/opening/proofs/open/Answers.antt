-- `opening::open` meets its contract: what the judge found says which of the two ways the call ends.
use mathlib.Core.Path.{refl, sym}
use mathlib.Core.List.{[]}
use Rattle.dstree.specs.Measures.{measures}
use Rattle.dstree.specs.Book.{done, beside_of}
use Rattle.tables.specs.Tables.{labelled_tables, lent_of}
use Rattle.tables.specs.Answers.{found_by, opening_conditions}
use Rattle.calls.specs.Effects.{opens, effect_of, outcome_on}
use Rattle.tables.proofs.Passed.{passed}
use Rattle.calls.proofs.Ends.{ends_refused, ends_done}
use Rattle.opening.specs.Opened.{answer_by}
use Rattle.opening.proofs.Answered.{opening_long_enough}
use Rattle.opening.proofs.open.Goals as goal

pub put_empty-requires : goal.put_empty-requires
unfolding found_by
put_empty-requires c =
    let a = c.args in
    let t = labelled_tables a.control.now a.samples.now a.nodes.now a.links.now a.work.now a.labels.now in
    let m = measures a.n a.capacity a.leaf_size in
    let nothing = sym (rw c.lengths.ensures at c.in_ok-judge_opening.ensures) in
    opening_long_enough (lent_of t) m nothing

pub returns-in_err-judge_opening : goal.returns-in_err-judge_opening
unfolding answer_by outcome_on effect_of beside_of opens opening_conditions
returns-in_err-judge_opening c =
    let a = c.args in
    let t = labelled_tables a.control.now a.samples.now a.nodes.now a.links.now a.work.now a.labels.now in
    let m = measures a.n a.capacity a.leaf_size in
    rw (passed c.from_residual.result _ c.from_residual.ensures.1) (ends_refused t [] (opens t m) _ (sym (rw c.lengths.ensures at c.in_err-judge_opening.ensures)))

pub returns : goal.returns
unfolding answer_by outcome_on effect_of beside_of opens opening_conditions found_by
returns c =
    let a = c.args in
    let t = labelled_tables a.control.now a.samples.now a.nodes.now a.links.now a.work.now a.labels.now in
    let m = measures a.n a.capacity a.leaf_size in
    let nothing = sym (rw c.lengths.ensures at c.in_ok-judge_opening.ensures) in
    ends_done t [] (opens t m) done _ [] nothing refl c.put_empty.ensures refl
