-- `adding::add_with` meets its contract: what the judge found says which of the two ways the call ends, and tables that refuse nothing take
-- the trace and its label.
use mathlib.Core.Path.{◌≡◌, refl, sym, ap, ◌∙◌}
use mathlib.Core.List.{List, [], ◌∷◌}
use Prim.Native.Nat.{ℕ}
use native.Mathlib.Omega.{arith}
use Rattle.dstree.specs.Labels.{label_at}
use Rattle.dstree.specs.Book.{beside_of, added}
use Rattle.tables.specs.Tables.{labelled_tables, with_labels, trace_count}
use Rattle.tables.specs.View.{labels_over, next_labelled}
use Rattle.tables.specs.Answers.{found_by}
use Rattle.tables.proofs.Passed.{passed}
use Rattle.insertion_memory.specs.Memory.{added_to}
use Rattle.insertion_memory.proofs.Meaning.{added_labels}
use Rattle.calls.specs.Effects.{adds, effect_of, outcome_on}
use Rattle.calls.proofs.Ends.{ends_refused, ends_done}
use Rattle.adding.specs.Answered.{answer_by}
use Rattle.adding.proofs.Conditions.{takes, has_place}
use Rattle.adding.proofs.add_with.Goals as goal

pub store-requires : goal.store-requires
unfolding found_by
store-requires c =
    let a = c.args in
    let t = labelled_tables a.control.now a.samples.now a.nodes.now a.links.now a.work.now a.labels.now in
    let x = a.trace.now in
    let l = label_at a.place in
    let nothing = sym (c.in_ok-judge.ensures l) in
    let number : c.wider-k.result ≡ trace_count t = c.wider-k.ensures ∙ c.field.ensures in
    omega (arith, number, has_place t x l nothing)

pub put_given-requires : goal.put_given-requires
unfolding found_by
put_given-requires c =
    let a = c.args in
    let t = labelled_tables a.control.now a.samples.now a.nodes.now a.links.now a.work.now a.labels.now in
    let x = a.trace.now in
    let l = label_at a.place in
    let nothing = sym (c.in_ok-judge.ensures l) in
    takes t x l nothing

pub returns-in_err-judge : goal.returns-in_err-judge
unfolding answer_by outcome_on effect_of beside_of
returns-in_err-judge c =
    let a = c.args in
    let t = labelled_tables a.control.now a.samples.now a.nodes.now a.links.now a.work.now a.labels.now in
    let x = a.trace.now in
    let l = label_at a.place in
    rw (passed c.from_residual.result _ c.from_residual.ensures.1) (ends_refused t [] (adds t x l) _ (sym (c.in_err-judge.ensures l)))

pub returns : goal.returns
unfolding answer_by outcome_on effect_of beside_of adds found_by
returns c =
    let a = c.args in
    let t = labelled_tables a.control.now a.samples.now a.nodes.now a.links.now a.work.now a.labels.now in
    let x = a.trace.now in
    let l = label_at a.place in
    let nothing = sym (c.in_ok-judge.ensures l) in
    let number : c.wider-k.result ≡ trace_count t = c.wider-k.ensures ∙ c.field.ensures in
    -- the label stands in the trace's place
    let label_stored : c.store.new.labels ≡ (next_labelled t (l ∷ [])).labels = c.store.ensures ∙ ap (λ (k : ℕ). labels_over a.labels.now k (l ∷ [])) number in
    ends_done t [] (adds t x l) _ _ [] nothing (ap added number)
    (ap (with_labels c.store.new.labels) (c.put_given.ensures a.work.now)
    ∙ (ap (λ (ls : List ℕ). with_labels ls (added_to (with_labels [] t) x)) label_stored
    ∙ sym (added_labels (next_labelled t (l ∷ [])) x))) refl
