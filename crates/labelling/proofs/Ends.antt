-- The two ways that the bench's call ends, as the definition has them: a refusal, and what the trace's place says.
use Prim.Native.Nat.{ℕ, ◌<◌}
use mathlib.Core.Path.{◌≡◌, refl, sym, ap, ap₂, ◌∙◌}
use mathlib.Core.Bool.{not}
use mathlib.Core.Option.{none}
use mathlib.Core.List.{[]}
use lib.ListN.{get_or}
use lib.Dec.{ltb}
use borrow.Author.Tests.{not-false, ltb-true}
use Rattle.dstree.specs.Labels.{label, label_at}
use Rattle.dstree.specs.Refusals.{first_of, bad_recording}
use Rattle.dstree.specs.Book.{labelling, beside_of, labelled}
use Rattle.dstree.proofs.Conditions.{none_first, none_both}
use Rattle.tables.specs.Tables.{Tables, trace_count}
use Rattle.tables.specs.Answers.{found_by, made_conditions}
use Rattle.tables.specs.declared.Refusal.{Refusal}
use Rattle.std.specs.Prelude.{Ok, Err}
use Rattle.tables.proofs.Labels.{label_at_lem}
use Rattle.calls.specs.Outcome.{outcome}
use Rattle.calls.specs.Effects.{tells_label, effect_of, outcome_on}
use Rattle.calls.proofs.Ends.{ends_refused, ends_done}
use Rattle.labelling.specs.Answered.{answer_by}

module _ (t : Tables) (number : ℕ) where
  pub refused_answer : (why : Refusal) → first_of (tells_label t number).conditions ≡ found_by (Err why)
      → outcome (answer_by (Err why)) t [] ≡ outcome_on (labelling number) t
  unfolding answer_by outcome_on effect_of beside_of
  refused_answer why q = ends_refused t [] (tells_label t number) why q

  module _ (nothing : first_of (tells_label t number).conditions ≡ none) where
    inside : number < trace_count t
    unfolding tells_label
    inside =
        let own = (none_both (made_conditions t) _ nothing).1 in
        ltb-true number (trace_count t) (not-false _ (none_first (not (ltb number (trace_count t))) bad_recording [] own).0)

    pub told_answer : (code serial : ℕ) → code ≡ (label_at (get_or t.labels number 0)).code → serial ≡ (label_at (get_or t.labels number 0)).serial
        → outcome (answer_by (Ok record { code = code; serial = serial })) t [] ≡ outcome_on (labelling number) t
    unfolding answer_by outcome_on effect_of beside_of tells_label
    told_answer code serial code_is serial_is =
        ends_done t [] (tells_label t number) (labelled (label code serial)) t [] nothing
        (ap labelled (ap₂ label code_is serial_is ∙ sym (label_at_lem t number inside))) refl refl
