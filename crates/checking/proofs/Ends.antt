-- What the judge of tables leaves to the check: tables that are well formed and long enough, in which neither the test nor what it looks
-- at depends on search work. And the two ways that the check ends.
use mathlib.Core.Path.{◌≡◌, refl, sym, ◌∙◌}
use mathlib.Core.Bool.{Bool, not}
use mathlib.Core.Option.{none}
use mathlib.Core.List.{List, [], ◌∷◌}
use Prim.Native.Nat.{ℕ}
use lib.IntN.{ℤ}
use lib.Dec.{T}
use Rattle.dstree.specs.Refusals.{first_of, ◌refuses◌, loose_record}
use Rattle.dstree.specs.Book.{checking, beside_of, accepted}
use Rattle.dstree.specs.Checking.{is_exact}
use Rattle.dstree.proofs.Conditions.{first_none}
use Rattle.tables.specs.Tables.{Tables, tables, labelled_tables}
use Rattle.tables.specs.View.{tree_in, traces_in, kinds_named, well_formed}
use Rattle.tables.specs.Holds.{Long}
use Rattle.tables.specs.Answers.{found_by, made_conditions}
use Rattle.tables.specs.declared.Refusal.{Refusal}
use Rattle.std.specs.Prelude.{Result, Ok, Err, ⊤}
use Rattle.tables.proofs.Judged as judged
use Rattle.calls.specs.Outcome.{outcome}
use Rattle.calls.specs.Effects.{checks, effect_of, outcome_on}
use Rattle.calls.proofs.Ends.{ends_refused, ends_done}
use Rattle.checking.specs.Answered.{answer_by}

module _ (control : List ℕ) (samples nodes : List ℤ) (links work labels : List ℕ) where
  abbrev t : Tables
  t = labelled_tables control samples nodes links work labels

  pub sound : first_of (made_conditions (labelled_tables control samples nodes links work labels)) ≡ none
      → T (well_formed (tables control samples nodes links [])) × Long (tables control samples nodes links [])
  unfolding well_formed kinds_named tree_in
  sound e =
      let ok = judged.accepted t e in
      (ok.formed, ok.room.long)

  -- the condition that is left
  pub last_condition : (b : Bool) → first_of (made_conditions (labelled_tables control samples nodes links work labels)) ≡ none
      → b ≡ is_exact (traces_in (tables control samples nodes links [])) (tree_in (tables control samples nodes links []))
      → first_of (checks (labelled_tables control samples nodes links work labels)).conditions ≡ first_of (not b refuses loose_record ∷ [])
  unfolding checks tree_in traces_in
  last_condition b e is = first_none (made_conditions t) (not (is_exact (traces_in t) (tree_in t)) refuses loose_record ∷ []) e ∙ rw is

pub checked_answer : (t : Tables) (found : Result ⊤ Refusal) → found_by found ≡ first_of (checks t).conditions → outcome (answer_by found) t [] ≡ outcome_on checking t
unfolding found_by answer_by outcome_on effect_of beside_of checks
checked_answer t (Err why) q = ends_refused t [] (checks t) why (sym q)
checked_answer t (Ok _) q = ends_done t [] (checks t) accepted t [] (sym q) refl refl refl
