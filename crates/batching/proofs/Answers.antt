-- What a batch's search leaves is what its definition has: the answer with its records, search work zeroed, the beginning of the trail.
use Prim.Native.Nat.{ℕ}
use mathlib.Core.Path.{◌≡◌, refl, ap, ◌∙◌}
use mathlib.Core.Option.{none}
use mathlib.Core.List.{List, [], ◌∷◌, ◌++◌}
use native.Mathlib.Omega.{arith}
use lib.IntN.{ℤ}
use lib.ListN.{length, take}
use borrow.Author.Tests.{eq-eqb, ne_eqb}
use Rattle.integer.specs.Words.{counting}
use Rattle.dstree.specs.Measures.{Trace}
use Rattle.dstree.specs.Matching.{Near}
use Rattle.dstree.specs.KNearest.{list_places}
use Rattle.dstree.specs.Refusals.{first_of}
use Rattle.dstree.specs.Batch.{Batch, queries_in, batch_by_steps}
use Rattle.dstree.specs.Book.{batching, batched, beside_of, answering, over}
use Rattle.tables.specs.Tables.{Tables, labelled_tables, measures_of}
use Rattle.tables.specs.View.{tree_in, traces_in}
use Rattle.tables.specs.Answers.{found_by, made_conditions}
use Rattle.tables.specs.declared.Refusal.{Refusal}
use Rattle.std.specs.Prelude.{Ok, Err}
use Rattle.reading.specs.Listed.{nears_in}
use Rattle.search.specs.Searched.{without_work}
use Rattle.calls.specs.Outcome.{outcome, unless_refused}
use Rattle.calls.specs.Effects.{batch_conditions_in, cleared, effect_of, outcome_on}
use Rattle.calls.proofs.Ends.{over_first}
use Rattle.batch_search.specs.Batched.{batch, BatchSearched}
use Rattle.batching.specs.Answered.{answer_by, list_by}

-- nothing is stored in any list
pub list_left : (bests : List ℕ) (list : List Near) → list_by 0 bests list ≡ list
unfolding list_by nears_in counting
list_left bests [] = refl
list_left bests (a ∷ list) = rw (ne_eqb (length (a ∷ list)) 0 (λ e. omega (arith, e)))

-- as many as there are
pub list_filled : (count : ℕ) (bests : List ℕ) (list : List Near) → length list ≡ count → list_by count bests list ≡ nears_in count bests
unfolding list_by
list_filled count bests list e = rw (eq-eqb (length list) count e)

module _ (control : List ℕ) (samples nodes : List ℤ) (links work labels : List ℕ) (many : ℕ) (run : Trace) (trail : List ℕ) (list : List Near) where
  abbrev lent : Tables
  lent = labelled_tables control samples nodes links work labels

  pub batch_refused : (why : Refusal) (bests : List ℕ)
      → first_of (made_conditions lent ++ batch_conditions_in lent many (length list) run trail) ≡ found_by (Err why)
      → outcome (answer_by (Err why) (list_by 0 bests list) trail) lent (trail ∷ list_places (list_by 0 bests list) ∷ [])
      ≡ outcome_on (batching many run trail list) lent
  unfolding answer_by outcome_on effect_of beside_of unless_refused found_by
  batch_refused why bests q = rw (q, list_left bests list)

  module _ (work' trail' bests : List ℕ) (out : ℕ) (trail_size : length trail' ≡ length trail)
      (s : BatchSearched (without_work control samples nodes links) run many work work' trail trail' bests out) where
    abbrev found : Batch
    found = batch (nears_in many bests) out (take out trail')

    by_steps : found ≡ batch_by_steps (traces_in lent) (tree_in lent) (queries_in (measures_of lent).n many run)
    unfolding traces_in tree_in
    by_steps = s.found

    trail_is : trail' ≡ over found.trail trail
    trail_is = over_first out trail trail' (omega (arith, s.within, trail_size)) s.trail_rest

    pub batch_answer : first_of (made_conditions lent ++ batch_conditions_in lent many (length list) run trail) ≡ none → length list ≡ many
        → outcome (answer_by (Ok out) (list_by many bests list) trail') (labelled_tables control samples nodes links work' labels)
        (trail' ∷ list_places (list_by many bests list) ∷ []) ≡ outcome_on (batching many run trail list) lent
    unfolding answer_by outcome_on effect_of beside_of unless_refused
    batch_answer q size =
        rw (q, list_filled many bests list size)
        (ap (λ (w : List ℕ). outcome (answering (batched found)) (labelled_tables control samples nodes links w labels)
        (trail' ∷ list_places (nears_in many bests) ∷ [])) s.work_zero
        ∙ ap (λ (l : List ℕ). outcome (answering (batched found)) (cleared lent) (l ∷ list_places (nears_in many bests) ∷ [])) trail_is
        ∙ ap (λ (b : Batch). outcome (answering (batched b)) (cleared lent) (over b.trail trail ∷ list_places b.answers ∷ [])) by_steps)
