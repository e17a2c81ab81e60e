-- The two ways that a call ends, by what its judge found: a refusal with everything as it was, or its work done. And a slice whose first
-- places were written.
use Prim.Native.Nat.{ℕ, ◌≤◌}
use Rattle.std.specs.Prelude.{Err}
use mathlib.Core.Path.{◌≡◌, sym, ap, ◌∙◌}
use mathlib.Core.Option.{none}
use mathlib.Core.List.{List, ◌++◌}
use lib.ListN.{length, take, drop, take-append-drop}
use lib.Seq.{length-take-le}
use Rattle.dstree.specs.Refusals.{first_of}
use Rattle.dstree.specs.Book.{Result, refusing, answering, over}
use Rattle.tables.specs.Tables.{Tables}
use Rattle.tables.specs.Answers.{word_of, found_by}
use Rattle.tables.specs.declared.Refusal.{Refusal}
use Rattle.calls.specs.Outcome.{Effect, outcome, unless_refused, outcome_of}

module _ (before : Tables) (beside : List (List ℕ)) (e : Effect) where
  pub ends_refused : (why : Refusal) → first_of e.conditions ≡ found_by (Err why) → outcome (refusing (word_of why)) before beside ≡ outcome_of before beside e
  unfolding found_by unless_refused
  ends_refused why q = rw q

  pub ends_done : (result : Result) (after : Tables) (left : List (List ℕ))
      → first_of e.conditions ≡ none → result ≡ e.result → after ≡ e.after → left ≡ e.beside
      → outcome (answering result) after left ≡ outcome_of before beside e
  unfolding unless_refused
  ends_done result after left q r a l = rw (q, ← r, ← a, ← l)

-- "places after them keep their contents"
pub over_first : {A : Type 0} (n : ℕ) (l l' : List A) → n ≤ length l' → drop n l' ≡ drop n l → l' ≡ over (take n l') l
over_first {A} n l l' h e =
    sym (ap (λ (i : ℕ). take n l' ++ drop i l) (length-take-le n l' h)
    ∙ (ap (λ (r : List A). take n l' ++ r) (sym e) ∙ take-append-drop n l'))
