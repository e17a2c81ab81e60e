-- What storing leaves, and that a batch in an array, stored in the caller's list, is the batch as its caller sees it.
use Rattle.std.specs.Prelude.{if◌then◌else◌}
use mathlib.Core.Path.{◌≡◌, refl, ap, ◌∙◌}
use Prim.Native.Nat.{ℕ}
use native.Mathlib.Omega.{arith}
use mathlib.Core.Bool.{Bool, true, false}
use mathlib.Core.List.{List, [], ◌∷◌, map}
use lib.ListN.{length, length-map}
use lib.Dec.{eqb}
use borrow.Author.Tests.{eq-eqb, ne_eqb, eqb-true}
use Rattle.integer.specs.Words.{counting}
use Rattle.dstree.specs.Measures.{Trace}
use Rattle.dstree.specs.Matching.{Near}
use Rattle.dstree.specs.KNearest.{list_places}
use Rattle.dstree.specs.Book as book
use Rattle.tables.specs.Tables.{Tables}
use Rattle.reading.specs.Listed.{record_at, nears_in}
use Rattle.calls.specs.Outcome.{outcome}
use Rattle.calls.specs.Effects.{outcome_on}
use Rattle.batching.specs.Answered.{answer_by, answer_at, list_by, list_after}
use Rattle.batching.specs.declared.AnswerRecord.{AnswerRecord}
use Rattle.batching.specs.declared.BatchFound.{BatchFound}
use Rattle.batch_answers.specs.Over.{with_first_values}
use Rattle.batch_answers.specs.AnswerRecords.{StoreOutcome, store_outcome, store_if, store_of, as_near, nears_of}
use Rattle.batch_answers.proofs.Over.{over_all}

-- ---- what the test of `store` leads to

module _ (found : BatchFound) (list : List AnswerRecord) where
  pub left_alone : (length list ≡ found.count → ⊥) → store_outcome false list ≡ store_of found list
  unfolding store_of
  left_alone other = rw (ne_eqb (length list) found.count other)

  pub all_stored : length list ≡ found.count → store_outcome true (with_first_values (answer_at found) (length list) list) ≡ store_of found list
  unfolding store_of
  all_stored same = rw (eq-eqb (length list) found.count same, same)

-- ---- what is stored, as the definitions have it

map_map : {A B C : Type 0} (f : B → C) (g : A → B) (h : A → C) → ((a : A) → f (g a) ≡ h a) → (l : List A) → map f (map g l) ≡ map h l
map_map f g h e [] = refl
map_map f g h e (a ∷ l) = rw (e a, map_map f g h e l)

list_stored : (found : BatchFound) (list : List AnswerRecord) → nears_of (store_of found list).list ≡ list_after found (nears_of list)
unfolding store_of list_by nears_in
list_stored found list = rw (length-map list as_near) (by (eqb (length list) found.count) refl)
  where
    by : (b : Bool) → eqb (length list) found.count ≡ b
        → nears_of (store_if b found list).list ≡ (if b then map (record_at found.bests) (counting found.count 0) else nears_of list)
    by false e = refl
    by true e =
        ap nears_of (over_all (answer_at found) list found.count (omega (arith, eqb-true (length list) found.count e)))
        ∙ map_map as_near (answer_at found) (record_at found.bests) (λ i. refl) (counting found.count 0)

-- ---- a batch and its list

-- what is left in the caller's list, with what the search for that list's length left, is the batch
pub whole : (before after : Tables) (many : ℕ) (run : Trace) (trail trail' : List ℕ) (list list' : List AnswerRecord) (found : BatchFound)
    (done : Bool)
    → ((l : List Near) → length l ≡ length list
    → outcome (answer_by found.outcome (list_after found l) trail') after (trail' ∷ list_places (list_after found l) ∷ [])
    ≡ outcome_on (book.batching many run trail l) before)
    → store_outcome done list' ≡ store_of found list
    → outcome (answer_by found.outcome (nears_of list') trail') after (trail' ∷ list_places (nears_of list') ∷ [])
    ≡ outcome_on (book.batching many run trail (nears_of list)) before
whole before after many run trail trail' list list' found done c s =
    let l : nears_of list' ≡ list_after found (nears_of list) = ap (λ (x : StoreOutcome). nears_of x.list) s ∙ list_stored found list in
    rw l (c (nears_of list) (length-map list as_near))
