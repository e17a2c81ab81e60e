-- A list written over from its start: nothing yet, one place more, its length, and all of it.
use mathlib.Core.Path.{◌≡◌, refl, sym, ◌∙◌, ap}
use Prim.Native.Nat.{ℕ, zero, suc, ◌+◌, ◌≤◌, ◌<◌}
use native.Mathlib.Numerals.{add-one}
use native.Mathlib.Omega.{arith}
use mathlib.Core.List.{List, [], ◌∷◌, ◌++◌, map, append-nil}
use lib.ListN.{length, set, drop, length-append, drop_of_length-le}
use lib.Seq.{drop-cons, set_at, append_snoc}
use Rattle.integer.specs.Words.{counting}
use Rattle.integer.proofs.Rows.{counting_more, map_append}
use Rattle.batch_answers.specs.Over.{first_values, with_first_values}

module _ {A : Type 0} (f : ℕ → A) where
  length_listed : (k : ℕ) → length (first_values f k) ≡ k
  unfolding first_values
  length_listed zero = refl
  length_listed (suc k) = simp length-append (rw (length_listed k) (add-one k))

  pub listed_is : (k : ℕ) → first_values f k ≡ map f (counting k 0)
  unfolding first_values counting
  listed_is zero = refl
  listed_is (suc k) =
      let z : 0 + k ≡ k = omega arith in
      ap (λ (l : List A). l ++ (f k ∷ [])) (listed_is k)
      ∙ sym (ap (map f) (counting_more k 0 ∙ ap (λ (j : ℕ). counting k 0 ++ (j ∷ [])) z) ∙ map_append f (counting k 0) (k ∷ []))

  module _ (list : List A) where
    pub over_none : with_first_values f 0 list ≡ list
    unfolding with_first_values first_values
    over_none = refl

    -- one place more
    pub over_more : (k : ℕ) → k < length list → set (with_first_values f k list) k (f k) ≡ with_first_values f (k + 1) list
    unfolding with_first_values first_values
    over_more k h =
        rw (add-one, drop-cons list k (f k) h)
        (set_at (first_values f k) _ _ _ k (length_listed k) ∙ sym (append_snoc (first_values f k) (f k) (drop (suc k) list)))

    -- every place
    pub over_all : (k : ℕ) → length list ≤ k → with_first_values f k list ≡ map f (counting k 0)
    unfolding with_first_values
    over_all k h =
        ap (λ (l : List A). first_values f k ++ l) (drop_of_length-le list h) ∙ append-nil (first_values f k) ∙ listed_is k
