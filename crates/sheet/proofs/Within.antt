-- Samples within a limit, one more at a time; and those of many traces, all at once.
use mathlib.Core.Path.{◌≡◌, refl, ap, ◌∙◌, sym}
use mathlib.Core.Bool.{Bool, true, false, ◌&&◌}
use mathlib.Core.List.{List, [], ◌∷◌, ◌++◌, flatten}
use Prim.Native.Nat.{ℕ, zero, suc, ◌+◌, ◌≤◌, ◌<◌}
use native.Mathlib.Nat.{le_of_suc-le-suc}
use native.Mathlib.Numerals.{add-one}
use native.Mathlib.Omega.{arith}
use lib.Dec.{ltb}
use lib.IntN.{ℤ, pos}
use lib.Signed.{mag}
use lib.ListN.{length, take, get_or}
use borrow.Author.Tests.{lt-ltb, le-ltb}
use Rattle.integer.specs.Words.{every}
use Rattle.integer.proofs.Tests.{and_false}
use Rattle.dstree.specs.Measures.{are_within}

module _ (limit : ℕ) where
  more : (xs : List ℤ) (i : ℕ) → i < length xs → are_within limit (take i xs) ≡ true → mag (get_or xs i (pos 0)) < limit
      → are_within limit (take (suc i) xs) ≡ true
  unfolding every
  more [] i h e g = absurd (omega arith)
  more (x ∷ xs) zero h e g = rw (lt-ltb (mag x) limit g)
  more (x ∷ xs) (suc i) h e g = by (ltb (mag x) limit) (λ k. more xs i (le_of_suc-le-suc h) k g) e
    where
      by : (b : Bool) → (are_within limit (take i xs) ≡ true → are_within limit (take (suc i) xs) ≡ true) → b && are_within limit (take i xs) ≡ true
          → b && are_within limit (take (suc i) xs) ≡ true
      by true later k = later k
      by false later k = k

  pub within_more : (xs : List ℤ) (i : ℕ) → i < length xs → are_within limit (take i xs) ≡ true → mag (get_or xs i (pos 0)) < limit
      → are_within limit (take (i + 1) xs) ≡ true
  within_more xs i h e g = ap (λ (k : ℕ). are_within limit (take k xs)) (add-one i) ∙ more xs i h e g

  -- one that is not
  pub within_not : (xs : List ℤ) (i : ℕ) → i < length xs → limit ≤ mag (get_or xs i (pos 0)) → are_within limit xs ≡ false
  unfolding every
  within_not [] i h g = absurd (omega arith)
  within_not (x ∷ xs) zero h g = rw (le-ltb (mag x) limit g)
  within_not (x ∷ xs) (suc i) h g =
      ap (λ (b : Bool). ltb (mag x) limit && b) (within_not xs i (le_of_suc-le-suc h) g) ∙ and_false (ltb (mag x) limit)

  -- trace by trace, and all at once
  within_append : (a b : List ℤ) → are_within limit (a ++ b) ≡ (are_within limit a && are_within limit b)
  unfolding every
  within_append [] b = refl
  within_append (x ∷ a) b = by (ltb (mag x) limit) (within_append a b)
    where
      by : (t : Bool) → are_within limit (a ++ b) ≡ (are_within limit a && are_within limit b)
          → (t && are_within limit (a ++ b)) ≡ ((t && are_within limit a) && are_within limit b)
      by true e = e
      by false e = refl

  pub within_flatten : (xs : List (List ℤ)) → every (are_within limit) xs ≡ are_within limit (flatten xs)
  unfolding every flatten
  within_flatten [] = refl
  within_flatten (x ∷ xs) = ap (λ (b : Bool). are_within limit x && b) (within_flatten xs) ∙ sym (within_append x (flatten xs))
