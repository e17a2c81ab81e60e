-- A number's digits: the last one, and those before it. A number of 64 bits has 20 of them at most.
use Rattle.std.specs.Prelude.{if◌then◌else◌}
use Prim.Native.Nat.{ℕ, zero, suc, ◌+◌, ◌/◌, ◌%◌, ◌^◌, ◌≤◌, ◌<◌}
use mathlib.Core.Path.{◌≡◌, refl, ◌∙◌, ap}
use mathlib.Core.Bool.{Bool, true, false}
use mathlib.Core.List.{List, [], ◌∷◌, ◌++◌}
use native.Mathlib.Omega.{arith}
use native.Mathlib.Nat.{lt_of_lt_of_le, pow-succ'}
use lib.ListN.{length, length-append}
use lib.Dec.{ltb, lit≤}
use borrow.Author.Tests.{lt-ltb, le-ltb, ltb-true, ltb-false}
use Rattle.dstree.specs.Program.{digits_from, decimal}

-- more fuel than the number is large makes no difference
enough : (f g v : ℕ) → v < f → v < g → digits_from f v ≡ digits_from g v
unfolding digits_from
enough zero g v h k = absurd (omega arith)
enough (suc f) zero v h k = absurd (omega arith)
enough (suc f) (suc g) v h k = by (ltb v 10) refl (λ a. enough f g (v / 10) (omega arith) (omega arith))
  where
    by : (b : Bool) → ltb v 10 ≡ b → (10 ≤ v → digits_from f (v / 10) ≡ digits_from g (v / 10))
        → (if b then [] else digits_from f (v / 10)) ++ ((48 + v % 10) ∷ []) ≡ (if b then [] else digits_from g (v / 10)) ++ ((48 + v % 10) ∷ [])
    by true e ih = refl
    by false e ih = ap (λ (l : List ℕ). l ++ ((48 + v % 10) ∷ [])) (ih (ltb-false v 10 e))

pub one_digit : (v : ℕ) → v < 10 → decimal v ≡ (48 + v % 10) ∷ []
unfolding decimal digits_from
one_digit v h = rw (lt-ltb v 10 h)

pub more_digits : (v : ℕ) → 10 ≤ v → decimal v ≡ decimal (v / 10) ++ ((48 + v % 10) ∷ [])
unfolding decimal digits_from
more_digits v h = rw (le-ltb v 10 h) (ap (λ (l : List ℕ). l ++ ((48 + v % 10) ∷ [])) (enough v (suc (v / 10)) (v / 10) (omega arith) (omega arith)))

-- one digit less without the last
pub fewer_digits : (v : ℕ) → 10 ≤ v → length (decimal v) ≡ length (decimal (v / 10)) + 1
fewer_digits v h = ap length (more_digits v h) ∙ length-append (decimal (v / 10)) ((48 + v % 10) ∷ [])

-- a number below 10 to the power of k has k digits at most, if k is not 0
pub few_digits : (k v : ℕ) → v < 10 ^ suc k → length (decimal v) ≤ suc k
few_digits zero v h = omega (arith, ap length (one_digit v (omega arith)))
few_digits (suc k) v h = by (ltb v 10) refl (few_digits k (v / 10) (omega (arith, pow-succ' 10 (suc k))))
  where
    by : (b : Bool) → ltb v 10 ≡ b → length (decimal (v / 10)) ≤ suc k → length (decimal v) ≤ suc (suc k)
    by true e ih = omega (arith, ap length (one_digit v (ltb-true v 10 e)))
    by false e ih = omega (arith, fewer_digits v (ltb-false v 10 e))

-- 64 bits hold 20 digits at most
pub most_digits : (v : ℕ) → v < 2 ^ 64 → length (decimal v) ≤ 20
most_digits v h = few_digits 19 v (lt_of_lt_of_le h (lit≤ tt))
