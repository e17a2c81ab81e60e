-- Small words that the definitions above take for granted: a choice, squares, rounding up, the least and the greatest, lists.
use Rattle.std.specs.Prelude.{ℕ, zero, suc, ◌+◌, ◌*◌, ◌-◌, ◌/◌, min, max, Bool, true, false, ◌&&◌, ℤ, pos, negsuc, nat_abs, eqb, if◌then◌else◌}
use mathlib.Core.List.{List, [], ◌∷◌, foldl}
use Rattle.std.specs.Int.Signed.{lt_z}

-- ---- numbers

-- the square of a number with a sign
abbrev pub square : ℤ → ℕ
square z = nat_abs z * nat_abs z

-- two numbers with a sign are the same
abbrev pub same_ℤ : ℤ → ℤ → Bool
same_ℤ (pos a) (pos b) = eqb a b
same_ℤ (pos a) (negsuc b) = false
same_ℤ (negsuc a) (pos b) = false
same_ℤ (negsuc a) (negsuc b) = eqb a b

-- a / w, rounded up
unfoldable pub rounded_up : ℕ → ℕ → ℕ
rounded_up a w = (a + (w - 1)) / w

-- the lesser and the greater of two
abbrev pub lesser : ℤ → ℤ → ℤ
lesser a b = if lt_z b a then b else a

abbrev pub greater : ℤ → ℤ → ℤ
greater a b = if lt_z a b then b else a

-- ---- lists

-- the total of numbers
unfoldable pub total : List ℕ → ℕ
total [] = 0
total (x ∷ xs) = x + total xs

-- k numbers from a on: a, a + 1, ..
unfoldable pub counting : ℕ → ℕ → List ℕ
counting zero a = []
counting (suc k) a = a ∷ counting k (suc a)

module _ {A : Type 0} where
  -- the elements that pass a test, in their order
  unfoldable pub those : (A → Bool) → List A → List A
  those passes [] = []
  those passes (x ∷ xs) = let rest = those passes xs in if passes x then x ∷ rest else rest

  -- every element passes a test
  unfoldable pub every : (A → Bool) → List A → Bool
  every passes [] = true
  every passes (x ∷ xs) = passes x && every passes xs

  -- what a choice between two leaves of a list, from the left on; `other` if the list is empty
  unfoldable pub chosen : (A → A → A) → A → List A → A
  chosen choice other [] = other
  chosen choice other (x ∷ xs) = foldl choice x xs

  unfoldable pub is_empty : List A → Bool
  is_empty [] = true
  is_empty (x ∷ xs) = false

-- the least and the greatest of some (of none: 0)
abbrev pub least : List ℕ → ℕ
least = chosen min 0

abbrev pub greatest : List ℕ → ℕ
greatest = chosen max 0

abbrev pub least_ℤ : List ℤ → ℤ
least_ℤ = chosen lesser (pos 0)

abbrev pub greatest_ℤ : List ℤ → ℤ
greatest_ℤ = chosen greater (pos 0)

-- a number is in a list
unfoldable pub is_in : ℕ → List ℕ → Bool
is_in k [] = false
is_in k (x ∷ xs) = if eqb k x then true else is_in k xs

-- how often a number is in a list
unfoldable pub times_in : ℕ → List ℕ → ℕ
times_in k [] = 0
times_in k (x ∷ xs) = let more = times_in k xs in if eqb k x then suc more else more

-- two lists of numbers are the same
unfoldable pub same : List ℕ → List ℕ → Bool
same [] [] = true
same [] (y ∷ ys) = false
same (x ∷ xs) [] = false
same (x ∷ xs) (y ∷ ys) = eqb x y && same xs ys

-- the last number of a list (of none: 0)
abbrev pub last_of : List ℕ → ℕ
last_of = foldl (λ before now. now) 0
