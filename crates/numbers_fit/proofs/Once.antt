-- Marks and the rule that they decide: every node but 0 a child once.
use Prim.Native.Nat.{ℕ, ◌+◌, ◌-◌, ◌≤◌, ◌<◌}
use mathlib.Core.Path.{◌≡◌, refl, ap, subst}
use mathlib.Core.Bool.{Bool, true, false}
use mathlib.Core.Logic.{◌⊎◌, inl, inr}
use mathlib.Core.List.{List, [], ◌∷◌}
use native.Mathlib.Omega.{arith}
use lib.IntN.{ℤ}
use lib.ListN.{get_or, replicate, length-replicate}
use lib.Dec.{eqb}
use borrow.Author.Tests.{ne_eqb}
use Rattle.integer.specs.Words.{every, counting, times_in}
use Rattle.integer.proofs.Lists.{same_or_not, In, first, later, in_cons, in_nil, from_counting, InFlat, flat, from_flat}
use Rattle.integer.proofs.Times.{times_in_lem}
use Rattle.tables.specs.Layout.{kind_place, first_place, right_place}
use Rattle.tables.specs.Tables.{record_of}
use Rattle.tables.specs.View.{small_at}
use Rattle.records_fit.specs.Fits.{head_fits, AllFit}
use Rattle.records_fit.proofs.Loops.{all_passed, one_failed}
use Rattle.records_fit.proofs.Children.{kind_named, left_above, right_above, head_fits_at}
use Rattle.numbers_fit.specs.Marks.{MarksGrown, Twice}
use Rattle.numbers_fit.specs.Tests.{children_at, children_of_first, children_once, marked_once}
use Rattle.numbers_fit.proofs.Growth.{none_at}
use Rattle.numbers_fit.proofs.ByKind.{no_child, two_children}

-- no marks
abbrev pub no_marks : List ℕ
no_marks = replicate 8192 0

pub every_same : (p q : ℕ → Bool) (l : List ℕ) → ((x : ℕ) → In x l → p x ≡ q x) → every p l ≡ every q l
unfolding every
every_same p q [] h = refl
every_same p q (x ∷ l) h = rw (h x first, every_same p q l (λ y i. h y (later i)))

-- ---- so many numbers from `from` on, each once

module _ (numbers : List ℕ) (from count : ℕ) where
  abbrev pub once_each : Bool
  once_each = every (λ number. eqb (times_in number numbers) 1) (counting count from)

  pub again_fails : ((x : ℕ) → In x numbers → (from ≤ x) × (x < from + count)) → Twice no_marks numbers → false ≡ once_each
  again_fails inside t =
      let x = t.number in
      let more : 1 < times_in x numbers = omega (arith, t.again, none_at 8192 x) in
      let p = inside x (times_in_lem x numbers (omega arith)) in
      one_failed (λ number. eqb (times_in number numbers) 1) count from x p.0 p.1 (ne_eqb (times_in x numbers) 1 (λ e. omega (arith, more, e)))

  pub marked_is : {marks : List ℕ} → MarksGrown no_marks marks numbers → from + count ≤ 8192 → marked_once marks from count ≡ once_each
  marked_is {marks} g h = every_same (λ number. eqb (get_or marks number 0) 1) (λ number. eqb (times_in number numbers) 1) (counting count from) (λ x i. same x (from_counting count from i).1)
    where
      same : (x : ℕ) → x < from + count → eqb (get_or marks x 0) 1 ≡ eqb (times_in x numbers) 1
      same x l = let e : get_or marks x 0 ≡ times_in x numbers = omega (arith, g.at x (omega (arith, length-replicate {A = ℕ} 8192 0, l, h)), none_at 8192 x) in ap (λ (y : ℕ). eqb y 1) e

-- ---- children

module _ (nodes : List ℤ) (m : ℕ) (a : AllFit m nodes) where
  child_of : (x j : ℕ) → j < m → In x (children_at nodes j) → (1 ≤ x) × (x < 1 + (m - 1))
  child_of x j h i = by (same_or_not (small_at (record_of nodes j) kind_place) 0)
    where
      r : List ℤ
      r = record_of nodes j

      fits : head_fits a.n m j (record_of nodes j) ≡ true
      fits = head_fits_at a j h

      among : (l u : ℕ) → (j < l) × (l < m) → (j < u) × (u < m) → (x ≡ l) ⊎ In x (u ∷ []) → (1 ≤ x) × (x < 1 + (m - 1))
      among l u p q (inl e) = (omega (arith, p.0, e), omega (arith, p.1, e))
      among l u p q (inr k) = last (in_cons k)
        where
          last : (x ≡ u) ⊎ In x [] → (1 ≤ x) × (x < 1 + (m - 1))
          last (inl e) = (omega (arith, q.0, e), omega (arith, q.1, e))
          last (inr n) = absurd (in_nil n)

      by : Dec (small_at (record_of nodes j) kind_place ≡ 0) → (1 ≤ x) × (x < 1 + (m - 1))
      by (yes e) = absurd (in_nil (subst (In x) (no_child nodes j e) i))
      by (no f) =
          among (small_at (record_of nodes j) first_place) (small_at (record_of nodes j) right_place)
          (left_above a.n m j (record_of nodes j) fits f) (right_above a.n m j (record_of nodes j) fits f)
          (in_cons (subst (In x) (two_children nodes j f (kind_named a.n m j (record_of nodes j) fits)) i))

  pub children_inside : (x : ℕ) → In x (children_of_first nodes m) → (1 ≤ x) × (x < 1 + (m - 1))
  children_inside x i = by (from_flat (children_at nodes) (counting m 0) i)
    where
      by : InFlat (children_at nodes) x (counting m 0) → (1 ≤ x) × (x < 1 + (m - 1))
      by (flat j k l) = child_of x j (omega (arith, (from_counting m 0 k).1)) l

  pub children_again : Twice no_marks (children_of_first nodes m) → false ≡ children_once m nodes
  unfolding children_once
  children_again t = again_fails (children_of_first nodes m) 1 (m - 1) children_inside t

  pub children_marked : {marks : List ℕ} → MarksGrown no_marks marks (children_of_first nodes m)
      → marked_once marks 1 (m - 1) ≡ children_once m nodes
  unfolding children_once
  children_marked g = marked_is (children_of_first nodes m) 1 (m - 1) g (omega (arith, a.low))

pub no_children : (nodes : List ℤ) (m : ℕ) → m ≡ 0 → true ≡ children_once m nodes
unfolding children_once
no_children nodes m e = all_passed (λ number. eqb (times_in number (children_of_first nodes m)) 1) (m - 1) 1 (λ x g h. absurd (omega arith))
