-- "A candidate parts the leaf if both sides receive a trace": exactly if its least figure is below its greatest. T is the sum of the two,
-- so that the least figure goes left, and the greatest goes right if it is the larger one; if the two are the same, all figures are, and
-- all go left.
use Prim.Native.Nat.{ℕ, ◌<◌}
use mathlib.Core.Path.{◌≡◌, refl, sym, subst}
use mathlib.Core.Bool.{Bool, true, false, not, ◌&&◌}
use mathlib.Core.List.{List, [], ◌∷◌, map, map-map}
use native.Mathlib.Omega.{arith}
use lib.ListN.{length, get_or}
use lib.IntN.{ℤ, pos, ◌+ℤ◌, ◌*ℤ◌}
use lib.Signed.{le_z, lt_z, lt_z_yes, lt_z_no}
use lib.Dec.{T, T_not, not_T}
use Rattle.integer.specs.Words.{least_ℤ, greatest_ℤ, those, chosen, is_empty}
use Rattle.integer.proofs.Order.{◌≤ℤ◌, ◌<ℤ◌}
use Rattle.integer.proofs.Facts.{reading, from, ◌&◌}
use Rattle.integer.proofs.Tests.{and_false}
use Rattle.integer.proofs.Lists.{In, first, later, in_map, InMap, of, from_map, from_those, in_those, least_ℤ_low, greatest_ℤ_high, least_ℤ_in, greatest_ℤ_in}
use Rattle.dstree.specs.Node.{figure_of, sends_left}
use Rattle.dstree.specs.Adding.{threshold_of, test_of, split_by, parts}
use Rattle.dstree.specs.Claims.{Parting}

-- ---- a side is empty exactly if nothing is in it

pub not_empty : {A : Type 0} {a : A} {l : List A} → In a l → is_empty l ≡ false
unfolding is_empty
not_empty first = refl
not_empty (later i) = refl

is_empty_lem : {A : Type 0} (l : List A) → ((a : A) → In a l → ⊥) → is_empty l ≡ true
unfolding is_empty
is_empty_lem [] h = refl
is_empty_lem (a ∷ l) h = absurd (h a first)

-- ---- both sides of a test by figures, the numbers having the figures g

module _ (g : ℕ → ℤ) where
  abbrev goes : List ℤ → ℕ → Bool
  goes figures k = le_z (pos 2 *ℤ g k) (least_ℤ figures +ℤ greatest_ℤ figures)

  abbrev both_sides : List ℤ → List ℕ → Bool
  both_sides figures numbers = not (is_empty (those (goes figures) numbers)) && not (is_empty (those (λ k. not (goes figures k)) numbers))

  module _ (numbers : List ℕ) where
    abbrev figures : List ℤ
    figures = map g numbers

    -- the least goes left
    some_left : InMap g (least_ℤ figures) numbers → least_ℤ figures <ℤ greatest_ℤ figures → is_empty (those (goes figures) numbers) ≡ false
    some_left (of k i e) h = not_empty (in_those (goes figures) i (below (least_ℤ figures) (greatest_ℤ figures) (g k) e h).le)
      where
        below : (a b v : ℤ) → a ≡ v → a <ℤ b → pos 2 *ℤ v ≤ℤ a +ℤ b
        below a b v e h = from (a ∷ b ∷ v ∷ []) (e & h) (search reading depth 30) (omega arith)

    -- a greatest that is larger goes right
    some_right : InMap g (greatest_ℤ figures) numbers → least_ℤ figures <ℤ greatest_ℤ figures → is_empty (those (λ k. not (goes figures k)) numbers) ≡ false
    some_right (of k i e) h = not_empty (in_those (λ j. not (goes figures j)) i (not_T (goes figures k) (λ t. above (least_ℤ figures) (greatest_ℤ figures) (g k) e h (record { le = t }))))
      where
        above : (a b v : ℤ) → b ≡ v → a <ℤ b → pos 2 *ℤ v ≤ℤ a +ℤ b → ⊥
        above a b v e h k = from (a ∷ b ∷ v ∷ []) (e & h & k) (search reading depth 30) (omega arith)

    -- if the greatest is no larger, nothing goes right
    none_right : greatest_ℤ figures ≤ℤ least_ℤ figures → is_empty (those (λ k. not (goes figures k)) numbers) ≡ true
    none_right h = is_empty_lem _ (λ k i. right k (from_those (λ j. not (goes figures j)) numbers i))
      where
        all_left : (a b v : ℤ) → b ≤ℤ a → a ≤ℤ v → v ≤ℤ b → pos 2 *ℤ v ≤ℤ a +ℤ b
        all_left a b v h p q = from (a ∷ b ∷ v ∷ []) (h & p & q) (search reading depth 30) (omega arith)

        right : (k : ℕ) → In k numbers × T (not (goes figures k)) → ⊥
        right k (i, t) = T_not (goes figures k) t (all_left (least_ℤ figures) (greatest_ℤ figures) (g k) h (least_ℤ_low (in_map g i)) (greatest_ℤ_high (in_map g i))).le

    sides_of : 0 < length figures → both_sides figures numbers ≡ lt_z (least_ℤ figures) (greatest_ℤ figures)
    sides_of some = by (lt_z (least_ℤ figures) (greatest_ℤ figures)) refl
      where
        by : (t : Bool) → lt_z (least_ℤ figures) (greatest_ℤ figures) ≡ t → both_sides figures numbers ≡ t
        by true e =
            let h : least_ℤ figures <ℤ greatest_ℤ figures = lt_z_yes (subst T (sym e) tt) in
            rw (some_left (from_map g numbers (least_ℤ_in figures some)) h, some_right (from_map g numbers (greatest_ℤ_in figures some)) h)
        by false e = rw (none_right (lt_z_no (subst (λ t. T (not t)) (sym e) tt))) (and_false (not (is_empty (those (goes figures) numbers))))

  sides : (numbers : List ℕ) → both_sides (map g numbers) numbers ≡ lt_z (least_ℤ (map g numbers)) (greatest_ℤ (map g numbers))
  unfolding those is_empty chosen
  sides [] = refl
  sides (k ∷ rest) = sides_of (k ∷ rest) (omega arith)

-- ---- a candidate

pub parting : Parting
unfolding split_by test_of threshold_of sends_left parts
parting stored numbers c =
    rw (map-map (figure_of c.figure c.on) (λ (number : ℕ). get_or stored number []) numbers) (sides (λ k. figure_of c.figure c.on (get_or stored k [])) numbers)
