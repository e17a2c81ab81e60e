-- One step of a loop, over variables: the next number of a list, a figure with a sign compared by its bits, a field that holds a small
-- number.
use Rattle.std.specs.Prelude.{if◌then◌else◌}
use mathlib.Core.Path.{◌≡◌, refl, sym, ap, subst, ◌∙◌}
use mathlib.Core.Bool.{Bool, true, false, ◌&&◌}
use mathlib.Core.List.{List, ◌∷◌}
use Prim.Native.Nat.{ℕ, ◌+◌, ◌≤◌, ◌<◌}
use native.Mathlib.Omega.{arith}
use lib.IntN.{ℤ, pos, negsuc}
use lib.ListN.{length, get_or, drop, length-drop}
use lib.Seq.{get_or-drop, drop-drop}
use lib.Dec.{T, ltb, eqb}
use Rattle.std.specs.Bool.{one_answer}
use Rattle.std.specs.Ordering.{int_eq}
use Rattle.std.proofs.lemmas.Bool.Decides.{Decides-int_eq}
use borrow.Author.Tests.{ltb-false}
use Rattle.integer.proofs.Tests.{is_true, test_true}
use Rattle.integer.specs.Words.{same_ℤ}
use Rattle.integer.proofs.Ring.{same_ℤ_eq}
use Rattle.dstree.proofs.Recomputed.{same_ℤ_refl}
use Rattle.dstree.specs.Checking.{same_figures}
use Rattle.tables.specs.View.{small_of}
use Rattle.leaf_figures.specs.Sides.{segment_by}
use Rattle.leaf_figures.specs.declared.sides.SideRange.{SideRange}

-- a list from place d on starts with t
pub record NextIs (l : List ℕ) (d t : ℕ) (rest : List ℕ) : Type 0 where
  pub inside : d < length l
  pub is : get_or l d 0 ≡ t
  pub on : drop (d + 1) l ≡ rest

pub next_is : (l : List ℕ) (d t : ℕ) (rest : List ℕ) → drop d l ≡ t ∷ rest → NextIs l d t rest
next_is l d t rest e =
    let size : length (drop d l) ≡ length (t ∷ rest) = ap length e in
    let z : d + 0 ≡ d = omega arith in
    record {
      inside = omega (arith, size, length-drop d l);
      is = ap (λ (x : ℕ). get_or l x 0) (sym z) ∙ (sym (get_or-drop d l 0 0) ∙ ap (λ (m : List ℕ). get_or m 0 0) e);
      on = sym (drop-drop 1 d l) ∙ ap (drop 1) e;
    }

-- two figures with a sign are the same: the library's test is document 02's
same_int : (x y : ℤ) → int_eq x y ≡ same_ℤ x y
same_int x y = one_answer (int_eq x y) (same_ℤ x y) (Decides-int_eq x y) (
  (λ e. same_ℤ_eq x y (is_true e)),
  (λ e. test_true (same_ℤ x y) (subst (λ (z : ℤ). T (same_ℤ x z)) e (same_ℤ_refl x))),
)

-- all four are
abbrev pub equal : SideRange → SideRange → Bool
equal a b =
    int_eq a.least_sum b.least_sum && (int_eq a.greatest_sum b.greatest_sum && (eqb a.least_scatter b.least_scatter && eqb a.greatest_scatter b.greatest_scatter))

in_turn : (p q r s : Bool) → p && (q && (r && s)) ≡ p && q && r && s
in_turn true true true s = refl
in_turn true true false s = refl
in_turn true false r s = refl
in_turn false q r s = refl

pub same_by : (e d : ℕ) (a b : SideRange) → equal a b ≡ same_figures (segment_by e a) (segment_by d b)
unfolding same_figures
same_by e d a b =
    rw (same_int a.least_sum b.least_sum, same_int a.greatest_sum b.greatest_sum)
    (in_turn (same_ℤ a.least_sum b.least_sum) (same_ℤ a.greatest_sum b.greatest_sum) (eqb a.least_scatter b.least_scatter) (eqb a.greatest_scatter b.greatest_scatter))

-- what a field reads as, at most
pub small_most : (z : ℤ) → small_of z ≤ 65536
small_most (pos n) = by (ltb 65535 n) refl
  where
    by : (t : Bool) → ltb 65535 n ≡ t → (if t then 65536 else n) ≤ 65536
    by true e = omega arith
    by false e = omega (arith, ltb-false 65535 n e)
small_most (negsuc n) = omega arith
