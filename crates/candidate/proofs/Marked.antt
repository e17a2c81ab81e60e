-- Marked by a test, the numbers with mark 1 are its left side and those with mark 2 its right side.
use mathlib.Core.Path.{◌≡◌, refl, sym, subst, ◌∙◌}
use mathlib.Core.Bool.{Bool, true, false, not}
use mathlib.Core.Logic.{◌⊎◌, inl, inr}
use mathlib.Core.List.{List, [], ◌∷◌}
use Prim.Native.Nat.{ℕ, ◌<◌}
use lib.ListN.{length, get_or, set, length-set}
use lib.Seq.{get_or-set_same, get_or-set_other}
use lib.Dec.{eqb}
use Rattle.integer.specs.Words.{those}
use Rattle.integer.proofs.Lists.{In, later, in_nil, in_cons, same_or_not, those_agree}
use Rattle.leaf_figures.specs.Sides.{marked}
use Rattle.candidate.specs.Marking.{side_mark, marks_by}

left_code : (b : Bool) → eqb (side_mark b) 1 ≡ b
left_code true = refl
left_code false = refl

right_code : (b : Bool) → eqb (side_mark b) 2 ≡ not b
right_code true = refl
right_code false = refl

module _ (left : ℕ → Bool) where
  -- a mark that is right stays so
  kept : (l marks : List ℕ) (t : ℕ) → t < length marks → get_or marks t 0 ≡ side_mark (left t) → get_or (marks_by left marks l) t 0 ≡ side_mark (left t)
  kept [] marks t h e = e
  kept (u ∷ l) marks t h e = kept l (set marks u (side_mark (left u))) t (simp length-set h) (by (same_or_not u t))
    where
      by : Dec (u ≡ t) → get_or (set marks u (side_mark (left u))) t 0 ≡ side_mark (left t)
      by (yes p) = subst (λ (v : ℕ). get_or (set marks v (side_mark (left v))) t 0 ≡ side_mark (left t)) (sym p) (get_or-set_same marks t (side_mark (left t)) 0 h)
      by (no f) = get_or-set_other marks u t (side_mark (left u)) 0 (λ p. f (sym p)) ∙ e

  marked_at : (l marks : List ℕ) (t : ℕ) → ((u : ℕ) → In u l → u < length marks) → In t l → get_or (marks_by left marks l) t 0 ≡ side_mark (left t)
  marked_at [] marks t room i = absurd (in_nil i)
  marked_at (u ∷ l) marks t room i = by (in_cons i) (marked_at l (set marks u (side_mark (left u))) t (λ v j. simp length-set (room v (later j))))
    where
      by : (t ≡ u) ⊎ In t l → (In t l → get_or (marks_by left (set marks u (side_mark (left u))) l) t 0 ≡ side_mark (left t))
          → get_or (marks_by left (set marks u (side_mark (left u))) l) t 0 ≡ side_mark (left t)
      by (inl p) rec =
          kept l (set marks u (side_mark (left u))) t (simp length-set (room t i))
          (subst (λ (v : ℕ). get_or (set marks v (side_mark (left v))) t 0 ≡ side_mark (left t)) p (get_or-set_same marks t (side_mark (left t)) 0 (room t i)))
      by (inr j) rec = rec j

  module _ (l marks : List ℕ) (room : (u : ℕ) → In u l → u < length marks) where
    pub left_side : marked (marks_by left marks l) 1 l ≡ those left l
    left_side = those_agree (λ t. eqb (get_or (marks_by left marks l) t 0) 1) left l
        (λ t i. rw (marked_at l marks t room i) (left_code (left t)))

    pub right_side : marked (marks_by left marks l) 2 l ≡ those (λ t. not (left t)) l
    right_side = those_agree (λ t. eqb (get_or (marks_by left marks l) t 0) 2) (λ t. not (left t)) l
        (λ t i. rw (marked_at l marks t room i) (right_code (left t)))
