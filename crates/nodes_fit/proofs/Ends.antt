-- The ends of a node and of its child, in one pass: what is left of both, as far as the pass has come.
use Prim.Native.Nat.{ℕ, suc, ◌+◌, ◌-◌, ◌≤◌, ◌<◌}
use mathlib.Core.Path.{◌≡◌, sym, ◌∙◌, ap, ap₂, subst}
use mathlib.Core.Bool.{true, false}
use mathlib.Core.List.{List, [], ◌∷◌}
use native.Mathlib.Omega.{arith}
use lib.IntN.{ℤ}
use Rattle.integer.proofs.Lists.{Up, u_none, u_more}
use Rattle.dstree.specs.Node.{Segment, ends}
use Rattle.tables.specs.View.{segment_in}
use Rattle.records_fit.specs.Fits.{segments_in_from, ends_in, EndsRise}
use Rattle.nodes_fit.proofs.Merging.{all_among, same_front, other_front, short_among}
use Rattle.records_fit.proofs.Segments.{from_more, from_none, from_first, ends_length}

-- what is left, from segment i on
abbrev left : List ℤ → ℕ → ℕ → List Segment
left r count i = segments_in_from r (count - i) i

pub record Merged (child : List ℤ) (count : ℕ) (parent : List ℤ) (many p i : ℕ) : Type 0 where
  pub child_few : i ≤ count
  pub parent_few : p ≤ many
  pub room : many + i ≤ count + p
  pub whole : ends_in (segments_in_from child count 0) (segments_in_from parent many 0) ≡ ends_in (left child count i) (left parent many p)
  pub child_rises : Up 0 (ends (left child count i))
  pub parent_rises : Up 0 (ends (left parent many p))

pub merged_first : (child : List ℤ) (count : ℕ) (parent : List ℤ) (many : ℕ) → EndsRise child count → EndsRise parent many → many ≤ count
    → Merged child count parent many 0 0
merged_first child count parent many c d h = record {
  child_few = omega arith;
  parent_few = omega arith;
  room = omega arith;
  whole = sym (ap₂ ends_in (from_first child count) (from_first parent many));
  child_rises = subst (λ (l : List Segment). Up 0 (ends l)) (sym (from_first child count)) c.rise;
  parent_rises = subst (λ (l : List Segment). Up 0 (ends l)) (sym (from_first parent many)) d.rise;
}

-- of numbers that rise, those behind the first
behind : {a k : ℕ} {l : List ℕ} → Up k (a ∷ l) → Up (suc a) l
behind (u_more h u) = u

weaker : {k : ℕ} {l : List ℕ} → Up k l → Up 0 l
weaker {l = []} u = u_none
weaker {l = a ∷ l} (u_more h u) = u_more {k = 0} {a = a} (omega arith) u

-- the child has fewer ends
pub too_few : (child : List ℤ) (count : ℕ) (parent : List ℤ) (many : ℕ) → EndsRise child count → EndsRise parent many → count < many
    → false ≡ ends_in (segments_in_from child count 0) (segments_in_from parent many 0)
too_few child count parent many c d h =
    sym (short_among (ends (segments_in_from child count 0)) (ends (segments_in_from parent many 0)) c.rise d.rise (omega (arith, ends_length child count 0, ends_length parent many 0, h)))

module _ {child : List ℤ} {count : ℕ} {parent : List ℤ} {many p i : ℕ} (w : Merged child count parent many p i) where
  -- the parent has none left
  pub merged_done : many ≤ p → true ≡ ends_in (segments_in_from child count 0) (segments_in_from parent many 0)
  merged_done h = sym (w.whole ∙ (ap (ends_in (left child count i)) (from_none parent many p h) ∙ all_among (ends (left child count i))))

  module _ (h : p < many) where
    -- the child has an end left too
    pub more_left : i < count
    more_left = omega (arith, w.room, h)

    abbrev x : ℕ
    x = (segment_in child i).end

    abbrev y : ℕ
    y = (segment_in parent p).end

    abbrev xs : List Segment
    xs = left child count (i + 1)

    abbrev ys : List Segment
    ys = left parent many (p + 1)

    child_up : Up 0 (x ∷ ends xs)
    child_up = subst (λ (l : List Segment). Up 0 (ends l)) (from_more child count i more_left) w.child_rises

    parent_up : Up 0 (y ∷ ends ys)
    parent_up = subst (λ (l : List Segment). Up 0 (ends l)) (from_more parent many p h) w.parent_rises

    fronts : ends_in (segments_in_from child count 0) (segments_in_from parent many 0)
        ≡ ends_in (segment_in child i ∷ xs) (segment_in parent p ∷ ys)
    fronts = w.whole ∙ ap₂ ends_in (from_more child count i more_left) (from_more parent many p h)

    pub merged_same : x ≡ y → Merged child count parent many (p + 1) (i + 1)
    merged_same e = record {
      child_few = omega (arith, more_left);
      parent_few = omega arith;
      room = omega (arith, w.room);
      whole = fronts ∙ same_front x y (ends xs) (ends ys) e (behind parent_up);
      child_rises = weaker (behind child_up);
      parent_rises = weaker (behind parent_up);
    }

    module _ (f : x ≡ y → ⊥) where
      passed : ends_in (segments_in_from child count 0) (segments_in_from parent many 0) ≡ ends_in xs (left parent many p)
      passed =
          fronts
          ∙ (other_front x y (ends xs) (ends ys) f (behind child_up) (behind parent_up)
          ∙ ap (ends_in xs) (sym (from_more parent many p h)))

      -- the child's end is one to spare
      pub merged_other : many + i < count + p → Merged child count parent many p (i + 1)
      merged_other g = record {
        child_few = omega (arith, more_left);
        parent_few = w.parent_few;
        room = omega (arith, g);
        whole = passed;
        child_rises = weaker (behind child_up);
        parent_rises = w.parent_rises;
      }

      -- there is none to spare
      pub merged_short : count + p ≤ many + i → false ≡ ends_in (segments_in_from child count 0) (segments_in_from parent many 0)
      merged_short g =
          sym (passed ∙ short_among (ends xs) (ends (left parent many p)) (behind child_up) w.parent_rises
          (omega (arith, ends_length child (count - (i + 1)) (i + 1), ends_length parent (many - p) p, g, h, w.room)))
