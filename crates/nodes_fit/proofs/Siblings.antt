-- Two children with the same ends, in one loop: what is known of one of them as far as the loop has come.
use Prim.Native.Nat.{ℕ, ◌+◌, ◌-◌, ◌≤◌, ◌<◌}
use mathlib.Core.Path.{◌≡◌, sym, ◌∙◌, ap, subst}
use mathlib.Core.Bool.{true}
use mathlib.Core.Logic.{◌⊎◌, inl, inr}
use mathlib.Core.List.{List}
use native.Mathlib.Omega.{arith}
use lib.IntN.{ℤ}
use borrow.Author.Tests.{eq-eqb}
use Rattle.integer.specs.Words.{counting, is_in}
use Rattle.integer.proofs.Lists.{same_or_not, In, in_is, in_map, InMap, of, from_map, in_counting, from_counting, every_of}
use Rattle.dstree.specs.Node.{Segment, ends}
use Rattle.tables.specs.Layout.{segments_place}
use Rattle.tables.specs.View.{small_at, segment_in, segments_in}
use Rattle.records_fit.specs.Fits.{segments_in_from, rest_holds, ends_in, Behind, Under}
use Rattle.records_fit.proofs.Limits.{passing}
use Rattle.records_fit.proofs.Segments.{from_more, from_none, from_first, rest_next, rest_done, some_hold}

-- the ends of the first `count` segments are each the end of one of them
module _ (r : List ℤ) (count : ℕ) where
  end_in : (i : ℕ) → i < count → In (segment_in r i).end (ends (segments_in_from r count 0))
  end_in i h = in_map (λ (s : Segment). s.end) (in_map (segment_in r) (in_counting count 0 i (omega arith) (omega arith)))

  each_end : (P : ℕ → Type 0) → ((i : ℕ) → i < count → P (segment_in r i).end) → (e : ℕ) → In e (ends (segments_in_from r count 0)) → P e
  each_end P h e k = by (from_map (λ (s : Segment). s.end) (segments_in_from r count 0) k)
    where
      at : (s : Segment) → e ≡ s.end → InMap (segment_in r) s (counting count 0) → P e
      at s q (of i j p) = subst P (sym (q ∙ ap (λ (x : Segment). x.end) p)) (h i (omega (arith, (from_counting count 0 j).1)))

      by : InMap (λ (s : Segment). s.end) e (segments_in_from r count 0) → P e
      by (of s j q) = at s q (from_map (segment_in r) (counting count 0) j)

-- the first i segments of a child were passed, the last of them ending at `before`, and the first p ends of its parent were met
pub record Passing (n count : ℕ) (child parent : List ℤ) (before p i : ℕ) : Type 0 where
  pub rest : rest_holds n before (segments_in_from child (count - i) i) ≡ rest_holds n 0 (segments_in_from child count 0)
  pub met : (x : ℕ) → x < p → In (segment_in parent x).end (ends (segments_in_from child count 0))

module _ (n count : ℕ) (child parent : List ℤ) where
  pub passing_first : Passing n count child parent 0 0 0
  passing_first = record { rest = ap (rest_holds n 0) (from_first child count); met = λ x h. absurd (omega arith) }

  module _ {before p i : ℕ} (w : Passing n count child parent before p i) where
    -- a segment more
    pub passing_more : i < count → Behind before (segment_in child i) → {end q : ℕ} → end ≡ (segment_in child i).end
        → (q ≡ p) ⊎ ((q ≡ p + 1) × ((segment_in parent p).end ≡ end)) → Passing n count child parent end q (i + 1)
    passing_more h b {end} {q} e m = record { rest = subst (λ (x : ℕ). rest_holds n x rest ≡ rest_holds n 0 (segments_in_from child count 0)) (sym e) next; met = λ x g. by m x g }
      where
        rest : List Segment
        rest = segments_in_from child (count - (i + 1)) (i + 1)

        next : rest_holds n (segment_in child i).end rest ≡ rest_holds n 0 (segments_in_from child count 0)
        next = sym (rest_next n before (segment_in child i) rest b.above b.figures) ∙ (sym (ap (rest_holds n before) (from_more child count i h)) ∙ w.rest)

        new : (segment_in parent p).end ≡ end → (x : ℕ) → x < p + 1 → Dec (x ≡ p) → In (segment_in parent x).end (ends (segments_in_from child count 0))
        new f x g (yes z) =
            subst (λ (y : ℕ). In y (ends (segments_in_from child count 0))) (sym (ap (λ (y : ℕ). (segment_in parent y).end) z ∙ (f ∙ e))) (end_in child count i h)
        new f x g (no z) = w.met x (omega (arith, g, z))

        by : (q ≡ p) ⊎ ((q ≡ p + 1) × ((segment_in parent p).end ≡ end)) → (x : ℕ) → x < q → In (segment_in parent x).end (ends (segments_in_from child count 0))
        by (inl z) x g = w.met x (omega (arith, g, z))
        by (inr z) x g = new z.1 x (omega (arith, g, z.0)) (same_or_not x p)

    -- no segment more
    pub passing_all : count ≡ small_at child segments_place → p ≡ small_at parent segments_place → 1 ≤ count → count ≤ 16 → count ≤ i → before ≡ n → Under n child parent
    unfolding segments_in
    passing_all e f g h l z = record {
      hold = some_hold n child (omega (arith, e, g)) (omega (arith, e, h)) ∙ (ap (λ (x : ℕ). rest_holds n 0 (segments_in_from child x 0)) (sym e) ∙ holds);
      keeps = subst (λ (x : ℕ). ends_in (segments_in_from child x 0) (segments_in_from parent (small_at parent segments_place) 0) ≡ true) e
          (subst (λ (x : ℕ). ends_in (segments_in_from child count 0) (segments_in_from parent x 0) ≡ true) f keeps);
    }
      where
        holds : rest_holds n 0 (segments_in_from child count 0) ≡ true
        holds = sym w.rest ∙ (ap (rest_holds n before) (from_none child count i l) ∙ (rest_done n before ∙ eq-eqb before n z))

        keeps : ends_in (segments_in_from child count 0) (segments_in_from parent p 0) ≡ true
        keeps = sym (passing (every_of (λ end. is_in end (ends (segments_in_from child count 0))) (ends (segments_in_from parent p 0))
            (λ x k. in_is (each_end parent p (λ (y : ℕ). In y (ends (segments_in_from child count 0))) w.met x k))))
