-- The segments of a record one after another: each starts behind the end of the one before it.
use mathlib.Core.Path.{◌≡◌, refl, sym, ap, subst, ◌∙◌}
use mathlib.Core.Bool.{◌&&◌}
use mathlib.Core.List.{List, [], ◌∷◌, map}
use Prim.Native.Nat.{ℕ, zero, suc, ◌+◌, ◌-◌, ◌≤◌, ◌<◌}
use native.Mathlib.Omega.{arith}
use native.Mathlib.Numerals.{add-one}
use lib.IntN.{ℤ}
use lib.Dec.{T}
use Rattle.integer.specs.Words.{counting}
use Rattle.integer.proofs.Tests.{passed}
use Rattle.dstree.specs.Measures.{Trace}
use Rattle.dstree.specs.Figures.{run}
use Rattle.dstree.specs.Node.{Segment, ends}
use Rattle.dstree.specs.Formed.{Rises, rises_more}
use Rattle.dstree.specs.Adding.{segment_of}
use Rattle.dstree.specs.Checking.{same_figures, are_exact}
use Rattle.dstree.proofs.Recomputed.{same_figures_lem}
use Rattle.tables.specs.Layout.{segments_place}
use Rattle.tables.specs.View.{small_at, segment_in, segments_in}
use Rattle.figures_below.specs.Compared.{first_on}

-- the segments from number i on
abbrev pub left_from : List ℤ → ℕ → ℕ → List Segment
left_from r count i = map (segment_in r) (counting (count - i) i)

pub all_left : (r : List ℤ) → left_from r (small_at r segments_place) 0 ≡ segments_in r
unfolding segments_in
all_left r = let e : small_at r segments_place - 0 ≡ small_at r segments_place = omega arith in rw e

pub none_left : (r : List ℤ) (count i : ℕ) → count ≤ i → left_from r count i ≡ []
unfolding counting
none_left r count i h = let e : count - i ≡ 0 = omega arith in rw e

pub one_left : (r : List ℤ) (count i : ℕ) → i < count → left_from r count i ≡ segment_in r i ∷ left_from r count (i + 1)
unfolding counting
one_left r count i h = let e : count - i ≡ suc (count - (i + 1)) = omega arith in rw (e, add-one i)

-- ---- ends

pub record NextEnd (r : List ℤ) (n count first i last : ℕ) : Type 0 where
  pub rises : first ≤ last
  pub to_n : last ≤ n
  pub on : Rises n (last + 1) (ends (left_from r count (i + 1)))

pub next_end : (r : List ℤ) (n count first i last : ℕ) → i < count → (segment_in r i).end ≡ last → Rises n first (ends (left_from r count i))
    → NextEnd r n count first i last
next_end r n count first i last h e p = by (subst (λ (l : List Segment). Rises n first (ends l)) (one_left r count i h) p)
  where
    by : Rises n first (ends (segment_in r i ∷ left_from r count (i + 1))) → NextEnd r n count first i last
    by (rises_more a b q) = record {
      rises = subst (λ (x : ℕ). first ≤ x) e a;
      to_n = subst (λ (x : ℕ). x ≤ n) e b;
      on = subst (λ (x : ℕ). Rises n x (ends (left_from r count (i + 1))))
          (sym (add-one (segment_in r i).end) ∙ ap (λ (x : ℕ). x + 1) e) q;
    }

-- ---- the test

pub test_more : (traces : List Trace) (r : List ℤ) (count first i last : ℕ) → i < count → (segment_in r i).end ≡ last
    → are_exact traces first (left_from r count i)
    ≡ same_figures (segment_in r i) (segment_of traces (run first last)) && are_exact traces (last + 1) (left_from r count (i + 1))
unfolding are_exact
test_more traces r count first i last h e =
    subst (λ (x : ℕ). are_exact traces first (left_from r count i)
    ≡ same_figures (segment_in r i) (segment_of traces (run first x)) && are_exact traces (x + 1) (left_from r count (i + 1))) e
    (rw (one_left r count i h, add-one (segment_in r i).end) refl)

-- one segment of a record that passes
passed_at : (traces : List Trace) (r : List ℤ) (count from i : ℕ) → T
    (are_exact traces (first_on r from) (map (segment_in r) (counting count from)))
    → i < count → T (same_figures (segment_in r (from + i)) (segment_of traces (run (first_on r (from + i)) (segment_in r (from + i)).end)))
unfolding are_exact counting first_on
passed_at traces r zero from i t h = absurd (omega arith)
passed_at traces r (suc count) from zero t h =
    let z : from ≡ from + 0 = omega arith in
    subst (λ (x : ℕ). T (same_figures (segment_in r x) (segment_of traces (run (first_on r x) (segment_in r x).end)))) z
    (passed (same_figures (segment_in r from) (segment_of traces (run (first_on r from) (segment_in r from).end)))
    (are_exact traces (suc (segment_in r from).end) (map (segment_in r) (counting count (suc from))) ∷ []) t).0
passed_at traces r (suc count) from (suc i) t h =
    let z : suc from + i ≡ from + suc i = omega arith in
    subst (λ (x : ℕ). T (same_figures (segment_in r x) (segment_of traces (run (first_on r x) (segment_in r x).end)))) z
    (passed_at traces r count (suc from) i
    (passed (same_figures (segment_in r from) (segment_of traces (run (first_on r from) (segment_in r from).end)))
    (are_exact traces (suc (segment_in r from).end) (map (segment_in r) (counting count (suc from))) ∷ []) t).1 (omega arith))

pub segment_is : (traces : List Trace) (r : List ℤ) (i : ℕ) → T (are_exact traces 1 (segments_in r)) → i < small_at r segments_place
    → segment_in r i ≡ segment_of traces (run (first_on r i) (segment_in r i).end)
unfolding segments_in first_on segment_of
segment_is traces r i t h =
    let z : 0 + i ≡ i = omega arith in
    same_figures_lem (segment_in r i) (segment_of traces (run (first_on r i) (segment_in r i).end)) refl
    (subst (λ (x : ℕ). T (same_figures (segment_in r x) (segment_of traces (run (first_on r x) (segment_in r x).end)))) z
    (passed_at traces r (small_at r segments_place) 0 i t h))
