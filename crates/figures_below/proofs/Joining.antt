-- The least and the greatest of two lists together are the lesser and the greater of both lists' own. So the figures of an inner node's
-- traces follow from its children's.
use mathlib.Core.Path.{◌≡◌, refl, ap, ◌∙◌}
use mathlib.Core.Logic.{◌⊎◌, inl, inr}
use mathlib.Core.List.{List, [], ◌∷◌, ◌++◌, map, foldl, map-append, foldl-append}
use Prim.Native.Nat.{ℕ, ◌<◌, min, max}
use native.Mathlib.Omega.{arith}
use lib.IntN.{ℤ, pos}
use lib.ListN.{length, length-map}
use lib.Signed.{◌≤ℤ◌}
use Rattle.integer.specs.Words.{lesser, greater, chosen}
use Rattle.integer.proofs.Order.{≤ℤ_trans, ≤ℤ_antisym}
use Rattle.integer.proofs.Lists.{lesser_left, lesser_right, greater_left, greater_right, lesser_either, greater_either}
use Rattle.dstree.specs.Measures.{Trace}
use Rattle.dstree.specs.Figures.{Run, sum_on, scatter_on}
use Rattle.dstree.specs.Node.{Segment}
use Rattle.dstree.specs.Adding.{segment_of}
use Rattle.leaf_figures.specs.Sides.{segment_by}
use Rattle.leaf_figures.specs.declared.sides.SideRange.{SideRange}
use Rattle.figures_below.specs.Compared.{joined_figures}

-- ---- a choice in which order does not matter

module _ {A : Type 0} (choice : A → A → A) (other : A) (assoc : (a b c : A) → choice (choice a b) c ≡ choice a (choice b c)) where
  fold_on : (a b : A) (l : List A) → foldl choice (choice a b) l ≡ choice a (foldl choice b l)
  fold_on a b [] = refl
  fold_on a b (c ∷ l) = ap (λ (x : A). foldl choice x l) (assoc a b c) ∙ fold_on a (choice b c) l

  chosen_both : (l m : List A) → 0 < length l → 0 < length m → chosen choice other (l ++ m) ≡ choice (chosen choice other l)
      (chosen choice other m)
  unfolding chosen
  chosen_both [] m h g = absurd (omega arith)
  chosen_both (a ∷ l) [] h g = absurd (omega arith)
  chosen_both (a ∷ l) (b ∷ m) h g = foldl-append choice a l (b ∷ m) ∙ fold_on (foldl choice a l) b m

lesser_most : {z a b : ℤ} → z ≤ℤ a → z ≤ℤ b → z ≤ℤ lesser a b
lesser_most {z} {a} {b} h g = by (lesser_either a b)
  where
    by : (lesser a b ≡ a) ⊎ (lesser a b ≡ b) → z ≤ℤ lesser a b
    by (inl e) = rw e h
    by (inr e) = rw e g

greater_least : {z a b : ℤ} → a ≤ℤ z → b ≤ℤ z → greater a b ≤ℤ z
greater_least {z} {a} {b} h g = by (greater_either a b)
  where
    by : (greater a b ≡ a) ⊎ (greater a b ≡ b) → greater a b ≤ℤ z
    by (inl e) = rw e h
    by (inr e) = rw e g

lesser_assoc : (a b c : ℤ) → lesser (lesser a b) c ≡ lesser a (lesser b c)
lesser_assoc a b c =
    let ab = lesser a b in
    let bc = lesser b c in
    ≤ℤ_antisym
    (lesser_most (≤ℤ_trans (lesser_left ab c) (lesser_left a b))
    (lesser_most (≤ℤ_trans (lesser_left ab c) (lesser_right a b)) (lesser_right ab c)))
    (lesser_most (lesser_most (lesser_left a bc) (≤ℤ_trans (lesser_right a bc) (lesser_left b c)))
    (≤ℤ_trans (lesser_right a bc) (lesser_right b c)))

greater_assoc : (a b c : ℤ) → greater (greater a b) c ≡ greater a (greater b c)
greater_assoc a b c =
    let ab = greater a b in
    let bc = greater b c in
    ≤ℤ_antisym
    (greater_least (greater_least (greater_left a bc) (≤ℤ_trans (greater_left b c) (greater_right a bc)))
    (≤ℤ_trans (greater_right b c) (greater_right a bc)))
    (greater_least (≤ℤ_trans (greater_left a b) (greater_left ab c))
    (greater_least (≤ℤ_trans (greater_right a b) (greater_left ab c)) (greater_right ab c)))

mapped_both : {A : Type 0} (f : Trace → A) (choice : A → A → A) (other : A)
    → ((a b c : A) → choice (choice a b) c ≡ choice a (choice b c))
    → (x y : List Trace) → 0 < length x → 0 < length y → chosen choice other (map f (x ++ y)) ≡ choice (chosen choice other (map f x))
    (chosen choice other (map f y))
mapped_both f choice other assoc x y h g =
    ap (chosen choice other) (map-append f x y)
    ∙ chosen_both choice other assoc (map f x) (map f y) (rw (length-map x f) h) (rw (length-map y f) g)

-- ---- figures

pub joined_is : (on : Run) (x y : List Trace) (a b : SideRange) → 0 < length x → 0 < length y → segment_by on.last a ≡ segment_of x on
    → segment_by on.last b ≡ segment_of y on → segment_by on.last (joined_figures a b) ≡ segment_of (x ++ y) on
unfolding joined_figures segment_of
joined_is on x y a b h g p q =
    let both : (f : Trace → ℤ) (choice : ℤ → ℤ → ℤ) → ((u v w : ℤ) → choice (choice u v) w ≡ choice u (choice v w))
    → chosen choice (pos 0) (map f (x ++ y)) ≡ choice (chosen choice (pos 0) (map f x)) (chosen choice (pos 0) (map f y)) =
    λ f choice assoc. mapped_both f choice (pos 0) assoc x y h g in
    let both_ℕ : (f : Trace → ℕ) (choice : ℕ → ℕ → ℕ) → ((u v w : ℕ) → choice (choice u v) w ≡ choice u (choice v w))
    → chosen choice 0 (map f (x ++ y)) ≡ choice (chosen choice 0 (map f x)) (chosen choice 0 (map f y)) =
    λ f choice assoc. mapped_both f choice 0 assoc x y h g in
    rw (
      both (sum_on on) lesser lesser_assoc,
      both (sum_on on) greater greater_assoc,
      both_ℕ (scatter_on on) min (λ u v w. omega arith),
      both_ℕ (scatter_on on) max (λ u v w. omega arith),
      ap (λ (s : Segment). s.least_sum) p,
      ap (λ (s : Segment). s.least_sum) q,
      ap (λ (s : Segment). s.greatest_sum) p,
      ap (λ (s : Segment). s.greatest_sum) q,
      ap (λ (s : Segment). s.least_scatter) p,
      ap (λ (s : Segment). s.least_scatter) q,
      ap (λ (s : Segment). s.greatest_scatter) p,
      ap (λ (s : Segment). s.greatest_scatter) q,
    )
