-- A leaf's list by the links: behind its first number stand the links of its numbers, and nothing else. So a number is in the list as often
-- as it is the first, and as often as it is the link of a number of the list.
use Rattle.std.specs.Prelude.{if◌then◌else◌}
use Prim.Native.Nat.{ℕ, zero, suc, ◌+◌, ◌≤◌, ◌<◌}
use mathlib.Core.Path.{◌≡◌, refl, sym, ◌∙◌, ap, subst}
use mathlib.Core.Bool.{true, not}
use mathlib.Core.Logic.{◌⊎◌, inl, inr}
use mathlib.Core.List.{List, [], ◌∷◌, map, flatten}
use native.Mathlib.Omega.{arith}
use lib.ListN.{get_or}
use lib.Dec.{T, ltb, eqb, ltb→lt, lt→ltb}
use mir.Facts.{and_yes, yes_and}
use borrow.Author.Tests.{eq-eqb, ne_eqb}
use Rattle.integer.specs.Words.{is_empty}
use Rattle.integer.proofs.Lists.{same_or_not, In, first, later, in_cons, in_nil}
use Rattle.dstree.specs.Node.{leaf}
use Rattle.dstree.specs.WellFormed.{rising, leaf_fits}
use Rattle.tables.specs.View.{numbers_from}
use Rattle.numbers_fit.specs.Marks.{LinkRises}
use Rattle.numbers_fit.specs.Tests.{link_at}

-- ---- numbers that rise

rising_tail : (x : ℕ) (l : List ℕ) → T (rising (x ∷ l)) → T (rising l)
unfolding rising
rising_tail x [] t = tt
rising_tail x (y ∷ l) t = (and_yes (ltb x y) (rising (y ∷ l)) t).1

rising_first : (x y : ℕ) (l : List ℕ) → T (rising (x ∷ (y ∷ l))) → x < y
unfolding rising
rising_first x y l t = ltb→lt x y (and_yes (ltb x y) (rising (y ∷ l)) t).0

rising_more : (x y : ℕ) (l : List ℕ) → x < y → T (rising (y ∷ l)) → T (rising (x ∷ (y ∷ l)))
unfolding rising
rising_more x y l h t = yes_and (ltb x y) (rising (y ∷ l)) (lt→ltb x y h) t

rising_one : (x : ℕ) → T (rising (x ∷ []))
unfolding rising
rising_one x = tt

pub leaf_rises : (l : List ℕ) → T (leaf_fits (leaf l)) → T (rising l)
unfolding leaf_fits
leaf_rises l t = (and_yes (rising l) (not (is_empty l)) t).0

pub leaf_of : (x : ℕ) (l : List ℕ) → T (rising (x ∷ l)) → T (leaf_fits (leaf (x ∷ l)))
unfolding leaf_fits is_empty
leaf_of x l t = yes_and (rising (x ∷ l)) true t tt

-- ---- a list

module _ (links : List ℕ) where
  abbrev link : ℕ → ℕ
  link y = get_or links y 0

  -- the links of a list's numbers
  abbrev pub followers : List ℕ → List ℕ
  followers l = flatten (map (link_at links) l)

  no_follower : (x : ℕ) → link x ≡ 0 → followers (x ∷ []) ≡ []
  unfolding flatten
  no_follower x e = rw (eq-eqb (link x) 0 e)

  a_follower : (x : ℕ) (l : List ℕ) → (link x ≡ 0 → ⊥) → followers (x ∷ l) ≡ link x ∷ followers l
  unfolding flatten
  a_follower x l f = rw (ne_eqb (link x) 0 f)

  module _ (fuel at : ℕ) where
    list_ends : link at ≡ 0 → numbers_from links (suc fuel) at ≡ at ∷ []
    unfolding numbers_from
    list_ends e = rw (eq-eqb (link at) 0 e)

    list_goes : (link at ≡ 0 → ⊥) → numbers_from links (suc fuel) at ≡ at ∷ numbers_from links fuel (link at)
    unfolding numbers_from
    list_goes f = rw (ne_eqb (link at) 0 f)

    -- what comes behind the number
    pub list_rest : List ℕ
    list_rest = if eqb (link at) 0 then [] else numbers_from links fuel (link at)

    pub list_is : numbers_from links (suc fuel) at ≡ at ∷ list_rest
    unfolding numbers_from list_rest
    list_is = refl

    pub list_first : In at (numbers_from links (suc fuel) at)
    list_first = subst (In at) (sym list_is) first

  -- no fuel is left behind the number
  list_stops : (at : ℕ) → numbers_from links 0 at ≡ []
  unfolding numbers_from
  list_stops at = refl

  -- ---- a list that rises below k, from `at` on, with fuel for as many numbers

  pub record Chain (l : List ℕ) (at : ℕ) : Type 0 where
    pub is : l ≡ at ∷ followers l
    pub on : (y : ℕ) → In y l → (link y ≡ 0) ⊎ ((y < link y) × In (link y) l)

  chain_ends : (at : ℕ) → link at ≡ 0 → Chain (at ∷ []) at
  chain_ends at e = record { is = ap (λ (l : List ℕ). at ∷ l) (sym (no_follower at e)); on = λ y i. by y (in_cons i) }
    where
      by : (y : ℕ) → (y ≡ at) ⊎ In y [] → (link y ≡ 0) ⊎ ((y < link y) × In (link y) (at ∷ []))
      by y (inl p) = inl (ap link p ∙ e)
      by y (inr i) = absurd (in_nil i)

  chain_goes : (at : ℕ) (l : List ℕ) → (link at ≡ 0 → ⊥) → at < link at → Chain l (link at) → Chain (at ∷ l) at
  chain_goes at l f h c = record { is = ap (λ (x : List ℕ). at ∷ x) (c.is ∙ sym (a_follower at l f)); on = λ y i. by y (in_cons i) }
    where
      next : In (link at) l
      next = subst (In (link at)) (sym c.is) first

      more : (y : ℕ) → (link y ≡ 0) ⊎ ((y < link y) × In (link y) l) → (link y ≡ 0) ⊎ ((y < link y) × In (link y) (at ∷ l))
      more y (inl e) = inl e
      more y (inr p) = inr (p.0, later p.1)

      by : (y : ℕ) → (y ≡ at) ⊎ In y l → (link y ≡ 0) ⊎ ((y < link y) × In (link y) (at ∷ l))
      by y (inl p) = subst (λ (z : ℕ). (link z ≡ 0) ⊎ ((z < link z) × In (link z) (at ∷ l))) (sym p) (inr (h, later next))
      by y (inr i) = more y (c.on y i)

  pub chain : (k fuel at : ℕ) → k ≤ fuel + at → T (rising (numbers_from links (suc fuel) at)) → ((x : ℕ) → In x (numbers_from links (suc fuel) at) → x < k)
      → Chain (numbers_from links (suc fuel) at) at
  chain k zero at h r low = absurd (omega (arith, h, low at (list_first 0 at)))
  chain k (suc fuel) at h r low = by (same_or_not (link at) 0) (chain k fuel (link at))
    where
      by : Dec (link at ≡ 0) → (k ≤ fuel + link at → T (rising (numbers_from links (suc fuel) (link at)))
          → ((x : ℕ) → In x (numbers_from links (suc fuel) (link at)) → x < k) → Chain (numbers_from links (suc fuel) (link at)) (link at))
          → Chain (numbers_from links (suc (suc fuel)) at) at
      by (yes e) ih = subst (λ (l : List ℕ). Chain l at) (sym (list_ends (suc fuel) at e)) (chain_ends at e)
      by (no f) ih =
          let q = list_goes (suc fuel) at f in
          let t : T (rising (at ∷ numbers_from links (suc fuel) (link at))) = subst (λ (l : List ℕ). T (rising l)) q r in
          let g : at < link at = rising_first at (link at) (list_rest fuel (link at)) (subst (λ (l : List ℕ). T (rising (at ∷ l))) (list_is fuel (link at)) t) in
          subst (λ (l : List ℕ). Chain l at) (sym q)
          (chain_goes at (numbers_from links (suc fuel) (link at)) f g
          (ih (omega (arith, h, g)) (rising_tail at (numbers_from links (suc fuel) (link at)) t) (λ x i. low x (subst (In x) (sym q) (later i)))))

  -- ---- links that rise below k make lists that do

  pub record RisingBelow (k : ℕ) (l : List ℕ) : Type 0 where
    pub rise : T (rising l)
    pub low : (x : ℕ) → In x l → x < k

  module _ (k : ℕ) (fit : (i : ℕ) → i < k → LinkRises k i (link i)) where
    one : (at : ℕ) → at < k → RisingBelow k (at ∷ [])
    one at h = record { rise = rising_one at; low = λ x i. by x (in_cons i) }
      where
        by : (x : ℕ) → (x ≡ at) ⊎ In x [] → x < k
        by x (inl p) = omega (arith, p, h)
        by x (inr i) = absurd (in_nil i)

    more : (at fuel : ℕ) → at < k → at < link at → RisingBelow k (numbers_from links (suc fuel) (link at)) → RisingBelow k (at ∷ numbers_from links (suc fuel) (link at))
    more at fuel h g r = record {
      rise =
          subst (λ (l : List ℕ). T (rising (at ∷ l))) (sym (list_is fuel (link at)))
          (rising_more at (link at) (list_rest fuel (link at)) g (subst (λ (l : List ℕ). T (rising l)) (list_is fuel (link at)) r.rise));
      low = λ x i. by x (in_cons i);
    }
      where
        by : (x : ℕ) → (x ≡ at) ⊎ In x (numbers_from links (suc fuel) (link at)) → x < k
        by x (inl p) = omega (arith, p, h)
        by x (inr i) = r.low x i

    pub list_rises : (fuel at : ℕ) → at < k → RisingBelow k (numbers_from links (suc fuel) at)
    list_rises zero at h = by (same_or_not (link at) 0)
      where
        by : Dec (link at ≡ 0) → RisingBelow k (numbers_from links 1 at)
        by (yes e) = subst (RisingBelow k) (sym (list_ends 0 at e)) (one at h)
        by (no f) = subst (RisingBelow k) (sym (list_goes 0 at f ∙ ap (λ (l : List ℕ). at ∷ l) (list_stops (link at)))) (one at h)
    list_rises (suc fuel) at h = by (same_or_not (link at) 0) (fit at h) (list_rises fuel (link at))
      where
        by : Dec (link at ≡ 0) → LinkRises k at (link at) → (link at < k → RisingBelow k (numbers_from links (suc fuel) (link at))) → RisingBelow k (numbers_from links (suc (suc fuel)) at)
        by (yes e) r ih = subst (RisingBelow k) (sym (list_ends (suc fuel) at e)) (one at h)
        by (no f) (inl e) ih = absurd (f e)
        by (no f) (inr p) ih = subst (RisingBelow k) (sym (list_goes (suc fuel) at f)) (more at fuel h p.0 (ih p.1))
