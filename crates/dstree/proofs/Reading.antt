-- The order of reading: each leaf of the tree once, with its bound, by bound and then by number.
use Rattle.std.specs.Prelude.{if◌then◌else◌}
use Prim.Native.Nat.{ℕ, ◌≤◌, ◌<◌}
use mathlib.Core.Path.{◌≡◌, refl, sym, ◌∙◌, ap, subst}
use mathlib.Core.Logic.{◌⊎◌, inl, inr}
use mathlib.Core.Bool.{Bool, true, false, ◌&&◌, ◌||◌}
use mathlib.Core.List.{List, [], ◌∷◌, map}
use native.Mathlib.Omega.{arith}
use lib.ListN.{length, length-map}
use lib.Dec.{T, ltb, eqb}
use Rattle.integer.specs.Words.{counting, is_in}
use Rattle.integer.specs.Sorting.{sorted_with, poured_by, sorted_by}
use borrow.Author.Tests.{ltb-true, ltb-false, eqb-true}
use Rattle.integer.proofs.Tests.{is_true}
use Rattle.integer.proofs.Lists.{In, first, later, in_map, InMap, of, from_map, from_those, in_those, in_counting}
use Rattle.integer.proofs.Lists.{from_counting, All, all_none, all_more, all_mono, up_those, counting_up, Apart, apart_none, apart_more}
use Rattle.integer.proofs.Lists.{up_apart}
use Rattle.integer.proofs.Sorting.{from_inserted, from_sorted, in_sorted, sorted_length}
use Rattle.dstree.specs.Measures.{Trace}
use Rattle.dstree.specs.Node.{Kind, leaf, inner, Tree, node_at}
use Rattle.dstree.specs.Matching.{bound, LeafBound, is_leaf_kind, numbers_in, leaves, before, reading_order}
use Rattle.dstree.specs.Formed.{Kept, Shape}
use Rattle.dstree.proofs.Formed.{number_node}

-- ---- the leaves' numbers

module _ (tree : Tree) where
  pub from_leaves : {k : ℕ} → In k (leaves tree) → (k < length tree) × T (is_leaf_kind (node_at tree k).kind)
  unfolding leaves
  from_leaves {k} i =
      let h : In k (counting (length tree) 0) × T (is_leaf_kind (node_at tree k).kind) = from_those (λ number. is_leaf_kind (node_at tree number).kind) (counting (length tree) 0) i in
      (omega (arith, from_counting (length tree) 0 h.0), h.1)

  pub in_leaves : {k : ℕ} → k < length tree → T (is_leaf_kind (node_at tree k).kind) → In k (leaves tree)
  unfolding leaves
  in_leaves {k} h t = in_those (λ number. is_leaf_kind (node_at tree number).kind) (in_counting (length tree) 0 k (omega arith) (omega arith)) t

-- a node that has traces is a leaf
holds_leaf : (t : ℕ) (kind : Kind) → T (is_in t (numbers_in kind)) → T (is_leaf_kind kind)
unfolding is_leaf_kind numbers_in is_in
holds_leaf t (leaf numbers) h = tt
holds_leaf t (inner test left right) h = absurd h

pub kept_leaf : {tree : Tree} {t : ℕ} (k : Kept tree t) → In k.at (leaves tree)
kept_leaf {tree} {t} k = in_leaves tree (number_node tree t k.at k.holds) (holds_leaf t (node_at tree k.at).kind k.holds)

-- "no leaf empty"
pub leaf_full : {n count : ℕ} {tree : Tree} → Shape n count tree → {k : ℕ} → In k (leaves tree)
    → 0 < length (numbers_in (node_at tree k).kind)
unfolding is_leaf_kind numbers_in
leaf_full {tree = tree} shape {k} i = by (node_at tree k).kind refl (from_leaves tree i).1
  where
    by : (a : Kind) → (node_at tree k).kind ≡ a → T (is_leaf_kind a) → 0 < length (numbers_in a)
    by (leaf l) e t = shape.full k (from_leaves tree i).0 l e
    by (inner test l r) e t = absurd t

-- ---- no leaf twice

abbrev pub ApartLeaves : List LeafBound → Type 0
ApartLeaves = Apart (λ (a : LeafBound). a.number)

inserted_apart : (a : LeafBound) {l : List LeafBound} → ((b : LeafBound) → In b l → b.number ≡ a.number → ⊥) → ApartLeaves l
    → ApartLeaves (sorted_with before a l)
unfolding sorted_with
inserted_apart a h apart_none = apart_more h apart_none
inserted_apart a h (apart_more {a = c} {l} g p) = by (before a c) (inserted_apart a (λ b i. h b (later i)) p)
  where
    at : (b : LeafBound) → (b ≡ a) ⊎ In b l → b.number ≡ c.number → ⊥
    at b (inl e) q = h c first (sym q ∙ ap (λ (x : LeafBound). x.number) e)
    at b (inr j) q = g b j q

    by : (t : Bool) → ApartLeaves (sorted_with before a l) → ApartLeaves (if t then a ∷ c ∷ l else c ∷ sorted_with before a l)
    by true ih = apart_more h (apart_more g p)
    by false ih = apart_more (λ b i. at b (from_inserted before a l i)) ih

sorted_apart : {l : List LeafBound} → ApartLeaves l → ApartLeaves (sorted_by before l)
unfolding poured_by
sorted_apart apart_none = apart_none
sorted_apart (apart_more {a} {l} h p) = inserted_apart a (λ b i. h b (from_sorted before l i)) (sorted_apart p)

-- ---- by bound

-- each bound is at most those behind it
pub data InOrder : List LeafBound → Type 0 where
  order_none : InOrder []
  order_more : {a : LeafBound} {rest : List LeafBound} → All (λ b. a.bound ≤ b.bound) rest → InOrder rest → InOrder (a ∷ rest)

-- a leaf that comes before another has no greater bound, and one that does not has no lower bound
before_yes : (a b : LeafBound) → before a b ≡ true → a.bound ≤ b.bound
unfolding before
before_yes a b e = by (ltb a.bound b.bound) (eqb a.bound b.bound) (ltb a.number b.number) refl refl e
  where
    by : (x y z : Bool) → ltb a.bound b.bound ≡ x → eqb a.bound b.bound ≡ y → (x || y && z) ≡ true → a.bound ≤ b.bound
    by true y z p q r = omega (arith, ltb-true a.bound b.bound p)
    by false true z p q r = omega (arith, eqb-true a.bound b.bound q)
    by false false z p q r = absurd (is_true r)

before_not : (a b : LeafBound) → before a b ≡ false → b.bound ≤ a.bound
unfolding before
before_not a b e = by (ltb a.bound b.bound) (eqb a.bound b.bound) (ltb a.number b.number) refl e
  where
    by : (x y z : Bool) → ltb a.bound b.bound ≡ x → (x || y && z) ≡ false → b.bound ≤ a.bound
    by true y z p r = absurd (subst T r tt)
    by false y z p r = ltb-false a.bound b.bound p

inserted_all : (k : ℕ) (a : LeafBound) {l : List LeafBound} → k ≤ a.bound → All (λ b. k ≤ b.bound) l
    → All (λ b. k ≤ b.bound) (sorted_with before a l)
unfolding sorted_with
inserted_all k a h all_none = all_more h all_none
inserted_all k a h (all_more {a = b} {rest} g gs) = by (before a b) (inserted_all k a h gs)
  where
    by : (c : Bool) → All (λ x. k ≤ x.bound) (sorted_with before a rest)
        → All (λ x. k ≤ x.bound) (if c then a ∷ b ∷ rest else b ∷ sorted_with before a rest)
    by true ih = all_more h (all_more g gs)
    by false ih = all_more g ih

inserted_in_order : (a : LeafBound) {l : List LeafBound} → InOrder l → InOrder (sorted_with before a l)
unfolding sorted_with
inserted_in_order a order_none = order_more all_none order_none
inserted_in_order a (order_more {a = b} {rest} o os) = by (before a b) refl (inserted_in_order a os)
  where
    by : (c : Bool) → before a b ≡ c → InOrder (sorted_with before a rest) → InOrder (if c then a ∷ b ∷ rest else b ∷ sorted_with before a rest)
    by true p ih =
        let h : a.bound ≤ b.bound = before_yes a b p in
        order_more (all_more h (all_mono (λ c g. omega arith) o)) (order_more o os)
    by false p ih = order_more (inserted_all b.bound a (before_not a b p) o) ih

sorted_in_order : (l : List LeafBound) → InOrder (sorted_by before l)
unfolding poured_by
sorted_in_order [] = order_none
sorted_in_order (a ∷ rest) = inserted_in_order a (sorted_in_order rest)

-- ---- the order of reading

module _ (tree : Tree) (query : Trace) where
  abbrev pub with_bound : ℕ → LeafBound
  with_bound number = record { number = number; bound = bound tree query number }

  pub reading_of : {a : LeafBound} → In a (reading_order tree query) → In a.number (leaves tree) × (a.bound ≡ bound tree query a.number)
  unfolding reading_order
  reading_of {a} i = by (from_map with_bound (leaves tree) (from_sorted before (map with_bound (leaves tree)) i))
    where
      by : InMap with_bound a (leaves tree) → In a.number (leaves tree) × (a.bound ≡ bound tree query a.number)
      by (of k j e) = (rw e j, rw e refl)

  pub in_reading : {k : ℕ} → In k (leaves tree) → In (with_bound k) (reading_order tree query)
  unfolding reading_order
  in_reading i = in_sorted before (in_map with_bound i)

  pub reading_in_order : InOrder (reading_order tree query)
  unfolding reading_order
  reading_in_order = sorted_in_order (map with_bound (leaves tree))

  pub reading_apart : ApartLeaves (reading_order tree query)
  unfolding reading_order leaves
  reading_apart = sorted_apart (up_apart (λ (a : LeafBound). a.number) with_bound (λ k. refl) (up_those (λ number. is_leaf_kind (node_at tree number).kind) (counting_up (length tree) 0)))

  -- as many as there are leaves
  pub reading_length : length (reading_order tree query) ≡ length (leaves tree)
  unfolding reading_order
  reading_length = sorted_length before (map with_bound (leaves tree)) ∙ length-map (leaves tree) with_bound
