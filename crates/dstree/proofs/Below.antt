-- What is below a node of a tree with its shape: stored traces only; of a leaf its own, of an inner node what is below its children, of
-- node 0 all.
use Prim.Native.Nat.{ℕ, zero, suc, ◌<◌}
use mathlib.Core.Path.{◌≡◌, subst}
use mathlib.Core.Logic.{◌⊎◌, inl, inr}
use mathlib.Core.List.{List}
use native.Mathlib.Omega.{arith}
use lib.ListN.{length}
use lib.Dec.{T}
use Rattle.integer.specs.Words.{is_in}
use Rattle.dstree.specs.Node.{Test, Kind, leaf, inner, Tree, node_at}
use Rattle.dstree.specs.Matching.{has_child, numbers_in}
use Rattle.dstree.specs.Formed.{Parent, Kept, Shape}
use Rattle.dstree.specs.Claims.{Below, of_leaf, of_child}
use Rattle.dstree.proofs.Formed.{number_node}
use Rattle.dstree.proofs.Change.{has_inner}

module _ {n count : ℕ} {tree : Tree} (s : Shape n count tree) where
  pub below_stored : {t k : ℕ} → Below tree t k → t < count
  below_stored {t} (of_leaf {number} h) = s.numbers t number h
  below_stored (of_child h b) = below_stored b

  pub below_inside : {t k : ℕ} → Below tree t k → k < length tree
  below_inside {t} (of_leaf {number} h) = number_node tree t number h
  below_inside (of_child {parent} {child} h b) = omega (arith, s.children.child parent child h)

  -- what is below a node is below its parents, up to node 0
  to_root : (fuel : ℕ) {t k : ℕ} → k < fuel → Below tree t k → Below tree t 0
  to_root zero h b = absurd (omega arith)
  to_root (suc fuel) {k = zero} h b = b
  to_root (suc fuel) {k = suc k} h b =
      let p : Parent tree (suc k) = s.children.parented (suc k) (omega arith) (below_inside b) in
      to_root fuel {k = p.parent} (omega (arith, s.children.child p.parent (suc k) p.has)) (of_child p.has b)

  -- every stored trace is below node 0
  pub below_root : (t : ℕ) → t < count → Below tree t 0
  below_root t h =
      let k : Kept tree t = s.kept t h in
      to_root (suc k.at) {k = k.at} (omega arith) (of_leaf k.holds)

-- a leaf has only its own traces below it
pub below_leaf : {tree : Tree} {t k : ℕ} {ns : List ℕ} → (node_at tree k).kind ≡ leaf ns → Below tree t k → T (is_in t ns)
unfolding has_child numbers_in
below_leaf {tree} {t} {k} {ns} e (of_leaf h) = subst (λ (a : Kind). T (is_in t (numbers_in a))) e h
below_leaf {tree} {t} {k} {ns} e (of_child {child} h b) = absurd (subst (λ (a : Kind). T (has_child child a)) e h)

-- what is below an inner node is below its left or its right child
pub below_inner : {tree : Tree} {t k : ℕ} {test : Test} {l r : ℕ} → (node_at tree k).kind ≡ inner test l r → Below tree t k
    → Below tree t l ⊎ Below tree t r
unfolding numbers_in is_in
below_inner {tree} {t} {k} {test} {l} {r} e (of_leaf h) = absurd (subst (λ (a : Kind). T (is_in t (numbers_in a))) e h)
below_inner {tree} {t} {k} {test} {l} {r} e (of_child {child} h b) = by
    (has_inner child test l r (subst (λ (a : Kind). T (has_child child a)) e h))
  where
    by : (child ≡ l) ⊎ (child ≡ r) → Below tree t l ⊎ Below tree t r
    by (inl p) = inl (subst (Below tree t) p b)
    by (inr p) = inr (subst (Below tree t) p b)
