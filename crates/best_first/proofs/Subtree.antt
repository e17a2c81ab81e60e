-- What is below a node: no way down is longer than there are nodes, as numbers rise on it, and no leaf has a key below the node's.
use Prim.Native.Nat.{ℕ, zero, suc, ◌+◌, ◌≤◌}
use mathlib.Core.Path.{◌≡◌, refl, sym, ◌∙◌}
use mathlib.Core.List.{List, [], ◌∷◌, ◌++◌}
use native.Mathlib.Omega.{arith}
use lib.ListN.{length, get_or-eq_default}
use Rattle.heap.proofs.Sorting.{Above, above_less}
use Rattle.dstree.specs.Measures.{Trace}
use Rattle.dstree.specs.Node.{Test, Kind, leaf, inner, Tree, node_at}
use Rattle.dstree.proofs.Formed.{empty_leaf}
use Rattle.best_first.specs.NodeKeys.{node_key}
use Rattle.best_first.specs.Branching.{Branching}
use Rattle.best_first.specs.Waiting.{tip, fork, leaf_keys, subtree_by, subtree_from, subtree}
use Rattle.best_first.proofs.Branching.{left_above, right_above, left_bound, right_bound}

open_leaf : (tree : Tree) (fuel i : ℕ) {ns : List ℕ} → (node_at tree i).kind ≡ leaf ns → subtree_from tree (suc fuel) i ≡ tip i
unfolding subtree_from
open_leaf tree fuel i e = rw e

open_inner : (tree : Tree) (fuel i : ℕ) {test : Test} {l r : ℕ} → (node_at tree i).kind ≡ inner test l r → subtree_from tree (suc fuel) i ≡ fork (subtree_from tree fuel l) (subtree_from tree fuel r)
unfolding subtree_from
open_inner tree fuel i e = rw e

above_append : (m : ℕ) (xs ys : List ℕ) → Above m xs → Above m ys → Above m (xs ++ ys)
above_append m [] ys a b = b
above_append m (x ∷ xs) ys a b = (a.0, above_append m xs ys a.1 b)

module _ (tree : Tree) (b : Branching tree) where
  enough_by : (kind : Kind) (i f g : ℕ) → (node_at tree i).kind ≡ kind → length tree ≤ i + suc f → length tree ≤ i + suc g
      → ((j : ℕ) → length tree ≤ j + f → length tree ≤ j + g → subtree_from tree f j ≡ subtree_from tree g j) → subtree_by kind i (subtree_from tree f) ≡ subtree_by kind i (subtree_from tree g)
  enough_by (leaf ns) i f g e p q rec = refl
  enough_by (inner test l r) i f g e p q rec =
      let x = left_above tree b i e in
      let y = right_above tree b i e in
      rw (rec l (omega (arith, x.0)) (omega (arith, x.0)), rec r (omega (arith, y.0)) (omega (arith, y.0)))

  past : (g i : ℕ) → length tree ≤ i → tip i ≡ subtree_from tree g i
  unfolding subtree_from
  past zero i h = refl
  past (suc g) i h = rw (get_or-eq_default tree empty_leaf h)

  enough : (f g i : ℕ) → length tree ≤ i + f → length tree ≤ i + g → subtree_from tree f i ≡ subtree_from tree g i
  unfolding subtree_from
  enough zero g i p q = past g i (omega arith)
  enough (suc f) zero i p q = sym (past (suc f) i (omega arith))
  enough (suc f) (suc g) i p q = enough_by (node_at tree i).kind i f g refl p q (enough f g)

  pub subtree_leaf : (i : ℕ) {ns : List ℕ} → (node_at tree i).kind ≡ leaf ns → subtree tree i ≡ tip i
  subtree_leaf i e = enough (length tree) (suc (length tree)) i (omega arith) (omega arith) ∙ open_leaf tree (length tree) i e

  pub subtree_inner : (i : ℕ) {test : Test} {l r : ℕ} → (node_at tree i).kind ≡ inner test l r → subtree tree i ≡ fork (subtree tree l) (subtree tree r)
  subtree_inner i e = enough (length tree) (suc (length tree)) i (omega arith) (omega arith) ∙ open_inner tree (length tree) i e

  module _ (query : Trace) where
    -- no leaf below a node has a key below the node's: neither number nor bound falls on the way down
    below_by : (kind : Kind) (i f : ℕ) → (node_at tree i).kind ≡ kind → ((j : ℕ) → Above (node_key tree query j) (leaf_keys (node_key tree query) (subtree_from tree f j)))
        → Above (node_key tree query i) (leaf_keys (node_key tree query) (subtree_by kind i (subtree_from tree f)))
    unfolding leaf_keys
    below_by (leaf ns) i f e rec = (omega arith, tt)
    below_by (inner test l r) i f e rec =
        let key = node_key tree query in
        let x : key i ≤ key l = omega (arith, (left_above tree b i e).0, left_bound tree b i e query) in
        let y : key i ≤ key r = omega (arith, (right_above tree b i e).0, right_bound tree b i e query) in
        above_append (key i) (leaf_keys key (subtree_from tree f l)) (leaf_keys key (subtree_from tree f r))
        (above_less (key i) (key l) (leaf_keys key (subtree_from tree f l)) x (rec l))
        (above_less (key i) (key r) (leaf_keys key (subtree_from tree f r)) y (rec r))

    below_from : (f i : ℕ) → Above (node_key tree query i) (leaf_keys (node_key tree query) (subtree_from tree f i))
    unfolding subtree_from leaf_keys
    below_from zero i = (omega arith, tt)
    below_from (suc f) i = below_by (node_at tree i).kind i f refl (below_from f)

    pub below : (i : ℕ) → Above (node_key tree query i) (leaf_keys (node_key tree query) (subtree tree i))
    below i = below_from (length tree) i
