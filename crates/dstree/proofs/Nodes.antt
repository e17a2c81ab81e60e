-- How many nodes a well-formed tree has: one less than twice its leaves, and no more leaves than traces.
-- The idea: each node but 0 is a child once, so there are one less children than nodes, two for each inner node; each trace is in a leaf
-- once, so the leaves together hold as many numbers as there are traces, and none is empty.
use Prim.Native.Nat.{ℕ, suc, ◌+◌, ◌*◌, ◌-◌, ◌≤◌, ◌<◌}
use mathlib.Core.Path.{◌≡◌, refl, ◌∙◌}
use mathlib.Core.Bool.{Bool, true, false, not}
use mathlib.Core.List.{List, [], ◌∷◌, map, flatten}
use native.Mathlib.Omega.{arith}
use native.Mathlib.Decide.{dec_le}
use lib.ListN.{length, length-append}
use lib.Dec.{T}
use Rattle.integer.proofs.Times.{once_length}
use Rattle.dstree.specs.Measures.{Measures}
use Rattle.dstree.specs.Node.{Kind, leaf, inner, Tree, node_at}
use Rattle.dstree.specs.Matching.{is_leaf_kind, numbers_in}
use Rattle.dstree.specs.WellFormed.{children_of, well_formed_tree}
use Rattle.dstree.proofs.Formed.{formed, node_children, node_numbers, child_times, number_times, numbers_below, children_above_lem}
use Rattle.dstree.specs.Formed.{Shape}

-- ---- counted over the nodes

one : Bool → ℕ
one true = 1
one false = 0

-- the leaves of a tree, and its inner nodes
pub leaf_count : Tree → ℕ
leaf_count [] = 0
leaf_count (a ∷ rest) = one (is_leaf_kind a.kind) + leaf_count rest

pub inner_count : Tree → ℕ
inner_count [] = 0
inner_count (a ∷ rest) = one (not (is_leaf_kind a.kind)) + inner_count rest

-- each node is the one or the other
nodes_are : (tree : Tree) → length tree ≡ leaf_count tree + inner_count tree
unfolding leaf_count inner_count one
nodes_are [] = refl
nodes_are (a ∷ rest) = by (is_leaf_kind a.kind) (nodes_are rest)
  where
    by : (b : Bool) → length rest ≡ leaf_count rest + inner_count rest → suc (length rest) ≡ one b + leaf_count rest + (one (not b) + inner_count rest)
    by true e = omega arith
    by false e = omega arith

-- an inner node has two children
children_are : (tree : Tree) → length (flatten (map node_children tree)) ≡ 2 * inner_count tree
unfolding inner_count flatten children_of is_leaf_kind one
children_are [] = refl
children_are (a ∷ rest) = length-append (node_children a) (flatten (map node_children rest)) ∙ by a.kind (children_are rest)
  where
    by : (k : Kind) → length (flatten (map node_children rest)) ≡ 2 * inner_count rest → length (children_of k) + length (flatten (map node_children rest)) ≡ 2 *
        (one (not (is_leaf_kind k)) + inner_count rest)
    by (leaf numbers) e = omega arith
    by (inner test l r) e = omega arith

-- a leaf that is not empty holds a number at least
numbers_are : (tree : Tree) → ((k : ℕ) → k < length tree → (ns : List ℕ) → (node_at tree k).kind ≡ leaf ns → 0 < length ns) → leaf_count tree ≤ length (flatten (map node_numbers tree))
unfolding leaf_count flatten is_leaf_kind numbers_in one
numbers_are [] full = omega arith
numbers_are (a ∷ rest) full =
    omega (arith, length-append (node_numbers a) (flatten (map node_numbers rest)), numbers_are rest (λ k h. full (suc k) (omega arith)), by a.kind (full 0 (omega arith)))
  where
    by : (k : Kind) → ((ns : List ℕ) → k ≡ leaf ns → 0 < length ns) → one (is_leaf_kind k) ≤ length (numbers_in k)
    by (leaf numbers) some = some numbers refl
    by (inner test l r) some = omega arith

-- ---- of a tree with its shape

module _ {n count : ℕ} {tree : Tree} (s : Shape n count tree) where
  numbers_count : length (flatten (map node_numbers tree)) ≡ count
  numbers_count = once_length count 0 (flatten (map node_numbers tree)) (λ t h g. number_times s t (omega arith)) (λ t i. (omega arith, omega (arith, numbers_below s t i)))

  children_count : length (flatten (map node_children tree)) ≡ length tree - 1
  children_count = once_length (length tree - 1) 1 (flatten (map node_children tree)) (λ c h g. child_times s c h (omega arith))
      (λ c i. let h = children_above_lem s c i in (h.0, omega (arith, h.1)))

  -- no more leaves than traces
  pub leaves_at_most : leaf_count tree ≤ count
  leaves_at_most = omega (arith, numbers_are tree s.full, numbers_count)

  -- the nodes are one less than twice the leaves, where there is a node
  nodes_by_leaves : 0 < length tree → length tree + 1 ≡ 2 * leaf_count tree
  nodes_by_leaves h = omega (arith, nodes_are tree, children_are tree, children_count)

  -- "2c − 1 node records" are enough
  pub nodes_most : length tree ≤ 2 * count - 1
  nodes_most = by (dec_le 1 (length tree))
    where
      by : Dec (1 ≤ length tree) → length tree ≤ 2 * count - 1
      by (yes h) = omega (arith, nodes_by_leaves h, leaves_at_most)
      by (no f) = omega arith

-- .. of a well-formed one
pub nodes_at_most : (limit : ℕ) (m : Measures) (count : ℕ) (tree : Tree) → T (well_formed_tree limit m count tree)
    → length tree ≤ 2 * count - 1
nodes_at_most limit m count tree t = nodes_most (formed limit m count tree t).shape
