-- A node that may be walked, by its kind field: a leaf with its list, or an inner node with its two children, which are nodes above it.
-- And the nodes of well-formed tables that are long enough may be walked.
use mathlib.Core.Path.{◌≡◌, refl, sym, ◌∙◌, subst}
use mathlib.Core.List.{List}
use Prim.Native.Nat.{ℕ, zero, suc, ◌+◌, ◌*◌, ◌-◌, ◌≤◌, ◌<◌}
use native.Mathlib.Omega.{arith}
use lib.IntN.{ℤ}
use lib.ListN.{length}
use lib.Dec.{T}
use Rattle.integer.proofs.Lists.{In, first, in_is}
use Rattle.dstree.specs.Measures.{records_needed, links_needed}
use Rattle.dstree.specs.Formed.{Shape}
use Rattle.dstree.specs.Node.{Test, Kind, leaf, inner, Tree, node_at}
use Rattle.dstree.specs.Matching.{numbers_in}
use Rattle.dstree.proofs.Change.{has_left, has_right}
use Rattle.dstree.proofs.Nodes.{nodes_most}
use Rattle.tables.specs.Layout.{kind_place, first_place, right_place, record_places}
use Rattle.tables.specs.Tables.{Tables, measures_of, trace_count, node_count, record_of}
use Rattle.tables.specs.View.{small_at, numbers_from, kind_in, tree_in, well_formed}
use Rattle.tables.specs.Walk.{numbers_of}
use Rattle.tables.proofs.Views.{tree_size, tree_kind, tree_leaf, tree_inside, tree_formed, measures_fit, kind_named}
use Rattle.tables.proofs.Linked.{tables_rise}
use Rattle.tables.specs.Nodes.{counted_tables, tree_by, Walks}

-- an inner node with these children
pub record Branches (kind : Kind) (l r : ℕ) : Type 0 where
  pub test : Test
  pub is : kind ≡ inner test l r

branches : (links : List ℕ) (k : ℕ) (r : List ℤ) (v : ℕ) → 1 ≤ v → v ≤ 2 → Branches (kind_in links k r v) (small_at r first_place)
    (small_at r right_place)
unfolding kind_in
branches links k r zero h g = absurd (omega arith)
branches links k r (suc zero) h g = record { test = _; is = refl }
branches links k r (suc (suc zero)) h g = record { test = _; is = refl }
branches links k r (suc (suc (suc v))) h g = absurd (omega arith)

module _ {nodes : List ℤ} {links : List ℕ} {k m : ℕ} (w : Walks nodes links k m) where
  abbrev tree : Tree
  tree = tree_by nodes links k m

  pub size_is : length tree ≡ m
  size_is = tree_size (counted_tables nodes links k m)

  module _ (j : ℕ) (h : j < m) where
    abbrev r : List ℤ
    r = record_of nodes j

    pub in_table : (j * record_places + record_places ≤ length nodes) × (j ≤ 8191)
    in_table = (omega (arith, w.nodes_room), omega (arith, w.nodes_few))

    pub in_tree : j < length (tree_by nodes links k m)
    in_tree = tree_inside (counted_tables nodes links k m) j h

    -- ---- a leaf

    module _ (e : small_at (record_of nodes j) kind_place ≡ 0) where
      pub leaf_is : (node_at (tree_by nodes links k m) j).kind ≡ leaf (numbers_of links k (small_at (record_of nodes j) first_place))
      leaf_is = tree_leaf (counted_tables nodes links k m) j h e

      pub first_stored : small_at (record_of nodes j) first_place < k
      unfolding numbers_from numbers_in
      first_stored = w.shape.numbers (small_at r first_place) j (rw leaf_is (in_is (head (small_at r first_place))))
        where
          head : (x : ℕ) → In x (numbers_of links k x)
          head x = first

    -- ---- an inner node

    module _ (e : 1 ≤ small_at (record_of nodes j) kind_place) where
      pub inner_is : Branches (node_at (tree_by nodes links k m) j).kind (small_at (record_of nodes j) first_place)
          (small_at (record_of nodes j) right_place)
      inner_is =
          let b = branches links k r (small_at r kind_place) e (w.named j h) in
          record { test = b.test; is = tree_kind (counted_tables nodes links k m) j h ∙ b.is }

      pub left_above : (j < small_at (record_of nodes j) first_place) × (small_at (record_of nodes j) first_place < m)
      left_above =
          let b = inner_is in
          let c = w.shape.children.child j (small_at r first_place) (rw b.is
          (has_left b.test (small_at r first_place) (small_at r right_place))) in
          (c.0, omega (arith, c.1, size_is))

      pub right_above : (j < small_at (record_of nodes j) right_place) × (small_at (record_of nodes j) right_place < m)
      right_above =
          let b = inner_is in
          let c = w.shape.children.child j (small_at r right_place) (rw b.is
          (has_right b.test (small_at r first_place) (small_at r right_place))) in
          (c.0, omega (arith, c.1, size_is))

-- ---- well-formed tables

-- the tree by nodes, links and counts alone
pub same_tree : (t : Tables) → tree_by t.nodes t.links (trace_count t) (node_count t) ≡ tree_in t
unfolding tree_in
same_tree t = refl

module _ (t : Tables) (w : T (well_formed t)) (nodes_long : records_needed (measures_of t) * record_places ≤ length t.nodes)
    (links_long : links_needed (measures_of t) ≤ length t.links) where
  count_most : trace_count t ≤ (measures_of t).capacity
  count_most = (tree_formed t w).room

  nodes_are : node_count t ≤ 2 * trace_count t - 1
  nodes_are = omega (arith, nodes_most (tree_formed t w).shape, tree_size t)

  pub walks : Walks t.nodes t.links (trace_count t) (node_count t)
  unfolding records_needed links_needed
  walks = record {
    n = (measures_of t).n;
    shape = subst (Shape (measures_of t).n (trace_count t)) (sym (same_tree t)) (tree_formed t w).shape;
    named = kind_named t w;
    few = omega (arith, count_most, (measures_fit t w).capacity_high);
    nodes_few = omega (arith, nodes_are, count_most, (measures_fit t w).capacity_high);
    nodes_room = omega (arith, nodes_are, count_most, nodes_long);
    links_room = omega (arith, count_most, links_long);
    rising = tables_rise t w;
  }
