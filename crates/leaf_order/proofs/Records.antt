-- What the records of a tree that may be gone through say: the kind of a node, its children, and its key.
use Prim.Native.Nat.{ℕ, zero, suc, ◌≤◌, ◌<◌, max}
use mathlib.Core.Path.{◌≡◌, refl, sym, ◌∙◌, ap, subst}
use mathlib.Core.List.{List, []}
use native.Mathlib.Omega.{arith}
use lib.IntN.{ℤ}
use lib.ListN.{length}
use lib.Dec.{T}
use Rattle.segment.specs.Stored.{samples_of}
use Rattle.segment.proofs.Stored.{samples_length}
use Rattle.dstree.specs.Measures.{Trace}
use Rattle.dstree.specs.Node.{by_sum, by_scatter, Test, Kind, leaf, inner, Node, node_at}
use Rattle.dstree.specs.Matching.{own_bound, is_leaf_kind}
use Rattle.tables.specs.Layout.{kind_place, first_place, right_place}
use Rattle.tables.specs.Tables.{record_of}
use Rattle.tables.specs.View.{small_at, test_in, numbers_from, kind_in, node_in, shape_in}
use Rattle.tables.proofs.Views.{shape_size, shape_node}
use Rattle.query.specs.Bounded.{Bounded, bound_by}
use Rattle.query.proofs.Own.{own_bound_in}
use Rattle.best_first.specs.NodeKeys.{key_of, child_key}
use Rattle.best_first.proofs.Branching.{left_above, right_above}
use Rattle.leaf_order.specs.Waits.{Walkable}

-- an inner node, with the children that its record names
pub record InnerAt (nodes : List ℤ) (m j : ℕ) : Type 0 where
  pub test : Test
  pub is_inner : (node_at (shape_in nodes m) j).kind ≡ inner test (small_at (record_of nodes j) first_place) (small_at (record_of nodes j) right_place)

module _ (nodes : List ℤ) (m : ℕ) where
  kind_is : (j : ℕ) → j < m → (node_at (shape_in nodes m) j).kind ≡ kind_in [] 0 (record_of nodes j) (small_at (record_of nodes j) kind_place)
  unfolding node_in
  kind_is j h = ap (λ (a : Node). a.kind) (shape_node nodes m j h)

  -- the key of a node, from its record
  pub key_is : (query : Trace) (j above : ℕ) → j < m → key_of (max (bound_by query (record_of nodes j)) above) j ≡ child_key (shape_in nodes m) query above j
  key_is query j above h =
      let e : own_bound query (node_at (shape_in nodes m) j) ≡ bound_by query (record_of nodes j) = ap (own_bound query) (shape_node nodes m j h) ∙ own_bound_in query [] 0 (record_of nodes j) in
      ap (λ (y : ℕ). key_of (max y above) j) (sym e)

  pub is_leaf : (j : ℕ) → j < m → small_at (record_of nodes j) kind_place ≡ 0 → (node_at (shape_in nodes m) j).kind ≡ leaf (numbers_from [] 1 (small_at (record_of nodes j) first_place))
  unfolding kind_in
  is_leaf j h e = kind_is j h ∙ ap (kind_in [] 0 (record_of nodes j)) e

  inner_by : (j v : ℕ) → v ≤ 2 → 1 ≤ v → (node_at (shape_in nodes m) j).kind ≡ kind_in [] 0 (record_of nodes j) v → InnerAt nodes m j
  unfolding kind_in
  inner_by j zero h f e = absurd (omega arith)
  inner_by j (suc zero) h f e = record { test = test_in (record_of nodes j) by_sum; is_inner = e }
  inner_by j (suc (suc zero)) h f e = record { test = test_in (record_of nodes j) by_scatter; is_inner = e }
  inner_by j (suc (suc (suc v))) h f e = absurd (omega arith)

  -- a query of words has as many samples
  pub bounded_words : (query : List ℤ) → Walkable nodes m (samples_of query) → (j : ℕ) → j < m → Bounded (record_of nodes j) (length query)
  bounded_words query w j h = subst (Bounded (record_of nodes j)) (samples_length query) (w.bounded j h)

  module _ (query : Trace) (w : Walkable nodes m query) where
    pub number_fits : (j : ℕ) → j < m → j ≤ 8191
    number_fits j h = omega (arith, w.branching.few, shape_size nodes m)

    pub some_node : 0 < m
    some_node = omega (arith, w.branching.some_node, shape_size nodes m)

    -- a leaf's kind field is 0
    pub leaf_kind : (j : ℕ) → j < m → T (is_leaf_kind (node_at (shape_in nodes m) j).kind) → small_at (record_of nodes j) kind_place ≡ 0
    unfolding kind_in is_leaf_kind
    leaf_kind j h t = by (small_at (record_of nodes j) kind_place) (w.named j h) (subst (λ (k : Kind). T (is_leaf_kind k)) (kind_is j h) t)
      where
        by : (v : ℕ) → v ≤ 2 → T (is_leaf_kind (kind_in [] 0 (record_of nodes j) v)) → v ≡ 0
        by zero g t = refl
        by (suc zero) g t = absurd t
        by (suc (suc zero)) g t = absurd t
        by (suc (suc (suc v))) g t = absurd (omega arith)

    pub inner_at : (j : ℕ) → j < m → 1 ≤ small_at (record_of nodes j) kind_place → InnerAt nodes m j
    inner_at j h f = inner_by j (small_at (record_of nodes j) kind_place) (w.named j h) f (kind_is j h)

    pub left_in : (j : ℕ) → j < m → 1 ≤ small_at (record_of nodes j) kind_place → small_at (record_of nodes j) first_place < m
    left_in j h f = omega (arith, (left_above (shape_in nodes m) w.branching j (inner_at j h f).is_inner).1, shape_size nodes m)

    pub right_in : (j : ℕ) → j < m → 1 ≤ small_at (record_of nodes j) kind_place → small_at (record_of nodes j) right_place < m
    right_in j h f = omega (arith, (right_above (shape_in nodes m) w.branching j (inner_at j h f).is_inner).1, shape_size nodes m)

    -- a child is numbered above its parent
    pub right_over : (j : ℕ) → j < m → 1 ≤ small_at (record_of nodes j) kind_place → j < small_at (record_of nodes j) right_place
    right_over j h f = (right_above (shape_in nodes m) w.branching j (inner_at j h f).is_inner).0
