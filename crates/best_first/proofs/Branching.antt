-- Well-formed tables are `Branching`. From it: over all nodes, each number but 0 is once among the children, and no bound falls on the way
-- down.
use Prim.Native.Nat.{ℕ, zero, suc, ◌+◌, ◌≤◌, ◌<◌, max}
use mathlib.Core.Path.{◌≡◌, sym, ◌∙◌, subst}
use mathlib.Core.List.{List, [], ◌∷◌, map, flatten}
use native.Mathlib.Omega.{arith}
use lib.ListN.{length, get_or}
use lib.Dec.{T, leb, leb→le}
use mir.Facts.{and_yes}
use Rattle.integer.specs.Words.{counting, times_in}
use Rattle.integer.proofs.Tests.{passed}
use Rattle.integer.proofs.Lists.{In, first, later, InFlat, flat, from_flat}
use Rattle.integer.proofs.Times.{times_once, counting_length}
use Rattle.dstree.specs.Measures.{Trace, Measures, within, in_range}
use Rattle.dstree.specs.Node.{Test, Kind, inner, Tree, node_at}
use Rattle.dstree.specs.Matching.{own_bound, has_child, bound}
use Rattle.dstree.specs.WellFormed.{children_of}
use Rattle.dstree.proofs.Formed.{Formed, Parent, well_formed_lem, child_in, in_child, child_node, children_once}
use Rattle.dstree.proofs.Nodes.{nodes_at_most}
use Rattle.dstree.proofs.Bounds.{child_bound}
use Rattle.best_first.specs.Branching.{Branching}

-- ---- of well-formed tables

-- "Capacity is 1 to 4,096 traces"
capacity_most : (m : Measures) → T (in_range m) → m.capacity ≤ 4096
unfolding in_range
capacity_most m t =
    let p = passed (within 1 m.n 256) (within 1 m.capacity 4096 ∷ within 1 m.leaf_size 64 ∷ []) t in
    leb→le m.capacity 4096 (and_yes (leb 1 m.capacity) (leb m.capacity 4096) p.1.0).1

pub branching : {limit : ℕ} {m : Measures} {count : ℕ} {tree : Tree} → Formed limit m count tree → 0 < length tree → Branching tree
branching {limit} {m} {count} {tree} f h = record {
  some_node = h;
  few = omega (arith, nodes_at_most limit m count tree (well_formed_lem f), f.room, capacity_most m f.measured);
  children = f.shape.children;
}

-- ---- children

-- the children of a node by its number
abbrev pub kids : Tree → ℕ → List ℕ
kids tree number = children_of (node_at tree number).kind

-- .. of all nodes
abbrev pub all_kids : Tree → List ℕ
all_kids tree = flatten (map (kids tree) (counting (length tree) 0))

pub has_left : (kind : Kind) {test : Test} {l r : ℕ} → kind ≡ inner test l r → T (has_child l kind)
unfolding children_of
has_left kind {test} {l} {r} e = in_child l kind (subst (λ (k : Kind). In l (children_of k)) (sym e) first)

pub has_right : (kind : Kind) {test : Test} {l r : ℕ} → kind ≡ inner test l r → T (has_child r kind)
unfolding children_of
has_right kind {test} {l} {r} e = in_child r kind (subst (λ (k : Kind). In r (children_of k)) (sym e) (later first))

counting_at : (n a j : ℕ) → j < n → get_or (counting n a) j 0 ≡ a + j
unfolding counting
counting_at zero a j h = absurd (omega arith)
counting_at (suc n) a zero h = omega arith
counting_at (suc n) a (suc j) h = counting_at n (suc a) j (omega arith) ∙ omega arith

module _ (tree : Tree) (b : Branching tree) where
  -- the number at a place of all numbers is the place
  at_place : (j : ℕ) → j < length tree → get_or (counting (length tree) 0) j 0 ≡ j
  at_place j h = counting_at (length tree) 0 j h ∙ omega arith

  pub kids_once : (c : ℕ) → 0 < c → c < length tree → times_in c (all_kids tree) ≡ 1
  kids_once c low high = by (b.children.parented c low high)
    where
      by : Parent tree c → times_in c (all_kids tree) ≡ 1
      by p =
          let inside : p.parent < length tree = child_node tree p.parent c p.has in
          times_once (kids tree) 0 c (counting (length tree) 0) (record {
            place = p.parent;
            inside = rw (counting_length (length tree) 0) inside;
            once = subst (λ (j : ℕ). times_in c (kids tree j) ≡ 1) (sym (at_place p.parent inside))
                (children_once c (node_at tree p.parent).kind (b.children.children_differ p.parent)
                (child_in c (node_at tree p.parent).kind p.has));
            only = λ j h i.
                let g : j < length tree = rw (counting_length (length tree) 0) at h in
                b.children.one_parent j p.parent c (in_child c (node_at tree j).kind (subst (λ (k : ℕ). In c (kids tree k)) (at_place j g) i)) p.has;
          })

  pub kids_inside : (c : ℕ) → In c (all_kids tree) → (0 < c) × (c < length tree)
  kids_inside c i = by (from_flat (kids tree) (counting (length tree) 0) i)
    where
      by : InFlat (kids tree) c (counting (length tree) 0) → (0 < c) × (c < length tree)
      by (flat p j k) = let h = b.children.child p c (in_child c (node_at tree p).kind k) in (omega (arith, h.0), h.1)

  module _ (i : ℕ) {test : Test} {l r : ℕ} (e : (node_at tree i).kind ≡ inner test l r) where
    pub left_above : (i < l) × (l < length tree)
    left_above = b.children.child i l (has_left (node_at tree i).kind e)

    pub right_above : (i < r) × (r < length tree)
    right_above = b.children.child i r (has_right (node_at tree i).kind e)

    -- ---- bounds

    pub left_bound : (query : Trace) → bound tree query l ≡ max (own_bound query (node_at tree l)) (bound tree query i)
    left_bound query = child_bound tree b.children.child b.children.one_parent query i l (has_left (node_at tree i).kind e)

    pub right_bound : (query : Trace) → bound tree query r ≡ max (own_bound query (node_at tree r)) (bound tree query i)
    right_bound query = child_bound tree b.children.child b.children.one_parent query i r (has_right (node_at tree i).kind e)
