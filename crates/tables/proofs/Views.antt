-- What tables stand for, read node by node and trace by trace: node j of the tree is its record read as a node, trace i its samples. For
-- any contents; then what the test for well-formed tables says of them.
use Prim.Native.Nat.{ℕ, ◌+◌, ◌≤◌, ◌<◌}
use mathlib.Core.Path.{◌≡◌, refl, ap, ◌∙◌}
use mathlib.Core.List.{List, []}
use native.Mathlib.Omega.{arith}
use lib.IntN.{ℤ}
use lib.ListN.{length, get_or, length-map}
use lib.Dec.{T, leb, leb→le}
use mir.Facts.{and_yes}
use Rattle.integer.specs.Words.{counting}
use Rattle.integer.proofs.Tests.{test_true}
use Rattle.integer.proofs.Lists.{from_every, in_counting}
use Rattle.integer.proofs.Times.{counting_length}
use Rattle.integer.proofs.Rows.{get_or_table}
use Rattle.dstree.specs.Measures.{sample_limit}
use Rattle.dstree.specs.Node.{Segment, Node, node, leaf, node_at, ends}
use Rattle.dstree.specs.Matching.{numbers_in}
use Rattle.dstree.specs.WellFormed as abstract
use Rattle.dstree.proofs.Formed.{Formed, formed}
use Rattle.tables.specs.Layout.{kind_place, segments_place, first_place, segment_at}
use Rattle.tables.specs.Tables.{Tables, measures_of, trace_count, node_count, record_of}
use Rattle.tables.specs.View.{small_at, segment_in, segments_in, kind_in, node_in, tree_in, shape_in, trace_in, traces_in, kinds_named, well_formed}
use Rattle.tables.specs.Judge.{InRange}
use Rattle.tables.specs.Walk.{numbers_of}
use Rattle.tables.proofs.Range.{in_range_lem}

-- where a segment ends
pub end_at : (r : List ℤ) (i : ℕ) → (segment_in r i).end ≡ small_at r (segment_at i)
unfolding segment_in
end_at r i = refl

-- a record has as many segments as it says, and as many right ends
pub segments_length : (r : List ℤ) → length (segments_in r) ≡ small_at r segments_place
unfolding segments_in
segments_length r = length-map (counting (small_at r segments_place) 0) (segment_in r) ∙ counting_length (small_at r segments_place) 0

pub ends_length : (r : List ℤ) → length (ends (segments_in r)) ≡ small_at r segments_place
ends_length r = length-map (segments_in r) (λ (a : Segment). a.end) ∙ segments_length r

-- the tree of the records alone
module _ (nodes : List ℤ) (count : ℕ) where
  abbrev bare : ℕ → Node
  bare j = node_in [] 0 (record_of nodes j)

  pub shape_size : length (shape_in nodes count) ≡ count
  unfolding shape_in
  shape_size = length-map (counting count 0) bare ∙ counting_length count 0

  pub shape_node : (j : ℕ) → j < count → node_at (shape_in nodes count) j ≡ node_in [] 0 (record_of nodes j)
  unfolding shape_in
  shape_node j h = let e : 0 + j ≡ j = omega arith in get_or_table bare count 0 j (node [] (leaf [])) h ∙ ap bare e

module _ (t : Tables) where
  abbrev made : ℕ → Node
  made j = node_in t.links (trace_count t) (record_of t.nodes j)

  -- ---- nodes

  pub tree_size : length (tree_in t) ≡ node_count t
  unfolding tree_in
  tree_size = length-map (counting (node_count t) 0) made ∙ counting_length (node_count t) 0

  pub tree_node : (j : ℕ) → j < node_count t → node_at (tree_in t) j ≡ node_in t.links (trace_count t) (record_of t.nodes j)
  unfolding tree_in
  tree_node j h = let e : 0 + j ≡ j = omega arith in get_or_table made (node_count t) 0 j (node [] (leaf [])) h ∙ ap made e

  pub tree_inside : (j : ℕ) → j < node_count t → j < length (tree_in t)
  tree_inside j h = omega (arith, h, tree_size)

  pub tree_segments : (j : ℕ) → j < node_count t → (node_at (tree_in t) j).segments ≡ segments_in (record_of t.nodes j)
  unfolding node_in
  tree_segments j h = ap (λ (a : Node). a.segments) (tree_node j h)

  pub tree_kind : (j : ℕ) → j < node_count t → (node_at (tree_in t) j).kind ≡ kind_in t.links (trace_count t) (record_of t.nodes j) (small_at (record_of t.nodes j) kind_place)
  unfolding node_in
  tree_kind j h = ap (λ (a : Node). a.kind) (tree_node j h)

  -- a leaf's numbers are those of the list that starts at its first
  pub tree_leaf : (j : ℕ) → j < node_count t → small_at (record_of t.nodes j) kind_place ≡ 0
      → (node_at (tree_in t) j).kind ≡ leaf (numbers_of t.links (trace_count t) (small_at (record_of t.nodes j) first_place))
  unfolding kind_in
  tree_leaf j h e = tree_kind j h ∙ rw e

  pub tree_numbers : (j : ℕ) → j < node_count t → small_at (record_of t.nodes j) kind_place ≡ 0
      → numbers_in (node_at (tree_in t) j).kind ≡ numbers_of t.links (trace_count t) (small_at (record_of t.nodes j) first_place)
  unfolding numbers_in
  tree_numbers j h e = ap numbers_in (tree_leaf j h e)

  -- ---- traces

  pub traces_size : length (traces_in t) ≡ trace_count t
  unfolding traces_in
  traces_size = length-map (counting (trace_count t) 0) (trace_in t.samples (measures_of t).n) ∙ counting_length (trace_count t) 0

  pub trace_at : (i : ℕ) → i < trace_count t → get_or (traces_in t) i [] ≡ trace_in t.samples (measures_of t).n i
  unfolding traces_in
  trace_at i h =
      let e : 0 + i ≡ i = omega arith in
      get_or_table (trace_in t.samples (measures_of t).n) (trace_count t) 0 i [] h ∙ ap (trace_in t.samples (measures_of t).n) e

  -- ---- well-formed tables

  module _ (w : T (well_formed t)) where
    both : T (kinds_named t) × T (abstract.well_formed_tree sample_limit (measures_of t) (trace_count t) (tree_in t))
    unfolding well_formed
    both = and_yes (kinds_named t) (abstract.well_formed_tree sample_limit (measures_of t) (trace_count t) (tree_in t)) w

    pub tree_passes : T (abstract.well_formed_tree sample_limit (measures_of t) (trace_count t) (tree_in t))
    tree_passes = both.1

    -- the rules, as facts of the tree
    pub tree_formed : Formed sample_limit (measures_of t) (trace_count t) (tree_in t)
    tree_formed = formed sample_limit (measures_of t) (trace_count t) (tree_in t) tree_passes

    pub measures_fit : InRange (measures_of t)
    measures_fit = in_range_lem (measures_of t) (test_true _ tree_formed.measured)

    pub kind_named : (j : ℕ) → j < node_count t → small_at (record_of t.nodes j) kind_place ≤ 2
    unfolding kinds_named
    kind_named j h =
        leb→le _ 2 (from_every (λ j. leb (small_at (record_of t.nodes j) kind_place) 2) (counting (node_count t) 0) both.0 (in_counting (node_count t) 0 j (omega arith) (omega arith)))
