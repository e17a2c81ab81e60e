-- What `read_leaf` leaves is what reading a leaf is, for the tree and the traces that tables stand for.
use mathlib.Core.Path.{◌≡◌, sym, ap, ap₂, ◌∙◌}
use mathlib.Core.List.{List, [], ◌∷◌, ◌++◌, map, foldl}
use Prim.Native.Nat.{ℕ, ◌+◌, ◌<◌}
use lib.ListN.{length, get_or, length-map}
use Rattle.integer.proofs.Lists.{In, map_agree}
use Rattle.segment.specs.Figures.{distance}
use Rattle.dstree.specs.Measures.{Trace}
use Rattle.dstree.specs.Node.{node_at}
use Rattle.dstree.specs.Matching.{Near, numbers_in, distances_in}
use Rattle.dstree.specs.KNearest.{Listing, list_with, read_into}
use Rattle.tables.specs.Layout.{kind_place, first_place}
use Rattle.tables.specs.Tables.{Tables, measures_of, trace_count, node_count, record_of}
use Rattle.tables.specs.View.{small_at, tree_in, trace_in, traces_in}
use Rattle.tables.specs.Walk.{numbers_of, Stored}
use Rattle.tables.proofs.Views.{tree_numbers, trace_at}
use Rattle.tables.proofs.Listed.{numbers_below}
use Rattle.reading.specs.Nearest.{near, near_of}

-- node j of the tables is a leaf, and its list is among the stored traces
pub record LeafInTables (t : Tables) (j : ℕ) : Type 0 where
  pub inside : j < node_count t
  pub is_leaf : small_at (record_of t.nodes j) kind_place ≡ 0
  pub stored : Stored t.samples t.links (measures_of t).n (trace_count t) (small_at (record_of t.nodes j) first_place)

module _ (t : Tables) (j : ℕ) (a : LeafInTables t j) where
  abbrev head : ℕ
  head = small_at (record_of t.nodes j) first_place

  -- the leaf's numbers, as a walk along the links meets them
  abbrev pub numbers : List ℕ
  numbers = numbers_of t.links (trace_count t) head

  numbers_are : numbers_in (node_at (tree_in t) j).kind ≡ numbers
  numbers_are = tree_numbers t j a.inside a.is_leaf

  met_at : (i : ℕ) → In i numbers → get_or (traces_in t) i [] ≡ trace_in t.samples (measures_of t).n i
  met_at i h = trace_at t i (numbers_below t.links (trace_count t) a.stored.rising head i a.stored.inside h)

  module _ (query : Trace) where
    abbrev distances : List Near
    distances = map (near_of t.samples (measures_of t).n query) numbers

    pub distances_are : distances_in (traces_in t) (tree_in t) query j ≡ distances
    unfolding distances_in
    distances_are =
        let by : ℕ → Near = λ i. near i (distance query (get_or (traces_in t) i [])) in
        ap (map by) numbers_are
        ∙ map_agree by (near_of t.samples (measures_of t).n query) numbers
        (λ i h. ap (λ (x : Trace). near i (distance query x)) (met_at i h))

    -- what a reading adds to a search
    reading_is : (k : ℕ) (s : Listing) → read_into k (traces_in t) (tree_in t) query s j
        ≡ record { list = foldl (list_with k) s.list distances; traces = s.traces + length numbers; trail = s.trail ++ (j ∷ []) }
    unfolding read_into
    reading_is k s =
        let e : length distances ≡ length numbers = length-map numbers (near_of t.samples (measures_of t).n query) in
        rw (distances_are, e)

    -- so that what `read_leaf` leaves is the search after the leaf
    pub answer_is : (k : ℕ) (s : Listing) (list : List Near) (traces : ℕ) → list ≡ foldl (list_with k) s.list distances
        → traces ≡ length numbers
        → read_into k (traces_in t) (tree_in t) query s j ≡ record { list = list; traces = s.traces + traces; trail = s.trail ++ (j ∷ []) }
    answer_is k s list traces f g =
        reading_is k s
        ∙ ap₂ (λ (l : List Near) (m : ℕ). record { list = l; traces = s.traces + m; trail = s.trail ++ (j ∷ []) }) (sym f) (sym g)
