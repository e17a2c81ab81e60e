-- What tables stand for: the traces and the tree of document 01, read from any contents whatever; and "Well-formed tables".
use Rattle.std.specs.Prelude.{ℕ, zero, suc, ◌+◌, ◌*◌, ◌^◌, Bool, not, ◌&&◌, List, [], ◌∷◌, map, ℤ, pos, negsuc, length, get_or, take, drop, leb, ltb, eqb, if◌then◌else◌}
use Rattle.std.proofs.Math.Seq.{paste}
use Rattle.integer.specs.Words.{counting, every}
use Rattle.segment.specs.Stored.{samples_of}
use Rattle.dstree.specs.Measures.{Trace, sample_limit, are_samples}
use Rattle.dstree.specs.Labels.{Label, label_place, label_at}
use Rattle.dstree.specs.Figures.{run}
use Rattle.dstree.specs.Node.{Segment, Figure, by_sum, by_scatter, Test, Kind, leaf, inner, Node, node, Tree}
use Rattle.dstree.specs.WellFormed as abstract
use Rattle.tables.specs.Layout.{kind_place, segments_place, first_place, right_place, run_first_place, run_last_place, threshold_place}
use Rattle.tables.specs.Layout.{segment_at}
use Rattle.tables.specs.Tables.{Tables, with_labels, measures_of, trace_count, node_count, record_of}

-- ---- fields of a record

-- the greatest 16-bit number
abbrev pub small_most : ℕ
small_most = 65535

-- a field that holds a small number: node and trace numbers, ends, samples, kinds. Whatever is no 16-bit number reads as 65,536, which no
-- rule accepts
abbrev pub small_of : ℤ → ℕ
small_of (pos n) = if ltb small_most n then small_most + 1 else n
small_of (negsuc n) = small_most + 1

-- a field that holds a scatter. Below zero it reads as 2^63, above every limit
abbrev pub scatter_in : ℤ → ℕ
scatter_in (pos n) = n
scatter_in (negsuc n) = 2 ^ 63

abbrev pub value_at : List ℤ → ℕ → ℤ
value_at r place = get_or r place (pos 0)

abbrev pub small_at : List ℤ → ℕ → ℕ
small_at r place = small_of (value_at r place)

-- ---- a record as a node

-- segment i, from 0
unfoldable pub segment_in : List ℤ → ℕ → Segment
segment_in r i = record {
  end = small_at r (segment_at i);
  least_sum = value_at r (segment_at i + 1);
  greatest_sum = value_at r (segment_at i + 2);
  least_scatter = scatter_in (value_at r (segment_at i + 3));
  greatest_scatter = scatter_in (value_at r (segment_at i + 4));
}

unfoldable pub segments_in : List ℤ → List Segment
segments_in r = map (segment_in r) (counting (small_at r segments_place) 0)

unfoldable pub test_in : List ℤ → Figure → Test
test_in r figure =
    record { on = run (small_at r run_first_place) (small_at r run_last_place); figure = figure; threshold = value_at r threshold_place }

-- a leaf's trace numbers: its first, then by the links. A link of 0 ends them, which no number is that a rising list goes on to. `fuel` of
-- them at most
unfoldable pub numbers_from : List ℕ → ℕ → ℕ → List ℕ
numbers_from links zero number = []
numbers_from links (suc fuel) number =
    let next = get_or links number 0 in
    let rest = numbers_from links fuel next in
    number ∷ (if eqb next 0 then [] else rest)

-- by the kind field: 0 a leaf, 1 inner by sum, 2 inner by scatter. (Any other is refused; it reads as a leaf with nothing in it.)
-- Rising numbers below the count are no more than it, so that one more is fuel enough to see any other list
unfoldable pub kind_in : List ℕ → ℕ → List ℤ → ℕ → Kind
kind_in links count r zero = leaf (numbers_from links (suc count) (small_at r first_place))
kind_in links count r (suc zero) = inner (test_in r by_sum) (small_at r first_place) (small_at r right_place)
kind_in links count r (suc (suc zero)) = inner (test_in r by_scatter) (small_at r first_place) (small_at r right_place)
kind_in links count r (suc (suc (suc other))) = leaf []

unfoldable pub node_in : List ℕ → ℕ → List ℤ → Node
node_in links count r = node (segments_in r) (kind_in links count r (small_at r kind_place))

-- ---- tables as a library

unfoldable pub tree_in : Tables → Tree
tree_in t = map (λ j. node_in t.links (trace_count t) (record_of t.nodes j)) (counting (node_count t) 0)

-- the tree of the first records alone, no leaf with its list: neither the way down nor the order of reading depends on what leaves hold
unfoldable pub shape_in : List ℤ → ℕ → Tree
shape_in nodes count = map (λ j. node_in [] 0 (record_of nodes j)) (counting count 0)

-- trace i: the samples that n words from i × n on stand for
unfoldable pub trace_in : List ℤ → ℕ → ℕ → Trace
trace_in samples n i = samples_of (take n (drop (i * n) samples))

unfoldable pub traces_in : Tables → List Trace
traces_in t = map (trace_in t.samples (measures_of t).n) (counting (trace_count t) 0)

-- document 02, §8: the labels of the stored traces, in order
unfoldable pub labels_in : Tables → List Label
labels_in t = map label_at (take (trace_count t) t.labels)

-- labels over the places from one on. All others stay
abbrev pub labels_over : List ℕ → ℕ → List Label → List ℕ
labels_over places at labels = paste places at (map label_place labels) (length labels)

-- these tables with labels for the traces that are added next, in order: over the places behind those of the stored traces
abbrev pub next_labelled : Tables → List Label → Tables
next_labelled t labels = with_labels (labels_over t.labels (trace_count t) labels) t

-- ---- "Well-formed tables"

-- "every kind field a value that its layout names"
unfoldable pub kinds_named : Tables → Bool
kinds_named t = every (λ j. leb (small_at (record_of t.nodes j) kind_place) 2) (counting (node_count t) 0)

-- the other rules are of what the tables stand for. "Recorded sums and scatters are not recomputed": no sample is looked at
unfoldable pub well_formed : Tables → Bool
well_formed t = kinds_named t && abstract.well_formed_tree sample_limit (measures_of t) (trace_count t) (tree_in t)

-- document 02, §9: no "stored sample outside the limits". Every word stands for a sample within them, so that this holds of any contents
unfoldable pub samples_inside : Tables → Bool
samples_inside t = every are_samples (traces_in t)

-- "A stored sample outside the limits makes the tables spoiled", as does a rule of "Well-formed tables" that does not hold
unfoldable pub is_spoiled : Tables → Bool
is_spoiled t = not (well_formed t && samples_inside t)
