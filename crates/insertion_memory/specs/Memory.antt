-- Document 01, "Adding", on the tables: every place of them after an accepted adding, whatever well-formed tables hold.
use Rattle.std.specs.Prelude.{ℕ, zero, suc, ◌*◌, ℤ, length, get_or, set, ltb, if◌then◌else◌}
use Rattle.std.proofs.Math.Option.{Option, none, some}
use mathlib.Core.List.{List, [], ◌∷◌, ◌++◌, foldl}
use Rattle.std.proofs.Math.Seq.{paste}
use Rattle.integer.specs.Words.{last_of}
use Rattle.segment.specs.Stored.{words_of}
use Rattle.dstree.specs.Measures.{Trace, Measures}
use Rattle.dstree.specs.Labels.{Label}
use Rattle.dstree.specs.Node.{Kind, leaf, inner, Tree, node_at, ends}
use Rattle.dstree.specs.Adding.{way, segments_of, traces_of, Split, best}
use Rattle.dstree.specs.Matching.{numbers_in}
use Rattle.tables.specs.Layout.{trace_count_place, node_count_place, kind_place}
use Rattle.tables.specs.Tables.{Tables, labelled_tables, measures_of, trace_count, node_count, record_of, with_record}
use Rattle.tables.specs.View.{small_at, segments_in, kind_in, tree_in, traces_in, next_labelled}
use Rattle.insertion_memory.specs.Records.{leaf_record, widen_record, inner_record}
use Rattle.insertion_memory.specs.Links.{joined, linked}

-- ---- nodes and links, and how many nodes there are

pub record TreeTables : Type 0 where
  pub nodes : List ℤ
  pub links : List ℕ
  pub count : ℕ

abbrev pub tree_tables : List ℤ → List ℕ → ℕ → TreeTables
tree_tables nodes links count = record { nodes = nodes; links = links; count = count }

-- node j's record changed
abbrev pub on_record : (List ℤ → List ℤ) → List ℤ → ℕ → List ℤ
on_record change nodes j = with_record nodes j (change (record_of nodes j))

-- ---- splitting

-- "The leaf keeps its number and becomes inner; left, then right child take the next two numbers", their records from their own traces.
-- With no split the leaf "stays whole"
unfoldable pub split_to : List Trace → TreeTables → ℕ → Option Split → TreeTables
split_to traces h at none = h
split_to traces h at (some s) =
    let parent = on_record (inner_record s.test h.count (suc h.count)) h.nodes at in
    let left = with_record parent h.count (leaf_record (segments_of s.child_ends (traces_of traces s.left)) (get_or s.left 0 0)) in
    let right = with_record left (suc h.count) (leaf_record (segments_of s.child_ends (traces_of traces s.right))
    (get_or s.right 0 0)) in
    tree_tables right (linked s.right (linked s.left h.links)) (suc (suc h.count))

-- a leaf that "holds more than the leaf size .. splits"
unfoldable pub split_leaf : ℕ → List Trace → TreeTables → ℕ → Kind → TreeTables
split_leaf leaf_size traces h at (inner test left right) = h
split_leaf leaf_size traces h at (leaf numbers) =
    let result = split_to traces h at (best traces (ends (segments_in (record_of h.nodes at))) numbers) in
    if ltb leaf_size (length numbers) then result else h

-- the node at a number, tried
unfoldable pub split_node : ℕ → List Trace → TreeTables → ℕ → TreeTables
split_node leaf_size traces h at =
    let r = record_of h.nodes at in
    split_leaf leaf_size traces h at (kind_in h.links (length traces) r (small_at r kind_place))

-- "New leaves above the leaf size split likewise, lowest number first"
unfoldable pub split_on : ℕ → ℕ → List Trace → TreeTables → ℕ → TreeTables
split_on zero leaf_size traces h at = h
split_on (suc fuel) leaf_size traces h at =
    let onward = split_on fuel leaf_size traces (split_node leaf_size traces h at) (suc at) in
    if ltb at h.count then onward else h

-- the joined leaf, then the new ones
unfoldable pub split_all_of : ℕ → List Trace → TreeTables → ℕ → TreeTables
split_all_of leaf_size traces h at = split_on (2 * length traces) leaf_size traces (split_node leaf_size traces h at) h.count

-- ---- adding, by what document 01's `insertion` goes by: measures, the traces so far, and the tree that nodes and links stand for

-- "widening least and greatest at every node it meets": the records of these nodes, one after another
abbrev pub widened_on : Trace → List ℤ → List ℕ → List ℤ
widened_on x = foldl (on_record (widen_record x))

-- "its first trace makes leaf 0 with one segment"
unfoldable pub first_tables : Measures → Trace → TreeTables → TreeTables
first_tables m x h = tree_tables (with_record h.nodes 0 (leaf_record (segments_of (m.n ∷ []) (x ∷ [])) 0)) (set h.links 0 0) 1

-- "Otherwise the trace goes down by the tests, widening least and greatest at every node it meets, the leaf too, .. and joins a leaf"
unfoldable pub joined_tables : List Trace → Tree → Trace → TreeTables → TreeTables
joined_tables stored tree x h =
    let met = way tree x in
    tree_tables (widened_on x h.nodes met) (joined h.links (numbers_in (node_at tree (last_of met)).kind) (length stored)) h.count

unfoldable pub inserted_tables : Measures → List Trace → Tree → Trace → TreeTables → TreeTables
inserted_tables m stored [] x h = first_tables m x h
inserted_tables m stored (root ∷ rest) x h =
    split_all_of m.leaf_size (stored ++ (x ∷ [])) (joined_tables stored (root ∷ rest) x h) (last_of (way (root ∷ rest) x))

-- nodes and links of tables, and with a trace more
abbrev pub tree_tables_in : Tables → TreeTables
tree_tables_in t = tree_tables t.nodes t.links (node_count t)

abbrev pub tree_tables_after : Tables → Trace → TreeTables
tree_tables_after t x = inserted_tables (measures_of t) (traces_in t) (tree_in t) x (tree_tables_in t)

-- the tables after an accepted adding. "Adding .. leave[s] search work as it was"
unfoldable pub added_to : Tables → Trace → Tables
added_to t x =
    let h = tree_tables_after t x in
    labelled_tables (set (set t.control trace_count_place (suc (trace_count t))) node_count_place h.count)
    (paste t.samples (trace_count t * (measures_of t).n) (words_of x) (measures_of t).n)
    h.nodes h.links t.work t.labels

-- document 02, §8: traces added in order, each with its label, "given when it is added". One definition for adding, import and reading
abbrev pub added_with : Tables → List Trace → List Label → Tables
added_with t traces labels = foldl added_to (next_labelled t labels) traces
