-- Document 01, "Adding".
use Rattle.std.specs.Prelude.{ℕ, zero, suc, ◌+◌, ◌*◌, ◌-◌, ◌/◌, min, max, Bool, not, ◌&&◌, length, get_or, take, ℤ, pos, ◌+ℤ◌, ◌-ℤ◌, leb, ltb, if◌then◌else◌}
use Rattle.std.proofs.Math.Option.{Option, none, some}
use mathlib.Core.List.{List, [], ◌∷◌, ◌++◌, map, foldl}
use Rattle.std.specs.Int.Signed.{lt_z}
use Rattle.integer.specs.Words.{lesser, greater, least_ℤ, greatest_ℤ, least, greatest, counting, those, chosen, is_empty}
use Rattle.integer.specs.Words.{last_of}
use Rattle.segment.specs.Terms.{spread_term}
use Rattle.dstree.specs.Measures.{Trace, Measures}
use Rattle.dstree.specs.Figures.{Run, run, width, sum_on, scatter_on}
use Rattle.dstree.specs.Node.{Segment, Figure, by_sum, by_scatter, Test, Kind, leaf, inner, Node, node, Tree, node_at, change_at}
use Rattle.dstree.specs.Node.{figure_of, sends_left, ends, total_over, change_all, most_segments}

-- ---- the way down

-- the child that a trace goes to, none at a leaf
unfoldable pub next_node : Kind → Trace → Option ℕ
next_node (leaf numbers) x = none
next_node (inner test left right) x = some (if sends_left test x then left else right)

-- "the trace goes down by the tests": the nodes it meets from `at` on, the leaf last.
-- Children are numbered above their parent, so that the number of nodes is fuel enough
unfoldable pub way_from : ℕ → Tree → Trace → ℕ → List ℕ
way_from zero tree x at = []
way_from (suc fuel) tree x at = at ∷ elim (next_node (node_at tree at).kind x) [ none ↦ [] | some child ↦ way_from fuel tree x child ]

abbrev pub way : Tree → Trace → List ℕ
way tree x = way_from (length tree) tree x 0

-- "widening least and greatest"
unfoldable pub widen_segment : Trace → Run → Segment → Segment
widen_segment x on s = record {
  end = s.end;
  least_sum = lesser s.least_sum (sum_on on x);
  greatest_sum = greater s.greatest_sum (sum_on on x);
  least_scatter = min s.least_scatter (scatter_on on x);
  greatest_scatter = max s.greatest_scatter (scatter_on on x);
}

unfoldable pub widen : Trace → Node → Node
widen x old = node (change_all (widen_segment x) 1 old.segments) old.kind

-- ".. at every node it meets, the leaf too, moving no threshold"
unfoldable pub widen_all : Trace → List ℕ → Tree → Tree
widen_all x [] tree = tree
widen_all x (at ∷ rest) tree = widen_all x rest (change_at tree at (widen x))

-- "and joins a leaf"
unfoldable pub join_kind : ℕ → Kind → Kind
join_kind number (leaf numbers) = leaf (numbers ++ (number ∷ []))
join_kind number (inner test left right) = inner test left right

unfoldable pub join : ℕ → ℕ → Tree → Tree
join number at tree = change_at tree at (λ a. node a.segments (join_kind number a.kind))

-- ---- a record from its own traces

-- the traces of some numbers
abbrev pub traces_of : List Trace → List ℕ → List Trace
traces_of stored = map (λ (number : ℕ). get_or stored number [])

unfoldable pub segment_of : List Trace → Run → Segment
segment_of traces on = record {
  end = on.last;
  least_sum = least_ℤ (map (sum_on on) traces);
  greatest_sum = greatest_ℤ (map (sum_on on) traces);
  least_scatter = least (map (scatter_on on) traces);
  greatest_scatter = greatest (map (scatter_on on) traces);
}

-- the segments with these right ends, the first from sample `first` on, over some traces
unfoldable pub segments_from : ℕ → List ℕ → List Trace → List Segment
segments_from first [] traces = []
segments_from first (end ∷ rest) traces = segment_of traces (run first end) ∷ segments_from (suc end) rest traces

abbrev pub segments_of : List ℕ → List Trace → List Segment
segments_of = segments_from 1

-- a new leaf, its record from its own traces
unfoldable pub new_leaf : List Trace → List ℕ → List ℕ → Node
new_leaf stored ends numbers = node (segments_of ends (traces_of stored numbers)) (leaf numbers)

-- ---- candidates

pub record Candidate : Type 0 where
  pub on : Run
  pub figure : Figure
  pub child_ends : List ℕ

-- a run "by sum, by scatter", with the children's right ends
unfoldable pub by_either : Run → List ℕ → List Candidate
by_either on child_ends =
    record { on = on; figure = by_sum; child_ends = child_ends } ∷ record { on = on; figure = by_scatter; child_ends = child_ends } ∷ []

-- one more right end, in its place among rising ones
unfoldable pub cut_at : ℕ → List ℕ → List ℕ
cut_at new [] = new ∷ []
cut_at new (end ∷ rest) = if ltb new end then new ∷ end ∷ rest else end ∷ cut_at new rest

-- "a left half of w/2 rounded down": its last sample
unfoldable pub left_half_end : Run → ℕ
left_half_end r = r.first + width r / 2 - 1

-- "if the node has fewer than 16 segments and w ≥ 2": left half, then right half
unfoldable pub halves : List ℕ → Run → List Candidate
halves all r =
    let middle = left_half_end r in
    if ltb (length all) most_segments && leb 2 (width r)
    then by_either (run r.first middle) (cut_at middle all) ++ by_either (run (suc middle) r.last) (cut_at middle all) else []

-- "for each segment, left to right, in this order": the whole segment, then its halves
unfoldable pub candidates_from : List ℕ → ℕ → List ℕ → List Candidate
candidates_from all first [] = []
candidates_from all first (end ∷ rest) = by_either (run first end) all ++ halves all (run first end) ++ candidates_from all (suc end) rest

-- the candidates of a node with these right ends
abbrev pub candidates : List ℕ → List Candidate
candidates all = candidates_from all 1 all

-- ---- gain

-- a segment's term: "((greatest sum − least sum)² + greatest scatter) / w, .. rounded down"
unfoldable pub spread_on : Run → Segment → ℕ
spread_on on s = spread_term (width on) s.least_sum s.greatest_sum s.greatest_scatter

-- "A node's spread is the total over its segments .., from its own traces"
unfoldable pub spread : List ℕ → List Trace → ℕ
spread ends traces = total_over spread_on 1 (segments_of ends traces)

-- "T is the least plus the greatest figure among the leaf's traces"; by scatter, document 02 §4, "T is the floor root of the least scatter
-- plus that of the greatest", which is the same, as roots keep the order (`Claims`, `Deviations`). It replaces the least plus the greatest
-- scatter
unfoldable pub threshold_of : Figure → Run → List Trace → ℤ
threshold_of figure on traces = least_ℤ (map (figure_of figure on) traces) +ℤ greatest_ℤ (map (figure_of figure on) traces)

unfoldable pub test_of : Candidate → List Trace → Test
test_of c traces = record { on = c.on; figure = c.figure; threshold = threshold_of c.figure c.on traces }

-- what a candidate makes of a leaf
pub record Split : Type 0 where
  pub test : Test
  pub child_ends : List ℕ
  pub left : List ℕ
  pub right : List ℕ

-- what a test makes of a leaf, with these right ends for its children
abbrev pub split_by_test : List Trace → List ℕ → Test → List ℕ → Split
split_by_test stored numbers test ends = record {
  test = test;
  child_ends = ends;
  left = those (λ number. sends_left test (get_or stored number [])) numbers;
  right = those (λ number. not (sends_left test (get_or stored number []))) numbers;
}

unfoldable pub split_by : List Trace → List ℕ → Candidate → Split
split_by stored numbers c = split_by_test stored numbers (test_of c (traces_of stored numbers)) c.child_ends

-- "A candidate parts the leaf if both sides receive a trace"
unfoldable pub parts : Split → Bool
parts s = not (is_empty s.left) && not (is_empty s.right)

-- Document 02, §3, of a leaf's traces by rising number: `goes` says which of them go left by a candidate's test
abbrev pub goes_by : List Trace → Test → ℕ → Bool
goes_by stored test number = sends_left test (get_or stored number [])

-- "one trace on each side is enough": whether some traces show both sides
unfoldable pub show_sides : (ℕ → Bool) → List ℕ → Bool
show_sides goes numbers = not (is_empty (those goes numbers)) && not (is_empty (those (λ number. not (goes number)) numbers))

-- "how many it took: the fewest first ones that show both sides, or all when none do"
unfoldable pub fewest_first : (ℕ → Bool) → List ℕ → ℕ
fewest_first goes numbers = chosen min (length numbers) (those (λ k. show_sides goes (take k numbers)) (counting (suc (length numbers)) 0))

-- "twice the leaf's spread less both children's", a signed number. "Children use the cut segments"
unfoldable pub gain : List Trace → List ℕ → List ℕ → Split → ℤ
gain stored ends numbers s =
    let sides = spread s.child_ends (traces_of stored s.left) + spread s.child_ends (traces_of stored s.right) in
    pos (2 * spread ends (traces_of stored numbers)) -ℤ pos sides

-- "Among the candidates that part the leaf the greatest gain wins, the earliest among equals"
unfoldable pub best_by : (Split → ℤ) → List Split → Option Split
best_by gain_of [] = none
best_by gain_of (s ∷ rest) = some (foldl (λ a b. if lt_z (gain_of a) (gain_of b) then b else a) s rest)

unfoldable pub best : List Trace → List ℕ → List ℕ → Option Split
best stored ends numbers = best_by (gain stored ends numbers) (those parts (map (split_by stored numbers) (candidates ends)))

-- ---- splitting

-- "The leaf keeps its number and becomes inner; left, then right child take the next two numbers". With no split it "stays whole"
unfoldable pub split_into : List Trace → Tree → ℕ → Option Split → Tree
split_into stored tree at none = tree
split_into stored tree at (some s) =
    change_at tree at (λ a. node a.segments (inner s.test (length tree) (suc (length tree))))
    ++ (new_leaf stored s.child_ends s.left ∷ new_leaf stored s.child_ends s.right ∷ [])

-- a leaf that "holds more than the leaf size .. splits"
unfoldable pub split_kind : ℕ → List Trace → Tree → ℕ → Kind → Tree
split_kind leaf_size stored tree at (inner test left right) = tree
split_kind leaf_size stored tree at (leaf numbers) =
    let result = split_into stored tree at (best stored (ends (node_at tree at).segments) numbers) in
    if ltb leaf_size (length numbers) then result else tree

abbrev pub split : ℕ → List Trace → Tree → ℕ → Tree
split leaf_size stored tree at = split_kind leaf_size stored tree at (node_at tree at).kind

-- "New leaves above the leaf size split likewise, lowest number first": new leaves come last, so one pass over rising numbers takes them in
-- that order. A leaf of k traces makes at most 2k − 2 new nodes, so that twice the traces are fuel enough
unfoldable pub split_new : ℕ → ℕ → List Trace → Tree → ℕ → Tree
split_new zero leaf_size stored tree at = tree
split_new (suc fuel) leaf_size stored tree at =
    let after = split_new fuel leaf_size stored (split leaf_size stored tree at) (suc at) in
    if ltb at (length tree) then after else tree

-- the joined leaf splits, then the new ones
abbrev pub split_all : ℕ → List Trace → Tree → ℕ → Tree
split_all leaf_size stored tree at = split_new (2 * length stored) leaf_size stored (split leaf_size stored tree at) (length tree)

-- ---- the tree of a list of traces

-- the trace x joins a tree over the traces `stored`. "its first trace makes leaf 0 with one segment. Otherwise the trace goes down .."
unfoldable pub insertion : Measures → List Trace → Tree → Trace → Tree
insertion m stored [] x = new_leaf (x ∷ []) (m.n ∷ []) (0 ∷ []) ∷ []
insertion m stored (root ∷ rest) x =
    let tree = root ∷ rest in
    let met = way tree x in
    let joined = join (length stored) (last_of met) (widen_all x met tree) in
    split_all m.leaf_size (stored ++ (x ∷ [])) joined (last_of met)

-- the traces `more` added in order to a tree over the traces `stored`
unfoldable pub grown : Measures → List Trace → Tree → List Trace → Tree
grown m stored tree [] = tree
grown m stored tree (x ∷ more) = grown m (stored ++ (x ∷ [])) (insertion m stored tree x) more

-- "what the steps under Adding make of its traces, in order, from no node"
abbrev pub tree_of : Measures → List Trace → Tree
tree_of m traces = grown m [] [] traces
