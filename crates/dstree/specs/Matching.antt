-- Document 01, "Matching".
use Rattle.std.specs.Prelude.{ℕ, zero, suc, ◌+◌, max, Bool, true, false, ◌&&◌, ◌||◌, length, get_or, leb, ltb, eqb, if◌then◌else◌}
use Rattle.std.proofs.Math.Option.{Option, none, some}
use mathlib.Core.List.{List, [], ◌∷◌, ◌++◌, map, foldl}
use Rattle.integer.specs.Words.{least, those, total, counting}
use Rattle.integer.specs.Sorting.{sorted_by}
use Rattle.segment.specs.Figures.{distance}
use Rattle.segment.specs.Terms.{sum_gap, scatter_gap, bound_term}
use Rattle.dstree.specs.Measures.{Trace}
use Rattle.dstree.specs.Figures.{Run, width, sum_on, scatter_on}
use Rattle.dstree.specs.Node.{Segment, Kind, leaf, inner, Node, Tree, node_at, total_over}

-- ---- bounds

-- "For a query with sum t and scatter U on a segment": "(g² + h²) / w, .. rounded up"
unfoldable pub bound_on : Trace → Run → Segment → ℕ
bound_on query on s =
    let g = sum_gap (sum_on on query) s.least_sum s.greatest_sum in
    let h = scatter_gap (scatter_on on query) s.least_scatter s.greatest_scatter in
    bound_term (width on) g h

-- "The node's own bound totals" these
unfoldable pub own_bound : Trace → Node → ℕ
own_bound query a = total_over (bound_on query) 1 a.segments

-- a node has a child of this number
unfoldable pub has_child : ℕ → Kind → Bool
has_child child (leaf numbers) = false
has_child child (inner test left right) = eqb child left || eqb child right

-- the parent of a node, the tree's nodes being numbered from `number` on; none of node 0
unfoldable pub parent_from : ℕ → Tree → ℕ → Option ℕ
parent_from number [] child = none
parent_from number (a ∷ rest) child =
    let later = parent_from (suc number) rest child in
    if has_child child a.kind then some number else later

-- "A node's bound is the greatest own bound from node 0 down to it": its own, or its parent's if that is greater.
-- A parent is numbered below its children, so that the number of nodes is fuel enough
unfoldable pub bound_from : ℕ → Tree → Trace → ℕ → ℕ
bound_from zero tree query number = 0
bound_from (suc fuel) tree query number =
    max (own_bound query (node_at tree number)) (elim
    (parent_from 0 tree number) [ none ↦ 0 | some parent ↦ bound_from fuel tree query parent ])

abbrev pub bound : Tree → Trace → ℕ → ℕ
bound tree query = bound_from (length tree) tree query

-- ---- the order of reading

-- a leaf with its bound for a query
pub record LeafBound : Type 0 where
  pub number : ℕ
  pub bound : ℕ

unfoldable pub is_leaf_kind : Kind → Bool
is_leaf_kind (leaf numbers) = true
is_leaf_kind (inner test left right) = false

-- the trace numbers of a leaf
unfoldable pub numbers_in : Kind → List ℕ
numbers_in (leaf numbers) = numbers
numbers_in (inner test left right) = []

-- the leaves' numbers, rising
unfoldable pub leaves : Tree → List ℕ
leaves tree = those (λ number. is_leaf_kind (node_at tree number).kind) (counting (length tree) 0)

-- "by bound, then by number"
unfoldable pub before : LeafBound → LeafBound → Bool
before a b = ltb a.bound b.bound || eqb a.bound b.bound && ltb a.number b.number

-- "Leaves are read by bound, then by number"
unfoldable pub reading_order : Tree → Trace → List LeafBound
reading_order tree query = sorted_by before (map (λ number. record { number = number; bound = bound tree query number }) (leaves tree))

-- leaves are read in order until the next bound is one to stop at. What is found is of any kind S
module _ {S : Type 0} (stop : S → ℕ → Bool) (read : S → ℕ → S) where
  unfoldable pub read_on : S → List LeafBound → S
  read_on s [] = s
  read_on s (next ∷ rest) = let onward = read_on (read s next.number) rest in if stop s next.bound then s else onward

-- ---- the steps of the search

-- a trace with its distance
pub record Near : Type 0 where
  pub trace : ℕ
  pub distance : ℕ

-- a stored trace with its distance
abbrev pub near_at : List Trace → Trace → ℕ → Near
near_at stored query trace = record { trace = trace; distance = distance query (get_or stored trace []) }

-- by distance; at an equal distance by number
unfoldable pub is_nearer : Near → Near → Bool
is_nearer a b = ltb a.distance b.distance || eqb a.distance b.distance && ltb a.trace b.trace

-- the nearer of two
unfoldable pub nearer : Near → Near → Near
nearer a b = if is_nearer b a then b else a

-- the best so far, and one more
unfoldable pub best_with : Option Near → Near → Option Near
best_with none a = some a
best_with (some best) a = some (nearer best a)

-- what a search has found so far
pub record Search : Type 0 where
  pub best : Option Near
  pub traces : ℕ
  pub trail : List ℕ

-- "the distances of its traces"
unfoldable pub distances_in : List Trace → Tree → Trace → ℕ → List Near
distances_in stored tree query number = map (near_at stored query) (numbers_in (node_at tree number).kind)

-- "To read a leaf is to take the distances of its traces"
unfoldable pub read_leaf : List Trace → Tree → Trace → Search → ℕ → Search
read_leaf stored tree query s number =
    let distances = distances_in stored tree query number in
    record { best = foldl best_with s.best distances; traces = s.traces + length distances; trail = s.trail ++ (number ∷ []) }

-- "the next bound is above the best distance found. An equal bound is still read"
unfoldable pub is_above : ℕ → Option Near → Bool
is_above bound none = false
is_above bound (some best) = ltb best.distance bound

-- leaves are read in order "until the next bound is above the best distance found"
abbrev pub search_on : List Trace → Tree → Trace → Search → List LeafBound → Search
search_on stored tree query = read_on (λ s bound. is_above bound s.best) (read_leaf stored tree query)

unfoldable pub searched : List Trace → Tree → Trace → Search
searched stored tree query = search_on stored tree query (record { best = none; traces = 0; trail = [] }) (reading_order tree query)

-- "The answer is trace number, distance, leaves read and traces read"; "The trail lists the leaf numbers in reading order"
pub record Match : Type 0 where
  pub trace : ℕ
  pub distance : ℕ
  pub leaves : ℕ
  pub traces : ℕ
  pub trail : List ℕ

-- what a search answers; none where nothing is stored, which is refused
unfoldable pub match_from : Search → Option Near → Option Match
match_from s none = none
match_from s (some best) =
    some (record { trace = best.trace; distance = best.distance; leaves = length s.trail; traces = s.traces; trail = s.trail })

-- the match by its steps: it holds for any well-formed tables
unfoldable pub match_by_steps : List Trace → Tree → Trace → Option Match
match_by_steps stored tree query = let s = searched stored tree query in match_from s s.best

-- ---- the match in closed form: "Demand 3"

-- "d [is] its least distance to the book's traces"
unfoldable pub least_distance : List Trace → Trace → ℕ
least_distance stored query = least (map (distance query) stored)

-- "the lowest trace number at distance d", the traces being numbered from `number` on
unfoldable pub lowest_at : ℕ → ℕ → List Trace → Trace → ℕ
lowest_at number d [] query = number
lowest_at number d (x ∷ rest) query = let later = lowest_at (suc number) d rest query in if eqb (distance query x) d then number else later

-- "R the leaves with a bound at most d", "by bound, then by number"
unfoldable pub leaves_r : Tree → Trace → ℕ → List LeafBound
leaves_r tree query d = those (λ a. leb a.bound d) (reading_order tree query)

-- "the lowest trace number at distance d, d, the number of leaves in R, and the number of traces in them; the trail begins with R"
unfoldable pub match_of : List Trace → Tree → Trace → Match
match_of stored tree query =
    let d = least_distance stored query in
    let trail = map (λ (a : LeafBound). a.number) (leaves_r tree query d) in
    record {
      trace = lowest_at 0 d stored query;
      distance = d;
      leaves = length trail;
      traces = total (map (λ number. length (numbers_in (node_at tree number).kind)) trail);
      trail = trail;
    }
