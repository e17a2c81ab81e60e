-- Document 02, §12: "A limit on leaves for the controller. While the bed moves it can afford few reads".
use Rattle.std.specs.Prelude.{ℕ, ◌≤◌, ◌<◌, min, ◌≡◌, not, List, [], ◌∷◌, map, length, take, drop, T, eqb, if◌then◌else◌}
use Rattle.std.proofs.Math.Option.{Option, none, some}
use Rattle.integer.specs.Words.{is_in, total}
use Rattle.integer.specs.Sorting.{at_place}
use Rattle.dstree.specs.Measures.{Trace, Measures}
use Rattle.dstree.specs.Node.{Tree, node_at}
use Rattle.dstree.specs.WellFormed.{well_formed_tree}
use Rattle.dstree.specs.Matching.{bound, LeafBound, numbers_in, leaves, reading_order, Near, Search, is_above, search_on, searched}
use Rattle.dstree.specs.Matching.{least_distance, leaves_r, Match, match_of}
use Rattle.dstree.specs.Claims.{ExactTree}
use Rattle.dstree.specs.KNearest.{distances_among, SameIn}
use Rattle.dstree.specs.Batch.{answer_in, best_among, near_or_zero, match_seen, NearestOf}
use Rattle.dstree.specs.Refusals.{Condition, ◌refuses◌, no_leaves, run_conditions}

-- ---- what is answered

-- "If the whole trail was read the answer is settled and is the match. Else it is the best so far, with the bound of the first unread
-- leaf"
pub data LimitedMatch : Type 0 where
  settled : Match → LimitedMatch
  unsettled : ℕ → Match → LimitedMatch

-- trace and distance found, leaves and traces read, and the trail, settled or not
abbrev pub match_so_far : LimitedMatch → Match
match_so_far (settled m) = m
match_so_far (unsettled next m) = m

-- "18 no leaves, for L = 0, after 3"; then 4, 15, 6 and 7 as a match, 7 by all leaves, whatever L. Of a library for traces of n samples
-- with so many traces and leaves
abbrev pub limit_conditions : ℕ → ℕ → ℕ → ℕ → Trace → List ℕ → List Condition
limit_conditions n traces leaves most query trail = eqb most 0 refuses no_leaves ∷ run_conditions n traces leaves query trail

-- ---- in the document's words

-- "the full trail": the leaves that the match reads, with their bounds
unfoldable pub full_trail : List Trace → Tree → Trace → List LeafBound
full_trail stored tree query = take (length (searched stored tree query).trail) (reading_order tree query)

abbrev pub leaf_numbers : List LeafBound → List ℕ
leaf_numbers = map (λ (a : LeafBound). a.number)

-- "the best so far", of some leaves read. "Each leaf counts once against the limit, and the answer carries that count"
unfoldable pub best_in : List Trace → Tree → Trace → List ℕ → Match
best_in stored tree query read =
    let best = near_or_zero (best_among stored tree query read) in
    record {
      trace = best.trace;
      distance = best.distance;
      leaves = length read;
      traces = total (map (λ number. length (numbers_in (node_at tree number).kind)) read);
      trail = read;
    }

-- settled if no leaf of the trail is left, else "with the bound of the first unread leaf"
unfoldable pub limited_by : Match → List LeafBound → LimitedMatch
limited_by m [] = settled m
limited_by m (next ∷ rest) = unsettled next.bound m

-- "Match with a limit of L leaves .. The leaves read are the first L of the full trail, or all of it"
unfoldable pub limited_match : ℕ → List Trace → Tree → Trace → LimitedMatch
limited_match most stored tree query =
    let full = full_trail stored tree query in
    limited_by (best_in stored tree query (leaf_numbers (take most full))) (drop most full)

-- ---- by steps: it holds for any well-formed tables

-- of the first L leaves in the match's order, as the match reads them: "until the next bound is above the best distance found"
unfoldable pub limited_search : ℕ → List Trace → Tree → Trace → Search
limited_search most stored tree query =
    search_on stored tree query (record { best = none; traces = 0; trail = [] }) (take most (reading_order tree query))

-- whether it is settled is known without reading further: there is no next leaf, or its bound is above the best. "An equal bound is still
-- read", so that such a leaf is one of the trail
unfoldable pub next_bound : Option Near → List LeafBound → Option ℕ
next_bound best [] = none
next_bound best (next ∷ rest) = if is_above next.bound best then none else some next.bound

unfoldable pub limited_from : Match → Option ℕ → LimitedMatch
limited_from m none = settled m
limited_from m (some next) = unsettled next m

unfoldable pub limited_by_steps : ℕ → List Trace → Tree → Trace → LimitedMatch
limited_by_steps most stored tree query =
    let s = limited_search most stored tree query in
    limited_from (match_seen s s.best) (next_bound s.best (drop (length s.trail) (reading_order tree query)))

-- ---- what is claimed

-- the steps on any tree, whoever made it, with any limit
pub record LimitSteps (most : ℕ) (stored : List Trace) (tree : Tree) (query : Trace) : Type 0 where
  pub steps_give_it : limited_by_steps most stored tree query ≡ limited_match most stored tree query
  -- "the full trail" is the match's
  pub full_is : leaf_numbers (full_trail stored tree query) ≡ (searched stored tree query).trail
  -- "The leaves read are the first L of the full trail, or all of it"
  pub first_of_trail : (match_so_far (limited_match most stored tree query)).trail ≡ take most (searched stored tree query).trail
  -- "Each leaf counts once against the limit, and the answer carries that count": document 01, "Leaf count in the answer equals the
  -- definition's first L trail entries"
  pub leaf_count : (match_so_far (limited_match most stored tree query)).leaves ≡ length (take most (searched stored tree query).trail)
  pub no_more : (match_so_far (limited_match most stored tree query)).leaves ≡ min most (length (searched stored tree query).trail)
  -- traces read: those in these leaves
  pub trace_count_lem : (match_so_far (limited_match most stored tree query)).traces
      ≡ length (distances_among stored tree query (take most (searched stored tree query).trail))
  -- "If the whole trail was read the answer is settled": with what the match's search has found
  pub whole_settled : length (searched stored tree query).trail ≤ most
      → limited_match most stored tree query ≡ (let s = searched stored tree query in settled (match_seen s s.best))
  -- "Else .. with the bound of the first unread leaf": the next of the full trail
  pub else_next : (next : LeafBound) → at_place most (full_trail stored tree query) ≡ some next
      → limited_match most stored tree query
      ≡ unsettled next.bound (best_in stored tree query (take most (searched stored tree query).trail))
  -- samples outside the leaves read do not bear on it
  pub off_trail : (other : List Trace) → SameIn tree (take most (searched stored tree query).trail) stored other
      → limited_by_steps most other tree query ≡ limited_by_steps most stored tree query

abbrev pub LimitAnywhere : Type 0
LimitAnywhere = (most : ℕ) (stored : List Trace) (tree : Tree) (query : Trace) → LimitSteps most stored tree query

-- .. on any well-formed tables with a trace, "L at least 1"
pub record LimitFormed (most : ℕ) (stored : List Trace) (tree : Tree) (query : Trace) : Type 0 where
  -- "the best so far": the nearest of the traces read, the lowest number among equals
  pub best_so_far : NearestOf (distances_among stored tree query (match_so_far (limited_match most stored tree query)).trail)
      (answer_in (match_so_far (limited_match most stored tree query)))
  -- "A larger L never gives a greater distance"
  pub larger : (more : ℕ) → most ≤ more
      → (match_so_far (limited_match more stored tree query)).distance ≤ (match_so_far (limited_match most stored tree query)).distance

abbrev pub LimitOfFormed : Type 0
LimitOfFormed = (limit : ℕ) (m : Measures) (stored : List Trace) (tree : Tree) → T (well_formed_tree limit m (length stored) tree)
    → 0 < length stored → (query : Trace) (most : ℕ) → 0 < most → LimitFormed most stored tree query

-- an answer that is not settled: "the true distance is at least that bound and at most the one given"
pub record UnsettledClaims (stored : List Trace) (tree : Tree) (query : Trace) (next : ℕ) (m : Match) : Type 0 where
  pub at_least : next ≤ least_distance stored query
  pub at_most : least_distance stored query ≤ m.distance
  -- no leaf that is not read has a lesser bound
  pub lowest_unread : (number : ℕ) → T (is_in number (leaves tree)) → T (not (is_in number m.trail)) → next ≤ bound tree query number

-- of any tables with exact ranges, "L at least 1"
pub record LimitClaims (most : ℕ) (stored : List Trace) (tree : Tree) (query : Trace) : Type 0 where
  -- "the full trail" is R, "by bound, then by number"
  pub full_is_R : full_trail stored tree query ≡ leaves_r tree query (least_distance stored query)
  -- "The leaves read are the first L of the full trail, or all of it"
  pub first_of_trail : (match_so_far (limited_match most stored tree query)).trail ≡ take most (match_of stored tree query).trail
  -- "Leaf count in the answer equals the definition's first L trail entries"
  pub leaf_count : (match_so_far (limited_match most stored tree query)).leaves ≡ length (take most (match_of stored tree query).trail)
  pub no_more : (match_so_far (limited_match most stored tree query)).leaves ≡ min most (match_of stored tree query).leaves
  -- "If the whole trail was read the answer is settled and is the match"
  pub whole_settled : (match_of stored tree query).leaves ≤ most
      → limited_match most stored tree query ≡ settled (match_of stored tree query)
  -- .. and only then
  pub settled_is_match : (m : Match) → limited_match most stored tree query ≡ settled m
      → (m ≡ match_of stored tree query) × ((match_of stored tree query).leaves ≤ most)
  -- "Else it is the best so far, with the bound of the first unread leaf: the true distance is at least that bound and at most the one
  -- given"
  pub else_between : (next : ℕ) (m : Match) → limited_match most stored tree query ≡ unsettled next m
      → UnsettledClaims stored tree query next m × (most < (match_of stored tree query).leaves)

abbrev pub LimitOfExact : Type 0
LimitOfExact = (limit : ℕ) (m : Measures) (stored : List Trace) (tree : Tree) → ExactTree limit m stored tree → 0 < length stored
    → (query : Trace) → length query ≡ m.n → (most : ℕ) → 0 < most → LimitClaims most stored tree query
