-- Document 02, §1: "lists the k nearest traces by distance, then number".
use Rattle.std.specs.Prelude.{ℕ, zero, suc, ◌+◌, ◌<◌, ◌≤◌, min, ◌≡◌, Bool, true, not, ◌&&◌, length, take, T}
use Rattle.std.proofs.Math.Option.{Option, none, some}
use mathlib.Core.List.{List, [], ◌∷◌, ◌++◌, map, foldl, flatten}
use Rattle.integer.specs.Words.{total, counting, those, is_in}
use Rattle.integer.specs.Sorting.{sorted_with, sorted_by, at_place}
use Rattle.dstree.specs.Measures.{Trace, within}
use Rattle.dstree.specs.Node.{Tree, node_at}
use Rattle.dstree.specs.Adding.{traces_of}
use Rattle.dstree.specs.Matching.{bound, LeafBound, numbers_in, leaves, reading_order, read_on, Near, near_at, is_nearer, distances_in}
use Rattle.dstree.specs.Matching.{is_above, leaves_r}
use Rattle.dstree.specs.Matching.{Match, match_of}
use Rattle.dstree.specs.Claims.{numbers_among}

-- ---- k

-- "A search takes k from 1 to 16"
abbrev pub most_nearest : ℕ
most_nearest = 16

abbrev pub is_k : ℕ → Bool
is_k k = within 1 k most_nearest

-- ---- the list

-- "by distance, then number", the nearest first
abbrev pub ranking : List Near → List Near
ranking = sorted_by is_nearer

-- all stored traces with their distances, by number
unfoldable pub nears : List Trace → Trace → List Near
nears stored query = map (near_at stored query) (counting (length stored) 0)

-- "the k nearest traces by distance, then number; a smaller library lists all it has"
unfoldable pub nearest_list : ℕ → List Trace → Trace → List Near
nearest_list k stored query = take k (ranking (nears stored query))

-- a list in the places that a caller lends for it: two for each trace, its number and its distance
unfoldable pub list_places : List Near → List ℕ
list_places [] = []
list_places (a ∷ list) = a.trace ∷ a.distance ∷ list_places list

-- the k-th of a list; none while there are fewer
unfoldable pub kth : ℕ → List Near → Option Near
kth zero list = none
kth (suc k) list = at_place k list

-- ---- the steps

-- what a search has found so far
pub record Listing : Type 0 where
  pub list : List Near
  pub traces : ℕ
  pub trail : List ℕ

-- the k nearest so far, and one more
abbrev pub list_with : ℕ → List Near → Near → List Near
list_with k list a = take k (sorted_with is_nearer a list)

-- to read a leaf
unfoldable pub read_into : ℕ → List Trace → Tree → Trace → Listing → ℕ → Listing
read_into k stored tree query s number =
    let distances = distances_in stored tree query number in
    record { list = foldl (list_with k) s.list distances; traces = s.traces + length distances; trail = s.trail ++ (number ∷ []) }

-- "until the next bound is above the k-th best distance read"; nothing stops it while fewer than k are read
unfoldable pub stops_at_kth : ℕ → Listing → ℕ → Bool
stops_at_kth k s bound = is_above bound (kth k s.list)

abbrev pub list_on : ℕ → List Trace → Tree → Trace → Listing → List LeafBound → Listing
list_on k stored tree query = read_on (stops_at_kth k) (read_into k stored tree query)

-- "Leaves are read in the match's order"
unfoldable pub listed : ℕ → List Trace → Tree → Trace → Listing
listed k stored tree query = list_on k stored tree query (record { list = []; traces = 0; trail = [] }) (reading_order tree query)

-- the list, "with [the match's] trail and counts"
pub record KNearest : Type 0 where
  pub list : List Near
  pub leaves : ℕ
  pub traces : ℕ
  pub trail : List ℕ

unfoldable pub k_nearest_by_steps : ℕ → List Trace → Tree → Trace → KNearest
k_nearest_by_steps k stored tree query =
    let s = listed k stored tree query in
    record { list = s.list; leaves = length s.trail; traces = s.traces; trail = s.trail }

-- ---- in closed form

-- "those with a bound at most the last listed distance, or every leaf when fewer than k traces are stored"
unfoldable pub leaves_rk : Tree → Trace → Option Near → List LeafBound
leaves_rk tree query none = reading_order tree query
leaves_rk tree query (some last) = leaves_r tree query last.distance

unfoldable pub k_nearest_of : ℕ → List Trace → Tree → Trace → KNearest
k_nearest_of k stored tree query =
    let list = nearest_list k stored query in
    let trail = map (λ (a : LeafBound). a.number) (leaves_rk tree query (kth k list)) in
    record {
      list = list;
      leaves = length trail;
      traces = total (map (λ number. length (numbers_in (node_at tree number).kind)) trail);
      trail = trail;
    }

-- a match, as a list of one
unfoldable pub list_of_match : Match → KNearest
list_of_match m =
    record { list = record { trace = m.trace; distance = m.distance } ∷ []; leaves = m.leaves; traces = m.traces; trail = m.trail }

-- ---- what is claimed

-- a list is "by distance, then number": each comes before the next
unfoldable pub in_rank : List Near → Bool
in_rank [] = true
in_rank (a ∷ []) = true
in_rank (a ∷ (b ∷ rest)) = is_nearer a b && in_rank (b ∷ rest)

-- the numbers of a list
abbrev pub trace_numbers : List Near → List ℕ
trace_numbers = map (λ (a : Near). a.trace)

-- the list, of any stored traces
pub record ListClaims (k : ℕ) (stored : List Trace) (query : Trace) : Type 0 where
  -- "a smaller library lists all it has"
  pub long : length (nearest_list k stored query) ≡ min k (length stored)
  pub in_order : T (in_rank (nearest_list k stored query))
  -- each is a stored trace with its distance
  pub of_stored : (place : ℕ) (a : Near) → at_place place (nearest_list k stored query) ≡ some a
      → (a.trace < length stored) × (a ≡ near_at stored query a.trace)
  -- "the k nearest": each listed one comes before every stored one that is not listed
  pub nearest : (place : ℕ) (a : Near) (trace : ℕ) → at_place place (nearest_list k stored query) ≡ some a → trace < length stored
      → T (not (is_in trace (trace_numbers (nearest_list k stored query)))) → T (is_nearer a (near_at stored query trace))
  -- "A shorter list must be the beginning of a longer one"
  pub shorter : (j : ℕ) → j ≤ k → nearest_list j stored query ≡ take j (nearest_list k stored query)

-- the distances of the traces in some leaves
unfoldable pub distances_among : List Trace → Tree → Trace → List ℕ → List Near
distances_among stored tree query set = flatten (map (distances_in stored tree query) set)

-- other traces do not differ from the stored ones in these leaves
abbrev pub SameIn : Tree → List ℕ → List Trace → List Trace → Type 0
SameIn tree set stored other = traces_of other (numbers_among tree set) ≡ traces_of stored (numbers_among tree set)

-- the steps on any tree, whoever made it
pub record StepClaims (k : ℕ) (stored : List Trace) (tree : Tree) (query : Trace) : Type 0 where
  -- "on altered tables the list is the nearest of the traces read"
  pub nearest_read : (listed k stored tree query).list
      ≡ take k (ranking (distances_among stored tree query (listed k stored tree query).trail))
  -- "Samples in leaves off the trail don't bear on a search"
  pub off_trail : (other : List Trace) → SameIn tree (listed k stored tree query).trail stored other
      → listed k other tree query ≡ listed k stored tree query
  -- "with its trail and counts": what they count
  pub traces_read : (listed k stored tree query).traces ≡ length (distances_among stored tree query (listed k stored tree query).trail)

-- a set of leaves is a test of their numbers
abbrev pub leaves_in : Tree → (ℕ → Bool) → List ℕ
leaves_in tree set = those set (leaves tree)

-- a set "that holds k traces", the last of which, by distance and then number, is this one: its distance is "the k-th distance there"
abbrev pub HoldsK : ℕ → List Trace → Tree → Trace → (ℕ → Bool) → Near → Type 0
HoldsK k stored tree query set last = kth k (ranking (distances_among stored tree query (leaves_in tree set))) ≡ some last

-- .. and leaves out only bounds above a distance
abbrev pub LeavesOutAbove : Tree → Trace → (ℕ → Bool) → ℕ → Type 0
LeavesOutAbove tree query set d = (number : ℕ) → T (is_in number (leaves tree)) → T (not (set number)) → d < bound tree query number

-- the k-th of a list of k or more (`proofs/Ranks`, `kth_of`)
pub record Kth (k : ℕ) (list : List Near) : Type 0 where
  pub last : Near
  pub is : kth k list ≡ some last

-- "some leaf left out has a bound no greater than the k-th distance there"
pub record LeftOut (tree : Tree) (query : Trace) (set : ℕ → Bool) (last : Near) : Type 0 where
  pub number : ℕ
  pub is_leaf : T (is_in number (leaves tree))
  pub is_out : T (not (set number))
  pub no_greater : bound tree query number ≤ last.distance

-- "claimed for libraries made by calls"
pub record KNearestClaims (k : ℕ) (stored : List Trace) (tree : Tree) (query : Trace) : Type 0 where
  -- the steps list the k nearest, and read "those with a bound at most the last listed distance, or every leaf when fewer than k traces
  -- are stored"
  pub steps_give_it : k_nearest_by_steps k stored tree query ≡ k_nearest_of k stored tree query
  -- traces that differ from these only outside those leaves give the same
  pub others_do_not_bear : (other : List Trace) → SameIn tree (k_nearest_of k stored tree query).trail stored other
      → k_nearest_by_steps k other tree query ≡ k_nearest_of k stored tree query
  -- ".. every leaf when fewer than k traces are stored"
  pub all_read : length stored < k → (k_nearest_of k stored tree query).leaves ≡ length (leaves tree)
  -- the trail leaves out only bounds above the last listed distance
  pub out_is_above : (number : ℕ) → T (is_in number (leaves tree)) → T (not (is_in number (k_nearest_of k stored tree query).trail))
      → is_above (bound tree query number) (kth k (nearest_list k stored query)) ≡ true
  -- a set that holds k traces and leaves out only bounds above the k-th distance there contains the leaves read
  pub contains_Rk : (set : ℕ → Bool) (last : Near) → HoldsK k stored tree query set last → LeavesOutAbove tree query set last.distance
      → (number : ℕ) → T (is_in number (k_nearest_of k stored tree query).trail) → T (set number)
  -- .. so it has at least as many leaves as are read
  pub no_fewer : (set : ℕ → Bool) (last : Near) → HoldsK k stored tree query set last → LeavesOutAbove tree query set last.distance
      → (k_nearest_of k stored tree query).leaves ≤ length (leaves_in tree set)
  -- "for any smaller set of leaves that holds k traces, some leaf left out has a bound no greater than the k-th distance there"
  pub fewest : (set : ℕ → Bool) (last : Near) → HoldsK k stored tree query set last
      → length (leaves_in tree set) < (k_nearest_of k stored tree query).leaves → LeftOut tree query set last
  -- the leaves read are themselves such a set, so that the fewest is reached
  pub Rk_itself : (last : Near) → kth k (nearest_list k stored query) ≡ some last
      → HoldsK k stored tree query (λ number. is_in number (k_nearest_of k stored tree query).trail) last
      × LeavesOutAbove tree query (λ number. is_in number (k_nearest_of k stored tree query).trail) last.distance
  -- "A shorter list must be the beginning of a longer one", and its trail that of a longer one's
  pub shorter_trail : (j : ℕ) → 0 < j → j ≤ k
      → (k_nearest_of j stored tree query).trail ≡ take (k_nearest_of j stored tree query).leaves (k_nearest_of k stored tree query).trail

-- the one nearest is the match, with its counts and its trail
abbrev pub OneIsMatch : List Trace → Tree → Trace → Type 0
OneIsMatch stored tree query = k_nearest_of 1 stored tree query ≡ list_of_match (match_of stored tree query)
