-- Document 02, §11: "Factory library and bench library together. .. Match a query over both".
use Rattle.std.specs.Prelude.{ℕ, ◌+◌, ◌≤◌, ◌<◌, ◌≡◌, Bool, not, ◌||◌, List, [], ◌∷◌, ◌++◌, map, length, get_or, take, T, ltb, leb, eqb, if◌then◌else◌}
use Rattle.std.proofs.Math.Option.{Option, none, some}
use Rattle.integer.specs.Words.{total, is_in}
use Rattle.integer.specs.Lists.{In}
use Rattle.segment.specs.Figures.{distance}
use Rattle.dstree.specs.Measures.{Trace, Measures, are_samples}
use Rattle.dstree.specs.Node.{Tree, node_at}
use Rattle.dstree.specs.Adding.{traces_of}
use Rattle.dstree.specs.Matching.{bound, LeafBound, numbers_in, leaves, reading_order, Near, Search, read_leaf, is_above, Match, match_of}
use Rattle.dstree.specs.Matching.{least_distance, lowest_at, leaves_r}
use Rattle.dstree.specs.Claims.{numbers_among, ExactTree}
use Rattle.dstree.specs.KNearest.{distances_among, SameIn, leaves_in, LeavesOutAbove}
use Rattle.dstree.specs.WellFormed.{well_formed_tree}
use Rattle.dstree.specs.Batch.{best_among, NearestOf}
use Rattle.dstree.specs.Refusals.{Condition, ◌refuses◌, wrong_trace, sample_range, empty, short_trail, unlike_libraries}

-- ---- two libraries

-- a library, as a search sees it: its traces and its tree
pub record Indexed : Type 0 where
  pub traces : List Trace
  pub tree : Tree

abbrev pub indexed : List Trace → Tree → Indexed
indexed traces tree = record { traces = traces; tree = tree }

-- "It says which library"
pub data Which : Type 0 where
  of_factory of_bench : Which

-- the one of two that is said
abbrev pub by_which : {A : Type 0} → Which → A → A → A
by_which of_factory factory bench = factory
by_which of_bench factory bench = bench

-- what is refused of two libraries together, for traces of n and n' samples, with so many traces and leaves. "17 unlike libraries, when
-- their n differ, after both pass 3"; then 4 and 15 of the query. "One library may be empty; both empty is 6". 7 is judged of each trail by
-- its own library's leaves
abbrev pub pair_conditions : ℕ → ℕ → ℕ → ℕ → ℕ → ℕ → Trace → List ℕ → List ℕ → List Condition
pair_conditions n n' traces traces' leaves leaves' query trail trail' =
    not (eqb n n') refuses unlike_libraries
    ∷ not (eqb (length query) n) refuses wrong_trace
    ∷ not (are_samples query) refuses sample_range
    ∷ eqb (traces + traces') 0 refuses empty
    ∷ (ltb (length trail) leaves || ltb (length trail') leaves') refuses short_trail
    ∷ []

-- ---- another library

-- another library, as a call finds it in the tables that it is lent of it. It has what is refused of them (2 and 3), n, traces and tree,
-- and the search work needed. Its search work and its trail are what the call may write. Of what it holds nothing is known
pub record Other : Type 0 where
  pub conditions : List Condition
  pub n : ℕ
  pub library : Indexed
  pub needed : ℕ
  pub work : List ℕ
  pub trail : List ℕ

-- all that is refused, seen from one library for traces of n samples; `made` are 2 and 3 of its tables. "The factory's tables are tested
-- first", then the bench's, then both together. So the bench's list has the factory's conditions in front of its own
abbrev pub pair_front : Which → Other → List Condition
pair_front which other = by_which which [] other.conditions

unfoldable pub pair_rest : Which → ℕ → Indexed → Other → Trace → List ℕ → List Condition
pair_rest which n own other query trail =
    let count = length own.traces in
    let count' = length other.library.traces in
    let many = length (leaves own.tree) in
    let many' = length (leaves other.library.tree) in
    by_which which (other.conditions ++ pair_conditions n other.n count count' many many' query trail other.trail)
    (pair_conditions other.n n count' count many' many query other.trail trail)

abbrev pub pairing_conditions : Which → List Condition → ℕ → Indexed → Other → Trace → List ℕ → List Condition
pairing_conditions which made n own other query trail = pair_front which other ++ (made ++ pair_rest which n own other query trail)

-- ---- what is answered

-- which library, trace and distance; "counts are over both"; "Each has its own trail"
pub record PairMatch : Type 0 where
  pub which : Which
  pub trace : ℕ
  pub distance : ℕ
  pub leaves : ℕ
  pub traces : ℕ
  pub factory_trail : List ℕ
  pub bench_trail : List ℕ

-- how many traces some leaves of a library hold
unfoldable pub traces_read : Indexed → List ℕ → ℕ
traces_read l trail = total (map (λ number. length (numbers_in (node_at l.tree number).kind)) trail)

-- .. with these leaves read in each
abbrev pub pair_with : Indexed → Indexed → Which → Near → List ℕ → List ℕ → PairMatch
pair_with f b which near factory_trail bench_trail = record {
  which = which;
  trace = near.trace;
  distance = near.distance;
  leaves = length factory_trail + length bench_trail;
  traces = traces_read f factory_trail + traces_read b bench_trail;
  factory_trail = factory_trail;
  bench_trail = bench_trail;
}

-- ---- in closed form

-- "nearest of all": the least distance to the traces of both, "the joint distance"
unfoldable pub joint_distance : Indexed → Indexed → Trace → ℕ
joint_distance f b query = least_distance (f.traces ++ b.traces) query

-- one of these traces is at a distance
unfoldable pub has_at : ℕ → List Trace → Trace → Bool
has_at d traces query = is_in d (map (distance query) traces)

-- "the factory's on equal distance, then the lower number"
unfoldable pub nearest_which : ℕ → Indexed → Trace → Which
nearest_which d f query = if has_at d f.traces query then of_factory else of_bench

unfoldable pub nearest_in : ℕ → Indexed → Trace → Near
nearest_in d l query = record { trace = lowest_at 0 d l.traces query; distance = d }

-- "In each library the leaves read are those with a bound at most the joint distance", "by bound, then number"
unfoldable pub trail_to : ℕ → Indexed → Trace → List ℕ
trail_to d l query = map (λ (a : LeafBound). a.number) (leaves_r l.tree query d)

unfoldable pub pair_of : Indexed → Indexed → Trace → PairMatch
pair_of f b query =
    let d = joint_distance f b query in
    let which = nearest_which d f query in
    pair_with f b which (nearest_in d (by_which which f b) query) (trail_to d f query) (trail_to d b query)

-- ---- the steps: each library's leaves in their own order, the lower next bound first

-- a leaf of one of the two
pub data JointLeaf : Type 0 where
  factory_leaf bench_leaf : LeafBound → JointLeaf

abbrev pub leaf_of : JointLeaf → LeafBound
leaf_of (factory_leaf a) = a
leaf_of (bench_leaf a) = a

-- a bound that no next one is below
abbrev pub NoLower : ℕ → List LeafBound → Type 0
NoLower bound [] = Unit
NoLower bound (a ∷ rest) = bound ≤ a.bound

-- an order of the leaves of both in which the lower next bound is first. Of equal next bounds either may be
pub data Merged : List LeafBound → List LeafBound → List JointLeaf → Type 0 where
  merged_none : Merged [] [] []
  factory_first : {a : LeafBound} {factory bench : List LeafBound} {rest : List JointLeaf} → NoLower a.bound bench
      → Merged factory bench rest → Merged (a ∷ factory) bench (factory_leaf a ∷ rest)
  bench_first : {a : LeafBound} {factory bench : List LeafBound} {rest : List JointLeaf} → NoLower a.bound factory
      → Merged factory bench rest → Merged factory (a ∷ bench) (bench_leaf a ∷ rest)

-- the program's own: of equal next bounds the factory's first. `rest` is what comes behind the factory's next leaf
unfoldable pub merged_with : LeafBound → (List LeafBound → List JointLeaf) → List LeafBound → List JointLeaf
merged_with a rest [] = factory_leaf a ∷ rest []
merged_with a rest (b ∷ bench) =
    let onward = merged_with a rest bench in
    if leb a.bound b.bound then factory_leaf a ∷ rest (b ∷ bench) else bench_leaf b ∷ onward

unfoldable pub merged : List LeafBound → List LeafBound → List JointLeaf
merged [] bench = map bench_leaf bench
merged (a ∷ factory) bench = merged_with a (merged factory) bench

-- what a search has found so far in each library
pub record PairSearch : Type 0 where
  pub in_factory : Search
  pub in_bench : Search

abbrev pub pair_search : Search → Search → PairSearch
pair_search in_factory in_bench = record { in_factory = in_factory; in_bench = in_bench }

-- a bound is above the nearest of all found so far
unfoldable pub is_above_both : ℕ → PairSearch → Bool
is_above_both bound s = is_above bound s.in_factory.best || is_above bound s.in_bench.best

unfoldable pub read_joint : Indexed → Indexed → Trace → PairSearch → JointLeaf → PairSearch
read_joint f b query s (factory_leaf a) = pair_search (read_leaf f.traces f.tree query s.in_factory a.number) s.in_bench
read_joint f b query s (bench_leaf a) = pair_search s.in_factory (read_leaf b.traces b.tree query s.in_bench a.number)

-- leaves are read in such an order until neither next bound is at most the best
unfoldable pub pair_on : Indexed → Indexed → Trace → PairSearch → List JointLeaf → PairSearch
pair_on f b query s [] = s
pair_on f b query s (next ∷ rest) =
    let onward = pair_on f b query (read_joint f b query s next) rest in
    if is_above_both (leaf_of next).bound s then s else onward

-- the nearer of two bests, "the factory's on equal distance"
pub record Winner : Type 0 where
  pub which : Which
  pub near : Near

abbrev pub won : Which → Near → Winner
won which near = record { which = which; near = near }

-- (there is a best wherever one of the two has a trace: `PairClaims`, `steps_give_it`)
unfoldable pub winner_of : Option Near → Option Near → Winner
winner_of none none = won of_factory (record { trace = 0; distance = 0 })
winner_of none (some b) = won of_bench b
winner_of (some a) none = won of_factory a
winner_of (some a) (some b) = if ltb b.distance a.distance then won of_bench b else won of_factory a

-- what a search answers
unfoldable pub pair_from : Winner → PairSearch → PairMatch
pair_from w s = record {
  which = w.which;
  trace = w.near.trace;
  distance = w.near.distance;
  leaves = length s.in_factory.trail + length s.in_bench.trail;
  traces = s.in_factory.traces + s.in_bench.traces;
  factory_trail = s.in_factory.trail;
  bench_trail = s.in_bench.trail;
}

abbrev pub nothing_yet : PairSearch
nothing_yet =
    let nothing : Search = record { best = none; traces = 0; trail = [] } in
    pair_search nothing nothing

-- by the steps, in some order of the leaves of both
unfoldable pub pair_along : Indexed → Indexed → Trace → List JointLeaf → PairMatch
pair_along f b query order =
    let s = pair_on f b query nothing_yet order in
    pair_from (winner_of s.in_factory.best s.in_bench.best) s

-- by the program's steps: they hold for any well-formed tables
unfoldable pub pair_by_steps : Indexed → Indexed → Trace → PairMatch
pair_by_steps f b query = pair_along f b query (merged (reading_order f.tree query) (reading_order b.tree query))

-- one library with another
unfoldable pub paired_with : Which → Indexed → Indexed → Trace → PairMatch
paired_with which own other query = pair_by_steps (by_which which own other) (by_which which other own) query

-- ---- what is claimed

-- the steps on any two trees, whoever made them
pub record PairStepsClaims (f b : Indexed) (query : Trace) (m : PairMatch) : Type 0 where
  -- the answer is the nearest of the traces in the leaves read, "the factory's on equal distance"
  pub nearest_read : won m.which (record { trace = m.trace; distance = m.distance })
      ≡ winner_of (best_among f.traces f.tree query m.factory_trail) (best_among b.traces b.tree query m.bench_trail)
  -- "counts are over both"
  pub leaves_counted : m.leaves ≡ length m.factory_trail + length m.bench_trail
  pub traces_counted : m.traces
      ≡ length (distances_among f.traces f.tree query m.factory_trail)
      + length (distances_among b.traces b.tree query m.bench_trail)
  -- "Each has its own trail, by bound, then number": the first leaves of its library's own order of reading
  pub factory_in_order : m.factory_trail
      ≡ map (λ (a : LeafBound). a.number) (take (length m.factory_trail) (reading_order f.tree query))
  pub bench_in_order : m.bench_trail
      ≡ map (λ (a : LeafBound). a.number) (take (length m.bench_trail) (reading_order b.tree query))
  -- "Samples in leaves off the trail don't bear on a search"
  pub off_trail : (factory_traces bench_traces : List Trace) → SameIn f.tree m.factory_trail f.traces factory_traces
      → SameIn b.tree m.bench_trail b.traces bench_traces
      → pair_by_steps (indexed factory_traces f.tree) (indexed bench_traces b.tree) query ≡ m

abbrev pub PairStepsOf : Type 0
PairStepsOf = (f b : Indexed) (query : Trace) → PairStepsClaims f b query (pair_by_steps f b query)

-- the distances of the traces in some leaves of a library
abbrev pub distances_read : Indexed → Trace → List ℕ → List Near
distances_read l query trail = distances_among l.traces l.tree query trail

-- the steps on any well-formed tables, one of which has a trace, whoever made them
pub record PairAnswered (f b : Indexed) (query : Trace) (m : PairMatch) : Type 0 where
  -- "It says which library": the trace is stored there, at that distance
  pub is_stored : m.trace < length (by_which m.which f b).traces
  pub has_distance : distance query (get_or (by_which m.which f b).traces m.trace []) ≡ m.distance
  -- it is the nearest of the traces in the leaves read there, the lowest number among equals
  pub nearest_there : NearestOf
      (distances_read (by_which m.which f b) query (by_which m.which m.factory_trail m.bench_trail))
      (record { trace = m.trace; distance = m.distance })
  -- no trace in a leaf read is nearer, of either library
  pub factory_no_nearer : (a : Near) → In a (distances_read f query m.factory_trail) → m.distance ≤ a.distance
  pub bench_no_nearer : (a : Near) → In a (distances_read b query m.bench_trail) → m.distance ≤ a.distance
  -- "the factory's on equal distance": if the bench's is answered, all those read of the factory's are farther
  pub factory_farther : m.which ≡ of_bench → (a : Near) → In a (distances_read f query m.factory_trail) → m.distance < a.distance

abbrev pub PairStepsOfFormed : Type 0
PairStepsOfFormed = (limit : ℕ) (mf mb : Measures) (f b : Indexed) → T (well_formed_tree limit mf (length f.traces) f.tree)
    → T (well_formed_tree limit mb (length b.traces) b.tree) → 0 < length f.traces + length b.traces
    → (query : Trace) → PairAnswered f b query (pair_by_steps f b query)

-- a match in one library, the other being empty
unfoldable pub alone : Which → Match → PairMatch
alone which m = record {
  which = which;
  trace = m.trace;
  distance = m.distance;
  leaves = m.leaves;
  traces = m.traces;
  factory_trail = by_which which m.trail [];
  bench_trail = by_which which [] m.trail;
}

-- the traces in a set of a library's leaves; a set is a test of their numbers
abbrev pub traces_in_set : Indexed → (ℕ → Bool) → List Trace
traces_in_set l set = traces_of l.traces (numbers_among l.tree (leaves_in l.tree set))

-- the least distance in two sets, one of each library's leaves
abbrev pub least_held : Indexed → Indexed → (ℕ → Bool) → (ℕ → Bool) → Trace → ℕ
least_held f b factory_set bench_set query = least_distance (traces_in_set f factory_set ++ traces_in_set b bench_set) query

-- two sets that hold a trace and leave out, in either library, only bounds above their own nearest
pub record PairLeavesOutOnlyAbove (f b : Indexed) (query : Trace) (factory_set bench_set : ℕ → Bool) : Type 0 where
  pub holds_one : 0 < length (traces_in_set f factory_set ++ traces_in_set b bench_set)
  pub factory_out : LeavesOutAbove f.tree query factory_set (least_held f b factory_set bench_set query)
  pub bench_out : LeavesOutAbove b.tree query bench_set (least_held f b factory_set bench_set query)

-- one library's leaves and traces in an answer m, of which it has this trail
pub record SideClaims (l : Indexed) (query : Trace) (m : PairMatch) (trail : List ℕ) : Type 0 where
  -- "nearest of all"
  pub no_nearer : (trace : ℕ) → trace < length l.traces → m.distance ≤ distance query (get_or l.traces trace [])
  -- "the leaves read are those with a bound at most the joint distance"
  pub read_is_leaf : (number : ℕ) → T (is_in number trail) → T (is_in number (leaves l.tree))
  pub read_at_most : (number : ℕ) → T (is_in number trail) → bound l.tree query number ≤ m.distance
  pub out_is_above : (number : ℕ) → T (is_in number (leaves l.tree)) → T (not (is_in number trail))
      → m.distance < bound l.tree query number
  -- "Each has its own trail, by bound, then number"
  pub in_order : trail ≡ map (λ (a : LeafBound). a.number) (leaves_r l.tree query m.distance)

-- the trace that won, in its library
pub record WonIn (l : Indexed) (query : Trace) (m : PairMatch) : Type 0 where
  pub is_stored : m.trace < length l.traces
  pub has_distance : distance query (get_or l.traces m.trace []) ≡ m.distance
  -- ".. then the lower number"
  pub lower_farther : (trace : ℕ) → trace < m.trace → m.distance < distance query (get_or l.traces trace [])

-- of two libraries, one of which has a trace
pub record PairClaims (f b : Indexed) (query : Trace) : Type 0 where
  -- the steps answer the nearest of all, and read those leaves
  pub steps_give_it : pair_by_steps f b query ≡ pair_of f b query
  -- .. whatever the order among equal next bounds; and traces that differ from these only outside the leaves read do not bear on it
  pub any_order : (order : List JointLeaf) → Merged (reading_order f.tree query) (reading_order b.tree query) order
      → pair_along f b query order ≡ pair_of f b query
  pub others_do_not_bear : (factory_traces bench_traces : List Trace)
      → SameIn f.tree (pair_of f b query).factory_trail f.traces factory_traces
      → SameIn b.tree (pair_of f b query).bench_trail b.traces bench_traces
      → pair_by_steps (indexed factory_traces f.tree) (indexed bench_traces b.tree) query ≡ pair_of f b query
  -- "nearest of all"; "In each library the leaves read are those with a bound at most the joint distance"
  pub in_factory_lem : SideClaims f query (pair_of f b query) (pair_of f b query).factory_trail
  pub in_bench_lem : SideClaims b query (pair_of f b query) (pair_of f b query).bench_trail
  -- "It says which library"
  pub winner_is : WonIn (by_which (pair_of f b query).which f b) query (pair_of f b query)
  -- "the factory's on equal distance": if the bench's is answered, all of the factory's are farther
  pub factory_farther : (pair_of f b query).which ≡ of_bench → (trace : ℕ) → trace < length f.traces
      → (pair_of f b query).distance < distance query (get_or f.traces trace [])
  -- "counts are over both"
  pub leaves_counted : (pair_of f b query).leaves ≡ length (pair_of f b query).factory_trail + length (pair_of f b query).bench_trail
  pub traces_counted : (pair_of f b query).traces
      ≡ traces_read f (pair_of f b query).factory_trail + traces_read b (pair_of f b query).bench_trail
  -- "One library may be empty": then it is the other's match
  pub factory_empty : f.traces ≡ [] → pair_of f b query ≡ alone of_bench (match_of b.traces b.tree query)
  pub bench_empty : b.traces ≡ [] → pair_of f b query ≡ alone of_factory (match_of f.traces f.tree query)
  -- the fewest: any two sets that hold a trace and leave out only bounds above their own nearest contain the leaves read
  pub contains : (factory_set bench_set : ℕ → Bool) → PairLeavesOutOnlyAbove f b query factory_set bench_set
      → ((number : ℕ) → T (is_in number (pair_of f b query).factory_trail) → T (factory_set number))
      × ((number : ℕ) → T (is_in number (pair_of f b query).bench_trail) → T (bench_set number))
  -- .. so they have at least as many leaves as are counted
  pub fewest : (factory_set bench_set : ℕ → Bool) → PairLeavesOutOnlyAbove f b query factory_set bench_set
      → (pair_of f b query).leaves ≤ length (leaves_in f.tree factory_set) + length (leaves_in b.tree bench_set)
  -- the leaves read are themselves two such sets, so that the fewest is reached
  pub read_themselves : PairLeavesOutOnlyAbove f b query (λ number. is_in number (pair_of f b query).factory_trail)
      (λ number. is_in number (pair_of f b query).bench_trail)

-- "for libraries [the check] would accept": each well formed with exact ranges, whoever made it; capacity and leaf size may differ
abbrev pub PairOfExact : Type 0
PairOfExact = (limit : ℕ) (mf mb : Measures) (f b : Indexed) → ExactTree limit mf f.traces f.tree
    → ExactTree limit mb b.traces b.tree → mf.n ≡ mb.n → (query : Trace) → length query ≡ mf.n
    → 0 < length f.traces + length b.traces → PairClaims f b query
