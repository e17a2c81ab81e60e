-- What is claimed of a tree over a list of traces, as statements: the laws behind document 01's sections "A node's record", "Adding",
-- "Matching", "Well-formed tables" and "Demand 3, over a list of calls". What is claimed of a query holds of every well-formed tree with
-- exact ranges, whoever made it (`ClaimsOfExact`); all of it holds of the tree that insertion makes, for every library (`proofs/Laws`).
use Rattle.std.specs.Prelude.{ℕ, suc, ◌+◌, ◌*◌, ◌-◌, ◌≤◌, ◌<◌, ◌≡◌, Bool, true, false, not, length, get_or, take, ℤ, pos, ◌≤ℤ◌, T, eqb}
use Rattle.std.proofs.Math.Option.{some}
use mathlib.Core.List.{List, [], ◌∷◌, ◌++◌, map, flatten}
use Rattle.std.specs.Int.Signed.{lt_z, le_z}
use Rattle.integer.specs.Words.{least_ℤ, greatest_ℤ, least, greatest, every, is_empty, is_in, last_of}
use Rattle.segment.specs.Figures.{distance}
use Rattle.segment.specs.Roots.{floor_root}
use Rattle.dstree.specs.Measures.{Trace, Measures}
use Rattle.dstree.specs.Figures.{Run, run, sum_on, scatter_on}
use Rattle.dstree.specs.Node.{Segment, by_scatter, Test, leaf, inner, Tree, node_at, ends, figure_of, sends_left}
use Rattle.dstree.specs.Adding.{way, traces_of, Candidate, candidates, test_of, Split, split_by, parts, best_by, insertion}
use Rattle.dstree.specs.Adding.{goes_by, show_sides, fewest_first}
use Rattle.dstree.specs.Matching.{has_child, bound, numbers_in, leaves, searched, match_by_steps, least_distance, match_of}
use Rattle.dstree.specs.WellFormed.{well_formed_tree}

-- "what is below a node": a leaf has its traces below it, an inner node what is below a child
pub data Below (tree : Tree) (trace : ℕ) : ℕ → Type 0 where
  of_leaf : {number : ℕ} → T (is_in trace (numbers_in (node_at tree number).kind)) → Below tree trace number
  of_child : {parent child : ℕ} → T (has_child child (node_at tree parent).kind) → Below tree trace child → Below tree trace parent

-- ---- the shape of the tree

pub record ShapeOf (limit : ℕ) (m : Measures) (traces : List Trace) (tree : Tree) : Type 0 where
  -- the well-formed rules, so that "3 never arises from these tables"
  pub well_formed_lem : T (well_formed_tree limit m (length traces) tree)
  -- "2c − 1 node records" are enough
  pub node_count_lem : length tree ≤ 2 * length traces - 1
  -- "So a leaf is over size only when no candidate parts it"
  pub over_size : (number : ℕ) (numbers : List ℕ) → (node_at tree number).kind ≡ leaf numbers → m.leaf_size < length numbers
      → T (every (λ c. not (parts (split_by traces numbers c))) (candidates (ends (node_at tree number).segments)))

-- ---- "the least and greatest sum and scatter of the traces below"

-- of the traces with P, one has the figure `extreme`, and no other's is beyond it: with R for "at most" it is the least, the other way
-- round the greatest
pub record Extreme {A : Type 0} (R : A → A → Type 0) (P : ℕ → Type 0) (figure : ℕ → A) (extreme : A) : Type 0 where
  pub trace : ℕ
  pub is_one : P trace
  pub has : extreme ≡ figure trace
  pub none_beyond : (t : ℕ) → P t → R extreme (figure t)

-- the figures that a segment on a run records are exactly those of the traces with P
pub record ExactOn (traces : List Trace) (P : ℕ → Type 0) (on : Run) (s : Segment) : Type 0 where
  pub least_sum_lem : Extreme (λ a b. a ≤ℤ b) P (λ t. sum_on on (get_or traces t [])) s.least_sum
  pub greatest_sum_lem : Extreme (λ a b. b ≤ℤ a) P (λ t. sum_on on (get_or traces t [])) s.greatest_sum
  pub least_scatter_lem : Extreme (λ a b. a ≤ b) P (λ t. scatter_on on (get_or traces t [])) s.least_scatter
  pub greatest_scatter_lem : Extreme (λ a b. b ≤ a) P (λ t. scatter_on on (get_or traces t [])) s.greatest_scatter

-- .. on each segment, the first from sample `first` on
pub data AllExact (traces : List Trace) (P : ℕ → Type 0) : ℕ → List Segment → Type 0 where
  exact_none : {first : ℕ} → AllExact traces P first []
  exact_more : {first : ℕ} {s : Segment} {rest : List Segment} → ExactOn traces P (run first s.end) s
      → AllExact traces P (suc s.end) rest → AllExact traces P first (s ∷ rest)

abbrev pub RangesOf : List Trace → Tree → Type 0
RangesOf traces tree = (number : ℕ) → AllExact traces (λ t. Below tree t number) 1 (node_at tree number).segments

-- ---- tests

pub record TestsOf (m : Measures) (traces : List Trace) (tree : Tree) : Type 0 where
  -- "moving no threshold": an inner node keeps its test and its children when a trace is added
  pub kept : (x : Trace) (number : ℕ) (test : Test) (left right : ℕ) → (node_at tree number).kind ≡ inner test left right
      → (node_at (insertion m traces tree x) number).kind ≡ inner test left right
  -- "the trace goes down by the tests .. and joins a leaf": the tests still lead each stored trace to the leaf that holds it
  pub routed : (t : ℕ) → t < length traces → T (is_in t (numbers_in (node_at tree (last_of (way tree (get_or traces t [])))).kind))

-- "A candidate parts the leaf if both sides receive a trace": exactly if its least figure is below its greatest
abbrev pub Parting : Type 0
Parting = (stored : List Trace) (numbers : List ℕ) (c : Candidate) → parts (split_by stored numbers c) ≡ lt_z
    (least_ℤ (map (figure_of c.figure c.on) (traces_of stored numbers)))
    (greatest_ℤ (map (figure_of c.figure c.on) (traces_of stored numbers)))

-- Document 02, §3, "Its yes or no remains": a leaf's traces show both sides of a candidate's test exactly if the candidate parts the leaf
abbrev pub YesOrNo : Type 0
YesOrNo = (stored : List Trace) (numbers : List ℕ) (c : Candidate)
    → show_sides (goes_by stored (test_of c (traces_of stored numbers))) numbers ≡ parts (split_by stored numbers c)

-- how many of a leaf's first traces are taken, whatever the test
pub record TakenOf (goes : ℕ → Bool) (numbers : List ℕ) : Type 0 where
  -- "the fewest first ones that show both sides": these show them, and fewer do not
  pub shown : show_sides goes numbers ≡ true → show_sides goes (take (fewest_first goes numbers) numbers) ≡ true
  pub no_fewer : (k : ℕ) → k < fewest_first goes numbers → show_sides goes (take k numbers) ≡ false
  -- "or all when none do"
  pub all_else : show_sides goes numbers ≡ false → fewest_first goes numbers ≡ length numbers
  -- never more than all, one of a leaf that has one, and two where both sides are seen
  pub at_most : fewest_first goes numbers ≤ length numbers
  pub one : 0 < length numbers → 1 ≤ fewest_first goes numbers
  pub two : show_sides goes numbers ≡ true → 2 ≤ fewest_first goes numbers

-- Document 02 §4, of a candidate by scatter, over the traces of some numbers
pub record ByDeviation (stored : List Trace) (numbers : List ℕ) (c : Candidate) (scatters : List ℕ) : Type 0 where
  -- "T is the floor root of the least scatter plus that of the greatest"
  pub threshold_is : (split_by stored numbers c).test.threshold ≡ pos (floor_root (least scatters) + floor_root (greatest scatters))
  -- "Scatters with equal floor roots are then not parted": it parts exactly if the least's and the greatest's differ
  pub parts_is : parts (split_by stored numbers c) ≡ not (eqb (floor_root (least scatters)) (floor_root (greatest scatters)))
  -- .. and any two traces with equal roots go to the same side
  pub equal_roots : (x y : Trace) → floor_root (scatter_on c.on x) ≡ floor_root (scatter_on c.on y)
      → sends_left (split_by stored numbers c).test x ≡ sends_left (split_by stored numbers c).test y
  -- the least always goes left, the greatest right if it parts
  pub least_left : (x : Trace) → scatter_on c.on x ≡ least scatters → sends_left (split_by stored numbers c).test x ≡ true
  pub greatest_right : (x : Trace) → scatter_on c.on x ≡ greatest scatters
      → sends_left (split_by stored numbers c).test x ≡ not (parts (split_by stored numbers c))

abbrev pub Deviations : Type 0
Deviations = (stored : List Trace) (numbers : List ℕ) (c : Candidate) → c.figure ≡ by_scatter
    → ByDeviation stored numbers c (map (scatter_on c.on) (traces_of stored numbers))

-- "Among the candidates that part the leaf the greatest gain wins, the earliest among equals": what stands before the winner has less gain,
-- what stands behind it no more
pub record Wins (gain_of : Split → ℤ) (all : List Split) (winner : Split) : Type 0 where
  pub earlier : List Split
  pub later : List Split
  pub among : all ≡ earlier ++ (winner ∷ later)
  pub less_before : T (every (λ s. lt_z (gain_of s) (gain_of winner)) earlier)
  pub no_more_behind : T (every (λ s. le_z (gain_of s) (gain_of winner)) later)

abbrev pub Winning : Type 0
Winning = (gain_of : Split → ℤ) (all : List Split) (winner : Split) → best_by gain_of all ≡ some winner → Wins gain_of all winner

-- ---- a query

-- the numbers of the traces in some leaves
unfoldable pub numbers_among : Tree → List ℕ → List ℕ
numbers_among tree set = flatten (map (λ number. numbers_in (node_at tree number).kind) set)

-- "Samples in leaves off the trail don't bear on a search: well-formed tables that differ only there give the same answer and the same
-- trail". It holds of any tree, whoever made it
abbrev pub OffTrail : Type 0
OffTrail = (traces other : List Trace) (tree : Tree) (query : Trace) → traces_of other
    (numbers_among tree (searched traces tree query).trail) ≡ traces_of traces (numbers_among tree (searched traces tree query).trail)
    → searched other tree query ≡ searched traces tree query

-- a set of leaves that "leaves out only bounds above the least distance in the set". A set is a list: what is claimed of every list's
-- length is claimed of the list without repetition
pub record LeavesOutOnlyAbove (traces : List Trace) (tree : Tree) (query : Trace) (set : List ℕ) : Type 0 where
  -- "one leaf or more"
  pub one_or_more : T (not (is_empty set))
  pub of_leaves : T (every (λ number. is_in number (leaves tree)) set)
  pub out_is_above : (number : ℕ) → T (is_in number (leaves tree)) → T (not (is_in number set))
      → least_distance (traces_of traces (numbers_among tree set)) query < bound tree query number

-- "After the list, if the book has a trace, take any query of n samples", for a book with these traces and their tree
pub record ClaimsOf (traces : List Trace) (tree : Tree) (query : Trace) : Type 0 where
  -- "No node's bound exceeds the query's distance to a trace below it"
  pub bound_at_most : (number trace : ℕ) → Below tree trace number → bound tree query number ≤ distance query (get_or traces trace [])
  -- "A match .. answers the lowest trace number at distance d, d, the number of leaves in R, and the number of traces in them; the trail
  -- begins with R"
  pub steps_give_it : match_by_steps traces tree query ≡ some (match_of traces tree query)
  -- "The same match on tables that differ from these only in samples of traces outside R .. gives that answer and that trail"
  pub others_do_not_bear : (other : List Trace)
      → traces_of other (numbers_among tree (match_of traces tree query).trail) ≡ traces_of traces
      (numbers_among tree (match_of traces tree query).trail) → match_by_steps other tree query ≡ some (match_of traces tree query)
  -- "R leaves out only bounds above d"
  pub out_of_R : (number : ℕ) → T (is_in number (leaves tree)) → T (not (is_in number (match_of traces tree query).trail))
      → least_distance traces query < bound tree query number
  -- "Any set of one leaf or more that leaves out only bounds above the least distance in the set contains R"
  pub contains_R : (set : List ℕ) → LeavesOutOnlyAbove traces tree query set
      → T (every (λ number. is_in number set) (match_of traces tree query).trail)
  -- ".. so it has at least as many leaves as the answer counts"
  pub fewest : (set : List ℕ) → LeavesOutOnlyAbove traces tree query set → (match_of traces tree query).leaves ≤ length set
  -- R is itself such a set, so that "the fewest" is reached
  pub R_itself : LeavesOutOnlyAbove traces tree query (match_of traces tree query).trail

-- a tree that is well formed, over traces of n samples, whose records have exactly the figures of the traces below: the tree that insertion
-- makes is one, and so is any other, whoever made it
pub record ExactTree (limit : ℕ) (m : Measures) (stored : List Trace) (tree : Tree) : Type 0 where
  pub well_formed_lem : T (well_formed_tree limit m (length stored) tree)
  pub of_n : (t : ℕ) → t < length stored → length (get_or stored t []) ≡ m.n
  pub ranges : RangesOf stored tree

-- what is claimed of a query needs no more
abbrev pub ClaimsOfExact : Type 0
ClaimsOfExact = (limit : ℕ) (m : Measures) (stored : List Trace) (tree : Tree) → ExactTree limit m stored tree
    → (query : Trace) → 0 < length stored → length query ≡ m.n → ClaimsOf stored tree query
