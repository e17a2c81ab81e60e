-- Document 02, §7: "A service round brings up to 16 queries. Match them together so that no leaf is read twice".
use Rattle.std.specs.Prelude.{ℕ, ◌*◌, ◌≤◌, ◌<◌, ◌≡◌, Bool, false, not, ◌&&◌, length, T, eqb, if◌then◌else◌}
use Rattle.std.proofs.Math.Option.{Option, none, some}
use mathlib.Core.List.{List, [], ◌∷◌, ◌++◌, map, foldl, flatten}
use Rattle.integer.specs.Words.{those, is_in, times_in}
use Rattle.integer.specs.Lists.{In, Up}
use Rattle.dstree.specs.Measures.{Trace, Measures, within}
use Rattle.dstree.specs.Node.{Tree}
use Rattle.dstree.specs.Matching.{leaves, reading_order, read_on, Near, is_nearer, best_with, Search, is_above, Match, match_of}
use Rattle.dstree.specs.WellFormed.{well_formed_tree}
use Rattle.dstree.specs.Claims.{ExactTree}
use Rattle.dstree.specs.KNearest.{distances_among, SameIn}
use Rattle.dstree.specs.Refusals.{Condition, ◌refuses◌, bad_batch, run_conditions}
use Rattle.dstree.specs.Sheet.{pieces}

-- ---- the queries

-- "up to 16 queries"
abbrev pub most_queries : ℕ
most_queries = 16

-- 1 to 16 queries, with an answer list of as many places
unfoldable pub is_batch : ℕ → ℕ → Bool
is_batch count places = within 1 count most_queries && eqb places count

-- "the queries come as one run of samples"
abbrev pub queries_in : ℕ → ℕ → Trace → List Trace
queries_in n count run = pieces n count run

-- "14 bad batch, for 0 or more than 16 queries, or an answer list of another length than the batch, after 3; .. and a run not n times their
-- number long is 4"; then 15, 6 and 7 as a match. Of a library for traces of n samples with so many traces and leaves
abbrev pub batch_conditions : ℕ → ℕ → ℕ → ℕ → ℕ → Trace → List ℕ → List Condition
batch_conditions n traces leaves count places run trail =
    not (is_batch count places) refuses bad_batch ∷ run_conditions (n * count) traces leaves run trail

-- ---- what a batch answers

-- "One answer record for each query .., with trace and distance"; "one count of leaves"; "The trail lists the leaves read by rising number"
pub record Batch : Type 0 where
  pub answers : List Near
  pub leaves : ℕ
  pub trail : List ℕ

-- with these leaves read, whatever the order
abbrev pub batch_with : Tree → List Near → List ℕ → Batch
batch_with tree answers read =
    let trail = those (λ number. is_in number read) (leaves tree) in
    record { answers = answers; leaves = length trail; trail = trail }

-- ---- in closed form

-- a match's trace and distance
abbrev pub answer_in : Match → Near
answer_in m = record { trace = m.trace; distance = m.distance }

-- the leaves "that at least one query alone would read", one query's behind another's
unfoldable pub wanted : List Trace → Tree → List Trace → List ℕ
wanted stored tree queries = flatten (map (λ query. (match_of stored tree query).trail) queries)

-- "the leaves read are exactly those that at least one query alone would read. One answer record for each query .., with trace and
-- distance as if matched alone"
unfoldable pub batch_of : List Trace → Tree → List Trace → Batch
batch_of stored tree queries = batch_with tree (map (λ query. answer_in (match_of stored tree query)) queries) (wanted stored tree queries)

-- ---- by the program's steps, on any well-formed tables

-- a leaf is read for all queries at once, and each query keeps its best: that is the nearest of the traces in the leaves read so far
unfoldable pub best_among : List Trace → Tree → Trace → List ℕ → Option Near
best_among stored tree query read = foldl best_with none (distances_among stored tree query read)

-- "no leaf is read twice": a leaf that was read before is passed over
unfoldable pub read_once : List ℕ → ℕ → List ℕ
read_once read number = if is_in number read then read else read ++ (number ∷ [])

-- one query asks for leaves in its own order, as a match does, until the next bound is above its best
unfoldable pub read_for : List Trace → Tree → List ℕ → Trace → List ℕ
read_for stored tree read query =
    read_on (λ so_far bound. is_above bound (best_among stored tree query so_far)) read_once read (reading_order tree query)

-- query after query: the leaves read, as they are read
unfoldable pub batch_read : List Trace → Tree → List Trace → List ℕ
batch_read stored tree queries = foldl (read_for stored tree) [] queries

-- the answer by what is best. (There is a best wherever a trace is stored: `StepsClaims`, `answered`)
unfoldable pub near_or_zero : Option Near → Near
near_or_zero none = record { trace = 0; distance = 0 }
near_or_zero (some a) = a

-- a match by what its search has found, so too
abbrev pub match_seen : Search → Option Near → Match
match_seen s best = record {
  trace = (near_or_zero best).trace;
  distance = (near_or_zero best).distance;
  leaves = length s.trail;
  traces = s.traces;
  trail = s.trail;
}

unfoldable pub batch_by_steps : List Trace → Tree → List Trace → Batch
batch_by_steps stored tree queries =
    let read = batch_read stored tree queries in
    batch_with tree (map (λ query. near_or_zero (best_among stored tree query read)) queries) read

-- ---- what is claimed

-- one of some, to which none of them is preferred
pub record NearestOf (nears : List Near) (a : Near) : Type 0 where
  pub among : In a nears
  pub none_nearer : (b : Near) → In b nears → is_nearer b a ≡ false

-- the steps on any well-formed tables with a trace, whoever made them
pub record StepsClaims (stored : List Trace) (tree : Tree) (queries : List Trace) : Type 0 where
  -- "no leaf is read twice"
  pub once : (number : ℕ) → times_in number (batch_read stored tree queries) ≤ 1
  -- the trail lists all that are read, "by rising number"
  pub trail_has : (number : ℕ) → is_in number (batch_by_steps stored tree queries).trail ≡ is_in number (batch_read stored tree queries)
  pub rising : Up 0 (batch_by_steps stored tree queries).trail
  -- "one count of leaves": as many as are read
  pub as_many : (batch_by_steps stored tree queries).leaves ≡ length (batch_read stored tree queries)
  -- each query has an answer, the nearest of the traces in the leaves read
  pub answered : (query : Trace) → In query queries → NearestOf
      (distances_among stored tree query (batch_by_steps stored tree queries).trail)
      (near_or_zero (best_among stored tree query (batch_read stored tree queries)))

abbrev pub StepsOfFormed : Type 0
StepsOfFormed = (limit : ℕ) (m : Measures) (stored : List Trace) (tree : Tree) → T (well_formed_tree limit m (length stored) tree)
    → 0 < length stored → (queries : List Trace) → StepsClaims stored tree queries

-- "Samples in leaves off the trail don't bear on a search": on any tree
abbrev pub BatchOffTrail : Type 0
BatchOffTrail = (stored other : List Trace) (tree : Tree) (queries : List Trace)
    → SameIn tree (batch_by_steps stored tree queries).trail stored other → batch_by_steps other tree queries
    ≡ batch_by_steps stored tree queries

-- a query of the batch that alone would read a leaf
pub record WantedBy (stored : List Trace) (tree : Tree) (queries : List Trace) (number : ℕ) : Type 0 where
  pub query : Trace
  pub one_of : In query queries
  pub reads : T (is_in number (match_of stored tree query).trail)

-- of any tables with exact ranges
pub record BatchClaims (stored : List Trace) (tree : Tree) (queries : List Trace) : Type 0 where
  -- the steps give the answers of the matches, and read "exactly those [leaves] that at least one query alone would read"
  pub steps_give_it : batch_by_steps stored tree queries ≡ batch_of stored tree queries
  pub no_fewer : (query : Trace) → In query queries → (number : ℕ) → T (is_in number (match_of stored tree query).trail)
      → T (is_in number (batch_of stored tree queries).trail)
  pub no_more : (number : ℕ) → T (is_in number (batch_of stored tree queries).trail) → WantedBy stored tree queries number

-- a batch of one reads the match's leaves, on any tree
pub record OneClaims (stored : List Trace) (tree : Tree) (query : Trace) : Type 0 where
  pub same_leaves : (number : ℕ) → is_in number (batch_of stored tree (query ∷ [])).trail ≡ is_in number (match_of stored tree query).trail
  pub as_many : (batch_of stored tree (query ∷ [])).leaves ≡ (match_of stored tree query).leaves

abbrev pub BatchOfExact : Type 0
BatchOfExact = (limit : ℕ) (m : Measures) (stored : List Trace) (tree : Tree) → ExactTree limit m stored tree → 0 < length stored
    → (queries : List Trace) → ((query : Trace) → In query queries → length query ≡ m.n) → BatchClaims stored tree queries
