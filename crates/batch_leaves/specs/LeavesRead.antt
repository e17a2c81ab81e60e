-- Tables in which a batch may be searched, and what is kept while leaves are read for all its queries.
use Rattle.std.specs.Prelude.{ℕ, zero, suc, ◌*◌, ◌≤◌, ◌<◌, ◌≡◌, Bool, not, ℤ, length, get_or, T, eqb}
use Rattle.std.proofs.Math.Option.{Option, none, some}
use mathlib.Core.List.{List, foldl}
use Rattle.integer.specs.Words.{counting, those, is_in}
use Rattle.segment.specs.Stored.{samples_of}
use Rattle.dstree.specs.Measures.{Trace}
use Rattle.dstree.specs.Matching.{Near, best_with}
use Rattle.dstree.specs.Batch.{most_queries, queries_in, best_among}
use Rattle.tables.specs.Tables.{Tables, measures_of, trace_count, node_count}
use Rattle.tables.specs.View.{tree_in, trace_in, traces_in, well_formed}
use Rattle.tables.specs.Holds.{Long}
use Rattle.reading.specs.Listed.{record_at}

-- ---- what is asked of the tables

-- well-formed tables with a trace, and a run of words for so many queries of their length, 1 to 16
pub record Searchable (t : Tables) (run : List ℤ) (many : ℕ) : Type 0 where
  pub formed : T (well_formed t)
  pub long : Long t
  pub some_trace : 0 < trace_count t
  pub run_long : length run ≡ (measures_of t).n * many
  pub some_query : 1 ≤ many
  pub few : many ≤ most_queries

-- query i of a run
abbrev pub query_at : Tables → List ℤ → ℕ → Trace
query_at t run i = trace_in run (measures_of t).n i

-- the queries of a run
abbrev pub queries_of : Tables → List ℤ → ℕ → List Trace
queries_of t run many = queries_in (measures_of t).n many (samples_of run)

-- ---- marks

-- a node has a mark
abbrev pub is_marked : List ℕ → ℕ → Bool
is_marked marks j = not (eqb (get_or marks j 0) 0)

-- the marked ones of so many nodes, rising
abbrev pub marked_of : List ℕ → ℕ → List ℕ
marked_of marks count = those (is_marked marks) (counting count 0)

-- "no leaf is read twice": a mark counts the readings of its leaf, and so many leaves were read, as many as nodes have a mark
pub record CountedOnce (t : Tables) (marks : List ℕ) (leaves : ℕ) : Type 0 where
  pub once : (j : ℕ) → j < node_count t → get_or marks j 0 ≤ 1
  pub as_many : leaves ≡ length (marked_of marks (node_count t))

-- ---- what is kept

-- a query's nearest trace so far: its record, once a leaf was read; before that there is none, whatever the record holds
abbrev pub best_by : ℕ → Near → Option Near
best_by zero a = none
best_by (suc more) a = some a

-- room for a record of each query, two places each, and for a mark of each node, with so many leaves read
pub record BatchRoom (t : Tables) (many : ℕ) (bests marks : List ℕ) (leaves : ℕ) : Type 0 where
  pub bests_long : 2 * many ≤ length bests
  pub marks_long : node_count t ≤ length marks
  pub counted : CountedOnce t marks leaves

-- with these leaves read: each query's best of the traces in them, and a mark for each of them
pub record BestsAndMarks (t : Tables) (run : List ℤ) (many : ℕ) (read bests marks : List ℕ) (leaves : ℕ) : Type 0 where
  pub best_is : (i : ℕ) → i < many → best_by leaves (record_at bests i) ≡ best_among (traces_in t) (tree_in t) (query_at t run i) read
  pub mark_is : (j : ℕ) → j < node_count t → is_marked marks j ≡ is_in j read

-- a function that makes these leaves of those read before, whatever they were
abbrev pub Turns : Tables → List ℤ → ℕ → (List ℕ → List ℕ) → List ℕ → List ℕ → ℕ → List ℕ → List ℕ → ℕ → Type 0
Turns t run many reads bests marks leaves bests' marks' leaves' =
    (read : List ℕ) → BestsAndMarks t run many read bests marks leaves → BestsAndMarks t run many (reads read) bests' marks' leaves'

-- ---- a leaf

-- record i holds the best of what it held, if a leaf was read before, and some more traces; the other records stay
pub record OneRead (leaves i : ℕ) (more : List Near) (bests bests' : List ℕ) : Type 0 where
  pub best : some (record_at bests' i) ≡ foldl best_with (best_by leaves (record_at bests i)) more
  pub others : (j : ℕ) → (j ≡ i → ⊥) → record_at bests' j ≡ record_at bests j

-- .. of each query, the traces with their distances to it
abbrev pub AllRead : ℕ → ℕ → (ℕ → List Near) → List ℕ → List ℕ → Type 0
AllRead leaves many more bests bests' =
    (i : ℕ) → i < many → some (record_at bests' i) ≡ foldl best_with (best_by leaves (record_at bests i)) (more i)
