-- The way down by the node table, in document 01's words: the way of the tree that its records have. No link is read on the way, so what
-- list a leaf has is left out.
use Rattle.std.specs.Prelude.{ℕ, ◌*◌, ◌≤◌, ◌<◌, ◌≡◌, List, [], ℤ, length, eqb}
use Rattle.std.proofs.Math.Option.{Option, some}
use Rattle.dstree.specs.Measures.{Trace, most_samples, most_nodes}
use Rattle.dstree.specs.Node.{Figure, node_at}
use Rattle.dstree.specs.Adding.{next_node, way}
use Rattle.tables.specs.Layout.{kind_place, run_first_place, run_last_place, record_places}
use Rattle.tables.specs.Tables.{record_of}
use Rattle.tables.specs.View.{small_at, kind_in, shape_in}
use Rattle.tables.specs.Runs.{figure_by, Inside}
use Rattle.insertion.specs.Widening.{Readable}

-- sum or scatter, by a kind field: 1 by sum, 2 by scatter
abbrev pub figure_in : List ℤ → Figure
figure_in r = figure_by (eqb (small_at r kind_place) 2)

-- the child that a trace goes to from a record, none at a leaf
abbrev pub next_in : List ℤ → Trace → Option ℕ
next_in r x = next_node (kind_in [] 0 r (small_at r kind_place)) x

-- the nodes that a trace meets
abbrev pub way_in : List ℤ → ℕ → Trace → List ℕ
way_in nodes count x = way (shape_in nodes count) x

-- ---- what has to hold so that code can go down

-- a record's test is on a run inside 1 to n
pub record TestReadable (r : List ℤ) (n : ℕ) : Type 0 where
  pub size : length r ≡ record_places
  pub on : Inside n (small_at r run_first_place) (small_at r run_last_place)

-- a table of `count` nodes that a trace of n samples can go down and widen
pub record Descendable (nodes : List ℤ) (count n : ℕ) : Type 0 where
  pub some_node : 0 < count
  pub few : count ≤ most_nodes
  pub narrow : n ≤ most_samples
  pub room : count * record_places ≤ length nodes
  pub readable : (j : ℕ) → j < count → Readable (record_of nodes j) n
  pub kind : (j : ℕ) → j < count → small_at (record_of nodes j) kind_place ≤ 2
  pub test : (j : ℕ) → j < count → 1 ≤ small_at (record_of nodes j) kind_place → TestReadable (record_of nodes j) n
  -- "inner children numbered above their parent", and so the node that a trace goes to
  pub child : (x : Trace) (p c : ℕ) → next_node (node_at (shape_in nodes count) p).kind x ≡ some c → (p < c) × (c < count)
