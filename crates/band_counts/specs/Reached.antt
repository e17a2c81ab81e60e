-- Of a bound or an upper figure only how many edges it has reached bears on a report. No more than 16 are, so that one place of search
-- work holds both numbers of a node.
use Rattle.std.specs.Prelude.{ℕ, ◌+◌, ◌*◌, ◌/◌, ◌%◌, min, max, List, ℤ, length, leb}
use Rattle.integer.specs.Words.{those}
use Rattle.dstree.specs.Measures.{Trace}
use Rattle.dstree.specs.Node.{Tree}
use Rattle.dstree.specs.Matching.{bound}
use Rattle.dstree.specs.Bands.{upper}
use Rattle.query.specs.Bounded.{bound_by, upper_by}

-- how many edges are at most a figure
unfoldable pub edges_reached : List ℕ → ℕ → ℕ
edges_reached edges figure = length (those (λ edge. leb edge figure) edges)

-- ---- two numbers in one place

abbrev pub pair_base : ℕ
pair_base = 32

abbrev pub pair_of : ℕ → ℕ → ℕ
pair_of by_bound by_upper = by_bound + pair_base * by_upper

abbrev pub by_bound_in : ℕ → ℕ
by_bound_in pair = pair % pair_base

abbrev pub by_upper_in : ℕ → ℕ
by_upper_in pair = pair / pair_base

-- ---- a node's two numbers

unfoldable pub reached_at : Tree → Trace → List ℕ → ℕ → ℕ
reached_at tree query edges number =
    pair_of (edges_reached edges (bound tree query number)) (edges_reached edges (upper tree query number))

-- above node 0 there is nothing: no edge is reached by a bound, and all are by an upper figure
abbrev pub reached_above : List ℕ → ℕ
reached_above edges = pair_of 0 (length edges)

-- a node's, by its own record and what is reached above it
abbrev pub reached_below : Trace → List ℕ → ℕ → List ℤ → ℕ
reached_below query edges above r =
    pair_of (max (edges_reached edges (bound_by query r)) (by_bound_in above)) (min (edges_reached edges (upper_by query r)) (by_upper_in above))
