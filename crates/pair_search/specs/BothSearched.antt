-- Document 02, §11: what a search over two libraries asks of each, and what it leaves: what is answered is what the definitions' steps
-- give, in one equation.
use Rattle.std.specs.Prelude.{ℕ, ◌+◌, ◌≤◌, ◌≡◌, List, length, take, drop, T}
use Rattle.dstree.specs.Measures.{Trace, work_needed}
use Rattle.dstree.specs.Matching.{leaves}
use Rattle.dstree.specs.Pair.{Indexed, indexed, Which, of_factory, of_bench, PairMatch, pair_by_steps}
use Rattle.tables.specs.Tables.{Tables, measures_of, filled}
use Rattle.tables.specs.View.{tree_in, traces_in, well_formed}
use Rattle.pair_search.specs.declared.turns.Whose.{Whose}
use Rattle.pair_search.specs.declared.turns.Whose.TheVariants.{Factory, Bench}
use Rattle.tables.specs.Holds.{Long}

-- well-formed tables, a query of their length, and a trail with a place for each leaf. "One library may be empty": it has no node, so that
-- its trail may have no place
pub record SideReady (t : Tables) (query : Trace) (trail : ℕ) : Type 0 where
  pub formed : T (well_formed t)
  pub long : Long t
  pub same_length : length query ≡ (measures_of t).n
  pub trail_long : length (leaves (tree_in t)) ≤ trail

-- the library that tables hold, as a search sees it
abbrev pub indexed_in : Tables → Indexed
indexed_in t = indexed (traces_in t) (tree_in t)

-- "It says which library"
abbrev pub which_by : Whose → Which
which_by Factory = of_factory
which_by Bench = of_bench

-- what a search has found, as code keeps it: the leaves read of each library are those that its trail begins with, "counts are over both"
abbrev pub pair_match_by : Whose → ℕ → ℕ → ℕ → ℕ → ℕ → List ℕ → List ℕ → PairMatch
pair_match_by library trace distance out bench_out traces trail bench_trail_lem = record {
  which = which_by library;
  trace = trace;
  distance = distance;
  leaves = out + bench_out;
  traces = traces;
  factory_trail = take out trail;
  bench_trail = take bench_out bench_trail_lem;
}

-- what is left of one library: the trail's places behind the leaves read stay, and the needed places of search work are zero
pub record SideLeft (t : Tables) (work work' trail trail' : List ℕ) (out : ℕ) : Type 0 where
  pub within : out ≤ length trail
  pub trail_rest : drop out trail' ≡ drop out trail
  pub work_zero : work' ≡ filled (work_needed (measures_of t)) 0 work

-- "the nearest of all", by the steps, whatever they find
pub record BothSearched (tf tb : Tables) (query : Trace) (work work' trail trail' bench_work bench_work' bench_trail_lem bench_trail' : List ℕ)
    (library : Whose) (trace distance out bench_out traces : ℕ) : Type 0 where
  pub found : pair_match_by library trace distance out bench_out traces trail' bench_trail'
      ≡ pair_by_steps (indexed_in tf) (indexed_in tb) query
  pub factory : SideLeft tf work work' trail trail' out
  pub bench : SideLeft tb bench_work bench_work' bench_trail_lem bench_trail' bench_out
