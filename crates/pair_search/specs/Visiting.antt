-- The whole search over two libraries, and what is required of each.
use Rattle.std.specs.Prelude.{ℕ, ◌*◌, ◌≤◌, ◌≡◌, true, false, List, [], length, take, drop, None}
use Rattle.dstree.specs.Measures.{Trace}
use Rattle.dstree.specs.Node.{Tree}
use Rattle.dstree.specs.Matching.{Search, reading_order, leaves}
use Rattle.dstree.specs.KNearest.{kth}
use Rattle.dstree.specs.Pair.{merged, pair_search, pair_on, nothing_yet}
use Rattle.tables.specs.Tables.{Tables, node_count}
use Rattle.tables.specs.View.{tree_in}
use Rattle.reading.specs.Listed.{nears_in}
use Rattle.leaf_order.specs.Waits.{Waits}
use Rattle.heap.specs.declared.Heap.{Heap}
use Rattle.pair_search.specs.Sides.{has_ahead, AheadIn, coming}
use Rattle.pair_search.specs.BothSearched.{SideReady, indexed_in}
use Rattle.pair_search.specs.declared.sides.Side.{Side}

-- all leaves are to come, the first of them ahead; nothing is found yet
pub record Started (tree : Tree) (query : Trace) (side : Side) (h : Heap) : Type 0 where
  pub waits : Waits tree query h.len h.keys.now
  pub comes : coming tree query side h ≡ reading_order tree query
  pub ahead_in : has_ahead side ≡ true → AheadIn tree None side
  pub no_leaf : has_ahead side ≡ false → reading_order tree query ≡ []
  pub none_listed : side.listed ≡ 0
  pub none_out : side.out ≡ 0
  pub none_read : side.traces ≡ 0

-- one of two libraries, with a place of search work for each node, and a list of one
pub record MayVisit (t : Tables) (query : Trace) (work trail list : List ℕ) : Type 0 where
  pub ready : SideReady t query (length trail)
  pub work_long : length work ≡ node_count t
  pub list_long : 2 ≤ length list

-- what was found in a library
abbrev pub search_in : Side → List ℕ → List ℕ → Search
search_in side trail list = record {
  best = kth 1 (nears_in side.listed list);
  traces = side.traces;
  trail = take side.out trail;
}

-- what is left of a library: the places of trail and list that are not filled stay
pub record SideVisited (t : Tables) (trail trail' list list' : List ℕ) (side : Side) : Type 0 where
  pub few : side.listed ≤ 1
  pub list_rest : drop (2 * side.listed) list' ≡ drop (2 * side.listed) list
  pub no_more : side.out ≤ length (leaves (tree_in t))
  pub trail_rest : drop side.out trail' ≡ drop side.out trail
  pub few_traces : side.traces ≤ side.out * 4096

-- what was found is what the steps give
pub record BothVisited (tf tb : Tables) (query : Trace) (trail trail' list list' bench_trail_lem bench_trail' bench_list_lem bench_list' : List ℕ)
    (f b : Side) : Type 0 where
  pub found : pair_search (search_in f trail' list') (search_in b bench_trail' bench_list')
      ≡ pair_on (indexed_in tf) (indexed_in tb) query nothing_yet (merged (reading_order (tree_in tf) query) (reading_order (tree_in tb) query))
  pub factory : SideVisited tf trail trail' list list' f
  pub bench : SideVisited tb bench_trail_lem bench_trail' bench_list_lem bench_list' b
