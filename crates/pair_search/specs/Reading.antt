-- Reading the leaf ahead in one of two libraries.
use Rattle.std.specs.Prelude.{ℕ, ◌+◌, ◌*◌, ◌≤◌, ◌<◌, ◌≡◌, true, false, List, length, take, drop, T}
use Rattle.dstree.specs.Measures.{Trace}
use Rattle.dstree.specs.Node.{node_at}
use Rattle.dstree.specs.Matching.{is_leaf_kind, leaves}
use Rattle.dstree.specs.KNearest.{Listing, read_into}
use Rattle.tables.specs.Tables.{Tables, node_count}
use Rattle.tables.specs.View.{tree_in, traces_in}
use Rattle.reading.specs.Listed.{nears_in, ListRoom}
use Rattle.tables.specs.View.{shape_in}
use Rattle.search.specs.Searched.{Ready, listing_by}
use Rattle.pair_search.specs.Sides.{has_ahead, next_of}
use Rattle.pair_search.specs.declared.sides.Side.{Side}

-- what was found in a library, as code keeps it: the nearest trace in a list of one, the traces read, and the trail's beginning
abbrev pub found_in : Side → List ℕ → List ℕ → Listing
found_in side trail list = listing_by (nears_in side.listed list) side.traces (take side.out trail)

-- tables that may be searched, and a leaf ahead, for which the trail has a place
pub record MayRead (t : Tables) (query : Trace) (trail list : List ℕ) (side : Side) : Type 0 where
  pub ready : Ready t query (length trail)
  pub ahead : has_ahead side ≡ true
  pub inside : (next_of side).number < node_count t
  pub is_leaf : T (is_leaf_kind (node_at (shape_in t.nodes (node_count t)) (next_of side).number).kind)
  pub place : side.out < length (leaves (tree_in t))
  pub few : side.traces ≤ side.out * 4096
  pub room : ListRoom 1 side.listed list

-- the leaf is read, as the definitions do; no leaf is ahead then
pub record ReadAhead (t : Tables) (query : Trace) (trail trail' list list' : List ℕ) (side side' : Side) : Type 0 where
  pub found : found_in side' trail' list' ≡ read_into 1 (traces_in t) (tree_in t) query (found_in side trail list) (next_of side).number
  pub none_ahead : has_ahead side' ≡ false
  pub one_more : side'.out ≡ side.out + 1
  pub trail_rest : drop side'.out trail' ≡ drop side'.out trail
  pub few : side'.traces ≤ side'.out * 4096
  pub room : ListRoom 1 side'.listed list'
  pub no_fewer : side.listed ≤ side'.listed
  pub list_rest : drop (2 * side'.listed) list' ≡ drop (2 * side'.listed) list
