-- One turn of a search over both libraries.
use Rattle.std.specs.Prelude.{ℕ, ◌≤◌, ◌≡◌, true, ◌||◌, ◌⊎◌, List, length, Option, Some, None}
use Rattle.dstree.specs.Measures.{Trace}
use Rattle.dstree.specs.Matching.{is_above}
use Rattle.dstree.specs.KNearest.{kth}
use Rattle.tables.specs.Tables.{Tables, node_count}
use Rattle.tables.specs.View.{shape_in}
use Rattle.reading.specs.Listed.{nears_in}
use Rattle.leaf_order.specs.Waits.{Waits}
use Rattle.heap.specs.declared.Heap.{Heap}
use Rattle.pair_search.specs.Limits.{Limit, past}
use Rattle.pair_search.specs.Sides.{has_ahead}
use Rattle.pair_search.specs.Reading.{MayRead}
use Rattle.pair_search.specs.Advancing.{Advanced}
use Rattle.pair_search.specs.Turns.{turn_of}
use Rattle.pair_search.specs.declared.sides.Side.{Side}
use Rattle.pair_search.specs.declared.turns.Whose.TheVariants as whose

-- what a search may write of one library
pub record Slices : Type 0 where
  pub heap : Heap
  pub trail : List ℕ
  pub list : List ℕ

abbrev pub slices : Heap → List ℕ → List ℕ → Slices
slices heap trail list = record { heap = heap; trail = trail; list = list }

-- a library whose turn it may be
pub record MayStep (t : Tables) (query : Trace) (x : Slices) (side : Side) : Type 0 where
  pub may_read : has_ahead side ≡ true → MayRead t query x.trail x.list side
  pub long : length x.heap.keys.now ≡ node_count t
  pub waits : Waits (shape_in t.nodes (length x.heap.keys.now)) query x.heap.len x.heap.keys.now
  pub few : side.listed ≤ 1
  pub list_long : 2 ≤ length x.list

-- the nearest in a library, as a limit
abbrev pub LimitIs : Limit → Side → Slices → Type 0
LimitIs limit side x = (bound : ℕ) → past limit bound ≡ is_above bound (kth 1 (nears_in side.listed x.list))

-- how far each library's nearest lets the search go, and how far both do
pub record Reach (x y : Slices) (f b : Side) : Type 0 where
  pub own : Limit
  pub other : Limit
  pub within : Limit
  pub own_is : LimitIs own f x
  pub other_is : LimitIs other b y
  pub within_is : (bound : ℕ) → past within bound ≡ (past own bound || past other bound)

module _ (tf tb : Tables) (query : Trace) (x x' y y' : Slices) (f b : Side) where
  -- no leaf ahead is within the limit
  pub record NoTurn : Type 0 where
    pub reach : Reach x y f b
    pub turn_is : turn_of f b reach.within ≡ None
    pub factory_stays : x' ≡ x
    pub bench_stays : y' ≡ y

  -- the factory's leaf is read
  pub record FactoryTurn (f' b' : Side) : Type 0 where
    pub reach : Reach x y f b
    pub turn_is : turn_of f b reach.within ≡ Some whose.Factory
    pub advanced : Advanced tf query x.heap x'.heap x.trail x'.trail x.list x'.list reach.other f f'
    pub bench_stays : (b' ≡ b) × (y' ≡ y)

  -- the bench's
  pub record BenchTurn (f' b' : Side) : Type 0 where
    pub reach : Reach x y f b
    pub turn_is : turn_of f b reach.within ≡ Some whose.Bench
    pub advanced : Advanced tb query y.heap y'.heap y.trail y'.trail y.list y'.list reach.own b b'
    pub factory_stays : (f' ≡ f) × (x' ≡ x)

  unfoldable pub Stepping : Option (Side × Side) → Type 0
  Stepping None = NoTurn
  Stepping (Some (f', b')) = FactoryTurn f' b' ⊎ BenchTurn f' b'
