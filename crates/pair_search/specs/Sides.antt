-- The leaves of one of two libraries still to come, the next of which may have been taken from the heap already, and what asking for it
-- leaves.
use Rattle.std.specs.Prelude.{◌<◌, ◌≡◌, Bool, true, false, not, ◌&&◌, ◌||◌, List, ◌∷◌, length, T, leb, if◌then◌else◌, is_some, unwrap_or}
use Rattle.integer.specs.Lists.{All}
use Rattle.dstree.specs.Measures.{Trace}
use Rattle.dstree.specs.Node.{Tree, node_at}
use Rattle.dstree.specs.Matching.{LeafBound, is_leaf_kind}
use Rattle.leaf_order.specs.Waits.{Waits, remaining}
use Rattle.leaf_order.specs.Handed.{is_past, Past}
use Rattle.heap.specs.declared.Heap.{Heap}
use Rattle.leaf_order.specs.declared.leaves.Leaf.{Leaf}
use Rattle.pair_search.specs.Limits.{Limit}
use Rattle.pair_search.specs.declared.sides.Side.{Side}

-- a leaf was taken from the heap
abbrev pub has_ahead : Side → Bool
has_ahead side = is_some side.ahead

-- that leaf, in code's words; where there is none, nothing is asked of it
abbrev pub next_of : Side → Leaf
next_of side = unwrap_or side.ahead (record { bound = 0; number = 0 })

-- that leaf
abbrev pub leaf_ahead : Side → LeafBound
leaf_ahead side = record { number = (next_of side).number; bound = (next_of side).bound }

-- the leaves still to come, in order
abbrev pub coming : Tree → Trace → Side → Heap → List LeafBound
coming tree query side h =
    if has_ahead side then leaf_ahead side ∷ remaining tree query h.len h.keys.now else remaining tree query h.len h.keys.now

-- a leaf ahead is one of the tree, and its bound is within the limit
pub record AheadIn (tree : Tree) (limit : Limit) (side : Side) : Type 0 where
  pub inside : (next_of side).number < length tree
  pub is_leaf : T (is_leaf_kind (node_at tree (next_of side).number).kind)
  pub within : is_past limit (next_of side).bound ≡ false

-- the leaves to come are the same; the first of them is ahead, or none is within the limit; what was found stays
pub record Asked (tree : Tree) (query : Trace) (limit : Limit) (side side' : Side) (h h' : Heap) : Type 0 where
  pub same : coming tree query side' h' ≡ remaining tree query h.len h.keys.now
  pub waits : Waits tree query h'.len h'.keys.now
  pub ahead_in : has_ahead side' ≡ true → AheadIn tree limit side'
  pub none_within : has_ahead side' ≡ false → All (Past limit) (coming tree query side' h')
  pub listed_stays : side'.listed ≡ side.listed
  pub out_stays : side'.out ≡ side.out
  pub traces_stay : side'.traces ≡ side.traces

-- whose turn it is
abbrev pub takes_factory : Side → Side → Bool
takes_factory factory bench = has_ahead factory && (not (has_ahead bench) || leb (next_of factory).bound (next_of bench).bound)
