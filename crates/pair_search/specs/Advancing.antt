-- A turn of one of two libraries.
use Rattle.std.specs.Prelude.{ℕ, ◌≡◌, ◌||◌, List, length}
use Rattle.dstree.specs.Measures.{Trace}
use Rattle.dstree.specs.Matching.{is_above}
use Rattle.dstree.specs.KNearest.{kth}
use Rattle.tables.specs.Tables.{Tables}
use Rattle.reading.specs.Listed.{nears_in}
use Rattle.tables.specs.View.{shape_in}
use Rattle.heap.specs.declared.Heap.{Heap}
use Rattle.pair_search.specs.Limits.{Limit, past}
use Rattle.pair_search.specs.Reading.{ReadAhead}
use Rattle.pair_search.specs.Sides.{Asked}
use Rattle.pair_search.specs.declared.sides.Side.{Side}

-- the leaf ahead is read, and then the next is asked for within the nearest so far, its own library's or the other's
pub record Advanced (t : Tables) (query : Trace) (h h' : Heap) (trail trail' list list' : List ℕ) (other : Limit) (side side' : Side)
    : Type 0 where
  pub between : Side
  pub read : ReadAhead t query trail trail' list list' side between
  pub limit : Limit
  pub limit_is : (bound : ℕ) → past limit bound ≡ (is_above bound (kth 1 (nears_in between.listed list')) || past other bound)
  pub asked : Asked (shape_in t.nodes (length h.keys.now)) query limit between side' h h'
