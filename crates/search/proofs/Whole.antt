-- A search that may read as many leaves as a tree can have reads on until no bound is within the k-th distance.
use Prim.Native.Nat.{ℕ}
use mathlib.Core.Path.{◌≡◌, ap, subst}
use Rattle.std.specs.Prelude.{Option as Told}
use mathlib.Core.List.{List}
use native.Mathlib.Omega.{arith}
use lib.Seq.{take_all}
use Rattle.dstree.specs.Measures.{Trace}
use Rattle.dstree.specs.Matching.{reading_order}
use Rattle.dstree.specs.KNearest.{Listing, list_on, listed}
use Rattle.dstree.proofs.Reading.{reading_length}
use Rattle.tables.specs.Tables.{Tables}
use Rattle.tables.specs.View.{tree_in, traces_in}
use Rattle.search.specs.Searched.{Ready, VisitedBy, Visited, none_listed, listed_first, LimitVisited, LimitSearched, ListSearched}
use Rattle.search.proofs.Facts.{leaves_few}

module _ (k : ℕ) (t : Tables) (query : Trace) (size : ℕ) (ready : Ready t query size) where
  all_first : listed_first k 8192 t query ≡ listed k (traces_in t) (tree_in t) query
  unfolding listed
  all_first =
      ap (list_on k (traces_in t) (tree_in t) query none_listed)
      (take_all 8192 (reading_order (tree_in t) query) (omega (arith, reading_length (tree_in t) query, leaves_few t query size ready)))

  pub whole_visited : {trail trail' list list' : List ℕ} {many out traces : ℕ} {unread : Told ℕ}
      → LimitVisited k 8192 t query trail trail' list list' many out traces unread
      → Visited k t query trail trail' list list' many out traces
  whole_visited {trail = trail} {trail' = trail'} {list = list} {list' = list'} {many = many} {out = out} {traces = traces} v =
      subst (λ (l : Listing). VisitedBy k l trail trail' list list' many out traces) all_first v.visited

  pub whole : {work work' trail trail' list list' : List ℕ} {many out traces : ℕ} {unread : Told ℕ}
      → LimitSearched k 8192 t query work work' trail trail' list list' many out traces unread
      → ListSearched k t query work work' trail trail' list list' many out traces
  whole s = record { visited = whole_visited s.limit_visited; work_zero = s.work_zero }
