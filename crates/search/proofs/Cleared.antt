-- Search work that is set to zero behind the loop: what the loop left in the needed places is gone, and the places behind them are as
-- they were.
use Prim.Native.Nat.{ℕ}
use mathlib.Core.Path.{◌≡◌, refl, ◌∙◌, ap}
use Rattle.std.specs.Prelude.{Option as Told}
use mathlib.Core.List.{List, ◌++◌}
use lib.ListN.{drop, replicate}
use Rattle.integer.proofs.Lists.{drop_more}
use Rattle.dstree.specs.Measures.{Trace, Measures, records_needed, work_needed}
use Rattle.tables.specs.Tables.{Tables, measures_of, node_count, filled}
use Rattle.search.specs.Searched.{Ready, LimitVisited, LimitSearched}
use Rattle.search.proofs.Facts.{nodes_needed}

pub as_many : (m : Measures) → records_needed m ≡ work_needed m
unfolding records_needed work_needed
as_many m = refl

-- the loop was lent the first places, one for each node
pub zeroed : (t : Tables) (query : Trace) (size : ℕ) → Ready t query size → (work work₁ work' : List ℕ)
    → drop (node_count t) work₁ ≡ drop (node_count t) work → work' ≡ filled (work_needed (measures_of t)) 0 work₁
    → work' ≡ filled (work_needed (measures_of t)) 0 work
zeroed t query size ready work work₁ work' behind z =
    let n = work_needed (measures_of t) in
    z ∙ ap (λ (l : List ℕ). replicate n 0 ++ l) (drop_more n (node_count t) work₁ work (nodes_needed t query size ready) behind)

module _ (k most : ℕ) (t : Tables) (query : Trace) (size : ℕ) (ready : Ready t query size) (work work₁ work' trail trail' list list' : List ℕ)
    (many out traces : ℕ) (unread : Told ℕ) (v : LimitVisited k most t query trail trail' list list' many out traces unread) where
  pub cleared : drop (node_count t) work₁ ≡ drop (node_count t) work → work' ≡ filled (work_needed (measures_of t)) 0 work₁
      → LimitSearched k most t query work work' trail trail' list list' many out traces unread
  cleared behind z = record { limit_visited = v; work_zero = zeroed t query size ready work work₁ work' behind z }
