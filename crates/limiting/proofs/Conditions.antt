-- Tables that refuse nothing of a match with a limit may be searched.
use mathlib.Core.Path.{◌≡◌}
use mathlib.Core.Option.{none}
use mathlib.Core.List.{List}
use Prim.Native.Nat.{ℕ}
use lib.Dec.{eqb}
use Rattle.dstree.specs.Measures.{Trace}
use Rattle.dstree.specs.Refusals.{first_of, no_leaves}
use Rattle.dstree.proofs.Conditions.{none_first, none_both}
use Rattle.tables.specs.Tables.{Tables}
use Rattle.tables.specs.Answers.{made_conditions}
use Rattle.calls.specs.Effects.{limits}
use Rattle.query_judging.proofs.Taken.{QueryAccepted, taken}

pub may_search : (t : Tables) (most : ℕ) (query : Trace) (trail : List ℕ) → first_of (limits t most query trail).conditions ≡ none
    → QueryAccepted t query trail
may_search t most query trail e =
    let parts = none_both (made_conditions t) _ e in
    taken t query trail parts.0 (none_first (eqb most 0) no_leaves _ parts.1).1
