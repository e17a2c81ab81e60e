-- Tables that refuse nothing of a match may be searched.
use mathlib.Core.Path.{◌≡◌}
use mathlib.Core.Option.{none}
use mathlib.Core.List.{List}
use Prim.Native.Nat.{ℕ}
use Rattle.dstree.specs.Measures.{Trace}
use Rattle.dstree.specs.Refusals.{first_of}
use Rattle.dstree.proofs.Conditions.{none_both}
use Rattle.tables.specs.Tables.{Tables}
use Rattle.tables.specs.Answers.{made_conditions}
use Rattle.calls.specs.Effects.{matches}
use Rattle.query_judging.proofs.Taken.{QueryAccepted, taken}

pub may_search : (t : Tables) (query : Trace) (trail : List ℕ) → first_of (matches t query trail).conditions ≡ none
    → QueryAccepted t query trail
may_search t query trail e = let parts = none_both (made_conditions t) _ e in taken t query trail parts.0 parts.1
