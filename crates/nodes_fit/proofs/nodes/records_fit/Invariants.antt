-- `nodes_fit::nodes::records_fit` meets its contract. The loop's invariant: each record passed fits.
use mathlib.Core.Path.{◌≡◌}
use mathlib.Core.Bool.{Bool, true}
use mathlib.Core.List.{List}
use Prim.Native.Nat.{ℕ, ◌<◌}
use lib.IntN.{ℤ}
use Rattle.tables.specs.Tables.{record_of}
use Rattle.records_fit.specs.Fits.{record_fits}
use Rattle.nodes_fit.proofs.nodes.records_fit.Given as goal

abbrev pub fits : List ℤ → ℕ → ℕ → ℕ → Bool
fits nodes m n j = record_fits n m j (record_of nodes j)

abbrev pub invariant-loop-j : goal.invariant-loop-j
invariant-loop-j l = (x : ℕ) → x < l.j → fits l.nodes l.m l.n x ≡ true
