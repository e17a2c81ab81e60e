-- `nodes_fit::nodes::ends_kept` meets its contract. The loop's invariant: the children of each node passed keep its ends.
use mathlib.Core.Path.{◌≡◌}
use mathlib.Core.Bool.{true}
use Prim.Native.Nat.{ℕ, ◌<◌}
use Rattle.records_fit.specs.Fits.{kept_at}
use Rattle.nodes_fit.proofs.nodes.ends_kept.Given as goal

abbrev pub invariant-loop-j : goal.invariant-loop-j
invariant-loop-j l = (x : ℕ) → x < l.j → kept_at l.nodes x ≡ true
