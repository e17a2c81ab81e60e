-- `leaf_figures::ends::ends_of` meets its contract: after i turns the first i places hold the first i segments' ends.
use mathlib.Core.Path.{◌≡◌}
use Prim.Native.Nat.{ℕ, ◌≤◌, ◌<◌}
use lib.ListN.{length, get_or}
use Rattle.tables.specs.Layout.{segment_at}
use Rattle.tables.specs.View.{small_at}
use Rattle.leaf_figures.proofs.ends.ends_of.Given as goal

abbrev pub invariant-loop-i : goal.invariant-loop-i
invariant-loop-i l = (l.i ≤ l.count) × (l.count ≤ 16) × (length l.at ≡ 16) × ((j : ℕ) → j < l.i → get_or l.at j 0 ≡ small_at l.«record» (segment_at j))
