-- `leaf_figures::ends::with_cut` meets its contract: the ends before the place stay, the new one is put there, and after each turn one more
-- of those behind it has moved up.
use mathlib.Core.Path.{◌≡◌}
use Prim.Native.Nat.{◌≤◌}
use lib.ListN.{length}
use Rattle.leaf_figures.proofs.Placed.{EndsMoved}
use Rattle.leaf_figures.proofs.ends.with_cut.Given as goal

abbrev pub invariant-loop-i : goal.invariant-loop-i
invariant-loop-i l =
    (l.place ≤ l.i) × (l.i ≤ l.count) × (length l.at ≡ 16) × EndsMoved l.from l.middle l.place l.at l.i
