-- `leaf_figures::ends::place_of` meets its contract: the ends passed, and the place among the rest, make the place among all.
use mathlib.Core.Path.{◌≡◌}
use Prim.Native.Nat.{◌+◌, ◌≤◌}
use lib.ListN.{take, drop}
use Rattle.leaf_figures.specs.Ends.{place_in}
use Rattle.leaf_figures.proofs.ends.place_of.Given as goal

abbrev pub invariant-loop-i : goal.invariant-loop-i
invariant-loop-i l = (l.i ≤ l.count) × (l.i + place_in l.middle (drop l.i (take l.count l.at)) ≡ place_in l.middle (take l.count l.at))
