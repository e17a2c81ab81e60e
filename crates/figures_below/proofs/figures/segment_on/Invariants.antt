-- `figures_below::figures::segment_on` meets its contract: each segment starts behind the end of the one before it.
use mathlib.Core.Path.{◌≡◌}
use Prim.Native.Nat.{◌≤◌}
use Rattle.tables.specs.Layout.{segments_place}
use Rattle.tables.specs.View.{small_at}
use Rattle.figures_below.specs.Compared.{first_on}
use Rattle.figures_below.proofs.figures.segment_on.Given as goal

abbrev pub invariant-loop-i : goal.invariant-loop-i
invariant-loop-i l =
    (l.count ≡ small_at l.«record» segments_place) × (l.count ≤ 16) × (l.from ≡ first_on l.«record» l.i)
