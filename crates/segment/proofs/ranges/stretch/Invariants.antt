-- `segment::ranges::stretch` meets its contract: the total is what the samples passed add, at most 2^40 each.
use mathlib.Core.Path.{◌≡◌}
use Prim.Native.Nat.{◌+◌, ◌-◌, ◌*◌, ◌^◌, ◌≤◌}
use Rattle.segment.specs.Clipped.{summed_to}
use Rattle.segment.specs.Stored.{samples_of}
use Rattle.segment.proofs.ranges.stretch.Given as goal

abbrev pub invariant-loop-i : goal.invariant-loop-i
invariant-loop-i g l =
    (l.from ≤ l.i)
    × (l.i ≤ l.end)
    × (summed_to g.R.Reach.reach l.lows l.highs (samples_of l.trace) l.from + l.total ≡ summed_to g.R.Reach.reach l.lows l.highs (samples_of l.trace) l.i)
    × (l.total ≤ 2 ^ 40 * (l.i - l.from))
