-- `segment::ranges::summed_within` meets its contract: the total is that of the samples passed, and all samples give no less.
use mathlib.Core.Path.{◌≡◌}
use Prim.Native.Nat.{◌*◌, ◌^◌, ◌≤◌}
use lib.ListN.{length}
use Rattle.segment.specs.Clipped.{summed_to}
use Rattle.segment.specs.Stored.{samples_of}
use Rattle.segment.proofs.ranges.summed_within.Given as goal

abbrev pub invariant-loop-block : goal.invariant-loop-block
invariant-loop-block g l =
    ((16 * l.block) ≤ length l.trace) × (l.total ≡ summed_to g.R.Reach.reach l.lows l.highs (samples_of l.trace) (16 * l.block)) × (l.total ≤ 2 ^ 40 * (16 * l.block))
