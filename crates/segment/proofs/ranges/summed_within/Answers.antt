-- `segment::ranges::summed_within` meets its contract: the total is that of the samples passed, and all samples give no less.
use mathlib.Core.Path.{sym}
use Prim.Native.Nat.{◌+◌, ◌*◌}
use native.Mathlib.Omega.{arith}
use Rattle.segment.specs.Stored.{samples_of}
use Rattle.segment.proofs.ClippedSteps.{summed_none, first_no_more}
use Rattle.segment.proofs.ranges.summed_within.Goals as goal

pub loop-block-init : goal.loop-block-init
loop-block-init g c =
    (omega arith, sym (summed_none g.R.Reach.reach c.args.lows.now c.args.highs.now (samples_of c.args.trace.now)), omega arith)

pub stretch-total-requires : goal.stretch-total-requires
stretch-total-requires g c =
    let p = c.requires in
    (p.0, p.1, omega arith, omega arith, omega arith, p.3, p.4)

-- what was passed is beyond the limit already
pub returns-then-limit-total : goal.returns-then-limit-total
returns-then-limit-total g c =
    omega (arith, first_no_more g.R.Reach.reach (16 * c.loop-block.block + 16) c.args.lows.now c.args.highs.now (samples_of c.args.trace.now))

pub stretch-requires : goal.stretch-requires
stretch-requires g c =
    let p = c.requires in
    (p.0, p.1, omega arith, omega arith, omega arith, p.3, p.4)
