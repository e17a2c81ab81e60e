-- `segment_bound::roots::lower` meets its contract: v is below the square, so v / estimate is below the estimate (`Newton`), and so is the mean.
use Prim.Native.Nat.{◌/◌, ◌<◌}
use native.Mathlib.Omega.{arith}
use Rattle.segment.proofs.Newton.{quotient_below}
use Rattle.segment_bound.proofs.roots.lower.Goals as goal

smaller : (c : goal.Start) → c.args.v / c.args.est < c.args.est
smaller c = quotient_below c.args.v c.args.est c.requires.1

pub nonzero_div-result : goal.nonzero_div-result
nonzero_div-result c = omega (arith, smaller c)

pub overflow_add-result : goal.overflow_add-result
overflow_add-result c = omega (arith, c.requires.0, smaller c)

pub returns : goal.returns
returns c = omega (arith, smaller c)
