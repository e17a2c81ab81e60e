-- `segment_bound::terms::root_excess` meets its contract: where a is at most b, its floor root is at most b's ceiling root, and nothing is over.
use native.Mathlib.Omega.{arith}
use Rattle.segment.proofs.Newton.{floor_below_ceiling}
use Rattle.segment_bound.proofs.terms.root_excess.Goals as goal

pub returns-then-a-b : goal.returns-then-a-b
returns-then-a-b c = omega (arith, floor_below_ceiling c.if-a-b.true)
