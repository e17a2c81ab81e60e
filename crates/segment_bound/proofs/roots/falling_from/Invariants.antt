-- `segment_bound::roots::falling_from` meets its contract: no estimate is below the root, and the one whose square is at most v is not above it
-- (`Newton`), so that it is the last of the falling ones. An estimate whose square is above v is followed by a lower one.
use Rattle.segment.proofs.Newton.{Estimate}
use Rattle.segment_bound.proofs.roots.falling_from.Given as goal

abbrev pub invariant-loop-est : goal.invariant-loop-est
invariant-loop-est l = Estimate l.v l.est

abbrev pub decreases-loop-est : goal.decreases-loop-est
decreases-loop-est l = l.est
