-- `segment::within::distance_within` meets its contract: the total is the distance of the samples passed, which is at most the limit.
-- Where sixteen more pass it, so do all together, and `passing` finds the sample.
use mathlib.Core.Path.{◌≡◌}
use Prim.Native.Nat.{◌-◌, ◌*◌, ◌^◌, ◌≤◌}
use lib.ListN.{length}
use Rattle.segment.proofs.Steps.{words_distance_to}
use Rattle.segment.proofs.within.distance_within.Given as goal

abbrev pub invariant-loop-k : goal.invariant-loop-k
invariant-loop-k l =
    (l.k ≤ length l.x) × (l.total ≡ words_distance_to l.x l.y l.k) × (l.total ≤ l.limit) × (l.total ≤ 2 ^ 40 * l.k)

abbrev pub decreases-loop-k : goal.decreases-loop-k
decreases-loop-k l = length l.x - l.k
