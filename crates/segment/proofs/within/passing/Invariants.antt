-- `segment::within::passing` meets its contract: the total is the distance of the samples passed, which is at most the limit until it
-- returns.
use mathlib.Core.Path.{◌≡◌}
use Prim.Native.Nat.{◌*◌, ◌^◌, ◌≤◌}
use lib.ListN.{length}
use Rattle.segment.proofs.Steps.{words_distance_to}
use Rattle.segment.proofs.within.passing.Given as goal

abbrev pub invariant-loop-i : goal.invariant-loop-i
invariant-loop-i l =
    (l.i ≤ length l.x) × (l.total ≡ words_distance_to l.x l.y l.i) × (l.total ≤ l.limit) × (l.total ≤ 2 ^ 40 * l.i)
