-- `segment::figures::stretch_distance` meets its contract: the total is what the samples passed add, at most 2^40 each.
use mathlib.Core.Path.{◌≡◌}
use Prim.Native.Nat.{◌+◌, ◌-◌, ◌*◌, ◌^◌, ◌≤◌}
use Rattle.segment.proofs.Steps.{words_distance_to}
use Rattle.segment.proofs.figures.stretch_distance.Given as goal

abbrev pub invariant-loop-i : goal.invariant-loop-i
invariant-loop-i l =
    (l.from ≤ l.i) × (l.i ≤ l.end) × (words_distance_to l.x l.y l.from + l.total ≡ words_distance_to l.x l.y l.i) × (l.total ≤ 2 ^ 40 * (l.i - l.from))
