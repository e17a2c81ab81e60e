-- `segment::figures::stretch_squares` meets its contract: the total is what the samples passed add, at most 2^38 each.
use mathlib.Core.Path.{◌≡◌}
use Prim.Native.Nat.{◌+◌, ◌-◌, ◌*◌, ◌^◌, ◌≤◌}
use Rattle.segment.proofs.Steps.{squares_to}
use Rattle.segment.proofs.figures.stretch_squares.Given as goal

abbrev pub invariant-loop-i : goal.invariant-loop-i
invariant-loop-i l =
    (l.from ≤ l.i) × (l.i ≤ l.end) × (squares_to l.samples l.from + l.total ≡ squares_to l.samples l.i) × (l.total ≤ 2 ^ 38 * (l.i - l.from))
