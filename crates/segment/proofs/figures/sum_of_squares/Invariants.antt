-- `segment::figures::sum_of_squares` meets its contract: the total is that of the samples passed, and never above 2^46.
use mathlib.Core.Path.{◌≡◌}
use Prim.Native.Nat.{◌*◌, ◌^◌, ◌≤◌}
use lib.ListN.{length}
use Rattle.segment.proofs.Steps.{squares_to}
use Rattle.segment.proofs.figures.sum_of_squares.Given as goal

abbrev pub invariant-loop-block : goal.invariant-loop-block
invariant-loop-block l = ((16 * l.block) ≤ length l.samples) × (l.total ≡ squares_to l.samples (16 * l.block)) × (l.total ≤ 2 ^ 38 * (16 * l.block))
