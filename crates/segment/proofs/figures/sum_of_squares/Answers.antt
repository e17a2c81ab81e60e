-- `segment::figures::sum_of_squares` meets its contract: the total is that of the samples passed, and never above 2^46.
use mathlib.Core.Path.{◌≡◌, refl, ap}
use Prim.Native.Nat.{ℕ, ◌*◌, ◌/◌}
use native.Mathlib.Omega.{arith}
use lib.ListN.{length}
use Rattle.segment.specs.Figures.{sum_of_squares}
use Rattle.segment.proofs.Steps.{squares_to}
use Rattle.segment.proofs.Stored.{all_samples}
use Rattle.segment.proofs.figures.sum_of_squares.Goals as goal

pub loop-block-init : goal.loop-block-init
unfolding sum_of_squares
loop-block-init c = (omega arith, refl, omega arith)

-- the test never holds
pub returns-then-next-gt70368744177664 : goal.returns-then-next-gt70368744177664
returns-then-next-gt70368744177664 c = absurd (omega arith)

pub returns : goal.returns
returns c =
    let words = c.args.samples.now in
    let n = length words in
    let e : c.loop-block.block ≡ n / 16 = omega arith in
    let passed = ap (λ (b : ℕ). squares_to words (16 * b)) e in
    let all = ap sum_of_squares (all_samples n words (omega arith)) in
    record { value = omega (arith, passed, all); size = omega (arith, passed, all) }
