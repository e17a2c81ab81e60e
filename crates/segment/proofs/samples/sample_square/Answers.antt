-- `segment::samples::sample_square` meets its contract: the square of a number of 20 bits has at most 39.
use mathlib.Core.Path.{◌≡◌, ap, ◌∙◌}
use Prim.Native.Nat.{ℕ, ◌*◌, ◌≤◌}
use native.Mathlib.Nat.{mul-le-mul}
use native.Mathlib.Omega.{arith}
use lib.IntN.{nat_abs}
use lib.Signed.{nat_abs-le}
use mir.Syntax.{w32}
use mir.Facts.{to_z-of_z}
use Rattle.integer.proofs.Width.{of_mag}
use Rattle.segment.specs.Limits.{sample_most}
use Rattle.segment.specs.Stored.{sample_of}
use Rattle.segment.proofs.Stored.{sample_within}
use Rattle.segment.proofs.samples.sample_square.Goals as goal
use Rattle.segment.proofs.samples.sample_square.Goals.{After-from-d}

size : (c : After-from-d) → c.from-d.result ≡ nat_abs (sample_of c.args.word)
size c =
    c.from-d.ensures ∙ c.unsigned_abs.ensures.value ∙ ap nat_abs (to_z-of_z (of_mag {w = w32} c.sample_of.result c.sample_of.type_inv)
    ∙ c.sample_of.ensures.value ∙ ap sample_of (to_z-of_z c.ranges.word))

squared : (c : After-from-d) → c.from-d.result * c.from-d.result ≤ 274877906944
squared c =
    let h : c.from-d.result ≤ sample_most = omega (arith, size c, nat_abs-le (sample_of c.args.word) (sample_within c.args.word)) in
    omega (arith, mul-le-mul h h)

pub overflow_mul-result : goal.overflow_mul-result
overflow_mul-result c = record { fits = omega (arith, squared c) }

pub returns : goal.returns
returns c = record { value = ap (λ (d : ℕ). d * d) (size c); size = omega (arith, squared c) }
