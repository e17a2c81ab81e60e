-- `segment::figures::square_difference` meets its contract: the square of a number of 20 bits has 40.
use mathlib.Core.Path.{◌≡◌, ap, ap₂, ◌∙◌}
use Prim.Native.Nat.{ℕ, ◌*◌}
use native.Mathlib.Omega.{arith}
use lib.IntN.{nat_abs, ◌-ℤ◌}
use mir.Syntax.{w32}
use mir.Facts.{to_z-of_z}
use Rattle.integer.proofs.Width.{of_mag}
use Rattle.segment.specs.Stored.{sample_of}
use Rattle.segment.proofs.Steps.{small_square}
use Rattle.segment.proofs.figures.square_difference.Goals as goal

pub overflow_mul-d : goal.overflow_mul-d
overflow_mul-d c = record { fits = omega (arith, small_square c.from-d.result (omega (arith, c.from-d.ensures, c.apart.ensures.size))) }

pub returns : goal.returns
returns c =
    let one = c.sample_of in
    let two = c.sample_of-2 in
    let x = to_z-of_z (of_mag {w = w32} one.result one.type_inv) ∙ one.ensures.value ∙ ap sample_of (to_z-of_z c.ranges.a) in
    let y = to_z-of_z (of_mag {w = w32} two.result two.type_inv) ∙ two.ensures.value ∙ ap sample_of (to_z-of_z c.ranges.b) in
    let e : c.from-d.result ≡ nat_abs (sample_of c.args.a -ℤ sample_of c.args.b) =
    c.from-d.ensures ∙ c.apart.ensures.value ∙ ap nat_abs (ap₂ ◌-ℤ◌ x y) in record {
      value = c.from.ensures ∙ ap (λ (d : ℕ). d * d) e;
      size = omega (arith, c.from.ensures, small_square c.from-d.result (omega (arith, c.from-d.ensures, c.apart.ensures.size)));
    }
