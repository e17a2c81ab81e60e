-- `segment::samples::apart` meets its contract: the difference of two samples is at most 1,048,575 either side of 0.
use mathlib.Core.Path.{◌≡◌, ap, ◌∙◌}
use native.Mathlib.Omega.{arith}
use lib.IntN.{nat_abs, ◌-ℤ◌}
use lib.Signed.{nat_abs-le}
use mir.Syntax.{w32}
use Rattle.integer.proofs.Width.{fits_difference, read_difference}
use Rattle.segment.specs.Limits.{sample_most}
use Rattle.segment.proofs.Limits.{gap_limit}
use Rattle.segment.proofs.samples.apart.Goals as goal

pub overflow_sub-a : goal.overflow_sub-a
overflow_sub-a c = fits_difference c.ranges.a c.ranges.b (omega (arith, nat_abs-le c.args.a c.requires.0, nat_abs-le c.args.b c.requires.1))

pub returns : goal.returns
returns c =
    let e : c.unsigned_abs.result ≡ nat_abs (c.args.a -ℤ c.args.b) =
    c.unsigned_abs.ensures.value ∙ ap nat_abs (read_difference {w = w32} c.ranges.a c.ranges.b
    (omega (arith, nat_abs-le c.args.a c.requires.0, nat_abs-le c.args.b c.requires.1))) in
    record { value = e; size = omega (arith, e, gap_limit sample_most c.args.a c.args.b c.requires.0 c.requires.1) }
