-- `segment::figures::scatter_from` meets its contract: w × q has at most 54 bits, and the caller gives that it is not below the sum's
-- square.
use mathlib.Core.Path.{◌≡◌, ap, ◌∙◌}
use native.Mathlib.Nat.{mul-le-mul}
use native.Mathlib.Omega.{arith}
use mir.Facts.{to_z-of_z}
use Rattle.integer.specs.Words.{square}
use Rattle.segment.proofs.figures.scatter_from.Goals as goal

squared : (c : goal.After-square) → c.square.result ≡ square c.args.s
squared c = c.square.ensures ∙ ap square (to_z-of_z c.ranges.s)

pub overflow_mul-result : goal.overflow_mul-result
overflow_mul-result c = omega (arith, mul-le-mul c.requires.0 c.requires.2)

pub square-requires : goal.square-requires
square-requires c = rw (to_z-of_z c.ranges.s) (omega arith)

pub overflow_sub-result : goal.overflow_sub-result
overflow_sub-result c = omega (arith, squared c)

pub returns : goal.returns
returns c = omega (arith, squared c)
