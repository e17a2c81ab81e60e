-- `segment_bound::terms::upper_term` meets its contract: two squares of numbers of 30 bits have at most 61 bits.
use native.Mathlib.Nat.{mul-le-mul}
use native.Mathlib.Omega.{arith}
use Rattle.segment.specs.Upper.{upper_term}
use Rattle.segment_bound.proofs.terms.upper_term.Goals as goal

pub overflow_mul-g : goal.overflow_mul-g
overflow_mul-g c = omega (arith, mul-le-mul c.requires.2 c.requires.2)

pub overflow_mul-h : goal.overflow_mul-h
overflow_mul-h c = omega (arith, mul-le-mul c.requires.3 c.requires.3)

pub overflow_add-g : goal.overflow_add-g
overflow_add-g c = omega (arith, mul-le-mul c.requires.2 c.requires.2, mul-le-mul c.requires.3 c.requires.3)

pub quotient-requires : goal.quotient-requires
quotient-requires c = c.requires.0

pub returns : goal.returns
unfolding upper_term
returns c = c.quotient.ensures
