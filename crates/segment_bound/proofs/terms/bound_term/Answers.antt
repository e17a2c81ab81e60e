-- `segment_bound::terms::bound_term` meets its contract: two squares of numbers of 30 bits and less than 256 have at most 62 bits.
use native.Mathlib.Nat.{mul-le-mul}
use native.Mathlib.Omega.{arith}
use Rattle.integer.specs.Words.{rounded_up}
use Rattle.segment.specs.Terms.{bound_term}
use Rattle.segment_bound.proofs.terms.bound_term.Goals as goal

pub overflow_mul-g : goal.overflow_mul-g
overflow_mul-g c = omega (arith, mul-le-mul c.requires.2 c.requires.2)

pub overflow_mul-h : goal.overflow_mul-h
overflow_mul-h c = omega (arith, mul-le-mul c.requires.3 c.requires.3)

pub overflow_add-g : goal.overflow_add-g
overflow_add-g c = omega (arith, mul-le-mul c.requires.2 c.requires.2, mul-le-mul c.requires.3 c.requires.3)

pub overflow_add-g-2 : goal.overflow_add-g-2
overflow_add-g-2 c = omega (arith, mul-le-mul c.requires.2 c.requires.2, mul-le-mul c.requires.3 c.requires.3, c.requires.1)

pub quotient-requires : goal.quotient-requires
quotient-requires c = c.requires.0

pub returns : goal.returns
unfolding bound_term rounded_up
returns c = c.quotient.ensures
