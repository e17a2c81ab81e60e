-- `exporting::judging::in_range` meets its contract: the rate first, then the number.
use native.Mathlib.Omega.{arith}
use borrow.Author.Tests.{le-ltb, lt-ltb}
use Rattle.dstree.specs.Recording.{rate_limit}
use Rattle.exporting.proofs.judging.in_range.Goals as goal

pub returns-then-rate-ge2147483648 : goal.returns-then-rate-ge2147483648
returns-then-rate-ge2147483648 c = rw (le-ltb c.args.rate rate_limit (omega (arith, c.if-rate-ge2147483648.true)))

pub returns : goal.returns
returns c = rw (lt-ltb c.args.rate rate_limit (omega (arith, c.if-rate-ge2147483648.false)))
