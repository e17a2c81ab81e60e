-- `listing::judging::is_k` meets its contract: each return rewrites with the comparison that its test decides.
use native.Mathlib.Omega.{arith}
use borrow.Author.Tests.{le-leb, lt-leb}
use Rattle.listing.proofs.judging.is_k.Goals as goal

pub returns-then-k-lt1 : goal.returns-then-k-lt1
returns-then-k-lt1 c = simp (lt-leb 1 c.args.k (omega arith))

pub returns : goal.returns
returns c = simp (le-leb 1 c.args.k (omega arith))
