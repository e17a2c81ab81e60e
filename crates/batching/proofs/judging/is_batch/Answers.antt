-- `batching::judging::is_batch` meets its contract: each return rewrites with the comparisons that its tests decide.
use native.Mathlib.Omega.{arith}
use borrow.Author.Tests.{le-leb, lt-leb}
use Rattle.dstree.specs.Batch.{is_batch}
use Rattle.batching.proofs.judging.is_batch.Goals as goal

pub returns-then-many-lt1 : goal.returns-then-many-lt1
unfolding is_batch
returns-then-many-lt1 c = simp (lt-leb 1 c.args.many (omega arith))

pub returns-then-many-gt16 : goal.returns-then-many-gt16
unfolding is_batch
returns-then-many-gt16 c = simp (le-leb 1 c.args.many (omega arith), lt-leb c.args.many 16 (omega arith))

pub returns : goal.returns
unfolding is_batch
returns c = simp (le-leb 1 c.args.many (omega arith), le-leb c.args.many 16 (omega arith))
