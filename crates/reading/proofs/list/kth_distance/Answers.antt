-- `reading::list::kth_distance` meets its contract: the test of the definition is the test of the code.
use borrow.Author.Tests.{lt-ltb, le-ltb}
use Rattle.reading.specs.Listed.{kth_distance}
use Rattle.reading.proofs.list.kth_distance.Goals as goal

pub returns-then-listed-k : goal.returns-then-listed-k
unfolding kth_distance
returns-then-listed-k c = let a = c.args in rw (lt-ltb a.listed a.k c.if-listed-k.true)

pub returns : goal.returns
unfolding kth_distance
returns c = let a = c.args in rw (le-ltb a.listed a.k c.if-listed-k.false)
