-- `insertion::way::descend` meets its contract: the sums are worked out, and the rest is `descend_by`.
use Rattle.insertion.proofs.way.descend.Goals as goal

pub of-summed-requires : goal.of-summed-requires
of-summed-requires c = c.requires.narrow

pub descend_by-requires : goal.descend_by-requires
descend_by-requires c = rw c.of-summed.ensures c.requires

pub returns : goal.returns
returns c = rw c.of-summed.ensures at c.descend_by.ensures
