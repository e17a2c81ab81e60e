-- `adding::add` meets its contract: a place of 0 is the zero label.
use Rattle.dstree.specs.Labels.{label_at}
use Rattle.adding.proofs.add.Goals as goal

pub returns : goal.returns
unfolding label_at
returns c = c.add_with.ensures
