-- `leaf_order::keys::is_past` meets its contract: the definition's two cases, by whether there is a limit.
use Rattle.leaf_order.specs.Handed.{is_past}
use Rattle.leaf_order.proofs.keys.is_past.Goals as goal

pub returns-in-Some : goal.returns-in-Some
unfolding is_past
returns-in-Some c = rw c.in-Some.is

pub returns-in-None : goal.returns-in-None
unfolding is_past
returns-in-None c = rw c.in-None.is
