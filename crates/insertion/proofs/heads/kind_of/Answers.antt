-- `insertion::heads::kind_of` meets its contract: by the flag.
use Rattle.insertion_memory.specs.Records.{inner_kind}
use Rattle.insertion.proofs.heads.kind_of.Goals as goal

pub returns-then-by_scatter : goal.returns-then-by_scatter
unfolding inner_kind
returns-then-by_scatter c = rw c.if-by_scatter.true

pub returns-else-by_scatter : goal.returns-else-by_scatter
unfolding inner_kind
returns-else-by_scatter c = rw c.if-by_scatter.false
