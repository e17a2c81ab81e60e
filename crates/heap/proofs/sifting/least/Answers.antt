-- `heap::sifting::least` meets its contract: the key at place 0 is the least.
use Rattle.heap.proofs.Popping.{least_first}
use Rattle.heap.proofs.sifting.least.Goals as goal

pub returns : goal.returns
returns c = least_first c.args.n c.args.s.now c.requires.0 c.requires.1 c.requires.2
