-- `tell` meets its contract: as many places are written as there are values, or as there are places.
use Rattle.telling.proofs.Answers.{copied_is}
use Rattle.telling.proofs.tell.Goals as goal

pub returns : goal.returns
returns c = rw (c.copy_from_slice.ensures.after, c.min-count.ensures, copied_is c.args.values.now c.args.out.now)
