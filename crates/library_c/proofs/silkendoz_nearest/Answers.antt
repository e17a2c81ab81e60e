-- `silkendoz_nearest` meets its contract: the match's own equation, and what is returned of its answer.
use Rattle.library_c.proofs.Answers.{exported_call}
use Rattle.library_c.proofs.silkendoz_nearest.Goals as goal

pub returns : goal.returns
returns c =
    exported_call _ _ _ _ _ _ _ (c.tell_found.ensures c.nearest-answer.new.trail) c.nearest-answer.ensures
