-- `silkendoz_k_nearest` meets its contract: the listing's own equation, and what is returned of its answer.
use Rattle.library_c.proofs.Answers.{exported_call}
use Rattle.library_c.proofs.silkendoz_k_nearest.Goals as goal

pub returns : goal.returns
returns c =
    exported_call _ _ _ _ _ _ _ (c.tell_listed.ensures c.k_nearest-answer.new.trail c.k_nearest-answer.new.list) c.k_nearest-answer.ensures
