-- `silkendoz_label` meets its contract: the bench's call's own equation, and what is returned of its answer.
use Rattle.library_c.proofs.Answers.{exported_call}
use Rattle.library_c.proofs.silkendoz_label.Goals as goal

pub returns : goal.returns
returns c =
    exported_call _ _ _ _ _ _ _ c.tell_label.ensures c.label-answer.ensures
