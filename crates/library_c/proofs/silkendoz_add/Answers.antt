-- `silkendoz_add` meets its contract: adding's own equation, and what is returned of its answer.
use Rattle.library_c.proofs.Answers.{exported_call}
use Rattle.library_c.proofs.silkendoz_add.Goals as goal

pub returns : goal.returns
returns c =
    exported_call _ _ _ _ _ _ _ c.tell_number.ensures.added c.add-answer.ensures
