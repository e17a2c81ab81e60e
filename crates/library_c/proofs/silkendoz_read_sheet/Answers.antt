-- `silkendoz_read_sheet` meets its contract: reading's own equation, and what is returned of its answer.
use Rattle.library_c.proofs.Answers.{exported_call}
use Rattle.library_c.proofs.silkendoz_read_sheet.Goals as goal

pub returns : goal.returns
returns c =
    exported_call _ _ _ _ _ _ _ c.tell_done.ensures.read c.read_sheet-answer.ensures
