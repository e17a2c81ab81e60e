-- `silkendoz_write_sheet` meets its contract: writing's own equation, and what is returned of its answer.
use Rattle.library_c.proofs.Answers.{exported_call}
use Rattle.library_c.proofs.silkendoz_write_sheet.Goals as goal

pub returns : goal.returns
returns c =
    exported_call _ _ _ _ _ _ _ (c.tell_number.ensures.written c.write_sheet-answer.new.sheet) c.write_sheet-answer.ensures
