-- `silkendoz_check_tables` meets its contract: the check's own equation, and what is returned of its answer.
use Rattle.library_c.proofs.Answers.{exported_call}
use Rattle.library_c.proofs.silkendoz_check_tables.Goals as goal

pub returns : goal.returns
returns c =
    exported_call _ _ _ _ _ _ _ c.tell_done.ensures.checked c.check_tables-answer.ensures
