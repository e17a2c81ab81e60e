-- `silkendoz_count_bands` meets its contract: the report's own equation, and what is returned of its answer.
use Rattle.library_c.proofs.Answers.{exported_call}
use Rattle.library_c.proofs.silkendoz_count_bands.Goals as goal

pub returns : goal.returns
returns c =
    exported_call _ _ _ _ _ _ _ (c.tell_done.ensures.banded _ c.count_bands-answer.new.list) c.count_bands-answer.ensures
