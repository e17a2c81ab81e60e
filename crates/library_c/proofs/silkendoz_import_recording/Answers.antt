-- `silkendoz_import_recording` meets its contract: importing's own equation, and what is returned of its answer.
use Rattle.library_c.proofs.Answers.{exported_call}
use Rattle.library_c.proofs.silkendoz_import_recording.Goals as goal

pub returns : goal.returns
returns c =
    exported_call _ _ _ _ _ _ _ c.tell_number.ensures.imported c.import_recording-answer.ensures
