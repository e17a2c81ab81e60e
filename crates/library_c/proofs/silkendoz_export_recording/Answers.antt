-- `silkendoz_export_recording` meets its contract: exporting's own equation, and what is returned of its answer.
use Rattle.library_c.proofs.Answers.{exported_call}
use Rattle.library_c.proofs.silkendoz_export_recording.Goals as goal

pub returns : goal.returns
returns c =
    exported_call _ _ _ _ _ _ _ (c.tell_number.ensures.exported c.export_recording-answer.new.buffer) c.export_recording-answer.ensures
