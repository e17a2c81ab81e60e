-- `silkendoz_match_clipped` meets its contract: the call's own equation, and what is returned of its answer.
use Rattle.library_c.proofs.Answers.{exported_call}
use Rattle.library_c.proofs.silkendoz_match_clipped.Goals as goal

pub returns : goal.returns
returns c =
    exported_call _ _ _ _ _ _ _ (c.tell_number.ensures.clipped c.match_clipped-answer.new.list) c.match_clipped-answer.ensures
