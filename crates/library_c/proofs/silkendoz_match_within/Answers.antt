-- `silkendoz_match_within` meets its contract: the match's own equation, and what is returned of its answer.
use Rattle.library_c.proofs.Answers.{exported_call}
use Rattle.library_c.proofs.silkendoz_match_within.Goals as goal

pub returns : goal.returns
returns c =
    exported_call _ _ _ _ _ _ _ (c.tell_limited.ensures c.match_within-answer.new.trail) c.match_within-answer.ensures
