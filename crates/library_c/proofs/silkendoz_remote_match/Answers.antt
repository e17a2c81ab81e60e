-- `silkendoz_remote_match` meets its contract: the remote's call's own equation, and what is returned of its answer.
use Rattle.library_c.proofs.Answers.{exported_call}
use Rattle.library_c.proofs.silkendoz_remote_match.Goals as goal

pub returns : goal.returns
returns c =
    exported_call _ _ _ _ _ _ _ (c.tell_remote.ensures c.remote_match-answer.new.trail) c.remote_match-answer.ensures
