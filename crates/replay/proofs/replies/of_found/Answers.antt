-- `replay::replies::of_found` meets its contract, arm by arm.
use Rattle.matching.specs.Answered.{answer_by}
use Rattle.calls.specs.Numbers.{code_of, result_values, values_of, laid}
use Rattle.replay.specs.ReplyRows.{reply_row}
use Rattle.replay.proofs.replies.of_found.Goals as goal

pub returns-in-Ok : goal.returns-in-Ok
unfolding reply_row code_of values_of result_values laid answer_by
returns-in-Ok c = λ trail. rw c.in-Ok.is

pub returns-in-Err : goal.returns-in-Err
unfolding reply_row code_of values_of result_values laid answer_by
returns-in-Err c = λ trail. rw c.in-Err.is c.of_refusal.ensures
