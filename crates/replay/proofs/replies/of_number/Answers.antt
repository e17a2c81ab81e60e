-- `replay::replies::of_number` meets its contract, arm by arm.
use Rattle.adding.specs.Answered.{answer_by as added_by}
use Rattle.sheet_writing.specs.Answered.{answer_by as written_by}
use Rattle.calls.specs.Numbers.{code_of, result_values, values_of, laid}
use Rattle.replay.specs.ReplyRows.{reply_row}
use Rattle.replay.proofs.replies.of_number.Goals as goal

pub returns-in-Ok : goal.returns-in-Ok
unfolding reply_row code_of values_of result_values laid added_by written_by
returns-in-Ok c = record { added = rw c.in-Ok.is; written = λ sheet. rw c.in-Ok.is }

pub returns-in-Err : goal.returns-in-Err
unfolding reply_row code_of values_of result_values laid added_by written_by
returns-in-Err c = record { added = rw c.in-Err.is c.of_refusal.ensures; written = λ sheet. rw c.in-Err.is c.of_refusal.ensures }
