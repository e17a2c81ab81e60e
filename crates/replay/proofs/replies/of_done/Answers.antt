-- `replay::replies::of_done` meets its contract, arm by arm.
use Rattle.opening.specs.Opened.{answer_by as opened_by}
use Rattle.sheet_reading.specs.Answered.{answer_by as read_by}
use Rattle.calls.specs.Numbers.{code_of, result_values, values_of, laid}
use Rattle.replay.specs.ReplyRows.{reply_row}
use Rattle.replay.proofs.replies.of_done.Goals as goal

pub returns-in-Ok : goal.returns-in-Ok
unfolding reply_row code_of values_of result_values laid opened_by read_by
returns-in-Ok c = record { opened = rw c.in-Ok.is; read = rw c.in-Ok.is }

pub returns-in-Err : goal.returns-in-Err
unfolding reply_row code_of values_of result_values laid opened_by read_by
returns-in-Err c = record { opened = rw c.in-Err.is c.of_refusal.ensures; read = rw c.in-Err.is c.of_refusal.ensures }
