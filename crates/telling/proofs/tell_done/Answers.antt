-- `tell_done` meets its contract, arm by arm.
use Rattle.calls.specs.Numbers.{code_of, values_of, result_values, laid}
use Rattle.opening.specs.Opened as opened
use Rattle.sheet_reading.specs.Answered as reading
use Rattle.checking.specs.Answered as checking
use Rattle.banding.specs.Answered as banding
use Rattle.telling.specs.COutcome.{returned_of}
use Rattle.telling.proofs.tell_done.Goals as goal

pub returns-in-Ok : goal.returns-in-Ok
unfolding opened.answer_by reading.answer_by checking.answer_by banding.answer_by returned_of code_of values_of result_values laid
returns-in-Ok c = record { opened = rw c.in-Ok.is; read = rw c.in-Ok.is; checked = rw c.in-Ok.is; banded = λ bands list. rw c.in-Ok.is }

pub returns-in-Err : goal.returns-in-Err
unfolding opened.answer_by reading.answer_by checking.answer_by banding.answer_by
returns-in-Err c = record {
  opened = rw c.in-Err.is c.tell_refusal.ensures;
  read = rw c.in-Err.is c.tell_refusal.ensures;
  checked = rw c.in-Err.is c.tell_refusal.ensures;
  banded = λ bands list. rw c.in-Err.is c.tell_refusal.ensures;
}
