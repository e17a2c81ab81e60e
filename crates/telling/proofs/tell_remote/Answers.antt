-- `tell_remote` meets its contract, arm by arm.
use Rattle.calls.specs.Numbers.{code_of, values_of, result_values}
use Rattle.remote.specs.Answered.{answer_by}
use Rattle.telling.specs.COutcome.{returned_of}
use Rattle.telling.proofs.tell_remote.Goals as goal

pub returns-in-Ok : goal.returns-in-Ok
unfolding answer_by returned_of code_of values_of result_values
returns-in-Ok c = λ trail. rw c.in-Ok.is c.tell.ensures

pub returns-in-Err : goal.returns-in-Err
unfolding answer_by
returns-in-Err c = λ trail. rw c.in-Err.is c.tell_refusal.ensures
