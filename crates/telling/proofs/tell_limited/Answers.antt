-- `tell_limited` meets its contract, arm by arm.
use Rattle.calls.specs.Numbers.{code_of, values_of, result_values}
use Rattle.limiting.specs.Answered.{limited_by, answer_by}
use Rattle.telling.specs.COutcome.{returned_of}
use Rattle.telling.proofs.tell_limited.Goals as goal

pub returns-in-None : goal.returns-in-None
unfolding answer_by limited_by returned_of code_of values_of result_values
returns-in-None c = λ trail. rw (c.in-Ok.is, c.in-None.is) c.tell.ensures

pub returns-in-Some : goal.returns-in-Some
unfolding answer_by limited_by returned_of code_of values_of result_values
returns-in-Some c = λ trail. rw (c.in-Ok.is, c.in-Some.is) c.tell-in-Some.ensures

pub returns-in-Err : goal.returns-in-Err
unfolding answer_by
returns-in-Err c = λ trail. rw c.in-Err.is c.tell_refusal.ensures
