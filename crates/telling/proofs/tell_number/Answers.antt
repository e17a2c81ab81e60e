-- `tell_number` meets its contract, arm by arm.
use Rattle.calls.specs.Numbers.{code_of, values_of, result_values}
use Rattle.adding.specs.Answered as adding
use Rattle.sheet_writing.specs.Answered as writing
use Rattle.importing.specs.Answered as importing
use Rattle.exporting.specs.Answered as exporting
use Rattle.batching.specs.Answered as batching
use Rattle.clipping.specs.Answered as clipping
use Rattle.telling.specs.COutcome.{returned_of}
use Rattle.telling.proofs.tell_number.Goals as goal

pub returns-in-Ok : goal.returns-in-Ok
unfolding adding.answer_by writing.answer_by importing.answer_by exporting.answer_by batching.answer_by clipping.answer_by returned_of code_of values_of result_values
returns-in-Ok c = record {
  added = rw c.in-Ok.is c.tell.ensures;
  written = λ sheet. rw c.in-Ok.is c.tell.ensures;
  imported = rw c.in-Ok.is c.tell.ensures;
  exported = λ buffer. rw c.in-Ok.is c.tell.ensures;
  batched = λ records trail. rw c.in-Ok.is c.tell.ensures;
  clipped = λ list. rw c.in-Ok.is c.tell.ensures;
}

pub returns-in-Err : goal.returns-in-Err
unfolding adding.answer_by writing.answer_by importing.answer_by exporting.answer_by batching.answer_by clipping.answer_by
returns-in-Err c = record {
  added = rw c.in-Err.is c.tell_refusal.ensures;
  written = λ sheet. rw c.in-Err.is c.tell_refusal.ensures;
  imported = rw c.in-Err.is c.tell_refusal.ensures;
  exported = λ buffer. rw c.in-Err.is c.tell_refusal.ensures;
  batched = λ records trail. rw c.in-Err.is c.tell_refusal.ensures;
  clipped = λ list. rw c.in-Err.is c.tell_refusal.ensures;
}
