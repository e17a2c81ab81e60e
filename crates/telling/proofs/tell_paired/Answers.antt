-- `tell_paired` meets its contract, arm by arm.
use native.Mathlib.Omega.{arith}
use lib.Seq.{length-take-le}
use Rattle.calls.specs.Numbers.{code_of, values_of, result_values}
use Rattle.pairing.specs.Answered.{answer_by, leaves_by, factory_leaves_by}
use Rattle.telling.specs.COutcome.{returned_of}
use Rattle.telling.proofs.tell_paired.Goals as goal

pub overflow_add-leaves : goal.overflow_add-leaves
unfolding leaves_by
overflow_add-leaves c =
    let fits = rw c.in-Ok.is at c.requires in
    record { fits = omega (arith, fits) }

-- the factory's trail holds the leaves that are told by their number
pub returns-in-Ok : goal.returns-in-Ok
unfolding answer_by factory_leaves_by returned_of code_of values_of result_values
returns-in-Ok c = λ trail bench_trail room.
    let fits = rw c.in-Ok.is at room in
    rw (c.in-Ok.is, length-take-le c.in-Ok.p.leaves trail fits, ← c.library_number-which.ensures) c.tell.ensures

pub returns-in-Err : goal.returns-in-Err
unfolding answer_by
returns-in-Err c = λ trail bench_trail room. rw c.in-Err.is c.tell_refusal.ensures
