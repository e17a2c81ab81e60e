-- The first i records are stored.
use Rattle.std.proofs.Common.{◌≡◌}
use Rattle.batching.specs.Answered.{answer_at}
use Rattle.batch_answers.specs.Over.{with_first_values}
use Rattle.batch_answers.proofs.store.Given as goal

abbrev pub invariant-loop-i : goal.invariant-loop-i
invariant-loop-i l = l.answers ≡ with_first_values (answer_at l.found) l.i l.initial.answers
