-- `tell_refusal` meets its contract: the number is the code, the place the first value.
use mathlib.Core.Path.{ap}
use Rattle.tables.specs.Answers.{word_of}
use Rattle.telling.specs.COutcome.{Returned}
use Rattle.telling.proofs.Answers.{refusal_returned}
use Rattle.telling.proofs.tell_refusal.Goals as goal

pub returns : goal.returns
returns c =
    refusal_returned (word_of c.args.why) _ _ c.args.out.now _ c.number-number.ensures c.place-place.ensures (ap (λ (r : Returned). r.out) c.tell.ensures)
