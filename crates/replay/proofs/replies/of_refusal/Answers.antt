-- `replay::replies::of_refusal` meets its contract: the number, the place, zeros.
use Rattle.calls.specs.Numbers.{code_of, values_of, laid}
use Rattle.replay.specs.ReplyRows.{reply_row}
use Rattle.replay.proofs.replies.of_refusal.Goals as goal

pub returns : goal.returns
unfolding reply_row code_of values_of laid
returns c = rw (c.number.ensures, c.place.ensures)
