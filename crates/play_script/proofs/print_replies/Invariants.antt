-- `play_script::print_replies` meets its contract: what had failed before it stays.
use Rattle.std.proofs.Common.{◌≡◌, IsErr}
use Rattle.play_script.proofs.print_replies.Given as goal

abbrev pub invariant-loop-row : goal.invariant-loop-row
invariant-loop-row l = IsErr l.fn.out → l.out ≡ l.fn.out
