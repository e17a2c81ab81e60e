-- `play_script::print_line` meets its contract: what had failed before it stays.
use Rattle.std.proofs.Common.{◌≡◌, IsErr}
use Rattle.play_script.proofs.print_line.Given as goal

abbrev pub invariant-loop-number : goal.invariant-loop-number
invariant-loop-number g l = IsErr l.fn.out → l.out ≡ l.fn.out
