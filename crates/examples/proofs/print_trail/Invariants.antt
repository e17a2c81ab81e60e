-- `examples::print_trail` meets its contract: what had failed before it stays.
use Rattle.std.proofs.Common.{◌≡◌, IsErr}
use Rattle.examples.proofs.print_trail.Given as goal

abbrev pub invariant-loop-node : goal.invariant-loop-node
invariant-loop-node l = IsErr l.fn.out → l.out ≡ l.fn.out
