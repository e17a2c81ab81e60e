-- `examples::print_query` meets its contract: what had failed before it stays.
use Rattle.std.proofs.Common.{◌≡◌, IsErr}
use Rattle.examples.proofs.print_query.Given as goal

abbrev pub invariant-loop-x : goal.invariant-loop-x
invariant-loop-x l = IsErr l.fn.out → l.out ≡ l.fn.out
