-- `prefixes::prefix_sums` meets its contract: after i turns the places 0 to i hold the sums of the first samples (`Passed`).
use Rattle.prefixes.proofs.Passed.{Passed}
use Rattle.prefixes.proofs.prefix_sums.Given as goal

abbrev pub invariant-loop-i : goal.invariant-loop-i
invariant-loop-i l = Passed l.trace l.sums l.squares l.i
