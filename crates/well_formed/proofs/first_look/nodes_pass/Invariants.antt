-- `well_formed::first_look::nodes_pass` meets its contract. The loop's invariant: what visits show of the nodes passed.
use Rattle.well_formed.specs.Visits.{VisitedFirst}
use Rattle.well_formed.proofs.first_look.nodes_pass.Given as goal

abbrev pub invariant-loop-j : goal.invariant-loop-j
invariant-loop-j l = VisitedFirst l.n l.m l.k l.nodes l.j l.initial.marks l.marks l.initial.named l.named
