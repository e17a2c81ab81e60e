-- `tables::loops::fill_first` meets its contract: after i turns the first i places are z.
use lib.ListN.{length}
use Rattle.tables.proofs.Fill.{Filling}
use Rattle.tables.proofs.loops.fill_first.Given as goal

abbrev pub invariant-loop-place : goal.invariant-loop-place
invariant-loop-place g l = Filling (length l.initial.place-items) l.z l.initial.place-items l.place-items l.place-index
