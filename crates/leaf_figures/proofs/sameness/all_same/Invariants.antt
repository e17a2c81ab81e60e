-- `leaf_figures::sameness::all_same` meets its contract: the traces met are all the first one.
use mathlib.Core.Path.{◌≡◌}
use Prim.Native.Nat.{ℕ}
use lib.ListN.{get_or, take}
use Rattle.integer.proofs.Lists.{In}
use Rattle.leaf_figures.specs.Rows.{trace_of}
use Rattle.leaf_figures.proofs.sameness.all_same.Given as goal

abbrev pub invariant-loop-number : goal.invariant-loop-number
invariant-loop-number l = (t : ℕ) → In t (take l.number-index l.list) → trace_of l.traces t ≡ trace_of l.traces (get_or l.list 0 0)
