-- `candidate::parting::look_along` meets its contract: while the loop goes on, all traces taken so far went to the first one's side.
use mathlib.Core.Path.{◌≡◌}
use Prim.Native.Nat.{ℕ}
use lib.ListN.{take}
use Rattle.integer.proofs.Lists.{In}
use Rattle.dstree.specs.Adding.{goes_by}
use Rattle.leaf_figures.specs.Rows.{stored_of}
use Rattle.candidate.specs.Siding.{trial_test}
use Rattle.candidate.proofs.parting.look_along.Given as goal

abbrev pub invariant-loop-i : goal.invariant-loop-i
invariant-loop-i l = (t : ℕ) → In t (take l.i l.list) → goes_by (stored_of l.rows.traces) (trial_test l.c l.threshold) t ≡ l.side
