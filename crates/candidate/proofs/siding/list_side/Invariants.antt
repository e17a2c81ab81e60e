-- `candidate::siding::list_side` meets its contract: what is listed, and what the rest of the list has of the side, make the side. Each
-- trace is written behind what is listed, and counts if it is on the side.
use mathlib.Core.Path.{◌≡◌}
use mathlib.Core.List.{◌++◌}
use Prim.Native.Nat.{◌≤◌}
use lib.ListN.{length, take, drop}
use Rattle.candidate.specs.Siding.{trial_test, side_of}
use Rattle.candidate.proofs.siding.list_side.Given as goal

abbrev pub invariant-loop-number : goal.invariant-loop-number
invariant-loop-number l =
    (l.most ≤ l.number-index)
    × (length l.side ≡ 4096)
    × (take l.most l.side ++ side_of l.rows.traces.samples.now l.rows.traces.n (trial_test l.c l.threshold) l.left (drop l.number-index l.list)
    ≡ side_of l.rows.traces.samples.now l.rows.traces.n (trial_test l.c l.threshold) l.left l.list)
