-- `nodes_fit::twins::segments_run` meets its contract. The loop's invariant: each child's segments were passed so far, and so many of the
-- parent's ends met.
use Prim.Native.Nat.{◌≤◌}
use Rattle.nodes_fit.proofs.Siblings.{Passing}
use Rattle.nodes_fit.proofs.twins.segments_run.Given as goal

abbrev pub invariant-loop-i : goal.invariant-loop-i
invariant-loop-i l =
    (l.before ≤ 256) × (l.p ≤ l.i) × Passing l.n l.count l.left l.parent l.before l.p l.i × Passing l.n l.count l.right l.parent l.before l.p l.i
