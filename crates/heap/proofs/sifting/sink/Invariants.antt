-- `heap::sifting::sink` meets its contract: `Sink` is the invariant, with the place of the first key below the hole.
use mathlib.Core.Path.{◌≡◌}
use Prim.Native.Nat.{◌+◌, ◌*◌, ◌-◌}
use Rattle.heap.proofs.Sinking.{Sink}
use Rattle.heap.proofs.sifting.sink.Given as goal

abbrev pub invariant-loop-left : goal.invariant-loop-left
invariant-loop-left l = (Sink l.n l.key l.at l.initial.s l.s) × (l.left ≡ 2 * l.at + 1)

abbrev pub decreases-loop-left : goal.decreases-loop-left
decreases-loop-left l = l.n - l.at
