-- `numbers_fit::marks::all_marked` meets its contract. The loop's invariant: how many of the numbers passed are marked.
use mathlib.Core.Path.{◌≡◌}
use mathlib.Core.Bool.{Bool, true}
use mathlib.Core.List.{List}
use Prim.Native.Nat.{ℕ, ◌+◌}
use lib.ListN.{get_or}
use lib.Dec.{eqb}
use Rattle.numbers_fit.proofs.Growth.{Tallied}
use Rattle.numbers_fit.proofs.marks.all_marked.Given as goal

abbrev pub once : List ℕ → ℕ → Bool
once marks number = eqb (get_or marks number 0) 1

-- number x from `first` on is marked
abbrev pub Marked : List ℕ → ℕ → ℕ → Type 0
Marked marks first x = once marks (first + x) ≡ true

abbrev pub invariant-loop-i : goal.invariant-loop-i
invariant-loop-i l = Tallied (Marked l.marks l.first) l.marked l.i
