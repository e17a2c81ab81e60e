-- `leaf_figures::lists::place_list` meets its contract: each number met has its place, and a number met again has the later one.
use mathlib.Core.Path.{◌≡◌}
use Prim.Native.Nat.{ℕ, ◌<◌}
use lib.ListN.{length, get_or, take}
use Rattle.integer.proofs.Lists.{In}
use Rattle.leaf_figures.proofs.lists.place_list.Given as goal

abbrev pub invariant-loop-i : goal.invariant-loop-i
invariant-loop-i l =
    (length l.place ≡ 4096) × ((t : ℕ) → In t (take l.i l.list) → get_or l.place t 0 < l.i) × ((t : ℕ) → In t (take l.i l.list) → get_or l.list (get_or l.place t 0) 0 ≡ t)
