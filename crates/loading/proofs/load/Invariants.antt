-- `loading::load` meets its contract. The loop's invariant: the tables are those that the first traces, added in order, leave.
use mathlib.Core.Path.{◌≡◌}
use mathlib.Core.List.{List, foldl}
use Prim.Native.Nat.{ℕ}
use lib.ListN.{length, take}
use Rattle.tables.specs.Tables.{tables}
use Rattle.insertion_memory.specs.Memory.{added_to}
use Rattle.loading.specs.Loads.{traces_by}
use Rattle.loading.proofs.load.Given as goal

abbrev pub invariant-loop-number : goal.invariant-loop-number
invariant-loop-number l =
    ((work : List ℕ) → tables l.control l.samples l.nodes l.links work
    ≡ foldl added_to (tables l.initial.control l.initial.samples l.initial.nodes l.initial.links work) (take l.number (traces_by l.source l.n l.bytes)))
    × (length l.control ≡ length l.initial.control)
    × (length l.samples ≡ length l.initial.samples)
    × (length l.nodes ≡ length l.initial.nodes)
    × (length l.links ≡ length l.initial.links)
