-- What `choose` requires can be met: by the tables of document 01's example, the three traces A, B and C in one leaf of one segment.
use mathlib.Core.Path.{refl}
use mathlib.Core.Logic.{inl, inr}
use mathlib.Core.List.{List, [], ◌∷◌, ◌++◌}
use Prim.Native.Nat.{ℕ, zero, suc}
use native.Mathlib.Omega.{arith}
use lib.IntN.{ℤ, pos}
use lib.ListN.{replicate}
use Rattle.tables.specs.Walk.{Rising, Stored}
use Rattle.dstree.specs.Formed.{Rises, rises_none, rises_more}
use Rattle.leaf_figures.specs.Ends.{ends_of, EndsRoom}
use Rattle.leaf_figures.specs.declared.ends.Ends.{Ends}

abbrev pub samples : List ℤ
samples = replicate 4 (pos 0) ++ replicate 4 (pos 4) ++ (pos 0 ∷ pos 8 ∷ pos 0 ∷ pos 8 ∷ [])

abbrev pub links : List ℕ
links = 1 ∷ 2 ∷ 0 ∷ []

abbrev pub ends : Ends
ends = record { at = 4 ∷ replicate 15 0; count = 1 }

rising : Rising links 3
rising zero h = inr (omega arith, omega arith)
rising (suc zero) h = inr (omega arith, omega arith)
rising (suc (suc zero)) h = inl refl
rising (suc (suc (suc s))) h = absurd (omega arith)

pub stored : Stored samples links 4 3 0
stored = record { wide = omega arith; narrow = omega arith; few = omega arith; samples_room = omega arith; links_room = omega arith; rising = rising; inside = omega arith }

pub room : EndsRoom ends
room = record { places = refl; few = omega arith }

pub rise : Rises 4 1 (ends_of ends)
rise = rises_more {from = 1} {end = 4} (omega arith) (omega arith) rises_none
