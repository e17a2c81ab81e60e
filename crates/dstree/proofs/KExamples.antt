-- Document 01's A (0,0,0,0), B (4,4,4,4) and C (0,8,0,8), n = 4, leaf size 2: leaf 1 is {A}, leaf 2 is {B, C}. The k nearest, by
-- computation.
use Prim.Native.Nat.{ℕ}
use mathlib.Core.Path.{◌≡◌, refl}
use mathlib.Core.List.{List, [], ◌∷◌}
use lib.ListN.{length}
use Rattle.dstree.specs.Matching.{Near}
use Rattle.dstree.specs.Examples.{level, ABC, tree}
use Rattle.dstree.specs.KNearest.{KNearest, k_nearest_by_steps, k_nearest_of}
use Rattle.dstree.proofs.Everything.{everything}

abbrev pub at : ℕ → ℕ → Near
at trace distance = record { trace = trace; distance = distance }

abbrev pub finds : List Near → ℕ → List ℕ → KNearest
finds list traces trail = record { list = list; leaves = length trail; traces = traces; trail = trail }

-- the same by the steps and in closed form
record Both (k : ℕ) (query : ℕ) (found : KNearest) : Type 0 where
  steps : k_nearest_by_steps k ABC tree (level query) ≡ found
  closed : k_nearest_of k ABC tree (level query) ≡ found

-- query (1,1,1,1), bounds 4 and 36, distances 4, 36 and 100: one is the match; two want both leaves, an equal bound being read; five list
-- all three
one_of_1 : Both 1 1 (finds (at 0 4 ∷ []) 1 (1 ∷ []))
unfolding everything
one_of_1 = record { steps = refl; closed = refl }

two_of_1 : Both 2 1 (finds (at 0 4 ∷ at 1 36 ∷ []) 3 (1 ∷ 2 ∷ []))
unfolding everything
two_of_1 = record { steps = refl; closed = refl }

five_of_1 : Both 5 1 (finds (at 0 4 ∷ at 1 36 ∷ at 2 100 ∷ []) 3 (1 ∷ 2 ∷ []))
unfolding everything
five_of_1 = record { steps = refl; closed = refl }

-- query (4,4,4,4), distances 64, 0 and 64: leaf 2 has two already, but leaf 1's bound of 64 is not above the second's distance, and A has
-- the lower number
one_of_4 : Both 1 4 (finds (at 1 0 ∷ []) 2 (2 ∷ []))
unfolding everything
one_of_4 = record { steps = refl; closed = refl }

two_of_4 : Both 2 4 (finds (at 1 0 ∷ at 0 64 ∷ []) 3 (2 ∷ 1 ∷ []))
unfolding everything
two_of_4 = record { steps = refl; closed = refl }

-- query (6,6,6,6), distances 144, 16 and 80: both of leaf 2 are listed, and leaf 1, with a bound of 144, is not read
two_of_6 : Both 2 6 (finds (at 1 16 ∷ at 2 80 ∷ []) 2 (2 ∷ []))
unfolding everything
two_of_6 = record { steps = refl; closed = refl }
