-- Document 02, §12, by computation: matches with a limit on leaves, by the steps and in the document's words, and what is refused.
use Prim.Native.Nat.{ℕ}
use mathlib.Core.Path.{◌≡◌, refl}
use mathlib.Core.Option.{none, some}
use mathlib.Core.List.{List, [], ◌∷◌}
use Rattle.dstree.specs.Measures.{Trace}
use Rattle.dstree.specs.Node.{Tree}
use Rattle.dstree.specs.Refusals.{first_of, wrong_trace, sample_range, empty, short_trail, no_leaves}
use Rattle.dstree.specs.Examples.{level, ABC, tree, match_with}
use Rattle.dstree.specs.LeafLimit.{LimitedMatch, settled, unsettled, limit_conditions, limited_match, limited_by_steps}
use Rattle.dstree.proofs.Notation.{+}
use Rattle.dstree.proofs.Everything.{everything}

-- the same by the steps and in the document's words
record Both (most : ℕ) (stored : List Trace) (tree : Tree) (query : Trace) (answer : LimitedMatch) : Type 0 where
  steps : limited_by_steps most stored tree query ≡ answer
  words : limited_match most stored tree query ≡ answer

-- ---- document 01's A, B and C: leaf 1 is {A}, leaf 2 is {B, C}

-- query (1,1,1,1), bounds 4 and 36: leaf 1 is the whole trail, so that one leaf settles it, without a look into leaf 2
one_of_1 : Both 1 ABC tree (level 1) (settled (match_with 0 4 1 1 (1 ∷ [])))
unfolding everything
one_of_1 = record { steps = refl; words = refl }

-- query (2,2,2,2), both bounds 16, A at 16: after one leaf the next bound equals the best distance, and that leaf is one of the trail
one_of_2 : Both 1 ABC tree (level 2) (unsettled 16 (match_with 0 16 1 1 (1 ∷ [])))
unfolding everything
one_of_2 = record { steps = refl; words = refl }

-- .. two leaves are the whole trail, three are no more
two_of_2 : Both 2 ABC tree (level 2) (settled (match_with 0 16 2 3 (1 ∷ 2 ∷ [])))
unfolding everything
two_of_2 = record { steps = refl; words = refl }

three_of_2 : Both 3 ABC tree (level 2) (settled (match_with 0 16 2 3 (1 ∷ 2 ∷ [])))
unfolding everything
three_of_2 = record { steps = refl; words = refl }

-- query (0,4,0,4), bounds 32 and 16, all three at 32: leaf 2 gives B; the next bound, 32, equals its distance, and with leaf 1 it is A, the
-- lower number
abbrev wave : Trace
wave = + 0 ∷ + 4 ∷ + 0 ∷ + 4 ∷ []

one_of_wave : Both 1 ABC tree wave (unsettled 32 (match_with 1 32 1 2 (2 ∷ [])))
unfolding everything
one_of_wave = record { steps = refl; words = refl }

two_of_wave : Both 2 ABC tree wave (settled (match_with 0 32 2 3 (2 ∷ 1 ∷ [])))
unfolding everything
two_of_wave = record { steps = refl; words = refl }

-- ---- what is refused, of a library for traces of 4 samples: 18 before 4, 15, 6 and 7; a large L is fine, and the trail is to be as long as
-- the leaves are many, whatever L
refused : (first_of (limit_conditions 4 0 0 0 [] []) ≡ some no_leaves) × (first_of (limit_conditions 4 0 0 1 [] []) ≡ some wrong_trace)
    × (first_of (limit_conditions 4 0 0 1 (level 524288) []) ≡ some sample_range)
    × (first_of (limit_conditions 4 0 0 1 (level 1) []) ≡ some empty) × (first_of (limit_conditions 4 3 2 1 (level 1) (0 ∷ [])) ≡ some short_trail)
    × (first_of (limit_conditions 4 3 2 1000000 (level 1) (0 ∷ 0 ∷ [])) ≡ none)
unfolding everything
refused = (refl, refl, refl, refl, refl, refl)
