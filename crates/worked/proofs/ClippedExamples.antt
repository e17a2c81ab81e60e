-- Document 02, §13, by computation: least and greatest possible distances, which traces are listed, and what is refused.
use Prim.Native.Nat.{ℕ}
use mathlib.Core.Path.{◌≡◌, refl}
use mathlib.Core.Bool.{true, false}
use mathlib.Core.Option.{none, some}
use mathlib.Core.List.{List, [], ◌∷◌, map}
use lib.ListN.{length}
use Rattle.segment.specs.Clipped.{least_from, greatest_from, is_crossed}
use Rattle.dstree.specs.Measures.{Trace}
use Rattle.dstree.specs.Refusals.{first_of, wrong_trace, empty, short_trail, sample_range, crossed_range}
use Rattle.dstree.specs.Examples.{level, ABC}
use Rattle.dstree.specs.Clipped.{Possible, possible_matches, clipped_conditions}
use Rattle.dstree.proofs.Notation.{+, −}
use Rattle.dstree.proofs.Everything.{everything}

abbrev lists : List ℕ → Possible
lists list = record { list = list; count = length list }

-- ---- document 01's A (0,0,0,0), B (4,4,4,4) and C (0,8,0,8)

-- each sample between 0 and 2: A lies inside; B is 2 from each range, C 6 from two; the farther ends are 2, 4, and 2 or 8 away
figures : (map (least_from (level 0) (level 2)) ABC ≡ 0 ∷ 16 ∷ 72 ∷ []) × (map (greatest_from (level 0) (level 2)) ABC ≡ 16 ∷ 64 ∷ 136 ∷ [])
unfolding everything
figures = (refl, refl)

-- B's least equals A's greatest: (2,2,2,2) is as near to both
two_listed : possible_matches ABC (level 0) (level 2) ≡ lists (0 ∷ 1 ∷ [])
unfolding everything
two_listed = refl

-- "With low equal to high everywhere": A and B at 16, not the lower number alone
point_listed : (possible_matches ABC (level 2) (level 2) ≡ lists (0 ∷ 1 ∷ [])) × (possible_matches ABC (level 4) (level 4) ≡ lists (1 ∷ []))
unfolding everything
point_listed = (refl, refl)

-- (0 to 1, 4 to 9, 0 to 1, 4 to 9): C lies inside, and A's least, 32, is below C's greatest, 34: from (0,4,0,4) all three are 32 away
abbrev low : Trace
low = + 0 ∷ + 4 ∷ + 0 ∷ + 4 ∷ []

abbrev high : Trace
high = + 1 ∷ + 9 ∷ + 1 ∷ + 9 ∷ []

clipped : (map (least_from low high) ABC ≡ 32 ∷ 18 ∷ 0 ∷ []) × (map (greatest_from low high) ABC ≡ 164 ∷ 82 ∷ 34 ∷ [])
    × (possible_matches ABC low high ≡ lists (0 ∷ 1 ∷ 2 ∷ []))
unfolding everything
clipped = (refl, refl, refl)

-- a low above its high, at the last sample; equal ones are not crossed
crossed : (is_crossed (level 2) (+ 2 ∷ + 2 ∷ + 2 ∷ + 1 ∷ []) ≡ true) × (is_crossed (level 2) (level 2) ≡ false)
    × (is_crossed (− 3 ∷ []) (− 2 ∷ []) ≡ false) × (is_crossed (− 2 ∷ []) (− 3 ∷ []) ≡ true)
unfolding everything
crossed = (refl, refl, refl, refl)

-- 4 for either length, 15 for lows and highs alike, 19, 6, 7: the list is to have a place for each stored trace, however few are listed
refused : (first_of (clipped_conditions 4 0 (level 524288) [] []) ≡ some wrong_trace)
    × (first_of (clipped_conditions 4 0 [] (level 524288) []) ≡ some wrong_trace)
    × (first_of (clipped_conditions 4 0 (level 524288) (level 1) []) ≡ some sample_range)
    × (first_of (clipped_conditions 4 0 (level 2) (+ 1 ∷ + 1 ∷ + 1 ∷ − 524289 ∷ []) []) ≡ some sample_range)
    × (first_of (clipped_conditions 4 0 (level 2) (level 1) []) ≡ some crossed_range)
    × (first_of (clipped_conditions 4 0 (level 1) (level 2) []) ≡ some empty)
    × (first_of (clipped_conditions 4 3 (level 1) (level 2) (0 ∷ 0 ∷ [])) ≡ some short_trail)
    × (first_of (clipped_conditions 4 3 (level 1) (level 2) (0 ∷ 0 ∷ 0 ∷ [])) ≡ none)
unfolding everything
refused = (refl, refl, refl, refl, refl, refl, refl, refl)
