-- Document 02, §10, by computation: upper figures, bands and reports, and what is refused.
use Prim.Native.Nat.{ℕ}
use mathlib.Core.Path.{◌≡◌, refl}
use mathlib.Core.Bool.{true, false}
use mathlib.Core.Option.{none, some}
use mathlib.Core.List.{List, [], ◌∷◌, map}
use Rattle.integer.specs.Words.{counting}
use Rattle.dstree.specs.Measures.{Trace, measures}
use Rattle.dstree.specs.Node.{Tree, node_at}
use Rattle.dstree.specs.Adding.{tree_of}
use Rattle.dstree.specs.Matching.{bound}
use Rattle.dstree.specs.Refusals.{first_of, wrong_trace, sample_range, bad_edges, short_trail}
use Rattle.dstree.specs.Examples.{level, ABC, tree, stored3, query3}
use Rattle.dstree.specs.Bands.{own_upper, upper, is_edges, bands_of, BandCount, band_report, report_places, band_conditions, true_count}
use Rattle.dstree.proofs.Notation.{+, −}
use Rattle.dstree.proofs.Everything.{everything}

infix 30 ◌of◌
-- sure and possible
abbrev ◌of◌ : ℕ → ℕ → BandCount
sure of possible = record { sure = sure; possible = possible }

-- ---- document 01's A, B and C: leaf 1 is {A}, leaf 2 is {B, C}; query (1,1,1,1), distances 4, 36 and 100

-- leaf 1: G = 4 and no scatter, 16 / 4; leaf 2: G = 12, greatest scatter 256, (144 + 256) / 4; node 0 has the same as leaf 2
figures_of_1 : (map (bound tree (level 1)) (1 ∷ 2 ∷ []) ≡ 4 ∷ 36 ∷ []) × (map (upper tree (level 1)) (0 ∷ 1 ∷ 2 ∷ []) ≡ 100 ∷ 4 ∷ 100 ∷ [])
unfolding everything
figures_of_1 = (refl, refl)

-- A is sure from 0 to 5; B and C may lie anywhere from 36 to 100, and 100 is not below the second band's end
report_of_1 : (band_report tree (level 1) (0 ∷ 5 ∷ 100 ∷ 101 ∷ []) ≡ (1 of 1) ∷ (0 of 2) ∷ (0 of 2) ∷ [])
    × (map (true_count ABC (level 1)) (bands_of (0 ∷ 5 ∷ 100 ∷ 101 ∷ [])) ≡ 1 ∷ 1 ∷ 1 ∷ [])
unfolding everything
report_of_1 = (refl, refl)

-- one band for both, and its places in the caller's list
whole_of_1 : report_places (band_report tree (level 1) (4 ∷ 36 ∷ 101 ∷ 1000 ∷ [])) ≡ 1 ∷ 1 ∷ 2 ∷ 2 ∷ 0 ∷ 0 ∷ []
unfolding everything
whole_of_1 = refl

-- ---- "the smallest on the path counts": n = 2, leaf size 2, (1,−1), (0,−2), (0,0), query (−1,0): a leaf has 8 of its own, 5 by the path

abbrev three : List Trace
three = (+ 1 ∷ − 1 ∷ []) ∷ (+ 0 ∷ − 2 ∷ []) ∷ (+ 0 ∷ + 0 ∷ []) ∷ []

abbrev tree_of_three : Tree
tree_of_three = tree_of (measures 2 8 2) three

path_of_three : (own_upper (− 1 ∷ + 0 ∷ []) (node_at tree_of_three 1) ≡ 8) × (upper tree_of_three (− 1 ∷ + 0 ∷ []) 1 ≡ 5)
unfolding everything
path_of_three = (refl, refl)

-- ---- n = 3, stored (0,0,0), query (1,0,0): G = 1, the ceiling root of 2 is 2; (1 + 4) / 3 rounded down is 1, the distance

rounded_down : upper (tree_of (measures 3 8 2) stored3) query3 0 ≡ 1
unfolding everything
rounded_down = refl

-- ---- edges: 2 to 16 of them, each above the last. An empty library reports zeros

edges : map is_edges ([] ∷ (3 ∷ []) ∷ (3 ∷ 4 ∷ []) ∷ (3 ∷ 3 ∷ []) ∷ (4 ∷ 3 ∷ []) ∷ (0 ∷ 1 ∷ 1 ∷ []) ∷ counting 16 0 ∷ counting 17 0 ∷ [])
    ≡ false ∷ false ∷ true ∷ false ∷ false ∷ false ∷ true ∷ false ∷ []
unfolding everything
edges = refl

zeros : band_report [] (level 1) (0 ∷ 5 ∷ 9 ∷ []) ≡ (0 of 0) ∷ (0 of 0) ∷ []
unfolding everything
zeros = refl

-- 4, 15, 16 and 7 in this order; no 6
refused : (first_of (band_conditions 4 (+ 524288 ∷ []) (5 ∷ []) []) ≡ some wrong_trace)
    × (first_of (band_conditions 4 (level 524288) (5 ∷ []) []) ≡ some sample_range)
    × (first_of (band_conditions 4 (level 1) (5 ∷ []) []) ≡ some bad_edges)
    × (first_of (band_conditions 4 (level 1) (0 ∷ 5 ∷ 9 ∷ []) (0 ∷ 0 ∷ 0 ∷ [])) ≡ some short_trail)
    × (first_of (band_conditions 4 (level 1) (0 ∷ 5 ∷ 9 ∷ []) (0 ∷ 0 ∷ 0 ∷ 0 ∷ [])) ≡ none)
unfolding everything
refused = (refl, refl, refl, refl, refl)
