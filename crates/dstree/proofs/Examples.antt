-- The starred examples of document 01: one table, one theorem, by computation. Behind them gains below zero, which no starred one has.
use Prim.Native.Nat.{ℕ}
use mathlib.Core.Path.{◌≡◌, refl}
use mathlib.Core.List.{List, [], ◌∷◌, map}
use Rattle.integer.specs.Words.{those}
use Rattle.dstree.specs.Measures.{Trace}
use Rattle.dstree.specs.Adding.{candidates, split_by, parts, gain}
use Rattle.dstree.specs.Examples.{StarredExamples}
use Rattle.dstree.proofs.Notation.{+, −}
use Rattle.dstree.proofs.Everything.{everything}

pub starred_examples : StarredExamples
unfolding everything
starred_examples = record {
  sum_of_C = refl;
  scatter_of_C = refl;
  spread_of_all = refl;
  first_gains = refl;
  test_of_0 = refl;
  leaf_1 = refl;
  leaf_2 = refl;
  bounds_of_1 = refl;
  match_of_1 = refl;
  steps_of_1 = refl;
  bounds_of_2 = refl;
  match_of_2 = refl;
  steps_of_2 = refl;
  match_of_4 = refl;
  steps_of_4 = refl;
  scatter_of_3 = refl;
  tree_of_3 = refl;
  g_of_3 = refl;
  h_of_3 = refl;
  bound_of_3 = refl;
  one_leaf = refl;
  checks = refl;
}

-- three traces of sum 1 and scatter 35
abbrev pub spread_thin : List Trace
spread_thin = (+ 2 ∷ + 0 ∷ − 2 ∷ + 1 ∷ []) ∷ (+ 1 ∷ + 0 ∷ − 2 ∷ + 2 ∷ []) ∷ (− 2 ∷ + 2 ∷ + 1 ∷ + 0 ∷ []) ∷ []

abbrev pub all_three : List ℕ
all_three = 0 ∷ 1 ∷ 2 ∷ []

-- "The gain is a signed number and may be below zero": of the four candidates that part them, every gain is
pub below_zero : map (gain spread_thin (4 ∷ []) all_three) (those parts (map (split_by spread_thin all_three) (candidates (4 ∷ [])))) ≡ − 6 ∷ − 2 ∷ − 2 ∷ − 2 ∷ []
unfolding everything
below_zero = refl
