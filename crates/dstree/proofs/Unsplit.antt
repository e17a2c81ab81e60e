-- A tree that adding does not make: a leaf is above the leaf size though a candidate parts it. Which leaves an adding tries can be seen on
-- such a tree alone.
use Prim.Native.Nat.{ℕ}
use mathlib.Core.Path.{◌≡◌, refl}
use mathlib.Core.Bool.{true}
use mathlib.Core.List.{List, [], ◌∷◌, map}
use lib.IntN.{pos}
use Rattle.dstree.specs.Measures.{Trace, measures, sample_limit}
use Rattle.dstree.specs.Node.{by_sum, Kind, leaf, inner, Node, node, Tree}
use Rattle.dstree.specs.Adding.{insertion}
use Rattle.dstree.specs.WellFormed.{well_formed_tree}
use Rattle.dstree.proofs.Notation.{+, seg, test}
use Rattle.dstree.proofs.Everything.{everything}

-- traces of one sample, 0, 1 and 10: at a leaf size of 1 leaf 1 has two, which their sum parts
abbrev stored : List Trace
stored = (+ 0 ∷ []) ∷ (+ 1 ∷ []) ∷ (+ 10 ∷ []) ∷ []

abbrev unsplit : Tree
unsplit =
    node (seg 1 (+ 0) (+ 10) 0 0 ∷ []) (inner (test 1 1 by_sum (+ 10)) 1 2)
    ∷ node (seg 1 (+ 0) (+ 1) 0 0 ∷ []) (leaf (0 ∷ 1 ∷ []))
    ∷ node (seg 1 (+ 10) (+ 10) 0 0 ∷ []) (leaf (2 ∷ []))
    ∷ []

-- the nodes of that tree once a trace of one sample has joined it
abbrev kinds_with : ℕ → List Kind
kinds_with x = map (λ (a : Node). a.kind) (insertion (measures 1 8 1) stored unsplit (pos x ∷ []))

pub record TriedLeaves : Type 0 where
  pub unsplit_formed : well_formed_tree sample_limit (measures 1 8 1) 3 unsplit ≡ true
  -- "A leaf that no candidate parts stays whole, and is tried again when a trace joins it", and at no other time: when 12 joins leaf 2,
  -- that one splits, and leaf 1 stays whole though a candidate parts it
  pub other_leaf_whole : kinds_with 12
      ≡ inner (test 1 1 by_sum (+ 10)) 1 2 ∷ leaf (0 ∷ 1 ∷ []) ∷ inner (test 1 1 by_sum (+ 22)) 3 4 ∷ leaf (2 ∷ []) ∷ leaf (3 ∷ []) ∷ []
  -- when 2 joins leaf 1, it splits, and the new leaf of 0 and 1 in turn
  pub joined_leaf_tried : kinds_with 2
      ≡ inner (test 1 1 by_sum (+ 10)) 1 2 ∷ inner (test 1 1 by_sum (+ 2)) 3 4 ∷ leaf (2 ∷ []) ∷ inner (test 1 1 by_sum (+ 1)) 5 6
      ∷ leaf (3 ∷ []) ∷ leaf (0 ∷ []) ∷ leaf (1 ∷ []) ∷ []

pub tried_leaves : TriedLeaves
unfolding everything
tried_leaves = record {
  unsplit_formed = refl;
  other_leaf_whole = refl;
  joined_leaf_tried = refl;
}
