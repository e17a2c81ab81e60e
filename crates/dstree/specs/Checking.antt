-- Document 02, §6: "A check before trusting tables", as far as it speaks of the tree.
use Rattle.std.specs.Prelude.{ℕ, zero, suc, ◌<◌, ◌≡◌, Bool, true, ◌&&◌, List, [], ◌∷◌, ◌++◌, length, get_or, T, eqb}
use Rattle.integer.specs.Words.{counting, every, same_ℤ}
use Rattle.dstree.specs.Measures.{Trace, Measures, is_trace, is_library}
use Rattle.dstree.specs.Figures.{run}
use Rattle.dstree.specs.Node.{Segment, leaf, inner, Tree, node_at}
use Rattle.dstree.specs.Adding.{traces_of, segment_of, insertion, tree_of}
use Rattle.dstree.specs.WellFormed.{well_formed_tree}
use Rattle.dstree.specs.Claims.{RangesOf, ExactTree}

-- "the traces below", by the leaves' lists: a leaf's own, of an inner node those below its children. Tests do not bear on it. Children
-- are numbered above their parent, so that the number of nodes is fuel enough
unfoldable pub below_from : ℕ → Tree → ℕ → List ℕ
below_from zero tree number = []
below_from (suc fuel) tree number =
    elim (node_at tree number).kind [
      | leaf numbers ↦ numbers
      | inner test left right ↦ below_from fuel tree left ++ below_from fuel tree
          right
    ]

abbrev pub traces_below : Tree → ℕ → List ℕ
traces_below tree = below_from (length tree) tree

-- no recorded figure "isn't exactly the recomputed one"
unfoldable pub same_figures : Segment → Segment → Bool
same_figures recorded recomputed =
    same_ℤ recorded.least_sum recomputed.least_sum && same_ℤ recorded.greatest_sum recomputed.greatest_sum
    && eqb recorded.least_scatter recomputed.least_scatter && eqb recorded.greatest_scatter recomputed.greatest_scatter

-- "recomputes every least and greatest sum and scatter": on each segment, the first from sample `first` on, over some traces
unfoldable pub are_exact : List Trace → ℕ → List Segment → Bool
are_exact traces first [] = true
are_exact traces first (s ∷ rest) = same_figures s (segment_of traces (run first s.end)) && are_exact traces (suc s.end) rest

-- ".. from the traces below", of one node
unfoldable pub is_exact_at : List Trace → Tree → ℕ → Bool
is_exact_at stored tree number = are_exact (traces_of stored (traces_below tree number)) 1 (node_at tree number).segments

-- what the check accepts: of every node, inner or leaf
unfoldable pub is_exact : List Trace → Tree → Bool
is_exact stored tree = every (is_exact_at stored tree) (counting (length tree) 0)

-- ---- what is claimed

-- the test says yes exactly if the records have the least and greatest figures of the traces below
pub record Exactness (stored : List Trace) (tree : Tree) : Type 0 where
  pub exact_ranges : T (is_exact stored tree) → RangesOf stored tree
  pub ranges_exact : RangesOf stored tree → T (is_exact stored tree)

-- .. in any well-formed tree, "whatever made the tables"
abbrev pub ExactnessOfFormed : Type 0
ExactnessOfFormed = (limit : ℕ) (m : Measures) (stored : List Trace) (tree : Tree) → T (well_formed_tree limit m (length stored) tree)
    → Exactness stored tree

-- "If it accepts, a match must be the nearest stored trace and read the fewest leaves, whatever made the tables": an accepted tree is
-- exact, which is all that is claimed of a match (`Claims`: `ClaimsOfExact`) and of the k nearest needs
abbrev pub AcceptedExact : Type 0
AcceptedExact = (limit : ℕ) (m : Measures) (stored : List Trace) (tree : Tree) → T (well_formed_tree limit m (length stored) tree)
    → ((t : ℕ) → t < length stored → length (get_or stored t []) ≡ m.n) → T (is_exact stored tree) → ExactTree limit m stored tree

-- "It accepts every library made by calls"
abbrev pub MadeAccepted : Type 0
MadeAccepted = (limit : ℕ) (m : Measures) (traces : List Trace) → T (is_library limit m traces) → T (is_exact traces (tree_of m traces))

-- adding to a tree that is accepted leaves one that is, whatever made it: where a test was altered, the new trace goes by the altered one
abbrev pub AddingAccepted : Type 0
AddingAccepted = (limit : ℕ) (m : Measures) (stored : List Trace) (tree : Tree) (x : Trace)
    → T (well_formed_tree limit m (length stored) tree) → T (every (is_trace limit m.n) stored) → T (is_trace limit m.n x)
    → length stored < m.capacity → T (is_exact stored tree) → T (is_exact (stored ++ (x ∷ [])) (insertion m stored tree x))
