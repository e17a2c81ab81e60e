-- Document 01, "Well-formed tables", as far as it speaks of the tree. (That "every kind field [is] a value that its layout names" is said
-- where the layout is.)
use Rattle.std.specs.Prelude.{ℕ, suc, ◌*◌, ◌-◌, Bool, true, not, ◌&&◌, length, ℤ, pos, neg_ℤ, leb, ltb, eqb}
use Rattle.std.specs.Bool.{beq}
use mathlib.Core.List.{List, [], ◌∷◌, map, flatten}
use Rattle.std.specs.Int.Signed.{le_z}
use Rattle.integer.specs.Words.{every, counting, is_empty, is_in, times_in, last_of}
use Rattle.segment.specs.Limits.{sum_limit, scatter_limit, root_limit}
use Rattle.dstree.specs.Measures.{Measures, in_range}
use Rattle.dstree.specs.Figures.{run, width}
use Rattle.dstree.specs.Node.{Segment, Figure, by_sum, by_scatter, Kind, leaf, inner, Node, Tree, node_at, ends, most_segments}
use Rattle.dstree.specs.Matching.{numbers_in}

-- every number is above the one before it
unfoldable pub rising : List ℕ → Bool
rising [] = true
rising (x ∷ []) = true
rising (x ∷ (y ∷ rest)) = ltb x y && rising (y ∷ rest)

-- every node passes a test of its number and itself, the nodes being numbered from `number` on
unfoldable pub every_node : (ℕ → Node → Bool) → ℕ → Tree → Bool
every_node passes number [] = true
every_node passes number (a ∷ rest) = passes number a && every_node passes (suc number) rest

-- ---- children

unfoldable pub children_of : Kind → List ℕ
children_of (leaf numbers) = []
children_of (inner test left right) = left ∷ right ∷ []

-- "inner children numbered above their parent", and nodes
unfoldable pub children_above : Tree → ℕ → Node → Bool
children_above tree number a = every (λ child. ltb number child && ltb child (length tree)) (children_of a.kind)

-- "every node but 0 a child once"
unfoldable pub child_once : Tree → Bool
child_once tree =
    every (λ number. eqb (times_in number (flatten (map (λ (a : Node). children_of a.kind) tree))) 1) (counting (length tree - 1) 1)

-- ---- ends

-- "at most 16 ends, rising, last n". The first is at least 1, as samples are numbered from 1
unfoldable pub ends_fit : ℕ → List ℕ → Bool
ends_fit n all = not (is_empty all) && leb (length all) most_segments && rising (0 ∷ all) && eqb (last_of all) n

-- "a child's ends including its parent's"
unfoldable pub ends_kept : Tree → Node → Bool
ends_kept tree a = every (λ child. every (λ end. is_in end (ends (node_at tree child).segments)) (ends a.segments)) (children_of a.kind)

-- ---- leaves

-- "rising there, no leaf empty"
unfoldable pub leaf_fits : Kind → Bool
leaf_fits (leaf numbers) = rising numbers && not (is_empty numbers)
leaf_fits (inner test left right) = true

-- "every trace number in one leaf", and no other number
unfoldable pub in_one_leaf : ℕ → Tree → Bool
in_one_leaf count tree =
    let all = flatten (map (λ (a : Node). numbers_in a.kind) tree) in
    every (λ number. eqb (times_in number all) 1) (counting count 0) && every (λ number. ltb number count) all

-- ---- limits, for samples from −limit to limit − 1

-- −x ≤ z ≤ x
unfoldable pub within_ℤ : ℕ → ℤ → Bool
within_ℤ x z = le_z (neg_ℤ (pos x)) z && le_z z (pos x)

-- "least ≤ greatest", and the limits
unfoldable pub segment_fits : ℕ → ℕ → Segment → Bool
segment_fits limit w s =
    le_z s.least_sum s.greatest_sum && leb s.least_scatter s.greatest_scatter
    && within_ℤ (sum_limit limit w) s.least_sum && within_ℤ (sum_limit limit w) s.greatest_sum
    && leb s.greatest_scatter (scatter_limit limit w)

unfoldable pub segments_fit : ℕ → ℕ → List Segment → Bool
segments_fit limit first [] = true
segments_fit limit first (s ∷ rest) = segment_fits limit (width (run first s.end)) s && segments_fit limit (suc s.end) rest

-- "T between twice those limits"; by scatter, document 02 §9, "the deviation threshold becomes 2 × w × 524,288", in place of twice the
-- limit of scatters
unfoldable pub threshold_fits : ℕ → Figure → ℕ → ℤ → Bool
threshold_fits limit by_sum w t = within_ℤ (2 * sum_limit limit w) t
threshold_fits limit by_scatter w t = le_z (pos 0) t && le_z t (pos (2 * root_limit limit w))

-- ".. on a run inside 1 to n"
unfoldable pub test_fits : ℕ → ℕ → Kind → Bool
test_fits limit n (leaf numbers) = true
test_fits limit n (inner test left right) =
    leb 1 test.on.first && leb test.on.first test.on.last && leb test.on.last n
    && threshold_fits limit test.figure (width test.on) test.threshold

-- ---- all of it, in the document's order

unfoldable pub node_fits : ℕ → ℕ → Tree → ℕ → Node → Bool
node_fits limit n tree number a =
    children_above tree number a && ends_fit n (ends a.segments) && ends_kept tree a && leaf_fits a.kind
    && segments_fit limit 1 a.segments && test_fits limit n a.kind

-- `count` traces under these measures with this tree
unfoldable pub well_formed_tree : ℕ → Measures → ℕ → Tree → Bool
well_formed_tree limit m count tree =
    in_range m && leb count m.capacity && beq (eqb (length tree) 0) (eqb count 0)
    && every_node (node_fits limit m.n tree) 0 tree && child_once tree && in_one_leaf count tree
