-- Document 01's A, B and C: what is below each node; the tree that adding makes is exact, and with one figure altered by one it is not.
-- By computation.
use Prim.Native.Nat.{ℕ, ◌+◌}
use mathlib.Core.Path.{◌≡◌, refl}
use mathlib.Core.Bool.{true, false}
use mathlib.Core.List.{[], ◌∷◌, map}
use lib.IntN.{pos, negsuc, ◌+ℤ◌}
use Rattle.dstree.specs.Node.{Segment, Kind, leaf, inner, Node, node, Tree, change_at}
use Rattle.dstree.specs.Checking.{traces_below, is_exact}
use Rattle.dstree.specs.Examples.{ABC, tree}
use Rattle.dstree.proofs.Everything.{everything}

below_each : map (traces_below tree) (0 ∷ 1 ∷ 2 ∷ []) ≡ (0 ∷ 1 ∷ 2 ∷ []) ∷ (0 ∷ []) ∷ (1 ∷ 2 ∷ []) ∷ []
unfolding everything
below_each = refl

made_passes : is_exact ABC tree ≡ true
unfolding everything
made_passes = refl

-- a node with its segments changed
abbrev altered : (Segment → Segment) → ℕ → Tree
altered change number = change_at tree number (λ (a : Node). node (map change a.segments) a.kind)

abbrev wider : Segment → Segment
wider s = record {
  end = s.end;
  least_sum = s.least_sum;
  greatest_sum = s.greatest_sum +ℤ pos 1;
  least_scatter = s.least_scatter;
  greatest_scatter = s.greatest_scatter;
}

abbrev rougher : Segment → Segment
rougher s = record {
  end = s.end;
  least_sum = s.least_sum;
  greatest_sum = s.greatest_sum;
  least_scatter = s.least_scatter;
  greatest_scatter = s.greatest_scatter + 1;
}

-- a range that is too wide, by which no bound lies, is loose too: in a leaf, and in an inner node
loose_leaf : is_exact ABC (altered wider 1) ≡ false
unfolding everything
loose_leaf = refl

loose_root : is_exact ABC (altered rougher 0) ≡ false
unfolding everything
loose_root = refl

-- a test that would send every trace to the right is not looked at: what is below is by the leaves' lists
abbrev other_test : Kind → Kind
other_test (leaf numbers) = leaf numbers
other_test (inner test left right) = inner (record { on = test.on; figure = test.figure; threshold = negsuc 0 }) left right

tests_do_not_bear : is_exact ABC (change_at tree 0 (λ (a : Node). node a.segments (other_test a.kind))) ≡ true
unfolding everything
tests_do_not_bear = refl
