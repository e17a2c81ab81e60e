-- What asking for the next leaf leaves. The leaves to come begin with the one that is handed out, and the keys then stand for the others;
-- or none of them is within the limit, and the keys still stand for all of them.
use Rattle.std.specs.Prelude.{ℕ, ◌<◌, ◌≡◌, Bool, true, false, List, ◌∷◌, length, T, ltb, Option, Some, None}
use Rattle.integer.specs.Lists.{All}
use Rattle.dstree.specs.Measures.{Trace}
use Rattle.dstree.specs.Node.{Tree, node_at}
use Rattle.dstree.specs.Matching.{LeafBound, is_leaf_kind}
use Rattle.leaf_order.specs.Waits.{Waits, remaining}
use Rattle.leaf_order.specs.declared.leaves.Leaf.{Leaf}

-- the bound is above the limit, if there is one
unfoldable pub is_past : Option ℕ → ℕ → Bool
is_past None bound = false
is_past (Some limit) bound = ltb limit bound

abbrev pub Past : Option ℕ → LeafBound → Type 0
Past limit a = is_past limit a.bound ≡ true

-- n keys wait before, and `left` after
module _ (tree : Tree) (query : Trace) (limit : Option ℕ) (n left : ℕ) (work work' : List ℕ) where
  pub record HandedLeaf (leaf : Leaf) : Type 0 where
    pub first : remaining tree query n work ≡ record { number = leaf.number; bound = leaf.bound } ∷ remaining tree query left work'
    pub inside : leaf.number < length tree
    pub is_leaf : T (is_leaf_kind (node_at tree leaf.number).kind)
    pub within : is_past limit leaf.bound ≡ false
    pub waits : Waits tree query left work'

  pub record NoneWithin : Type 0 where
    pub past : All (Past limit) (remaining tree query n work)
    pub same : remaining tree query left work' ≡ remaining tree query n work
    pub waits : Waits tree query left work'

  unfoldable pub Handed : Option Leaf → Type 0
  Handed (Some leaf) = HandedLeaf leaf
  Handed None = NoneWithin
