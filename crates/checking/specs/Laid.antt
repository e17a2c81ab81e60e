-- The traces below every node in one array: those of a node stand one behind another, of an inner node first those of its left child,
-- then those of its right one. So all lists together take one place a trace.
use Rattle.std.specs.Prelude.{ℕ, ◌+◌, ◌≤◌, ◌<◌, ◌≡◌, ◌⊎◌, List, ◌++◌, length, get_or, drop, T}
use Rattle.dstree.specs.Node.{Test, inner, Tree, node_at}
use Rattle.dstree.specs.Matching.{has_child, is_leaf_kind}
use Rattle.dstree.specs.Checking.{traces_below}
use Rattle.dstree.specs.Measures.{most_traces}
use Rattle.tables.specs.Layout.{node_places}
use Rattle.figures_below.specs.Compared.{numbers_laid_at}

-- how many traces are below each node, from node `from` on
pub record SizesLaid (tree : Tree) (sizes : List ℕ) (from : ℕ) : Type 0 where
  pub places : length sizes ≡ node_places
  pub sized : (j : ℕ) → from ≤ j → j < length tree → get_or sizes j 0 ≡ length (traces_below tree j)

-- some numbers are written from a place on, and the other places stay
pub record PutFrom (before after : List ℕ) (at : ℕ) (numbers : List ℕ) : Type 0 where
  pub size : length after ≡ length before
  pub new : (x : ℕ) → x < length numbers → get_or after (at + x) 0 ≡ get_or numbers x 0
  pub old : (y : ℕ) → (y < at) ⊎ (at + length numbers ≤ y) → get_or after y 0 ≡ get_or before y 0

-- from a place on, the list of all traces begins with those below node j
pub record StartsAt (tree : Tree) (j start : ℕ) : Type 0 where
  pub rest : List ℕ
  pub is : drop start (traces_below tree 0) ≡ traces_below tree j ++ rest

-- nodes below `to` have been taken: each of their children has its start, and each leaf's numbers stand where they belong
pub record LaidTo (tree : Tree) (to : ℕ) (starts order : List ℕ) : Type 0 where
  pub starts_places : length starts ≡ node_places
  pub order_places : length order ≡ most_traces
  pub started : (j : ℕ) → j < length tree → ((p : ℕ) → T (has_child j (node_at tree p).kind) → p < to) → StartsAt tree j (get_or starts j 0)
  pub placed : (p : ℕ) → p < to → (test : Test) (l r : ℕ) → (node_at tree p).kind ≡ inner test l r
      → (get_or starts l 0 ≡ get_or starts p 0) × (get_or starts r 0 ≡ get_or starts p 0 + length (traces_below tree l))
  pub filled : (j : ℕ) → j < to → j < length tree → T (is_leaf_kind (node_at tree j).kind) → (x : ℕ) → x < length (traces_below tree j)
      → get_or order (get_or starts j 0 + x) 0 ≡ get_or (traces_below tree 0) (get_or starts j 0 + x) 0

-- every node's numbers are in their places, and are those of the traces below it
pub record LaidOut (tree : Tree) (sizes starts order : List ℕ) : Type 0 where
  pub sizes_places : length sizes ≡ node_places
  pub starts_places : length starts ≡ node_places
  pub order_places : length order ≡ most_traces
  pub inside : (j : ℕ) → j < length tree → get_or starts j 0 + get_or sizes j 0 ≤ most_traces
  pub below : (j : ℕ) → j < length tree → numbers_laid_at sizes starts order j ≡ traces_below tree j
