-- Figures recomputed and compared. A child's record serves its parent, where the child has a segment on the same samples and was found
-- exact.
use Rattle.std.specs.Prelude.{ℕ, zero, suc, ◌+◌, ◌*◌, ◌≤◌, ◌<◌, min, max, ◌≡◌, Bool, List, ◌++◌, ℤ, length, get_or, take, drop, T}
use Rattle.integer.specs.Words.{lesser, greater}
use Rattle.integer.specs.Lists.{In}
use Rattle.dstree.specs.Measures.{Trace, most_nodes, most_samples, most_traces}
use Rattle.dstree.specs.Node.{ends}
use Rattle.dstree.specs.Formed.{Fits}
use Rattle.dstree.specs.Checking.{are_exact}
use Rattle.tables.specs.Layout.{kind_place, first_place, right_place, record_places, node_places}
use Rattle.tables.specs.Tables.{record_of}
use Rattle.tables.specs.View.{small_at, segment_in, segments_in}
use Rattle.leaf_figures.specs.Rows.{traces_at}
use Rattle.leaf_figures.specs.declared.sides.SideRange.{SideRange}

-- the traces below every node stand in one array; the numbers of node j
abbrev pub numbers_laid_at : List ℕ → List ℕ → List ℕ → ℕ → List ℕ
numbers_laid_at sizes starts order j = take (get_or sizes j 0) (drop (get_or starts j 0) order)

-- the figures of two lists of traces together
unfoldable pub joined_figures : SideRange → SideRange → SideRange
joined_figures a b = record {
  least_sum = lesser a.least_sum b.least_sum;
  greatest_sum = greater a.greatest_sum b.greatest_sum;
  least_scatter = min a.least_scatter b.least_scatter;
  greatest_scatter = max a.greatest_scatter b.greatest_scatter;
}

-- the first sample of segment i of a record
unfoldable pub first_on : List ℤ → ℕ → ℕ
first_on r zero = 1
first_on r (suc i) = suc (segment_in r i).end

-- the traces below node j
abbrev pub traces_under : List ℤ → ℕ → List ℕ → List ℕ → List ℕ → ℕ → List Trace
traces_under samples n sizes starts order j = traces_at samples n (numbers_laid_at sizes starts order j)

-- node j's record has exactly their figures
abbrev pub exact_in : List ℤ → List ℤ → ℕ → List ℕ → List ℕ → List ℕ → ℕ → Bool
exact_in samples nodes n sizes starts order j = are_exact (traces_under samples n sizes starts order j) 1 (segments_in (record_of nodes j))

-- what is told of m nodes and their numbers where figures are compared: an inner node's numbers are those of its children
pub record ReadyToCompare (samples nodes : List ℤ) (n m : ℕ) (sizes starts order : List ℕ) : Type 0 where
  pub narrow : n ≤ most_samples
  pub nodes_few : m ≤ most_nodes
  pub nodes_room : m * record_places ≤ length nodes
  pub sizes_places : length sizes ≡ node_places
  pub starts_places : length starts ≡ node_places
  pub order_places : length order ≡ most_traces
  pub inside : (j : ℕ) → j < m → get_or starts j 0 + get_or sizes j 0 ≤ most_traces
  pub stored : (j t : ℕ) → j < m → In t (numbers_laid_at sizes starts order j) → t * n + n ≤ length samples
  pub some : (j : ℕ) → j < m → 0 < length (numbers_laid_at sizes starts order j)
  pub fits : (j : ℕ) → j < m → Fits n (ends (segments_in (record_of nodes j)))
  pub left_in : (j : ℕ) → j < m → 1 ≤ small_at (record_of nodes j) kind_place
      → (j < small_at (record_of nodes j) first_place) × (small_at (record_of nodes j) first_place < m)
  pub right_in : (j : ℕ) → j < m → 1 ≤ small_at (record_of nodes j) kind_place
      → (j < small_at (record_of nodes j) right_place) × (small_at (record_of nodes j) right_place < m)
  pub of_both : (j : ℕ) → j < m → 1 ≤ small_at (record_of nodes j) kind_place → numbers_laid_at sizes starts order j
      ≡ numbers_laid_at sizes starts order (small_at (record_of nodes j) first_place) ++ numbers_laid_at sizes starts order
      (small_at (record_of nodes j) right_place)

-- node j is one of the nodes
pub record ReadyAt (samples nodes : List ℤ) (n : ℕ) (sizes starts order : List ℕ) (j : ℕ) : Type 0 where
  pub m : ℕ
  pub ready : ReadyToCompare samples nodes n m sizes starts order
  pub inside : j < m

-- .. and all above it have exactly the figures of the traces below them
pub record AboveExact (samples nodes : List ℤ) (n : ℕ) (sizes starts order : List ℕ) (j : ℕ) : Type 0 where
  pub m : ℕ
  pub ready : ReadyToCompare samples nodes n m sizes starts order
  pub inside : j < m
  pub above : (c : ℕ) → j < c → c < m → T (exact_in samples nodes n sizes starts order c)
