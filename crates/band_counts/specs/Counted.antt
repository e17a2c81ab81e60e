-- The counts of a report in the caller's list, node after node.
use Rattle.std.specs.Prelude.{ℕ, suc, ◌+◌, ◌*◌, ◌-◌, ◌≤◌, ◌<◌, ◌≡◌, Bool, ◌&&◌, List, map, ℤ, length, get_or, set, T, leb, eqb, if◌then◌else◌}
use Rattle.integer.specs.Words.{those, counting}
use Rattle.dstree.specs.Measures.{Trace, most_traces}
use Rattle.dstree.specs.Node.{Tree, node_at}
use Rattle.dstree.specs.Matching.{has_child, is_leaf_kind}
use Rattle.dstree.specs.Bands.{is_edges, Band, BandCount, is_sure, is_possible, traces_among}
use Rattle.tables.specs.Tables.{record_of}
use Rattle.tables.specs.Nodes.{Walks}
use Rattle.query.specs.Bounded.{Bounded}
use Rattle.band_counts.specs.Reached.{reached_at, reached_above}

-- ---- the list

-- band number k lies between edges number k and k + 1
abbrev pub band_at : List ℕ → ℕ → Band
band_at edges k = record { start = get_or edges k 0; end = get_or edges (suc k) 0 }

-- its count: two places of the list
abbrev pub count_at : List ℕ → ℕ → BandCount
count_at list k = record { sure = get_or list (2 * k) 0; possible = get_or list (2 * k + 1) 0 }

-- the counts of the first so many bands
unfoldable pub counts_in : ℕ → List ℕ → List BandCount
counts_in bands list = map (count_at list) (counting bands 0)

-- the list with another count for a band
abbrev pub with_count : List ℕ → ℕ → BandCount → List ℕ
with_count list k c = set (set list (2 * k) c.sure) (2 * k + 1) c.possible

-- a count, and a leaf with so many traces more. In band number k a figure has reached k + 1 edges: the leaf is sure there if its bound and
-- its upper figure both have, and possible if its bound has reached no more and its upper figure no fewer
abbrev pub count_with : ℕ → ℕ → ℕ → ℕ → BandCount → BandCount
count_with by_bound by_upper traces k c = record {
  sure = c.sure + (if eqb by_bound (suc k) && eqb by_upper (suc k) then traces else 0);
  possible = c.possible + (if leb by_bound (suc k) && leb (suc k) by_upper then traces else 0);
}

-- ---- node after node

-- how many traces the leaves have that pass a test, of the nodes before number `to`
unfoldable pub counted_to : Tree → (ℕ → Bool) → ℕ → ℕ
counted_to tree passes to = traces_among tree (those passes (those (λ number. is_leaf_kind (node_at tree number).kind) (counting to 0)))

-- of such a count there is room in a place: no leaf has more than 4,096 traces
pub record CountFits (to : ℕ) (c : BandCount) : Type 0 where
  pub sure_small : c.sure ≤ to * most_traces
  pub possible_small : c.possible ≤ to * most_traces

-- m nodes over k traces that may be walked and asked for their figures, and edges that may be given
pub record Countable (nodes : List ℤ) (links : List ℕ) (k m : ℕ) (query : Trace) (edges : List ℕ) : Type 0 where
  pub walks : Walks nodes links k m
  pub bounded : (j : ℕ) → j < m → Bounded (record_of nodes j) (length query)
  pub edged : T (is_edges edges)

-- nodes below `to` have been taken: their children's places of search work have what they have reached, the list's what their leaves give
pub record CountedTo (tree : Tree) (query : Trace) (edges : List ℕ) (to : ℕ) (work list : List ℕ) : Type 0 where
  pub work_long : length tree ≤ length work
  pub list_long : 2 * (length edges - 1) ≤ length list
  pub at_first : to ≡ 0 → get_or work 0 0 ≡ reached_above edges
  pub handed : (parent child : ℕ) → parent < to → T (has_child child (node_at tree parent).kind)
      → get_or work child 0 ≡ reached_at tree query edges parent
  pub counts : (k : ℕ) → suc k < length edges → count_at list k ≡ record {
    sure = counted_to tree (is_sure tree query (band_at edges k)) to;
    possible = counted_to tree (is_possible tree query (band_at edges k)) to;
  }
  pub small : (k : ℕ) → suc k < length edges → CountFits to (count_at list k)
