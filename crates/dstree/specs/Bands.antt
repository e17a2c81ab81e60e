-- Document 02, §10: "How many lie within each band. To choose a sensible alarm distance I want a report that reads no traces".
use Rattle.std.specs.Prelude.{ℕ, zero, suc, ◌*◌, ◌-◌, ◌≤◌, ◌<◌, min, ◌≡◌, Bool, not, ◌&&◌, List, [], ◌∷◌, map, length, get_or, T, leb, ltb, eqb}
use Rattle.std.proofs.Math.Option.{none, some}
use Rattle.integer.specs.Words.{those, total}
use Rattle.segment.specs.Figures.{distance}
use Rattle.segment.specs.Upper.{sum_reach, scatter_reach, upper_term, upper_most}
use Rattle.dstree.specs.Measures.{Trace, Measures, within, is_trace, are_samples}
use Rattle.dstree.specs.Figures.{Run, width, sum_on, scatter_on}
use Rattle.dstree.specs.Node.{Segment, Node, Tree, node_at, total_over}
use Rattle.dstree.specs.Matching.{parent_from, bound, numbers_in, leaves}
use Rattle.dstree.specs.WellFormed.{rising, well_formed_tree}
use Rattle.dstree.specs.Claims.{Below, ExactTree}
use Rattle.dstree.specs.Refusals.{Condition, ◌refuses◌, wrong_trace, sample_range, bad_edges, short_trail}

-- ---- the upper figure

-- "per segment, (G² + (ceiling root of greatest scatter + ceiling root of U)²) / w rounded down, with G the larger distance from t to the
-- least or greatest sum"
unfoldable pub upper_on : Trace → Run → Segment → ℕ
upper_on query on s =
    let g = sum_reach (sum_on on query) s.least_sum s.greatest_sum in
    let h = scatter_reach (scatter_on on query) s.greatest_scatter in
    upper_term (width on) g h

-- "A node's upper figure totals" these
unfoldable pub own_upper : Trace → Node → ℕ
own_upper query a = total_over (upper_on query) 1 a.segments

-- "the smallest on the path counts": a node's own, or its parent's if that is smaller. A parent is numbered below its children, so that the
-- number of nodes is fuel enough
unfoldable pub upper_from : ℕ → Tree → Trace → ℕ → ℕ
upper_from zero tree query number = own_upper query (node_at tree number)
upper_from (suc fuel) tree query number =
    let own = own_upper query (node_at tree number) in
    min own (elim (parent_from 0 tree number) [ none ↦ own | some parent ↦ upper_from fuel tree query parent ])

abbrev pub upper : Tree → Trace → ℕ → ℕ
upper tree query = upper_from (length tree) tree query

-- ---- bands

-- "I give 2 to 16 edges, each above the last"
abbrev pub most_edges : ℕ
most_edges = 16

unfoldable pub is_edges : List ℕ → Bool
is_edges edges = within 2 (length edges) most_edges && rising edges

pub record Band : Type 0 where
  pub start : ℕ
  pub end : ℕ

-- "each band from one edge up to .. the next"
unfoldable pub bands_of : List ℕ → List Band
bands_of [] = []
bands_of (a ∷ []) = []
bands_of (a ∷ (b ∷ rest)) = record { start = a; end = b } ∷ bands_of (b ∷ rest)

-- ".. up to but not including the next"
abbrev pub in_band : Band → ℕ → Bool
in_band band d = leb band.start d && ltb d band.end

-- ---- the report

-- "A leaf's traces are sure when bound and upper figure both lie in the band"
unfoldable pub is_sure : Tree → Trace → Band → ℕ → Bool
is_sure tree query band leaf = in_band band (bound tree query leaf) && in_band band (upper tree query leaf)

-- ".. possible when the bound is below the band's end and the upper figure not below its start"
unfoldable pub is_possible : Tree → Trace → Band → ℕ → Bool
is_possible tree query band leaf = ltb (bound tree query leaf) band.end && leb band.start (upper tree query leaf)

-- how many traces some leaves have
unfoldable pub traces_among : Tree → List ℕ → ℕ
traces_among tree set = total (map (λ number. length (numbers_in (node_at tree number).kind)) set)

-- "it says how many traces surely lie in it and how many may"
pub record BandCount : Type 0 where
  pub sure : ℕ
  pub possible : ℕ

unfoldable pub band_count : Tree → Trace → Band → BandCount
band_count tree query band = record {
  sure = traces_among tree (those (is_sure tree query band) (leaves tree));
  possible = traces_among tree (those (is_possible tree query band) (leaves tree));
}

-- "For each band". "A report that reads no traces": it is made of the tree and the query alone
unfoldable pub band_report : Tree → Trace → List ℕ → List BandCount
band_report tree query edges = map (band_count tree query) (bands_of edges)

-- a report in the places that a caller lends for it: two for each band
unfoldable pub report_places : List BandCount → List ℕ
report_places [] = []
report_places (a ∷ rest) = a.sure ∷ a.possible ∷ report_places rest

-- "16 bad edges, wrong count or not rising, after 15; a report list short of one record per band is 7". 4 and 15 stand before, as of any
-- query. "An empty library reports zeros", so that there is no 6
abbrev pub band_conditions : ℕ → Trace → List ℕ → List ℕ → List Condition
band_conditions n query edges list =
    not (eqb (length query) n) refuses wrong_trace
    ∷ not (are_samples query) refuses sample_range
    ∷ not (is_edges edges) refuses bad_edges
    ∷ ltb (length list) (2 * (length edges - 1)) refuses short_trail
    ∷ []

-- ---- what is claimed

-- "The true number": how many stored traces lie in a band
unfoldable pub true_count : List Trace → Trace → Band → ℕ
true_count stored query band = length (those (in_band band) (map (distance query) stored))

-- of a tree with exact ranges, whoever made it
pub record BandClaims (stored : List Trace) (tree : Tree) (query : Trace) : Type 0 where
  -- no trace below a node is nearer than the node's bound or farther than its upper figure
  pub bound_at_most : (number trace : ℕ) → Below tree trace number → bound tree query number ≤ distance query (get_or stored trace [])
  pub upper_at_least : (number trace : ℕ) → Below tree trace number → distance query (get_or stored trace []) ≤ upper tree query number
  -- "The true number lies between"
  pub at_least_sure : (band : Band) → (band_count tree query band).sure ≤ true_count stored query band
  pub at_most_possible : (band : Band) → true_count stored query band ≤ (band_count tree query band).possible
  -- "An empty library reports zeros"
  pub empty_zeros : length stored ≡ 0 → (band : Band) → band_count tree query band ≡ record { sure = 0; possible = 0 }

abbrev pub BandsOfExact : Type 0
BandsOfExact = (limit : ℕ) (m : Measures) (stored : List Trace) (tree : Tree) → ExactTree limit m stored tree
    → (query : Trace) → length query ≡ m.n → BandClaims stored tree query

-- of any tree, whoever made it
pub record ReportClaims (tree : Tree) (query : Trace) (edges : List ℕ) : Type 0 where
  -- "one record per band", one band fewer than edges
  pub one_each : length (band_report tree query edges) ≡ length edges - 1
  pub places : length (report_places (band_report tree query edges)) ≡ 2 * (length edges - 1)
  -- what is sure in a band is possible there
  pub sure_possible : (band : Band) (leaf : ℕ) → T (is_sure tree query band leaf) → T (is_possible tree query band leaf)
  pub no_more_sure : (band : Band) → (band_count tree query band).sure ≤ (band_count tree query band).possible
  -- .. and only in bands that overlap it: of rising edges in no other
  pub nowhere_else : (band other : Band) (leaf : ℕ) → T (is_sure tree query band leaf) → T (is_possible tree query other leaf)
      → (other.start < band.end) × (band.start < other.end)

abbrev pub ReportAnywhere : Type 0
ReportAnywhere = (tree : Tree) (query : Trace) (edges : List ℕ) → ReportClaims tree query edges

-- how large an upper figure gets on any well-formed tables: at 20 bits at most 2^41 for each of the n samples
abbrev pub UpperOfFormed : Type 0
UpperOfFormed = (limit : ℕ) (m : Measures) (count : ℕ) (tree : Tree) → T (well_formed_tree limit m count tree)
    → (query : Trace) → T (is_trace limit m.n query) → (number : ℕ) → upper tree query number ≤ upper_most limit m.n
