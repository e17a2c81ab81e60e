-- The rules of "Well-formed tables" on one record, on the records of a node and its child, and on all records in use.
use Rattle.std.specs.Prelude.{ℕ, suc, ◌*◌, ◌-◌, ◌≤◌, ◌<◌, ◌≡◌, Bool, true, ◌&&◌, List, [], ◌∷◌, map, ℤ, length, leb, ltb, eqb, if◌then◌else◌}
use Rattle.integer.specs.Words.{every, counting, is_in}
use Rattle.integer.specs.Lists.{Up}
use Rattle.dstree.specs.Measures.{sample_limit, most_samples, most_nodes}
use Rattle.dstree.specs.Figures.{run, width}
use Rattle.dstree.specs.Node.{Segment, Figure, by_sum, by_scatter, Kind, ends, most_segments}
use Rattle.dstree.specs.WellFormed.{children_of, ends_fit, segment_fits, segments_fit, test_fits}
use Rattle.tables.specs.Layout.{kind_place, record_places}
use Rattle.tables.specs.Tables.{record_of}
use Rattle.tables.specs.View.{small_at, segment_in, segments_in, kind_in}

-- ---- one record

-- a node's kind as its record alone tells it: an inner node's children and test, and of a leaf only that it is one
abbrev pub kind_alone : List ℤ → Kind
kind_alone r = kind_in [] 0 r (small_at r kind_place)

-- the figure of an inner node's test, by the kind field
abbrev pub figure_named : ℕ → Figure
figure_named kind = if eqb kind 1 then by_sum else by_scatter

-- a child is above node j, and one of m nodes
abbrev pub child_fits : ℕ → ℕ → ℕ → Bool
child_fits m j child = ltb j child && ltb child m

-- "every kind field a value that its layout names", "inner children numbered above their parent", "T between twice those limits, on a run
-- inside 1 to n"
unfoldable pub head_fits : ℕ → ℕ → ℕ → List ℤ → Bool
head_fits n m j r = leb (small_at r kind_place) 2 && every (child_fits m j) (children_of (kind_alone r)) && test_fits sample_limit n (kind_alone r)

-- "at most 16 ends, rising, last n", and the limits of each segment
unfoldable pub segments_hold : ℕ → List ℤ → Bool
segments_hold n r = ends_fit n (ends (segments_in r)) && segments_fit sample_limit 1 (segments_in r)

unfoldable pub record_fits : ℕ → ℕ → ℕ → List ℤ → Bool
record_fits n m j r = head_fits n m j r && segments_hold n r

-- the first `count` segments of a record from segment i on
abbrev pub segments_in_from : List ℤ → ℕ → ℕ → List Segment
segments_in_from r count i = map (segment_in r) (counting count i)

-- a number is above `low`, and `high` at most
abbrev pub between : ℕ → ℕ → ℕ → Bool
between low high x = ltb low x && leb x high

-- the same two rules segment by segment, `before` being the end before the first: the ends rise to n, and each segment's figures are in
-- their limits
unfoldable pub rest_holds : ℕ → ℕ → List Segment → Bool
rest_holds n before [] = eqb before n
rest_holds n before (s ∷ rest) =
    ltb before s.end && segment_fits sample_limit (width (run (suc before) s.end)) s && rest_holds n s.end rest

-- a segment's end is behind the end before it, 256 at most, and its figures are in their limits
pub record Behind (before : ℕ) (s : Segment) : Type 0 where
  pub above : before < s.end
  pub inside : s.end ≤ most_samples
  pub figures : segment_fits sample_limit (s.end - before) s ≡ true

-- ---- a node and its child

-- "a child's ends including its parent's"
abbrev pub ends_in : List Segment → List Segment → Bool
ends_in child parent = every (λ end. is_in end (ends child)) (ends parent)

-- of node j and each of its children
unfoldable pub kept_at : List ℤ → ℕ → Bool
kept_at nodes j =
    every (λ child. ends_in (segments_in (record_of nodes child)) (segments_in (record_of nodes j))) (children_of (kind_alone (record_of nodes j)))

-- the segments of a child's record hold, and its ends include its parent's
pub record Under (n : ℕ) (child parent : List ℤ) : Type 0 where
  pub hold : segments_hold n child ≡ true
  pub keeps : ends_in (segments_in child) (segments_in parent) ≡ true

-- of node j and each of its children
pub record ChildrenUnder (n : ℕ) (nodes : List ℤ) (j : ℕ) : Type 0 where
  pub hold : every (λ child. segments_hold n (record_of nodes child)) (children_of (kind_alone (record_of nodes j))) ≡ true
  pub kept : kept_at nodes j ≡ true

-- ---- all records in use

unfoldable pub records_fit : ℕ → ℕ → List ℤ → Bool
records_fit n m nodes = every (λ j. record_fits n m j (record_of nodes j)) (counting m 0)

unfoldable pub all_kept : ℕ → List ℤ → Bool
all_kept m nodes = every (kept_at nodes) (counting m 0)

-- ---- what callers know

-- the ends of a record's first segments rise
pub record EndsRise (r : List ℤ) (count : ℕ) : Type 0 where
  pub few : count ≤ most_segments
  pub rise : Up 0 (ends (segments_in_from r count 0))
  pub low : (i : ℕ) → i < count → (segment_in r i).end ≤ most_samples

-- the records of m nodes are in the table, and fit
pub record AllFit (m : ℕ) (nodes : List ℤ) : Type 0 where
  pub n : ℕ
  pub short : n ≤ most_samples
  pub fit : records_fit n m nodes ≡ true
  pub room : m * record_places ≤ length nodes
  pub low : m ≤ most_nodes

-- node j is one of them
pub record InUse (j : ℕ) (nodes : List ℤ) : Type 0 where
  pub m : ℕ
  pub all : AllFit m nodes
  pub inside : j < m

-- node j is in the table, and its head fits
pub record HeadFits (j : ℕ) (nodes : List ℤ) : Type 0 where
  pub n : ℕ
  pub m : ℕ
  pub fit : head_fits n m j (record_of nodes j) ≡ true
  pub room : m * record_places ≤ length nodes
  pub low : m ≤ most_nodes
  pub inside : j < m
