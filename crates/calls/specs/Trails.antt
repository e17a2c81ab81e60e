-- A trail: its order, and tables that differ only off it. "Samples in leaves off the trail don't bear on a search".
use Rattle.std.specs.Prelude.{ℕ, ◌+◌, ◌*◌, ◌<◌, ◌≡◌, not, List, map, length, set, ℤ, T}
use Rattle.integer.specs.Words.{is_in}
use Rattle.integer.specs.Sorting.{Ordered}
use Rattle.dstree.specs.Measures.{Trace}
use Rattle.dstree.specs.Node.{Tree}
use Rattle.dstree.specs.Matching.{bound, before}
use Rattle.dstree.specs.Claims.{numbers_among}
use Rattle.tables.specs.Tables.{Tables, labelled_tables, measures_of}
use Rattle.tables.specs.View.{trace_in, tree_in}

-- "The trail lists the leaf numbers in reading order": "by bound, then by number"
abbrev pub ByBound : Tree → Trace → List ℕ → Type 0
ByBound tree query trail = Ordered before (map (λ number. record { number = number; bound = bound tree query number }) trail)

-- tables that differ "only in samples of traces outside" some leaves: what is not a sample is the same, and so are the samples of the
-- traces in these leaves. (Samples behind the stored traces may differ as well)
pub record DifferOutside (set : List ℕ) (these other : Tables) : Type 0 where
  pub control_same : other.control ≡ these.control
  pub nodes_same : other.nodes ≡ these.nodes
  pub links_same : other.links ≡ these.links
  pub work_same : other.work ≡ these.work
  pub labels_same : other.labels ≡ these.labels
  pub as_long : length other.samples ≡ length these.samples
  pub samples_same : (trace : ℕ) → T (is_in trace (numbers_among (tree_in these) set))
      → trace_in other.samples (measures_of these).n trace ≡ trace_in these.samples (measures_of these).n trace

-- with another word at a place of the samples table
abbrev pub with_word : Tables → ℕ → ℤ → Tables
with_word t place word =
    labelled_tables t.control (set t.samples place word) t.nodes t.links t.work t.labels

-- there are such tables: every sample of every trace outside these leaves may be any, one after another
pub record MayDiffer (those : List ℕ) (these : Tables) : Type 0 where
  pub not_at_all : DifferOutside those these these
  pub in_a_sample : (other : Tables) → DifferOutside those these other → (trace at : ℕ) (word : ℤ) → at < (measures_of these).n
      → T (not (is_in trace (numbers_among (tree_in these) those)))
      → DifferOutside those these (with_word other (trace * (measures_of these).n + at) word)
