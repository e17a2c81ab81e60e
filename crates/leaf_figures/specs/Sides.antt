-- The figures of a side's traces on a run, as they are taken one trace after another. Each trace of a leaf has a mark, and a side is the
-- traces with one mark.
use Rattle.std.specs.Prelude.{ℕ, ◌≤◌, min, max, Option, Some, None, unwrap_or, List, ℤ, pos, nat_abs, get_or, eqb}
use Rattle.integer.specs.Words.{lesser, greater, those}
use Rattle.segment.specs.Limits.{sum_most, scatter_most}
use Rattle.dstree.specs.Measures.{Trace, most_samples}
use Rattle.dstree.specs.Node.{Segment}
use Rattle.dstree.specs.Adding.{traces_of}
use Rattle.tables.specs.Walk.{stored_in, numbers_of, Stored}
use Rattle.leaf_figures.specs.declared.stored.StoredLeaf.{StoredLeaf}
use Rattle.leaf_figures.specs.declared.sides.SideRange.{SideRange}

-- the numbers with a mark
abbrev pub marked : List ℕ → ℕ → List ℕ → List ℕ
marked marks mark numbers = those (λ t. eqb (get_or marks t 0) mark) numbers

-- a stored leaf's list lies in the tables, and all traces do
abbrev pub IsStored : StoredLeaf → Type 0
IsStored x = Stored x.samples.now x.links.now x.n x.k x.head

-- a stored leaf's traces with a mark, and their numbers
abbrev pub side_numbers : StoredLeaf → List ℕ → ℕ → List ℕ
side_numbers x marks mark = marked marks mark (numbers_of x.links.now x.k x.head)

abbrev pub side_traces : StoredLeaf → List ℕ → ℕ → List Trace
side_traces x marks mark = traces_of (stored_in x.samples.now x.n x.k) (side_numbers x marks mark)

-- the figures of no trace
abbrev pub no_figures : SideRange
no_figures = record { least_sum = pos 0; greatest_sum = pos 0; least_scatter = 0; greatest_scatter = 0 }

-- the figures of the traces so far, and of none where there are none yet
abbrev pub or_none : Option SideRange → SideRange
or_none f = unwrap_or f no_figures

-- one trace's figures alone
abbrev pub one_figures : ℤ → ℕ → SideRange
one_figures s v = record { least_sum = s; greatest_sum = s; least_scatter = v; greatest_scatter = v }

-- one trace's figures more
unfoldable pub with_figures : Option SideRange → ℤ → ℕ → SideRange
with_figures None s v = one_figures s v
with_figures (Some f) s v = record {
  least_sum = lesser f.least_sum s;
  greatest_sum = greater f.greatest_sum s;
  least_scatter = min f.least_scatter v;
  greatest_scatter = max f.greatest_scatter v;
}

-- figures of at most 256 samples
pub record SmallFigures (f : SideRange) : Type 0 where
  pub least_sum_lem : nat_abs f.least_sum ≤ sum_most most_samples
  pub greatest_sum_lem : nat_abs f.greatest_sum ≤ sum_most most_samples
  pub least_scatter_lem : f.least_scatter ≤ scatter_most most_samples
  pub greatest_scatter_lem : f.greatest_scatter ≤ scatter_most most_samples

-- the figures as a segment of a node's record
abbrev pub segment_by : ℕ → SideRange → Segment
segment_by end f = record {
  end = end;
  least_sum = f.least_sum;
  greatest_sum = f.greatest_sum;
  least_scatter = f.least_scatter;
  greatest_scatter = f.greatest_scatter;
}
