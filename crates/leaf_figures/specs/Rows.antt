-- The figures of some traces on some runs, kept so that samples are read once. What is kept is a table that may lack any run: a run's figures
-- are those of the samples, wherever they are read from.
use Rattle.std.specs.Prelude.{ℕ, ◌*◌, ◌+◌, ◌-◌, ◌/◌, ◌≤◌, ◌<◌, ◌≡◌, Some, None, List, pos, nat_abs, length, get_or, replicate, slice_get}
use Rattle.integer.specs.Lists.{In}
use Rattle.segment.specs.Limits.{sum_most, scatter_most}
use Rattle.dstree.specs.Measures.{Trace, most_samples, most_leaf, most_traces}
use Rattle.dstree.specs.Figures.{run, sum_on, scatter_on}
use Rattle.dstree.specs.Node.{most_segments}
use Rattle.tables.specs.View.{trace_in}
use Rattle.tables.specs.Walk.{stored_in}
use Rattle.segment.specs.declared.figures.Figures.{Figures}
pub use Rattle.leaf_figures.specs.Listed.{traces_at}
use Rattle.leaf_figures.specs.declared.listed.Listed.{Listed}
use Rattle.leaf_figures.specs.declared.table.Run.{Run}
use Rattle.leaf_figures.specs.declared.table.Column.{Column}
use Rattle.leaf_figures.specs.declared.table.ColumnView.{ColumnView}
use Rattle.leaf_figures.specs.declared.table.Table.{Table}

-- the halves of a run, the left one rounded down
abbrev pub left_half : Run → Run
left_half r = record { first = r.first; last = r.first + (r.last - r.first + 1) / 2 - 1 }

abbrev pub right_half : Run → Run
right_half r = record { first = (left_half r).last + 1; last = r.last }

-- A segment and its two halves are runs: three for each of a node's segments
abbrev pub most_runs : ℕ
most_runs = 3 * most_segments

-- a column has a figure for each trace of a leaf that is one above the greatest leaf size
abbrev pub column_rows : ℕ
column_rows = most_leaf + 1

abbrev pub no_figures_yet : Figures
no_figures_yet = record { sum = pos 0; scatter = 0 }

abbrev pub no_column : Column
no_column = record { run = None; figures = replicate column_rows no_figures_yet }

-- a lent column's run and figures
abbrev pub viewed : ColumnView → Column
viewed c = record { run = c.run; figures = c.figures.now }

-- a trace's figures on a run
pub record FiguresOf (x : Trace) (on : Run) (own : Figures) : Type 0 where
  pub sum_is : own.sum ≡ sum_on (run on.first on.last) x
  pub sum_small : nat_abs own.sum ≤ sum_most most_samples
  pub scatter_is : own.scatter ≡ scatter_on (run on.first on.last) x
  pub scatter_small : own.scatter ≤ scatter_most most_samples

-- a trace's figures on a run stand in a row
pub record FiguresAt (x : Trace) (on : Run) (figures : List Figures) (row : ℕ) : Type 0 where
  pub in_column : row < length figures
  pub own : FiguresOf x on (get_or figures row no_figures_yet)

-- trace t
abbrev pub trace_of : Listed → ℕ → Trace
trace_of l t = trace_in l.samples.now l.n t

-- all traces of a list
abbrev pub all_traces : Listed → List Trace
all_traces l = traces_at l.samples.now l.n l.list.now

-- all k traces
abbrev pub stored_of : Listed → List Trace
stored_of l = stored_in l.samples.now l.n l.k

-- trace t's figures on a run stand in its row
pub record RowOf (x : Trace) (place : List ℕ) (on : Run) (figures : List Figures) (t : ℕ) : Type 0 where
  pub placed : t < length place
  pub kept : FiguresAt x on figures (get_or place t 0)

-- the figures of some traces on a run stand in their rows
pub record RowsOn (l : Listed) (place : List ℕ) (on : Run) (figures : List Figures) : Type 0 where
  pub placed : (t : ℕ) → In t l.list.now → t < length place
  pub kept : (t : ℕ) → In t l.list.now → FiguresAt (trace_of l t) on figures (get_or place t 0)

-- 48 runs may have a column of 65 figures each. Trace t is in row `place` t of a column
pub record HasRows (l : Listed) (table : Table) : Type 0 where
  pub places : length table.columns ≡ most_runs
  pub rows : (f : ℕ) (on : Run) → (get_or table.columns f no_column).run ≡ Some on
      → RowsOn l table.place on (get_or table.columns f no_column).figures

-- lent columns, in any number: each that has a run has the figures of the traces on it. Trace t is in row `place` t of a column
pub record HasViewedRows (l : Listed) (place : List ℕ) (columns : List ColumnView) : Type 0 where
  pub rows : (f : ℕ) (c : ColumnView) (on : Run) → slice_get columns f ≡ Some c → c.run ≡ Some on → RowsOn l place on c.figures.now

-- ---- while the table is made

-- each number's row is where it stands in the list
pub record PlacesInList (list place : List ℕ) : Type 0 where
  pub places : length place ≡ most_traces
  pub inside : (t : ℕ) → In t list → t < most_traces
  pub row : (t : ℕ) → In t list → get_or place t 0 < length list
  pub back : (t : ℕ) → In t list → get_or list (get_or place t 0) 0 ≡ t

-- the first m figures of a column
abbrev pub FirstRows : Listed → Run → List Figures → ℕ → Type 0
FirstRows l on figures m = (p : ℕ) → p < m → FiguresAt (trace_of l (get_or l.list.now p 0)) on figures p

-- a column has the figures of the list's traces in the list's order, on the run that it has, if it has one
pub record FullColumn (l : Listed) (column : Column) : Type 0 where
  pub places : length column.figures ≡ column_rows
  pub rows : (on : Run) → column.run ≡ Some on → FirstRows l on column.figures (length l.list.now)

pub record Columns (l : Listed) (columns : List Column) : Type 0 where
  pub places : length columns ≡ most_runs
  pub column : (f : ℕ) → FullColumn l (get_or columns f no_column)
