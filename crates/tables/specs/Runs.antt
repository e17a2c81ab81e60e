-- A run of a stored trace's samples, as code finds it in the table.
use Rattle.std.specs.Prelude.{ℕ, ◌+◌, ◌*◌, ◌≤◌, Bool, true, false, List, ℤ, length}
use Rattle.dstree.specs.Figures.{run}
use Rattle.dstree.specs.Node.{Figure, by_sum, by_scatter, Test}
use Rattle.dstree.specs.Formed as formed
use Rattle.dstree.specs.Measures.{most_samples}

-- code names a figure by a flag
abbrev pub figure_by : Bool → Figure
figure_by false = by_sum
figure_by true = by_scatter

-- a test by its numbers
abbrev pub test_by : ℕ → ℕ → Bool → ℤ → Test
test_by first last flag threshold = record { on = run first last; figure = figure_by flag; threshold = threshold }

-- a run inside 1 to n, by its two samples
abbrev pub Inside : ℕ → ℕ → ℕ → Type 0
Inside n first last = formed.RunIn n (run first last)

-- .. of a trace of n samples, at most 256
pub record RunOf (n first last : ℕ) : Type 0 where
  pub narrow : n ≤ most_samples
  pub inside : Inside n first last

-- trace t of n samples is in the table whole, and the run is inside 1 to n
pub record RunOfTrace (samples : List ℤ) (n t first last : ℕ) : Type 0 where
  pub narrow : n ≤ most_samples
  pub room : t * n + n ≤ length samples
  pub inside : Inside n first last
