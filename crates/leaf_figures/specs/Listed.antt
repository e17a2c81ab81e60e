-- Numbers of traces that lie in the table of samples whole.
use Rattle.std.specs.Prelude.{ℕ, ◌+◌, ◌*◌, ◌≤◌, ◌<◌, List, map, ℤ, length}
use Rattle.integer.specs.Lists.{In}
use Rattle.dstree.specs.Measures.{Trace, most_samples, most_traces}
use Rattle.tables.specs.View.{trace_in}

-- the traces of some numbers
abbrev pub traces_at : List ℤ → ℕ → List ℕ → List Trace
traces_at samples n numbers = map (trace_in samples n) numbers

-- numbers below k of traces that lie in the table whole
pub record TracesListed (samples : List ℤ) (n k : ℕ) (list : List ℕ) : Type 0 where
  pub narrow : n ≤ most_samples
  pub few : length list ≤ most_traces
  pub inside : (t : ℕ) → In t list → t * n + n ≤ length samples
  pub below : (t : ℕ) → In t list → t < k
