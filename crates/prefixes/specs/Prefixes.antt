-- A trace's sums and sums of squares over its first samples, as code keeps them: in 257 places, of which place i is for the first i
-- samples.
use Rattle.std.specs.Prelude.{ℕ, ◌+◌, ◌≤◌, ◌≡◌, List, ℤ, pos, length, get_or, take}
use Rattle.segment.specs.Figures.{sum, sum_of_squares}
use Rattle.segment.specs.Limits.{SamplesWithin}
use Rattle.dstree.specs.Measures.{Trace, sample_limit, most_samples}

-- an array for the sums of every beginning of a trace, the empty one and the whole among them
abbrev pub prefix_places : ℕ
prefix_places = most_samples + 1

pub record Prefixes (trace : Trace) (sums : List ℤ) (squares : List ℕ) : Type 0 where
  pub sum_places : length sums ≡ prefix_places
  pub square_places : length squares ≡ prefix_places
  pub few : length trace ≤ most_samples
  pub within : SamplesWithin sample_limit trace
  pub sums_are : (i : ℕ) → i ≤ length trace → get_or sums i (pos 0) ≡ sum (take i trace)
  pub squares_are : (i : ℕ) → i ≤ length trace → get_or squares i 0 ≡ sum_of_squares (take i trace)
