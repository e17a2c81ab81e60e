-- Document 01, "Sum, scatter, root", of a trace on a run of its samples. The figures themselves stand in `segment`: `Figures` has sum,
-- scatter and distance, `Roots` the two roots.
use Rattle.std.specs.Prelude.{ℕ, suc, ◌-◌, List, take, drop, ℤ}
use Rattle.segment.specs.Figures.{sum, scatter}
use Rattle.dstree.specs.Measures.{Trace}

-- a run of consecutive samples, by its first and its last. "Samples are numbered from 1"
pub record Run : Type 0 where
  pub first : ℕ
  pub last : ℕ

abbrev pub run : ℕ → ℕ → Run
run first last = record { first = first; last = last }

-- w
abbrev pub width : Run → ℕ
width r = suc r.last - r.first

-- the samples of a trace on a run
unfoldable pub samples_on : Run → Trace → List ℤ
samples_on r x = take (width r) (drop (r.first - 1) x)

abbrev pub sum_on : Run → Trace → ℤ
sum_on r x = sum (samples_on r x)

abbrev pub scatter_on : Run → Trace → ℕ
scatter_on r x = scatter (samples_on r x)
