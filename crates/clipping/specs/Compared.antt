-- Stored traces beside the low and high figures of a sweep: what the two passes over them are given, and what they find.
use Rattle.std.specs.Prelude.{ℕ, ◌*◌, ◌≤◌, ◌<◌, ◌≡◌, Bool, false, List, [], map, ℤ, length, leb}
use Rattle.integer.specs.Words.{counting, those}
use Rattle.segment.specs.Limits.{sample_most, SamplesWithin}
use Rattle.segment.specs.Clipped.{least_from, is_crossed}
use Rattle.dstree.specs.Measures.{Trace, most_samples, most_traces, work_needed}
use Rattle.tables.specs.Tables.{Tables, tables, measures_of, trace_count}
use Rattle.tables.specs.View.{trace_in}

-- so many traces of n samples
abbrev pub stored_in : List ℤ → ℕ → ℕ → List Trace
stored_in samples n count = map (trace_in samples n) (counting count 0)

-- as many low and high figures as a trace has samples, each within their limits, no low above its high
pub record Figures (n : ℕ) (lows highs : Trace) : Type 0 where
  pub narrow : n ≤ most_samples
  pub low_size : length lows ≡ n
  pub high_size : length highs ≡ n
  pub lows_within : SamplesWithin sample_most lows
  pub highs_within : SamplesWithin sample_most highs
  pub uncrossed : is_crossed lows highs ≡ false

-- the samples table has so many traces
pub record Comparable (samples : List ℤ) (n count : ℕ) (lows highs : Trace) : Type 0 where
  pub figures : Figures n lows highs
  pub few : count ≤ most_traces
  pub room : count * n ≤ length samples

-- the least distance of trace t is at most a limit
abbrev pub is_within : List ℤ → ℕ → Trace → Trace → ℕ → ℕ → Bool
is_within samples n lows highs limit t = leb (least_from lows highs (trace_in samples n t)) limit

-- the numbers of such traces, by number
abbrev pub those_within : List ℤ → ℕ → ℕ → Trace → Trace → ℕ → List ℕ
those_within samples n count lows highs limit = those (is_within samples n lows highs limit) (counting count 0)

-- ---- the tables

-- control record and samples alone: nothing else bears on what is listed
abbrev pub samples_only : List ℕ → List ℤ → Tables
samples_only control samples = tables control samples [] [] []

-- such tables with a trace, beside search work and a list of so many places
pub record Listable (t : Tables) (lows highs : Trace) (work list : ℕ) : Type 0 where
  pub comparable : Comparable t.samples (measures_of t).n (trace_count t) lows highs
  pub some_trace : 0 < trace_count t
  pub capacity_few : (measures_of t).capacity ≤ most_traces
  pub work_long : work_needed (measures_of t) ≤ work
  pub list_long : trace_count t ≤ list
