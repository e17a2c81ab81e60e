-- The traces that bytes hold, a sheet's or a recording's, and what has to hold so that they can be added.
use Rattle.std.specs.Prelude.{ℕ, ◌≤◌, ◌<◌, ◌≡◌, List, [], ℤ, length, get_or}
use Rattle.std.proofs.Math.Option.{none}
use Rattle.dstree.specs.Measures.{Trace, most_samples}
use Rattle.dstree.specs.Refusals.{first_of}
use Rattle.dstree.specs.SheetWidths.{sheet_conditions}
use Rattle.dstree.specs.Recording.{recorded_traces}
use Rattle.recording.specs.HoldsTrace as file
use Rattle.tables.specs.Tables.{tables}
use Rattle.insertion_memory.specs.Takes.{TakesAll}
use Rattle.adding.specs.Putting.{Takes}
use Rattle.sheet_blocks.specs.Traces.{size_of, count_of, sheet_traces}
use Rattle.loading.specs.declared.Source.{Source}
use Rattle.loading.specs.declared.Source.TheVariants as s

-- the traces, in order; a recording's are of n samples, a sheet says itself how many they have
abbrev pub traces_by : Source → ℕ → List ℕ → List Trace
traces_by s.Sheet n bytes = sheet_traces bytes
traces_by s.Recording n bytes = recorded_traces n bytes

-- bytes that are not refused have a trace of n samples with this number
abbrev pub HoldsTrace : Source → ℕ → List ℕ → ℕ → Type 0
HoldsTrace s.Sheet n bytes number = (first_of (sheet_conditions bytes) ≡ none) × (number < count_of bytes) × (n ≡ size_of bytes)
HoldsTrace s.Recording n bytes number = file.HoldsTrace n bytes number

-- tables that refuse nothing of the trace with this number
pub record Next (source : Source) (control : List ℕ) (samples nodes : List ℤ) (links bytes : List ℕ) (n number : ℕ) : Type 0 where
  pub few : n ≤ most_samples
  pub holds : HoldsTrace source n bytes number
  pub takes : Takes control samples nodes links (get_or (traces_by source n bytes) number [])

-- tables that refuse nothing of all of them, which are so many at least
pub record Loads (source : Source) (control : List ℕ) (samples nodes : List ℤ) (links bytes : List ℕ) (n count : ℕ) : Type 0 where
  pub few : n ≤ most_samples
  pub counted : count ≤ length (traces_by source n bytes)
  pub holds : (number : ℕ) → number < count → HoldsTrace source n bytes number
  pub takes : TakesAll (tables control samples nodes links []) (traces_by source n bytes)
