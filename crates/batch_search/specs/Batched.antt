-- What the search for a batch leaves: what is found is what the definitions' steps give, in one equation.
use Rattle.std.specs.Prelude.{ℕ, ◌≤◌, ◌≡◌, List, length, take, drop}
use Rattle.dstree.specs.Measures.{Trace, work_needed}
use Rattle.dstree.specs.Matching.{Near}
use Rattle.dstree.specs.Batch.{Batch, queries_in, batch_by_steps}
use Rattle.tables.specs.Tables.{Tables, measures_of, filled}
use Rattle.tables.specs.View.{tree_in, traces_in}
use Rattle.reading.specs.Listed.{nears_in}
use Rattle.integer.specs.Written.{Written}
pub use Rattle.integer.specs.Written.{Noted}

-- ---- the trail

-- these numbers, written to the trail's beginning; its other places stay
abbrev pub TrailBegins : (numbers trail trail' : List ℕ) → Type 0
TrailBegins = Written

-- ---- what is left

-- what a batch has found, as code keeps it
abbrev pub batch : List Near → ℕ → List ℕ → Batch
batch answers leaves trail = record { answers = answers; leaves = leaves; trail = trail }

-- the first records, the leaves read and the trail's beginning are what the steps give; the trail's other places stay, and the needed
-- places of search work are zero
pub record BatchSearched (t : Tables) (run : Trace) (many : ℕ) (work work' trail trail' bests : List ℕ) (out : ℕ) : Type 0 where
  pub found : batch (nears_in many bests) out (take out trail') ≡ batch_by_steps (traces_in t) (tree_in t) (queries_in (measures_of t).n many run)
  pub within : out ≤ length trail
  pub trail_rest : drop out trail' ≡ drop out trail
  pub work_zero : work' ≡ filled (work_needed (measures_of t)) 0 work
