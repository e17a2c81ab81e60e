-- Tables that refuse nothing of some traces, added one after another.
use Rattle.std.specs.Prelude.{◌+◌, ◌≤◌, List, length, T}
use Rattle.integer.specs.Words.{every}
use Rattle.dstree.specs.Measures.{Trace, sample_limit, is_trace}
use Rattle.tables.specs.Tables.{Tables, measures_of, trace_count}
use Rattle.tables.specs.View.{traces_in, well_formed}
use Rattle.tables.specs.Holds.{Long}

pub record TakesAll (t : Tables) (more : List Trace) : Type 0 where
  pub formed : T (well_formed t)
  pub long : Long t
  pub room : trace_count t + length more ≤ (measures_of t).capacity
  -- n samples within the limits each
  pub stored : T (every (is_trace sample_limit (measures_of t).n) (traces_in t))
  pub each : T (every (is_trace sample_limit (measures_of t).n) more)
