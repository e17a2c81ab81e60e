-- Tables that refuse nothing of a trace.
use Rattle.std.specs.Prelude.{ℕ, ◌<◌, List, [], ℤ, T}
use Rattle.dstree.specs.Measures.{Trace, sample_limit, is_trace}
use Rattle.tables.specs.Tables.{tables, measures_of, trace_count}
use Rattle.tables.specs.View.{well_formed}
use Rattle.tables.specs.Holds.{Long}

pub record Takes (control : List ℕ) (samples nodes : List ℤ) (links : List ℕ) (x : Trace) : Type 0 where
  pub formed : T (well_formed (tables control samples nodes links []))
  pub long : Long (tables control samples nodes links [])
  -- n samples within the limits
  pub is_trace_lem : T (is_trace sample_limit (measures_of (tables control samples nodes links [])).n x)
  pub less : trace_count (tables control samples nodes links []) < (measures_of (tables control samples nodes links [])).capacity
