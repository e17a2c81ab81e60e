-- A trace with its distance, and a stored one.
use Rattle.std.specs.Prelude.{ℕ, List, ℤ}
use Rattle.segment.specs.Figures.{distance}
use Rattle.dstree.specs.Measures.{Trace}
use Rattle.dstree.specs.Matching.{Near}
use Rattle.tables.specs.View.{trace_in}

-- a trace with its distance
abbrev pub near : ℕ → ℕ → Near
near t d = record { trace = t; distance = d }

-- stored trace t with its distance to a query
abbrev pub near_of : List ℤ → ℕ → Trace → ℕ → Near
near_of samples n query t = near t (distance query (trace_in samples n t))
