-- What a report asks of the tables. It is lent no samples.
use Rattle.std.specs.Prelude.{ℕ, ◌*◌, ◌-◌, ◌≤◌, ◌≡◌, List, [], ℤ, length, T}
use Rattle.dstree.specs.Measures.{Trace, records_needed, links_needed, work_needed}
use Rattle.dstree.specs.Bands.{is_edges}
use Rattle.tables.specs.Layout.{record_places}
use Rattle.tables.specs.Tables.{Tables, tables, measures_of}
use Rattle.tables.specs.View.{well_formed}

-- the tables without samples: neither the tree nor the rules for well-formed tables look at them
abbrev pub records_only : List ℕ → List ℤ → List ℕ → Tables
records_only control nodes links = tables control [] nodes links []

-- well-formed tables, long enough; a query of their length; edges, and a list of so many places with two for each band
pub record Reportable (t : Tables) (query : Trace) (edges : List ℕ) (work list : ℕ) : Type 0 where
  pub formed : T (well_formed t)
  pub nodes_long : records_needed (measures_of t) * record_places ≤ length t.nodes
  pub links_long : links_needed (measures_of t) ≤ length t.links
  pub work_long : work_needed (measures_of t) ≤ work
  pub same_length : length query ≡ (measures_of t).n
  pub edged : T (is_edges edges)
  pub list_long : 2 * (length edges - 1) ≤ list
