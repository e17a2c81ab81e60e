-- Tables that hold a library: made tables, with the tree that document 01's steps make of their traces.
use Rattle.std.specs.Prelude.{◌≡◌, List, length, T}
use Rattle.dstree.specs.Measures.{Trace, Measures}
use Rattle.dstree.specs.Adding.{tree_of}
use Rattle.tables.specs.Tables.{Tables, measures_of}
use Rattle.tables.specs.View.{tree_in, traces_in, well_formed}
use Rattle.tables.specs.Judge.{LongFor}

-- tables with the places that their measures need, whatever the search work
abbrev pub Long : Tables → Type 0
Long t = LongFor (measures_of t) (length t.control) (length t.samples) (length t.nodes) (length t.links)

-- tables that hold these measures and traces, and nothing is spoiled
pub record Holds (t : Tables) (m : Measures) (traces : List Trace) : Type 0 where
  pub formed : T (well_formed t)
  pub long : Long t
  pub measures_are : measures_of t ≡ m
  pub traces_are : traces_in t ≡ traces
  -- "The tree is the one that the published DSTree insertion, in document 01's whole numbers, builds from the same traces in the same
  -- order"
  pub tree_is : tree_in t ≡ tree_of m traces
