-- Every record of well-formed tables is bounded, so that whoever has tested the tables may ask for a node's bound.
use mathlib.Core.List.{List}
use mathlib.Core.Path.{subst}
use Prim.Native.Nat.{ℕ, ◌+◌, ◌*◌, ◌≤◌, ◌<◌}
use lib.ListN.{length}
use Rattle.dstree.specs.Measures.{sample_limit}
use Rattle.dstree.specs.Node.{Segment, ends}
use Rattle.dstree.specs.Formed.{Fits, AllLimited, Formed}
use Rattle.tables.specs.Layout.{record_places}
use Rattle.tables.specs.Tables.{Tables, measures_of, trace_count, node_count, record_of}
use Rattle.tables.specs.View.{tree_in}
use Rattle.tables.proofs.Frame.{record_length}
use Rattle.tables.proofs.Views.{tree_segments, tree_inside}
use Rattle.query.specs.Bounded.{Bounded}

-- node j of the tables
module _ (t : Tables) (formed : Formed sample_limit (measures_of t) (trace_count t) (tree_in t)) (j : ℕ) (h : j < node_count t) where
  pub bounded_at : j * record_places + record_places ≤ length t.nodes → Bounded (record_of t.nodes j) (measures_of t).n
  bounded_at room = record {
    places = record_length t.nodes j room;
    fits = subst (λ (l : List Segment). Fits (measures_of t).n (ends l)) (tree_segments t j h) (formed.shape.fits j (tree_inside t j h));
    limited = subst (AllLimited sample_limit 1) (tree_segments t j h) (formed.limits.figures j (tree_inside t j h));
  }
