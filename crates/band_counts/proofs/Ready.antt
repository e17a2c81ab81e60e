-- Tables that a report may be made of: their nodes may be counted, and there is search work enough.
use Prim.Native.Nat.{ℕ, suc, ◌+◌, ◌*◌, ◌≤◌, ◌<◌}
use mathlib.Core.Path.{◌≡◌, refl, sym, subst}
use mathlib.Core.List.{List}
use native.Mathlib.Omega.{arith}
use native.Mathlib.Nat.{mul-le-mul_right}
use lib.ListN.{length}
use Rattle.dstree.specs.Measures.{Trace, Measures, sample_limit, records_needed, work_needed}
use Rattle.dstree.specs.Formed.{Formed}
use Rattle.dstree.proofs.Nodes.{nodes_most}
use Rattle.tables.specs.Layout.{record_places}
use Rattle.tables.specs.Tables.{Tables, measures_of, trace_count, node_count, record_of}
use Rattle.tables.specs.View.{tree_in}
use Rattle.tables.specs.Judge.{InRange}
use Rattle.tables.proofs.Views.{tree_size, tree_formed, measures_fit}
use Rattle.tables.proofs.ByKind.{walks}
use Rattle.query.specs.Bounded.{Bounded}
use Rattle.query.proofs.FromRules.{bounded_at}
use Rattle.band_counts.specs.Counted.{Countable}
use Rattle.band_counts.specs.Reported.{Reportable}

pub as_many : (m : Measures) → records_needed m ≡ work_needed m
unfolding records_needed work_needed
as_many m = refl

module _ (t : Tables) (query : Trace) (edges : List ℕ) (work list : ℕ) (r : Reportable t query edges work list) where
  rules : Formed sample_limit (measures_of t) (trace_count t) (tree_in t)
  rules = tree_formed t r.formed

  range : InRange (measures_of t)
  range = measures_fit t r.formed

  pub few_samples : length query ≤ 256
  few_samples = omega (arith, r.same_length, range.n_high)

  pub capacity_fits : (measures_of t).capacity ≤ 4096
  capacity_fits = range.capacity_high

  pub some_work : 1 ≤ work_needed (measures_of t)
  unfolding work_needed
  some_work = omega (arith, range.capacity_low)

  pub nodes_needed : node_count t ≤ work_needed (measures_of t)
  unfolding work_needed
  nodes_needed = omega (arith, tree_size t, nodes_most rules.shape, rules.room)

  record_room : (j : ℕ) → j < node_count t → j * record_places + record_places ≤ length t.nodes
  unfolding records_needed work_needed
  record_room j h =
      let room : suc j * record_places ≤ records_needed (measures_of t) * record_places =
      mul-le-mul_right record_places (omega (arith, h, nodes_needed)) in
      omega (arith, room, r.nodes_long)

  pub countable : Countable t.nodes t.links (trace_count t) (node_count t) query edges
  countable = record {
    walks = walks t r.formed r.nodes_long r.links_long;
    bounded = λ j h. subst (Bounded (record_of t.nodes j)) (sym r.same_length) (bounded_at t rules j h (record_room j h));
    edged = r.edged;
  }
