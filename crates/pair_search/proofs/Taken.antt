-- What is known of a library that may be searched with another: with a node it has a trace, and is ready for a search of its own.
use Prim.Native.Nat.{ℕ, ◌≤◌, ◌<◌}
use native.Mathlib.Omega.{arith}
use native.Mathlib.Decide.{dec_le}
use lib.ListN.{length}
use Rattle.dstree.specs.Measures.{Trace, sample_limit, work_needed}
use Rattle.dstree.specs.Matching.{leaves}
use Rattle.dstree.proofs.Formed.{Formed}
use Rattle.tables.specs.Tables.{Tables, measures_of, trace_count, node_count}
use Rattle.tables.specs.View.{tree_in}
use Rattle.tables.specs.Judge.{InRange}
use Rattle.tables.proofs.Views.{tree_size, tree_formed, measures_fit}
use Rattle.search.specs.Searched.{Ready}
use Rattle.search.proofs.Facts.{leaves_most, leaves_few, nodes_needed}
use Rattle.pair_search.specs.BothSearched.{SideReady}

module _ (t : Tables) (query : Trace) (trail : ℕ) (r : SideReady t query trail) where
  in_range_lem : InRange (measures_of t)
  in_range_lem = measures_fit t r.formed

  pub length_few : length query ≤ 256
  length_few = omega (arith, r.same_length, in_range_lem.n_high)

  pub capacity_few : (measures_of t).capacity ≤ 4096
  capacity_few = in_range_lem.capacity_high

  pub ready_with : 0 < node_count t → Ready t query trail
  ready_with h = record {
    formed = r.formed;
    long = r.long;
    some_trace = by (dec_le 1 (trace_count t));
    same_length = r.same_length;
    trail_long = r.trail_long;
  }
    where
      rules : Formed sample_limit (measures_of t) (trace_count t) (tree_in t)
      rules = tree_formed t r.formed

      by : Dec (1 ≤ trace_count t) → 0 < trace_count t
      by (yes g) = g
      by (no f) = absurd (omega (arith, h, tree_size t, rules.shape.no_node (omega (arith, f))))

  -- no more nodes than needed places of search work
  pub places_needed : node_count t ≤ work_needed (measures_of t)
  places_needed = by (dec_le 1 (node_count t))
    where
      by : Dec (1 ≤ node_count t) → node_count t ≤ work_needed (measures_of t)
      by (yes h) = nodes_needed t query trail (ready_with h)
      by (no f) = omega (arith, f)

  pub few_leaves : length (leaves (tree_in t)) ≤ 8192
  few_leaves = by (dec_le 1 (node_count t))
    where
      by : Dec (1 ≤ node_count t) → length (leaves (tree_in t)) ≤ 8192
      by (yes h) = leaves_few t query trail (ready_with h)
      by (no f) = omega (arith, f, leaves_most (tree_in t), tree_size t)
