-- Tables that are not refused have room for the records that are counted; and tables and a query of which nothing is refused may be
-- searched.
use mathlib.Core.Path.{◌≡◌}
use mathlib.Core.Option.{none}
use mathlib.Core.List.{List}
use Prim.Native.Nat.{ℕ, ◌*◌, ◌≤◌}
use lib.ListN.{length}
use Rattle.integer.proofs.Tests.{test_true}
use Rattle.segment.specs.Limits.{sample_most, SamplesWithin}
use Rattle.dstree.specs.Measures.{Trace, sample_limit, are_samples, records_needed, work_needed}
use Rattle.dstree.specs.Refusals.{first_of}
use Rattle.tables.specs.Layout.{record_places}
use Rattle.tables.specs.Tables.{Tables, measures_of, node_count}
use Rattle.tables.specs.View.{tree_in, kinds_named, well_formed}
use Rattle.tables.specs.Answers.{made_conditions}
use Rattle.tables.proofs.Judged.{accepted}
use Rattle.tables.proofs.Samples.{samples_inside_lem}
use Rattle.calls.specs.Effects.{query_conditions_in}
use Rattle.calls.proofs.Finds.{run_fits}
use Rattle.search.specs.Searched.{without_work, Ready}
use Rattle.query_judging.proofs.Counted.{records_room, records_few}

-- what `judge_query` requires
pub records_fit : (t : Tables) → first_of (made_conditions t) ≡ none
    → (node_count t * record_places ≤ length t.nodes) × (node_count t ≤ 8192)
unfolding records_needed
records_fit t fine =
    let ok = accepted t fine in
    (records_room t ok.formed ok.room.long.nodes_long, records_few t ok.formed ok.room.long.nodes_long)

-- what holds of them, whatever the search work holds
pub record QueryAccepted (t : Tables) (query : Trace) (trail : List ℕ) : Type 0 where
  pub inside : SamplesWithin sample_most query
  pub work_room : work_needed (measures_of t) ≤ length t.work
  pub ready : Ready (without_work t.control t.samples t.nodes t.links) query (length trail)

pub taken : (t : Tables) (query : Trace) (trail : List ℕ) → first_of (made_conditions t) ≡ none
    → first_of (query_conditions_in t query trail) ≡ none → QueryAccepted t query trail
unfolding well_formed kinds_named tree_in sample_limit
taken t query trail tables_fine query_fine =
    let ok = accepted t tables_fine in
    let asked = run_fits t (measures_of t).n query trail query_fine in
    record {
      inside = samples_inside_lem query (test_true (are_samples query) asked.samples);
      work_room = ok.room.work_room;
      ready = record {
        formed = ok.formed;
        long = ok.room.long;
        some_trace = asked.some_trace;
        same_length = asked.as_long;
        trail_long = asked.trail_long;
      };
    }
