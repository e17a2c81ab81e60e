-- Tables, a query, edges and a list that refuse nothing: a report may be made of them.
use Prim.Native.Nat.{ℕ, ◌*◌, ◌-◌}
use mathlib.Core.Path.{◌≡◌}
use mathlib.Core.Bool.{not}
use mathlib.Core.Option.{none}
use mathlib.Core.List.{List}
use lib.ListN.{length}
use lib.Dec.{eqb, ltb}
use borrow.Author.Tests.{not-false, eqb-true, ltb-false}
use Rattle.integer.proofs.Tests.{is_true}
use Rattle.segment.specs.Limits.{sample_most, SamplesWithin}
use Rattle.dstree.specs.Measures.{Trace, sample_limit, are_samples}
use Rattle.dstree.specs.Bands.{is_edges}
use Rattle.dstree.specs.Refusals.{first_of, wrong_trace, sample_range, bad_edges, short_trail}
use Rattle.dstree.proofs.Conditions.{none_first, none_both}
use Rattle.tables.specs.Tables.{Tables, measures_of}
use Rattle.tables.specs.View.{kinds_named, tree_in, well_formed}
use Rattle.tables.specs.Answers.{made_conditions}
use Rattle.tables.proofs.Judged.{accepted}
use Rattle.tables.proofs.Samples.{samples_inside_lem}
use Rattle.calls.specs.Effects.{bands}
use Rattle.band_counts.specs.Reported.{records_only, Reportable}

pub record MayReport (t : Tables) (query : Trace) (edges list : List ℕ) : Type 0 where
  pub ready : Reportable (records_only t.control t.nodes t.links) query edges (length t.work) (length list)
  pub inside : SamplesWithin sample_most query

pub may_report : (t : Tables) (query : Trace) (edges list : List ℕ) → first_of (bands t query edges list).conditions ≡ none
    → MayReport t query edges list
unfolding well_formed kinds_named tree_in sample_limit
may_report t query edges list e =
    let parts = none_both (made_conditions t) _ e in
    let ok = accepted t parts.0 in
    let one = none_first (not (eqb (length query) (measures_of t).n)) wrong_trace _ parts.1 in
    let two = none_first (not (are_samples query)) sample_range _ one.1 in
    let three = none_first (not (is_edges edges)) bad_edges _ two.1 in
    let four = none_first (ltb (length list) (2 * (length edges - 1))) short_trail _ three.1 in
    record {
      ready = record {
        formed = ok.formed;
        nodes_long = ok.room.long.nodes_long;
        links_long = ok.room.long.links_long;
        work_long = ok.room.work_room;
        same_length = eqb-true (length query) (measures_of t).n (not-false _ one.0);
        edged = is_true (not-false (is_edges edges) three.0);
        list_long = ltb-false (length list) (2 * (length edges - 1)) four.0;
      };
      inside = samples_inside_lem query (not-false (are_samples query) two.0);
    }
