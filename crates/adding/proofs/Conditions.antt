-- Tables that refuse nothing of a trace take it.
use mathlib.Core.Path.{◌≡◌}
use mathlib.Core.Bool.{true, not}
use mathlib.Core.Option.{none}
use mathlib.Core.List.{[], ◌∷◌}
use Prim.Native.Nat.{◌<◌}
use native.Mathlib.Omega.{arith}
use lib.ListN.{length}
use lib.Dec.{eqb}
use borrow.Author.Tests.{not-false, eqb-false}
use Rattle.integer.proofs.Tests.{is_true, passes}
use Rattle.integer.proofs.Lists.{strict}
use Rattle.dstree.specs.Measures.{Trace, are_samples, is_trace, labels_needed}
use Rattle.dstree.specs.Labels.{Label}
use Rattle.dstree.specs.Refusals as word
use Rattle.dstree.specs.Refusals.{first_of}
use Rattle.dstree.proofs.Conditions.{none_first, none_both}
use Rattle.tables.specs.Tables.{Tables, measures_of, trace_count}
use Rattle.tables.specs.View.{tree_in, kinds_named, well_formed}
use Rattle.tables.specs.Answers.{made_conditions}
use Rattle.tables.proofs.Judged.{accepted}
use Rattle.tables.proofs.Views.{tree_formed}
use Rattle.insertion_memory.proofs.FromTables.{long_of}
use Rattle.calls.specs.Effects.{adds}
use Rattle.adding.specs.Putting.{Takes}

-- whatever the search work holds
pub takes : (t : Tables) (x : Trace) (l : Label) → first_of (adds t x l).conditions ≡ none
    → Takes t.control t.samples t.nodes t.links x
unfolding adds well_formed kinds_named tree_in is_trace
takes t x l e =
    let parts = none_both (made_conditions t) _ e in
    let ok = accepted t parts.0 in
    let two = none_first (not (eqb (length x) (measures_of t).n)) word.wrong_trace _ parts.1 in
    let three = none_first (not (are_samples x)) word.sample_range _ two.1 in
    let four = none_first (eqb (trace_count t) (measures_of t).capacity) word.full _ three.1 in
    let size : eqb (length x) (measures_of t).n ≡ true = not-false _ two.0 in
    let inside : are_samples x ≡ true = not-false _ three.0 in
    let long = long_of t ok.room in
    record {
      formed = ok.formed;
      long = record { control_long = long.control_long; samples_long = long.samples_long; nodes_long = long.nodes_long; links_long = long.links_long };
      is_trace_lem = passes (eqb (length x) (measures_of t).n) (are_samples x ∷ []) (is_true size, is_true inside);
      less = strict (tree_formed t ok.formed).room (λ q. eqb-false (trace_count t) (measures_of t).capacity four.0 q);
    }

-- .. and have a place for its label
pub has_place : (t : Tables) (x : Trace) (l : Label) → first_of (adds t x l).conditions ≡ none → trace_count t < length t.labels
unfolding adds labels_needed
has_place t x l e =
    omega (arith, (takes t x l e).less, (accepted t (none_both (made_conditions t) _ e).0).room.labels_room)
