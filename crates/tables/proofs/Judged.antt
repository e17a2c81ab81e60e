-- What it says of lengths, measures and contents that nothing was refused.
use mathlib.Core.Path.{◌≡◌}
use mathlib.Core.Bool.{false, not, ◌||◌}
use mathlib.Core.Option.{none}
use mathlib.Core.List.{[], ◌∷◌}
use Prim.Native.Nat.{◌*◌}
use lib.Dec.{T, ltb}
use borrow.Author.Tests.{ltb-false, not-false}
use Rattle.integer.proofs.Tests.{is_true, neither}
use Rattle.dstree.specs.Measures.{Measures, in_range, samples_needed, records_needed, links_needed, work_needed}
use Rattle.dstree.specs.Refusals.{◌refuses◌, first_of, spoiled}
use Rattle.dstree.specs.Book.{Lent, control_short, tables_short}
use Rattle.dstree.proofs.Conditions.{none_first, none_both}
use Rattle.tables.specs.Layout.{layout, record_places}
use Rattle.tables.specs.Tables.{Tables, lent_of, measures_of}
use Rattle.tables.specs.View.{well_formed}
use Rattle.tables.specs.Judge.{lent_conditions_of, InRange, Room, LongEnough}
use Rattle.tables.specs.Answers.{made_conditions, Lends}
use Rattle.tables.proofs.Range.{in_range_lem}
use Rattle.tables.proofs.Samples.{made_is}

pub room_of : (lengths : Lent) (m : Measures) → control_short layout lengths ≡ false → tables_short layout lengths m ≡ false → Room lengths m
unfolding control_short tables_short
room_of lengths m control others =
    let four = neither (ltb lengths.samples (samples_needed m) || ltb lengths.nodes (records_needed m * record_places)
    || ltb lengths.links (links_needed m) || ltb lengths.work (work_needed m)) _ others in
    let three = neither (ltb lengths.samples (samples_needed m) || ltb lengths.nodes (records_needed m * record_places) || ltb lengths.links (links_needed m)) _ four.0 in
    let two = neither (ltb lengths.samples (samples_needed m) || ltb lengths.nodes (records_needed m * record_places)) _ three.0 in
    let one = neither (ltb lengths.samples (samples_needed m)) _ two.0 in
    record {
      long = record {
        control_long = ltb-false _ _ control;
        samples_long = ltb-false _ _ one.0;
        nodes_long = ltb-false _ _ one.1;
        links_long = ltb-false _ _ two.1;
      };
      work_room = ltb-false _ _ three.1;
      labels_room = ltb-false _ _ four.1;
    }

pub lent_long_enough : (lengths : Lent) (m : Measures) → first_of (lent_conditions_of lengths m) ≡ none → LongEnough lengths m
unfolding lent_conditions_of
lent_long_enough lengths m e =
    let one = none_first (control_short layout lengths) _ _ e in
    let two = none_first (not (in_range m)) _ _ one.1 in
    let three = none_first (tables_short layout lengths m) _ _ two.1 in
    record { range = in_range_lem m (not-false _ two.0); room = room_of lengths m one.0 three.0 }

-- tables that lengths and measures do not refuse
pub lends : (t : Tables) → first_of (lent_conditions_of (lent_of t) (measures_of t)) ≡ none → Lends t.control t.nodes t.links
unfolding lent_conditions_of records_needed links_needed
lends t e =
    let one = none_first (control_short layout (lent_of t)) _ _ e in
    let two = none_first (not (in_range (measures_of t))) _ _ one.1 in
    let ok = lent_long_enough (lent_of t) (measures_of t) e in
    let long = ok.room.long in
    record { control_long = long.control_long; measured = not-false _ two.0; nodes_long = long.nodes_long; links_long = long.links_long }

-- what holds of tables that every call takes: well formed, with measures in range that they are long enough for
pub record Accepted (t : Tables) : Type 0 where
  pub range : InRange (measures_of t)
  pub room : Room (lent_of t) (measures_of t)
  pub formed : T (well_formed t)

pub accepted : (t : Tables) → first_of (made_conditions t) ≡ none → Accepted t
accepted t e =
    let parts = none_both (lent_conditions_of (lent_of t) (measures_of t)) (not (well_formed t) refuses spoiled ∷ []) (rw (made_is t) at e) in
    let lent = lent_long_enough (lent_of t) (measures_of t) parts.0 in
    let one = none_first (not (well_formed t)) spoiled [] parts.1 in
    record { range = lent.range; room = lent.room; formed = is_true {b = well_formed t} (not-false _ one.0) }
