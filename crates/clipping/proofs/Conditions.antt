-- Tables, lows, highs and a list that refuse nothing: the possible matches may be listed.
use Prim.Native.Nat.{ℕ, ◌≤◌}
use mathlib.Core.Path.{◌≡◌}
use mathlib.Core.Bool.{not}
use mathlib.Core.Option.{none}
use mathlib.Core.List.{List}
use native.Mathlib.Nat.{pos_of_ne-zero, mul-le-mul_right}
use native.Mathlib.Omega.{arith}
use lib.ListN.{length}
use lib.Dec.{eqb, ltb}
use borrow.Author.Tests.{not-false, eqb-true, eqb-false, ltb-false}
use Rattle.segment.specs.Clipped.{is_crossed}
use Rattle.dstree.specs.Measures.{Trace, sample_limit, are_samples, samples_needed}
use Rattle.dstree.specs.Refusals.{first_of, wrong_trace, sample_range, crossed_range, empty, short_trail}
use Rattle.dstree.proofs.Conditions.{none_first, none_both}
use Rattle.tables.specs.Tables.{Tables, measures_of, trace_count}
use Rattle.tables.specs.Answers.{made_conditions}
use Rattle.tables.proofs.Views.{tree_formed}
use Rattle.tables.proofs.Judged.{accepted}
use Rattle.tables.proofs.Samples.{samples_inside_lem}
use Rattle.calls.specs.Effects.{clips}
use Rattle.clipping.specs.Compared.{samples_only, Listable}

pub may_list : (t : Tables) (lows highs : Trace) (list : List ℕ) → first_of (clips t lows highs list).conditions ≡ none
    → Listable (samples_only t.control t.samples) lows highs (length t.work) (length list)
unfolding sample_limit samples_needed
may_list t lows highs list e =
    let n = (measures_of t).n in
    let k = trace_count t in
    let parts = none_both (made_conditions t) _ e in
    let ok = accepted t parts.0 in
    let one = none_first (not (eqb (length lows) n)) wrong_trace _ parts.1 in
    let two = none_first (not (eqb (length highs) n)) wrong_trace _ one.1 in
    let three = none_first (not (are_samples lows)) sample_range _ two.1 in
    let four = none_first (not (are_samples highs)) sample_range _ three.1 in
    let five = none_first (is_crossed lows highs) crossed_range _ four.1 in
    let six = none_first (eqb k 0) empty _ five.1 in
    let seven = none_first (ltb (length list) k) short_trail _ six.1 in
    let most : k ≤ (measures_of t).capacity = (tree_formed t ok.formed).room in
    record {
      comparable = record {
        figures = record {
          narrow = ok.range.n_high;
          low_size = eqb-true (length lows) n (not-false _ one.0);
          high_size = eqb-true (length highs) n (not-false _ two.0);
          lows_within = samples_inside_lem lows (not-false (are_samples lows) three.0);
          highs_within = samples_inside_lem highs (not-false (are_samples highs) four.0);
          uncrossed = five.0;
        };
        few = omega (arith, most, ok.range.capacity_high);
        room = omega (arith, mul-le-mul_right n most, ok.room.long.samples_long);
      };
      some_trace = pos_of_ne-zero (eqb-false k 0 six.0);
      capacity_few = ok.range.capacity_high;
      work_long = ok.room.work_room;
      list_long = ltb-false (length list) k seven.0;
    }
