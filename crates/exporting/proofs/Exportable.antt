-- Tables, a trace's number, a rate and a buffer that nothing is refused of.
use Prim.Native.Nat.{ℕ, suc, ◌+◌, ◌*◌, ◌≤◌, ◌<◌}
use mathlib.Core.Path.{◌≡◌}
use mathlib.Core.Bool.{Bool, not, ◌&&◌}
use mathlib.Core.Option.{none}
use mathlib.Core.List.{List, [], ◌∷◌}
use native.Mathlib.Nat.{mul-le-mul_right}
use native.Mathlib.Omega.{arith}
use lib.ListN.{length, get_or}
use lib.Dec.{ltb, ltb→lt}
use borrow.Author.Tests.{not-false, ltb-false}
use Rattle.integer.proofs.Tests.{is_true, passed}
use Rattle.dstree.specs.Measures.{are_within, most_samples, samples_needed}
use Rattle.dstree.specs.Refusals.{first_of, bad_recording, sheet_length}
use Rattle.dstree.specs.Sheet.{narrow_limit}
use Rattle.dstree.specs.Recording.{rate_limit, recording_size}
use Rattle.dstree.proofs.Conditions.{none_first, none_both}
use Rattle.tables.specs.Tables.{Tables, measures_of, trace_count}
use Rattle.tables.specs.View.{traces_in}
use Rattle.tables.specs.Answers.{made_conditions}
use Rattle.tables.proofs.Judged.{accepted}
use Rattle.tables.proofs.Views.{tree_formed}
use Rattle.calls.specs.Effects.{exports}

pub record Exportable (t : Tables) (number rate buffer : ℕ) : Type 0 where
  pub low : rate < rate_limit
  pub numbered : number < trace_count t
  pub few : (measures_of t).n ≤ most_samples
  -- the trace is among the samples
  pub inside : number * (measures_of t).n + (measures_of t).n ≤ length t.samples
  pub long : recording_size (measures_of t).n ≤ buffer

pub exportable : (t : Tables) (number rate : ℕ) (buffer : List ℕ) → first_of (exports t number rate buffer).conditions ≡ none
    → Exportable t number rate (length buffer)
unfolding exports samples_needed
exportable t number rate buffer e =
    let n : ℕ = (measures_of t).n in
    let both_fit : Bool = ltb rate rate_limit && ltb number (trace_count t) in
    let parts = none_both (made_conditions t) _ e in
    let ok = accepted t parts.0 in
    let one = none_first (not both_fit) bad_recording _ parts.1 in
    let two = none_first (not (are_within narrow_limit (get_or (traces_in t) number []))) bad_recording _ one.1 in
    let three = none_first (ltb (length buffer) (recording_size n)) sheet_length _ two.1 in
    let both = passed (ltb rate rate_limit) (ltb number (trace_count t) ∷ []) (is_true {b = both_fit} (not-false both_fit one.0)) in
    let less : suc number ≤ trace_count t = ltb→lt number (trace_count t) both.1 in
    let most : trace_count t ≤ (measures_of t).capacity = (tree_formed t ok.formed).room in
    record {
      low = ltb→lt rate rate_limit both.0;
      numbered = less;
      few = ok.range.n_high;
      inside = omega (arith, mul-le-mul_right n less, mul-le-mul_right n most, ok.room.long.samples_long);
      long = ltb-false (length buffer) (recording_size n) three.0;
    }
