-- An import that is not refused: the file's traces, and tables that take all of them.
use Rattle.std.specs.Prelude.{if◌then◌else◌}
use Prim.Native.Nat.{ℕ, ◌+◌, ◌≤◌}
use mathlib.Core.Path.{◌≡◌, refl, ap, ◌∙◌, subst}
use mathlib.Core.Bool.{Bool, true, false}
use mathlib.Core.Option.{none, some}
use mathlib.Core.List.{List, []}
use native.Mathlib.Omega.{arith}
use lib.ListN.{length}
use lib.Dec.{T}
use Rattle.dstree.specs.Measures.{Trace, labels_needed}
use Rattle.dstree.specs.Refusals.{first_of, bad_recording}
use Rattle.dstree.specs.Sheet.{are_bytes}
use Rattle.dstree.specs.Recording.{Recording, is_recording, recorded_traces, judge_recording, is_bad_file, file_traces}
use Rattle.dstree.proofs.Conditions.{none_first, none_both}
use Rattle.tables.specs.Tables.{Tables, tables, measures_of, trace_count}
use Rattle.tables.specs.View.{tree_in, traces_in, kinds_named, well_formed}
use Rattle.tables.specs.Answers.{made_conditions}
use Rattle.insertion_memory.specs.Takes.{TakesAll}
use Rattle.tables.proofs.Judged.{accepted}
use Rattle.tables.proofs.Views.{measures_fit}
use Rattle.calls.specs.Effects.{imports}
use Rattle.calls.proofs.OneCall.{import_takes}
use Rattle.loading.specs.Loads.{Loads}
use Rattle.loading.specs.declared.Source.TheVariants as s

is_sound : (b : Bool) (r : Recording) → is_bad_file (if b then some r else none) ≡ false → T b
unfolding is_bad_file
is_sound true r e = tt
is_sound false r e = let z : ◌≡◌ {A = ℕ} 0 1 = cc in absurd (omega arith)

are_traces : (b : Bool) (r : Recording) → T b → file_traces (if b then some r else none) ≡ r.traces
unfolding file_traces
are_traces true r h = refl
are_traces false r h = absurd h

without_work : (t : Tables) (more : List Trace) → TakesAll t more
    → TakesAll (tables t.control t.samples t.nodes t.links []) more
unfolding well_formed kinds_named tree_in traces_in
without_work t more k =
    record {
      formed = k.formed;
      long = k.long;
      room = k.room;
      stored = k.stored;
      each = k.each;
    }

module _ (t : Tables) (bytes : List ℕ) (e : first_of (imports t bytes).conditions ≡ none) where
  abbrev n : ℕ
  n = (measures_of t).n

  sound : T (is_recording n bytes)
  unfolding imports judge_recording
  sound =
      let file = judge_recording n bytes in
      is_sound (is_recording n bytes) _ (none_first (is_bad_file file) bad_recording _ (none_both (made_conditions t) _ e).1).0

  pub traces_are : file_traces (judge_recording n bytes) ≡ recorded_traces n bytes
  unfolding judge_recording
  traces_are = are_traces (is_recording n bytes) _ sound

  pub loads : T (are_bytes bytes) → (count : ℕ) → count ≡ length (file_traces (judge_recording n bytes))
      → Loads s.Recording t.control t.samples t.nodes t.links bytes n count
  loads are_bytes_lem count counted =
      let all : TakesAll t (recorded_traces n bytes) = subst (TakesAll t) traces_are (import_takes t bytes are_bytes_lem e) in
      let range = measures_fit t all.formed in
      let many : count ≡ length (recorded_traces n bytes) = counted ∙ ap (λ (l : List Trace). length l) traces_are in
      record {
        few = range.n_high;
        counted = omega (arith, many);
        holds = λ number h. record { some_sample = range.n_low; sound = sound; numbered = omega (arith, h, many) };
        takes = without_work t (recorded_traces n bytes) all;
      }

  -- there is a place for the label of each
  pub has_places : T (are_bytes bytes) → (count : ℕ) → count ≡ length (file_traces (judge_recording n bytes))
      → trace_count t + count ≤ length t.labels
  unfolding imports labels_needed
  has_places are_bytes_lem count counted =
      omega (
        arith,
        counted,
        (import_takes t bytes are_bytes_lem e).room,
        (accepted t (none_both (made_conditions t) _ e).0).room.labels_room,
      )
