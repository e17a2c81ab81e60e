-- Demand 1, of every call on every memory: its definition refuses with the first condition that holds and hands back what it was lent, or
-- does its work within the places that the measures need.
use Prim.Native.Nat.{ℕ, ◌+◌, ◌*◌, ◌≤◌, ◌<◌}
use mathlib.Core.Path.{◌≡◌, refl, sym, ap, subst, ◌∙◌}
use mathlib.Core.Bool.{not}
use mathlib.Core.Option.{Option, none, some}
use mathlib.Core.List.{List, [], ◌∷◌, ◌++◌}
use native.Mathlib.Omega.{arith}
use lib.ListN.{length, drop, replicate, length-replicate, get_or-append}
use lib.Seq.{drop-append-le}
use lib.Dec.{T, ltb}
use borrow.Author.Tests.{ltb-false}
use Rattle.dstree.specs.Measures.{Trace, Measures, sample_limit, in_range, is_library, samples_needed, records_needed, links_needed, work_needed, labels_needed}
use Rattle.dstree.specs.Labels.{Label, no_label, are_labels}
use Rattle.dstree.specs.Refusals.{Refusal, first_of, measure, full, bad_recording}
use Rattle.dstree.specs.Recording.{judge_recording, file_traces, is_bad_file}
use Rattle.dstree.specs.Sheet.{are_bytes, Judged, refused, holds}
use Rattle.dstree.specs.SheetWidths.{judge_sheet}
use Rattle.dstree.specs.Pair.{pair_front}
use Rattle.dstree.specs.Book.{Ask, opening, adding, searching, writing, reading, importing, exporting, checking, labelling, pairing, Call, beside_of}
use Rattle.dstree.specs.Book.{Reply, reply, short_conditions, reading_conditions}
use Rattle.dstree.proofs.Conditions.{none_first, none_both}
use Rattle.dstree.proofs.RoundTrips.{is_library_lem, are_labels_lem}
use Rattle.dstree.proofs.Recordings.{file_traces_lem}
use Rattle.tables.specs.Layout.{layout, control_fields, record_places, n_place, capacity_place, leaf_size_place}
use Rattle.tables.specs.Tables.{Tables, lent_of, field, measures_of, trace_count}
use Rattle.tables.specs.View.{labels_over, next_labelled}
use Rattle.tables.specs.Judge.{opening_conditions_of, Room}
use Rattle.tables.specs.Beginning.{first_places, left, Begins}
use Rattle.tables.specs.Answers.{opening_conditions, made_conditions, opened}
use Rattle.tables.proofs.Views.{tree_formed}
use Rattle.tables.proofs.Samples.{stored_are}
use Rattle.tables.proofs.Beginning.{extended, rest_of, begins_is, tables_same, left_same, left_extended, left_lent, begins_within}
use Rattle.tables.proofs.Beginning.{first_begins, fill_length, opened_lent}
use Rattle.tables.proofs.Labels.{over_behind, next_lent}
use Rattle.insertion_memory.specs.Memory.{added_with}
use Rattle.insertion_memory.proofs.FromTables.{long_of}
use Rattle.insertion_memory.proofs.Meaning.{AfterAdding, meaning}
use Rattle.insertion_memory.proofs.Keeps.{TakesAll, keeps_all}
use Rattle.insertion_memory.proofs.Labels.{labelled_formed, labelled_takes}
use Rattle.calls.specs.Outcome.{Effect, unless_refused}
use Rattle.calls.specs.Library.{loaded, beyond}
use Rattle.calls.specs.Effects.{opens, adds, cleared, writes, loaded_by, reads, imports, exports, checks, tells_label, pairs, effect_of}
use Rattle.calls.specs.Follows.{Typed, Follows}
use Rattle.calls.specs.Demands.{OneCall}
use Rattle.tables.proofs.Judged.{accepted}
use Rattle.calls.proofs.Taken.{Taken, taken}
use Rattle.calls.proofs.Library.{opened_beyond, few_labels, loaded_holds, loaded_lent, loaded_beyond, fill_behind}
use Rattle.calls.proofs.Kept.{short_room}
use Rattle.calls.proofs.Steps.{reply_is, memory_is}

-- tables into which an import is not refused refuse nothing of its traces
pub import_takes : (t : Tables) (bytes : List ℕ) → T (are_bytes bytes)
    → first_of (imports t bytes).conditions ≡ none → TakesAll t (file_traces (judge_recording (measures_of t).n bytes))
unfolding imports
import_takes t bytes are_bytes_lem e =
    let file = judge_recording (measures_of t).n bytes in
    let one = none_first (is_bad_file file) bad_recording _ (none_both (made_conditions t) _ e).1 in
    let two = none_first (ltb (measures_of t).capacity (trace_count t + length (file_traces file))) full _ one.1 in
    let ok = accepted t (none_both (made_conditions t) _ e).0 in
    let long = long_of t ok.room in
    record {
      formed = ok.formed;
      long = long;
      room = ltb-false (measures_of t).capacity (trace_count t + length (file_traces file)) two.0;
      stored = stored_are t long (tree_formed t ok.formed).room;
      each = file_traces_lem (measures_of t).n bytes are_bytes_lem;
    }

-- ---- what a call that is not refused leaves

-- tables after a call, whose measures are those of the library that they then hold
pub record Untouched (t after : Tables) : Type 0 where
  pub lengths_same : lent_of after ≡ lent_of t
  pub room : Room (lent_of t) (measures_of after)
  pub beyond_same : beyond (measures_of after) after ≡ beyond (measures_of after) t

module _ (t : Tables) where
  opening_untouched : (m : Measures) → first_of (opens t m).conditions ≡ none → Untouched t (opened t m)
  unfolding opens opening_conditions opening_conditions_of opened
  opening_untouched m e =
      let r = short_room (lent_of t) m [] (none_first (not (in_range m)) measure (short_conditions layout (lent_of t) m) e).1 in
      record { lengths_same = opened_lent t m r; room = r; beyond_same = opened_beyond t m r }

  adding_taken : (x : Trace) (l : Label) → first_of (adds t x l).conditions ≡ none → Taken (measures_of t) (trace_count t) x
  unfolding adds
  adding_taken x l e = taken (measures_of t) (trace_count t) x (none_both (made_conditions t) _ e).1

  adding_room : (x : Trace) (l : Label) → first_of (adds t x l).conditions ≡ none → trace_count t < (measures_of t).capacity
  unfolding adds
  adding_room x l e = (adding_taken x l e).less (tree_formed t (accepted t (none_both (made_conditions t) _ e).0).formed).room

  -- what an adding that is not refused means, its label being put first
  pub adding_means : (x : Trace) (l : Label) → first_of (adds t x l).conditions ≡ none → AfterAdding (next_labelled t (l ∷ [])) x
  unfolding adds
  adding_means x l e =
      let ok = accepted t (none_both (made_conditions t) _ e).0 in
      meaning (next_labelled t (l ∷ [])) x (labelled_formed t (labels_over t.labels (trace_count t) (l ∷ [])) ok.formed) (long_of t ok.room)
      (adding_taken x l e).is_trace_lem (adding_room x l e)

  -- there is a place for its label
  pub adding_fits : (x : Trace) (l : Label) → first_of (adds t x l).conditions ≡ none → trace_count t + 1 ≤ (measures_of t).capacity
  adding_fits x l e = omega (arith, adding_room x l e)

  -- some labels more, where there is room for as many traces
  next_untouched : (labels : List Label) → Room (lent_of t) (measures_of t) → trace_count t + length labels ≤ (measures_of t).capacity
      → Untouched t (next_labelled t labels)
  unfolding labels_needed
  next_untouched labels room few =
      let fits : trace_count t + length labels ≤ length t.labels = omega (arith, few, room.labels_room) in
      record {
        lengths_same = next_lent t labels fits;
        room = room;
        beyond_same = tables_same refl refl refl refl refl (over_behind t.labels (trace_count t) labels fits (measures_of t).capacity few);
      }

  adding_untouched : (x : Trace) (l : Label) → first_of (adds t x l).conditions ≡ none → Untouched t (added_with t (x ∷ []) (l ∷ []))
  unfolding adds
  adding_untouched x l e =
      let ok = accepted t (none_both (made_conditions t) _ e).0 in
      let a = adding_means x l e in
      let u = next_untouched (l ∷ []) ok.room (adding_fits x l e) in
      record {
        lengths_same = a.lengths_stay ∙ u.lengths_same;
        room = rw a.measures_stay ok.room;
        beyond_same = rw a.measures_stay
            (tables_same a.control_behind a.samples_behind a.nodes_behind a.links_behind
            (ap (drop (work_needed (measures_of t))) a.work_stays) (ap (drop (labels_needed (measures_of t))) a.labels_stay)
            ∙ u.beyond_same);
      }

  -- a search
  searching_untouched : first_of (made_conditions t) ≡ none → Untouched t (cleared t)
  searching_untouched e =
      let r = (accepted t e).room in
      let k : ℕ = work_needed (measures_of t) in
      record {
        lengths_same = rw (fill_length {A = ℕ} k 0 t.work r.work_room);
        room = r;
        beyond_same = tables_same refl refl refl refl (fill_behind {A = ℕ} k 0 t.work) refl;
      }

  -- a writing, an export, a check, the bench's call
  read_untouched : first_of (made_conditions t) ≡ none → Untouched t t
  read_untouched e = record { lengths_same = refl; room = (accepted t e).room; beyond_same = refl }

  reading_by : (j : Judged)
      → ((m : Measures) (traces : List Trace) (labels : List Label) → j ≡ holds m traces labels
      → T (is_library sample_limit m traces) × T (are_labels (length traces) labels))
      → first_of (reading_conditions layout (lent_of t) j) ≡ none → Untouched t (loaded_by t j)
  unfolding reading_conditions first_of loaded_by
  reading_by (refused why) is e = let z : ◌≡◌ {A = ℕ} 0 1 = cc in absurd (omega arith)
  reading_by (holds m traces labels) is e =
      let r = short_room (lent_of t) m [] e in
      let library = (is m traces labels refl).0 in
      let few = few_labels m traces labels library (is m traces labels refl).1 in
      let m_is : measures_of (loaded t m traces labels) ≡ m = (loaded_holds t m r traces labels library).measures_are in
      record {
        lengths_same = loaded_lent t m r traces labels library few;
        room = rw m_is r;
        beyond_same = rw m_is
            (loaded_beyond t m r traces labels library few);
      }

  importing_untouched : (bytes : List ℕ) → T (are_bytes bytes) → first_of (imports t bytes).conditions ≡ none
      → let traces = file_traces (judge_recording (measures_of t).n bytes) in
      Untouched t (added_with t traces (replicate (length traces) no_label))
  unfolding imports
  importing_untouched bytes are_bytes_lem e =
      let ok = accepted t (none_both (made_conditions t) _ e).0 in
      let traces = file_traces (judge_recording (measures_of t).n bytes) in
      let zeros : List Label = replicate (length traces) no_label in
      let takes = import_takes t bytes are_bytes_lem e in
      let a = keeps_all (next_labelled t zeros) traces (labelled_takes t (labels_over t.labels (trace_count t) zeros) takes) in
      let u = next_untouched zeros ok.room (omega (arith, takes.room, length-replicate (length traces) no_label)) in
      record {
        lengths_same = a.lengths_stay ∙ u.lengths_same;
        room = rw a.measures_stay ok.room;
        beyond_same = rw a.measures_stay
            (tables_same a.control_behind a.samples_behind a.nodes_behind a.links_behind
            (ap (drop (work_needed (measures_of t))) a.work_stays) (ap (drop (labels_needed (measures_of t))) a.labels_stay)
            ∙ u.beyond_same);
      }

  pub after_untouched : (ask : Ask) → Typed ask → first_of (effect_of ask t).conditions ≡ none → Untouched t (effect_of ask t).after
  unfolding effect_of opens adds writes reads imports exports checks tells_label pairs Typed
  after_untouched (opening m) typed e = opening_untouched m e
  after_untouched (adding x l) typed e = adding_untouched x l e
  after_untouched (searching q) typed e = searching_untouched (none_both (made_conditions t) _ e).0
  after_untouched (writing sheet) typed e = read_untouched (none_both (made_conditions t) _ e).0
  after_untouched (reading bytes) typed e = reading_by (judge_sheet bytes)
      (λ m traces labels j. (is_library_lem bytes m traces labels typed j, are_labels_lem bytes m traces labels typed j)) e
  after_untouched (importing bytes) typed e = importing_untouched bytes typed e
  after_untouched (exporting number rate buffer) typed e = read_untouched (none_both (made_conditions t) _ e).0
  after_untouched checking typed e = read_untouched (none_both (made_conditions t) _ e).0
  after_untouched (labelling number) typed e = read_untouched (none_both (made_conditions t) _ e).0
  after_untouched (pairing which other query trail) typed e =
      searching_untouched (none_both (made_conditions t) _ (none_both (pair_front which other) _ e).1).0

-- ---- the same of a memory whose first places are lent

-- more places behind: measures, and the places beyond the needed ones
module _ (t more : Tables) (m : Measures) (room : Room (lent_of t) m) where
  extended_measures : measures_of (extended t more) ≡ measures_of t
  extended_measures = rw (of n_place (omega arith), of capacity_place (omega arith), of leaf_size_place (omega arith))
    where
      of : (i : ℕ) → i < control_fields → field (t.control ++ more.control) i ≡ field t.control i
      of i h = get_or-append t.control more.control 0 i (omega (arith, room.long.control_long))

  extended_beyond : beyond m (extended t more) ≡ extended (beyond m t) more
  extended_beyond = tables_same
      (drop-append-le control_fields t.control more.control room.long.control_long)
      (drop-append-le (samples_needed m) t.samples more.samples room.long.samples_long)
      (drop-append-le (records_needed m * record_places) t.nodes more.nodes room.long.nodes_long)
      (drop-append-le (links_needed m) t.links more.links room.long.links_long)
      (drop-append-le (work_needed m) t.work more.work room.work_room)
      (drop-append-le (labels_needed m) t.labels more.labels room.labels_room)

abbrev Whole : Tables → Tables → Type 0
Whole memory memory' = (lent_of memory' ≡ lent_of memory) × (beyond (measures_of memory') memory' ≡ beyond (measures_of memory') memory)

whole : (part after memory : Tables) → Begins part memory → Untouched part after → Whole memory (left after memory)
whole part after memory begins u =
    let e : memory ≡ extended part more = begins_is part memory begins in (
      left_lent after memory (rw u.lengths_same (begins_within part memory begins)),
      by memory (left after memory) e
          (ap (left after) e ∙ left_extended part after more u.lengths_same),
    )
  where
    more : Tables
    more = rest_of part memory

    m : Measures
    m = measures_of after

    room : Room (lent_of after) m
    room = rw u.lengths_same u.room

    by : (k k' : Tables) → k ≡ extended part more → k' ≡ extended after more → beyond (measures_of k') k' ≡ beyond (measures_of k') k
    by k k' e e' = rw (e, e')
        (subst (λ (n : Measures). beyond n (extended after more) ≡ beyond n (extended part more))
        (sym (extended_measures after more m room))
        (extended_beyond after more m room ∙ (ap (λ (t : Tables). extended t more) u.beyond_same
        ∙ sym (extended_beyond part more m u.room))))

-- ---- demand 1

pub one_call : (c : Call) (memory memory' : Tables) (said : Reply) → Follows c memory said memory' → OneCall c memory said memory'
unfolding unless_refused
one_call c memory memory' said f = by (first_of e.conditions) refl (reply_is f) (memory_is f)
  where
    part : Tables
    part = first_places c.lent memory

    e : Effect
    e = effect_of c.ask part

    begins : Begins part memory
    begins = first_begins c.lent memory

    by : (o : Option Refusal) → first_of e.conditions ≡ o → let r = unless_refused o part (beside_of c.ask) e in
        said ≡ reply r.answer r.beside → memory' ≡ left r.after memory → OneCall c memory said memory'
    by (some w) q r k = record {
      refuses = λ why p. ap (λ (x : Reply). x.answer) r ∙ cc;
      works = λ p. let z : ◌≡◌ {A = ℕ} 0 1 = cc in absurd (omega arith);
      as_before = λ why p. (k ∙ left_same part memory begins, ap (λ (x : Reply). x.beside) r);
      untouched = λ result p. let z : ◌≡◌ {A = ℕ} 0 1 = cc (ap (λ (x : Reply). x.answer) r) in absurd (omega arith);
    }
    by none q r k = record {
      refuses = λ why p. let z : ◌≡◌ {A = ℕ} 0 1 = cc in absurd (omega arith);
      works = λ p. (r, k);
      as_before = λ why p. let z : ◌≡◌ {A = ℕ} 0 1 = cc (ap (λ (x : Reply). x.answer) r) in absurd (omega arith);
      untouched = λ result p. rw k (whole part e.after memory begins (after_untouched part c.ask f.typed q));
    }
