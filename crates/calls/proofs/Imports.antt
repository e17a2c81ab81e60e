-- Document 02, §2, of calls that follow their definitions: an import leaves what adding its traces one after another leaves, and what an
-- export writes is a sound recording of its trace.
-- The idea: each adding leaves tables that refuse nothing of the next trace, so that all of them together are one fold; and what an export
-- wrote is a trace of the library that the memory stores, whoever made its tree.
use Prim.Native.Nat.{ℕ, ◌+◌, ◌≤◌, ◌<◌}
use mathlib.Core.Path.{◌≡◌, refl, sym, ap, subst, ◌∙◌}
use mathlib.Core.Bool.{not, ◌&&◌}
use mathlib.Core.Option.{Option, none, some}
use mathlib.Core.List.{List, [], ◌∷◌, map}
use native.Mathlib.Omega.{arith}
use lib.ListN.{length, get_or, drop, replicate, length-replicate}
use lib.Dec.{T, ltb, leb, eqb, ltb→lt}
use borrow.Author.Tests.{not-false, eq-eqb, ne_eqb}
use mir.Facts.{and_yes}
use Rattle.integer.specs.Words.{every, counting}
use Rattle.integer.proofs.Tests.{passed, passes, is_true, test_true, eq→eqb}
use Rattle.integer.proofs.Lists.{in_get_or, from_every}
use Rattle.dstree.specs.Measures.{Trace, Measures, sample_limit, in_range, are_within, are_samples, is_trace, is_library, labels_needed}
use Rattle.dstree.specs.Labels.{Label, no_label}
use Rattle.dstree.specs.Refusals.{first_of, ◌refuses◌, spoiled, bad_recording}
use Rattle.dstree.specs.Recording.{rate_limit, recording_size, recording_of, Recording, recording, judge_recording, file_traces, is_bad_file}
use Rattle.dstree.specs.Sheet.{narrow_limit}
use Rattle.dstree.specs.Book.{Lent, Reply, reply, answering, added, imported, exported, over, Book, beside_of}
use Rattle.dstree.proofs.Conditions.{first_none, none_first, none_both}
use Rattle.dstree.proofs.Recordings.{recording_length, recording_claims}
use Rattle.dstree.proofs.Limits.{trace_length}
use Rattle.tables.specs.Tables.{Tables, labelled_tables, lent_of, measures_of, trace_count}
use Rattle.tables.specs.View.{traces_in, labels_over, next_labelled, well_formed}
use Rattle.tables.specs.Judge.{lent_conditions_of}
use Rattle.tables.specs.Beginning.{first_places, left}
use Rattle.tables.specs.Answers.{made_conditions}
use Rattle.tables.proofs.Range.{in_range_lem}
use Rattle.tables.proofs.Views.{traces_size}
use Rattle.tables.proofs.Judged.{accepted}
use Rattle.tables.proofs.Samples.{made_is}
use Rattle.tables.proofs.Labels.{no_labels, next_lent}
use Rattle.tables.proofs.Beginning.{extended, rest_of, left_same, left_begins, left_extended}
use Rattle.insertion_memory.specs.Memory.{added_with}
use Rattle.insertion_memory.proofs.Keeps.{TakesAll, first_is, first_size, takes_first, takes_others, keeps_all}
use Rattle.insertion_memory.proofs.Storing.{trace_samples}
use Rattle.insertion_memory.proofs.Labels.{labelled_takes, with_others}
use Rattle.calls.specs.Effects.{adds, imports, exports, effect_of}
use Rattle.calls.specs.Follows.{Typed, Ran, no_call, a_call}
use Rattle.calls.specs.Demands.{addings, ImportedInto, ImportsAnywhere, ExportedSound, ExportedThenImported}
use Rattle.calls.proofs.Stored.{Stores, lent_measures, lent_traces}
use Rattle.calls.proofs.OffTrail.{answered}
use Rattle.calls.proofs.OneCall.{import_takes, one_call}
use Rattle.calls.proofs.Steps.{reply_is}

-- ---- one adding after another

-- what is left twice, with the same lengths, is what is left the second time
left_twice : (part after memory : Tables) → lent_of after ≡ lent_of part → left after (left part memory) ≡ left after memory
left_twice part after memory e =
    left_extended part after (rest_of part memory) e
    ∙ ap (λ (l : Lent). extended after (labelled_tables (drop l.control memory.control) (drop l.samples memory.samples)
    (drop l.nodes memory.nodes) (drop l.links memory.links) (drop l.work memory.work)
    (drop l.labels memory.labels))) (sym e)

-- traces added in order, without labels
abbrev unlabelled : Tables → List Trace → Tables
unlabelled t traces = added_with t traces (replicate (length traces) no_label)

-- tables that no call refuses for what they hold, and that refuse nothing of some traces
record Open (t : Tables) (traces : List Trace) : Type 0 where
  fine : first_of (made_conditions t) ≡ none
  takes : TakesAll t traces

module _ {t : Tables} {traces : List Trace} (o : Open t traces) where
  -- there is a place for each label
  zeros_fit : trace_count t + length (replicate (length traces) no_label) ≤ length t.labels
  unfolding labels_needed
  zeros_fit = omega (arith, length-replicate (length traces) no_label, o.takes.room, (accepted t o.fine).room.labels_room)

  unlabelled_lent : lent_of (unlabelled t traces) ≡ lent_of t
  unlabelled_lent =
      let zeros : List Label = replicate (length traces) no_label in
      (keeps_all (next_labelled t zeros) traces (labelled_takes t (labels_over t.labels (trace_count t) zeros) o.takes)).lengths_stay
      ∙ next_lent t zeros zeros_fit

module _ {t : Tables} {x : Trace} {more : List Trace} (o : Open t (x ∷ more)) where
  first_fine : first_of (adds t x no_label).conditions ≡ none
  unfolding adds first_of
  first_fine =
      let less : trace_count t < (measures_of t).capacity = omega (arith, o.takes.room) in
      first_none (made_conditions t) _ o.fine
      ∙ rw (
        eq-eqb (length x) (measures_of t).n (first_size o.takes),
        test_true (are_samples x) (trace_samples (measures_of t).n x (first_is o.takes)),
        ne_eqb (trace_count t) (measures_of t).capacity (λ e. omega (arith, e, less)),
      )

  -- after the first of them
  abbrev next : Tables
  next = added_with t (x ∷ []) (no_label ∷ [])

  next_takes : TakesAll (next_labelled t (no_label ∷ [])) (x ∷ more)
  next_takes = labelled_takes t (labels_over t.labels (trace_count t) (no_label ∷ [])) o.takes

  next_fits : trace_count t + length (no_label ∷ []) ≤ length t.labels
  unfolding labels_needed
  next_fits = omega (arith, o.takes.room, (accepted t o.fine).room.labels_room)

  next_as_long : lent_of next ≡ lent_of t
  next_as_long = (takes_first next_takes).lengths_stay ∙ next_lent t (no_label ∷ []) next_fits

  others_fine : first_of (made_conditions next) ≡ none
  unfolding first_of
  others_fine =
      let before = (none_both (lent_conditions_of (lent_of t) (measures_of t)) (not (well_formed t) refuses spoiled ∷ []) (rw (made_is t) at o.fine)).0 in
      ap first_of (made_is next)
      ∙ first_none (lent_conditions_of (lent_of next) (measures_of next)) _ (rw (next_as_long, (takes_first next_takes).measures_stay) before)
      ∙ rw (test_true (well_formed next) (takes_others next_takes).formed)

  open_others : Open next more
  open_others = record { fine = others_fine; takes = takes_others next_takes }

  -- the others are added to what it left
  others_after : unlabelled t (x ∷ more) ≡ unlabelled next more
  others_after =
      let counted : trace_count next ≡ trace_count t + length (no_label ∷ []) = (takes_first next_takes).trace_count_lem ∙ omega arith in
      with_others t (x ∷ []) more (no_label ∷ []) (replicate (length more) no_label) counted next_fits

-- the numbers that addings answer, from a number on
abbrev numbered : ℕ → ℕ → List Reply
numbered count from = map (λ number. reply (answering (added number)) []) (counting count from)

module _ (lent : Lent) where
  all_added : (traces : List Trace) (t memory : Tables) → first_places lent memory ≡ t → lent_of t ≡ lent → Open t traces
      → (others : List Reply) (memory'' : Tables) → Ran memory (addings lent traces) others memory''
      → (memory'' ≡ left (unlabelled t traces) memory) × (others ≡ numbered (length traces) (trace_count t))
  unfolding counting effect_of adds
  all_added [] t memory is lengths o others memory'' no_call = (
    sym (left_same t memory (subst (λ (l : Lent). first_places l memory ≡ t) (sym lengths) is))
        ∙ ap (λ (k : Tables). left k memory) (no_labels t),
    refl,
  )
  all_added (x ∷ traces) t memory is lengths o others memory'' (a_call {between = between} {said = said} f rest) =
      let n : Tables = added_with t (x ∷ []) (no_label ∷ []) in
      let done = (one_call _ memory between said f).works
      (subst (λ (k : Tables). first_of (adds k x no_label).conditions ≡ none) (sym is) (first_fine o)) in
      let between_is : between ≡ left n memory = done.1 ∙ ap (λ (k : Tables). left (added_with k (x ∷ []) (no_label ∷ [])) memory) is in
      let said_is : said ≡ reply (answering (added (trace_count t))) [] =
      done.0 ∙ ap (λ (k : Tables). reply (answering (added (trace_count k))) []) is in
      let lengths' : lent_of n ≡ lent = next_as_long o ∙ lengths in
      let is' : first_places lent between ≡ n =
      ap (first_places lent) between_is ∙ subst (λ (l : Lent). first_places l (left n memory) ≡ n) lengths' (left_begins n memory) in
      let r = all_added traces n between is' lengths' (open_others o) _ memory'' rest in (
        r.0
            ∙ (ap (left (unlabelled n traces)) between_is
            ∙ (left_twice n (unlabelled n traces) memory (unlabelled_lent (open_others o))
            ∙ ap (λ (k : Tables). left k memory) (sym (others_after o)))),
        rw (said_is, r.1, (takes_first (next_takes o)).trace_count_lem) refl,
      )

-- ---- "A file imported gives the library that adding its traces one after another gives"

pub imports_anywhere : ImportsAnywhere
unfolding effect_of beside_of imports Typed is_bad_file file_traces
imports_anywhere lent bytes memory memory' said f count answers = by (judge_recording (measures_of t).n bytes) refl
  where
    t : Tables
    t = first_places lent memory

    known : (first_of (imports t bytes).conditions ≡ none) × ((imports t bytes).result ≡ imported count)
    known = answered (first_of (imports t bytes).conditions) t [] (imports t bytes) (imported count)
        (sym (ap (λ (r : Reply). r.answer) (reply_is f)) ∙ answers)

    opened : Open t (file_traces (judge_recording (measures_of t).n bytes))
    opened = record {
      fine = (none_both (made_conditions t) _ known.0).0;
      takes = import_takes t bytes f.typed known.0;
    }

    left_is : memory' ≡ left (unlabelled t (file_traces (judge_recording (measures_of t).n bytes))) memory
    left_is = ((one_call _ memory memory' said f).works known.0).1

    by : (file : Option Recording) → judge_recording (measures_of t).n bytes ≡ file → ImportedInto lent bytes memory count memory'
    by none e =
        let bad = none_first (is_bad_file (judge_recording (measures_of t).n bytes)) bad_recording _ (none_both (made_conditions t) _ known.0).1 in
        let z : ◌≡◌ {A = ℕ} 0 1 = cc (bad.0, e) in absurd (omega arith)
    by (some r) e =
        let is : file_traces (judge_recording (measures_of t).n bytes) ≡ r.traces = ap file_traces e in
        let many : count ≡ length r.traces = cc (known.1, is) in
        record {
          file = r;
          file_sound = e;
          counted = many;
          as_addings = λ others memory'' ran.
              let all = all_added lent r.traces t memory refl f.has_places (subst (Open t) is opened) others memory'' ran in
              (all.0 ∙ sym (left_is ∙ ap (λ (l : List Trace). left (unlabelled t l) memory) is), all.1 ∙ ap (λ (k : ℕ). numbered k (trace_count t)) (sym many));
        }

-- ---- what an export writes

module _ {memory : Tables} {b : Book} (k : Stores memory b) where
  abbrev n : ℕ
  n = b.measures.n

  pub exported_sound : ExportedSound b memory
  unfolding effect_of beside_of exports is_library is_trace sample_limit
  exported_sound lent number rate buffer said memory' f size bytes answers =
      let t = first_places lent memory in
      let e = exports t number rate buffer in
      let known = answered (first_of e.conditions) t (buffer ∷ []) e (exported size bytes)
      (sym (ap (λ (r : Reply). r.answer) (reply_is f)) ∙ answers) in
      let parts = none_both (made_conditions t) _ known.0 in
      let one = none_first (not (ltb rate rate_limit && ltb number (trace_count t))) bad_recording _ parts.1 in
      let two = none_first (not (are_within narrow_limit (get_or (traces_in t) number []))) bad_recording _ one.1 in
      let both = and_yes (ltb rate rate_limit) (ltb number (trace_count t))
      (is_true {b = ltb rate rate_limit && ltb number (trace_count t)} (not-false _ one.0)) in
      let inside : number < length b.traces =
      omega (arith, ltb→lt number (trace_count t) both.1, traces_size t, ap length (lent_traces k lent parts.0)) in
      let library = passed (in_range b.measures)
      (leb (length b.traces) b.measures.capacity ∷ every (is_trace sample_limit n) b.traces ∷ []) (k.library lent parts.0) in
      let trace : Trace = get_or b.traces number [] in
      let is_trace_lem = from_every (is_trace sample_limit n) b.traces library.1.1 (in_get_or b.traces number [] inside) in
      let range = in_range_lem b.measures (test_true (in_range b.measures) library.0) in
      let claims = recording_claims n (omega (arith, range.n_low)) in
      let n_is : (measures_of t).n ≡ n = ap (λ (m : Measures). m.n) (lent_measures k lent parts.0) in
      let trace_is : get_or (traces_in t) number [] ≡ trace = ap (λ (l : List Trace). get_or l number []) (lent_traces k lent parts.0) in
      let written_is : recording_of rate (get_or (traces_in t) number []) ≡ bytes = cc known.1 in
      let size_is : recording_size n ≡ size = ap recording_size (sym n_is) ∙ cc known.1 in
      let type_size = trace_length sample_limit n trace is_trace_lem in
      let fits = subst (λ (x : Trace). T (are_within narrow_limit x)) trace_is (is_true {b = are_within narrow_limit (get_or (traces_in t) number [])} (not-false _ two.0)) in
      let narrow_trace = passes (eqb (length trace) n) (are_within narrow_limit trace ∷ []) (eq→eqb type_size, fits) in
      let bytes_are : recording_of rate trace ≡ bytes = ap (recording_of rate) (sym trace_is) ∙ written_is in (
        ap (λ (r : Reply). r.beside) ((one_call _ memory memory' said f).works known.0).0
            ∙ ap (λ (l : List ℕ). over l buffer ∷ []) written_is,
        (
          omega (arith, size_is, ap length bytes_are, recording_length rate trace, type_size),
          ap (judge_recording n) (sym bytes_are) ∙ claims.exported rate trace (ltb→lt rate rate_limit both.0) range.n_high narrow_trace,
        ),
      )

  pub exported_and_imported : ExportedThenImported b memory
  unfolding file_traces
  exported_and_imported lent number rate buffer said₁ memory₁ f size bytes a lent' memory₂ said₃ memory₃ g n_same count c =
      let i = imports_anywhere lent' bytes memory₂ memory₃ said₃ g count c in
      let sound = (exported_sound lent number rate buffer said₁ memory₁ f size bytes a).1.1 in
      let file_is : some i.file ≡ some (recording rate (get_or b.traces number [] ∷ [])) =
      sym i.file_sound ∙ (ap (λ (w : ℕ). judge_recording w bytes) n_same ∙ sound) in
      let traces_are : i.file.traces ≡ get_or b.traces number [] ∷ [] = ap (λ (o : Option Recording). file_traces o) file_is in (
        i.counted ∙ ap length traces_are,
        λ others memory'' ran. (i.as_addings others memory''
            (subst (λ (l : List Trace). Ran memory₂ (addings lent' l) others memory'') (sym traces_are) ran)).0,
      )
