-- Every call that its types allow has a reply and a memory after it: slices that hold what the memory has, and what the definition leaves,
-- are one.
use Prim.Native.Nat.{ℕ, zero, suc, ◌+◌, ◌*◌, ◌-◌}
use mathlib.Core.Path.{◌≡◌, refl, sym, ap, subst, ◌∙◌}
use mathlib.Core.Option.{Option, none, some}
use mathlib.Core.List.{List, [], ◌∷◌, ◌++◌, map, append-nil}
use native.Mathlib.Omega.{arith}
use lib.ListN.{length, get_or, take, drop, replicate, length-map}
use lib.Seq.{take_at}
use Rattle.std.specs.Prelude.{Result, Ok, Err, ⊤, Some, None}
use denote.Ref.{Bor, MutBor}
use denote.Triple.Clauses.{AtExit}
use borrow.Fn.Kinds.{ParamKind, ResultKind, Dens, ended_of, Out, res_t}
use contract.Lifetimes.{Lfts}
use Rattle.dstree.specs.Measures.{Trace, Measures}
use Rattle.dstree.specs.Labels.{Label, no_label}
use Rattle.dstree.specs.Node.{Tree}
use Rattle.dstree.specs.Matching.{Near, reading_order, Search, searched, Match}
use Rattle.dstree.specs.KNearest.{KNearest, list_places, k_nearest_by_steps}
use Rattle.dstree.specs.Batch.{queries_in, Batch, batch_by_steps}
use Rattle.dstree.specs.Bands.{BandCount, band_report, report_places}
use Rattle.dstree.specs.Pair.{Indexed, indexed, Which, of_factory, of_bench, Other, PairMatch, paired_with, pair_by_steps}
use Rattle.dstree.specs.Clipped.{Possible, possible_matches}
use Rattle.dstree.specs.LeafLimit.{match_so_far, limited_search, next_bound, limited_from, limited_by_steps}
use Rattle.dstree.specs.Refusals as word
use Rattle.dstree.specs.Refusals.{first_of}
use Rattle.dstree.specs.Sheet.{block_size}
use Rattle.dstree.specs.SheetWidths.{blocks_needed, sheet_of}
use Rattle.dstree.specs.Remote.{codes_of}
use Rattle.dstree.specs.Book.{Ask, opening, adding, searching, writing, reading, importing, exporting, checking, labelling, pairing, paired, pair_beside, Call}
use Rattle.dstree.specs.Book.{a_match, a_listing, a_batch, a_remote, a_banding, a_limited, a_clipped, match_seen, matching, listing, batching, remote_matching, banding, limiting, clipping, beside_of, Answer}
use Rattle.dstree.specs.Book.{answering, imported, limited}
use Rattle.dstree.specs.Book.{Reply, reply, over}
use Rattle.dstree.specs.Recording.{recording_size, recording_of, judge_recording, file_traces}
use Rattle.dstree.proofs.SheetPieces.{pieces_length}
use Rattle.dstree.proofs.Bands.{report_anywhere}
use Rattle.dstree.proofs.Clipped.{listed_anywhere}
use Rattle.dstree.proofs.PairRead.{pair_steps}
use Rattle.dstree.proofs.RoundTrips.{sheet_length}
use Rattle.dstree.proofs.Recordings.{recording_length}
use Rattle.tables.specs.Tables.{Tables, labelled_tables, lent_of, measures_of, trace_count}
use Rattle.tables.specs.View.{tree_in, traces_in, labels_in, next_labelled}
use Rattle.tables.specs.Beginning.{first_places, left}
use Rattle.tables.specs.Answers.{word_of, found_by, made_conditions}
use Rattle.tables.specs.declared.Refusal.{Refusal}
use Rattle.tables.specs.declared.Refusal.TheVariants as r
use Rattle.tables.proofs.Views.{trace_at}
use Rattle.tables.proofs.Parts.{trace_length}
use Rattle.insertion_memory.specs.Memory.{added_to, added_with}
use Rattle.calls.specs.Outcome.{Outcome, outcome, unless_refused}
use Rattle.calls.specs.Effects.{opens, adds, matches, remotes, writes, reads, lists, imports, exports, checks, tells_label}
use Rattle.calls.specs.Effects.{batches, batch_conditions_in, bands, limits, clips, cleared, other_in, pairs, effect_of, outcome_on}
use Rattle.calls.specs.Follows.{FromTables, Typed}
use Rattle.calls.specs.Pairs.{with_work}
use Rattle.calls.proofs.Library.{work_stays}
use Rattle.checking.specs.Answered as checking_answer
use Rattle.opening.specs.Opened as opening_answer
use Rattle.adding.specs.Answered as adding_answer
use Rattle.reading.specs.Listed.{nears_in}
use Rattle.reading.proofs.Places.{nears_in_lem}
use Rattle.matching.specs.declared.Found.{Found}
use Rattle.matching.specs.Answered as matching_answer
use Rattle.batching.specs.declared.AnswerRecord as batch_record
use Rattle.batching.specs.declared.BatchFound.{BatchFound}
use Rattle.batching.specs.Answered as batching_answer
use Rattle.batching.specs.Answered.{list_by, list_after}
use Rattle.batching.proofs.Taken.{taken}
use Rattle.batching.proofs.Answers.{list_filled, batch_refused}
use Rattle.batch_answers.specs.AnswerRecords.{store_of, nears_of}
use Rattle.listing.specs.declared.Listed.{Listed}
use Rattle.listing.specs.Answered as listing_answer
use Rattle.sheet_writing.specs.Answered as writing_answer
use Rattle.sheet_reading.specs.Answered as reading_answer
use Rattle.importing.specs.Answered as importing_answer
use Rattle.exporting.specs.Answered as exporting_answer
use Rattle.exporting.proofs.Exportable.{Exportable, exportable}
use Rattle.labelling.specs.declared.Labelled.{Labelled}
use Rattle.labelling.specs.Answered as labelling_answer
use Rattle.remote.specs.declared.RemoteFound.{RemoteFound}
use Rattle.remote.specs.Answered as remote_answer
use Rattle.band_counts.specs.Counted.{counts_in}
use Rattle.band_counts.proofs.Places.{counts_in_lem}
use Rattle.banding.specs.Answered as banding_answer
use Rattle.pairing.specs.declared.Paired.{Paired}
use Rattle.pair_search.specs.declared.turns.Whose.{Whose}
use Rattle.pair_search.specs.declared.turns.Whose.TheVariants as whose
use Rattle.pairing.specs.Answered as pairing_answer
use Rattle.limiting.specs.declared.Limited.{Limited}
use Rattle.limiting.specs.Answered as limiting_answer
use Rattle.clipping.specs.Answered as clipping_answer
use Rattle.demands.specs.Did.{WithTables, ToWrite, ToAdd, ToSearch, CallMade, Exchange, Made, Did, by_open, by_nearest, by_write, by_read, by_list, by_import, by_export}
use Rattle.demands.specs.Did.{by_check, by_batch, by_add_labelled, by_label, by_remote, by_bands, by_pair_factory, by_pair_bench, by_limited, by_clipped}
use Rattle.demands.specs.Theorem.{Replied}

-- ---- slices

-- a slice that holds this, somewhere
abbrev pub slice : {A : Type 0} → List A → Bor (List A)
slice l = record { ref_ptr = (0, 0); now = l }

abbrev slices : {Own : Type 0} → Tables → Own → WithTables Own
slices t own = (slice t.control, (slice t.samples, (slice t.nodes, (slice t.links, (slice t.work, (slice t.labels, own))))))

-- .. and one to write, under some ghost name
abbrev pub place : {A : Type 0} → List A → MutBor (List A)
place l = record { ref_ptr = (0, 0); ghost_name = 0; now = l }

abbrev slices_to_write : {Own : Type 0} → Tables → Own → ToWrite Own
slices_to_write t own = (place t.control, (place t.samples, (place t.nodes, (place t.links, (place t.work, (place t.labels, own))))))

abbrev slices_to_add : {Own : Type 0} → Tables → Own → ToAdd Own
slices_to_add t own = (place t.control, (place t.samples, (place t.nodes, (place t.links, (slice t.work, (place t.labels, own))))))

abbrev slices_to_search : {Own : Type 0} → Tables → Own → ToSearch Own
slices_to_search t own = (slice t.control, (slice t.samples, (slice t.nodes, (slice t.links, (place t.work, (slice t.labels, own))))))

-- ---- results

-- a word of the table as the enum has it
abbrev case_of : word.Refusal → Refusal
case_of word.measure = r.Measure
case_of word.short_table = r.ShortTable
case_of word.spoiled = r.Spoiled
case_of word.wrong_trace = r.WrongTrace
case_of word.full = r.Full
case_of word.empty = r.Empty
case_of word.short_trail = r.ShortTrail
case_of word.sheet_length = r.SheetLength
case_of (word.torn_block block) = r.TornBlock block
case_of word.bad_sheet = r.BadSheet
case_of word.bad_k = r.BadK
case_of word.bad_recording = r.BadRecording
case_of word.loose_record = r.LooseRecord
case_of word.bad_batch = r.BadBatch
case_of word.sample_range = r.SampleRange
case_of word.bad_edges = r.BadEdges
case_of word.unlike_libraries = r.UnlikeLibraries
case_of word.no_leaves = r.NoLeaves
case_of word.crossed_range = r.CrossedRange

case_word : (why : word.Refusal) → word_of (case_of why) ≡ why
unfolding word_of
case_word word.measure = refl
case_word word.short_table = refl
case_word word.spoiled = refl
case_word word.wrong_trace = refl
case_word word.full = refl
case_word word.empty = refl
case_word word.short_trail = refl
case_word word.sheet_length = refl
case_word (word.torn_block block) = refl
case_word word.bad_sheet = refl
case_word word.bad_k = refl
case_word word.bad_recording = refl
case_word word.loose_record = refl
case_word word.bad_batch = refl
case_word word.sample_range = refl
case_word word.bad_edges = refl
case_word word.unlike_libraries = refl
case_word word.no_leaves = refl
case_word word.crossed_range = refl

-- a result, and what is left beside the tables, with which code says an outcome
record Said {R Beside : Type 0} (outcome_by : R → Beside → Outcome) (o : Outcome) : Type 0 where
  pub result : R
  pub beside : Beside
  pub is : outcome_by result beside ≡ o

opening_said : (t : Tables) (m : Measures) (o : Option word.Refusal) → let e = unless_refused o t [] (opens t m) in
    Said (λ (r : Result ⊤ Refusal) (l : List ℕ). outcome (opening_answer.answer_by r) e.after []) e
unfolding unless_refused opens opening_answer.answer_by
opening_said t m (some why) = record { result = Err (case_of why); beside = []; is = rw (case_word why) }
opening_said t m none = record { result = Ok tt; beside = []; is = refl }

reading_said : (t : Tables) (bytes : List ℕ) (o : Option word.Refusal) → let e = unless_refused o t [] (reads t bytes) in
    Said (λ (r : Result ⊤ Refusal) (l : List ℕ). outcome (reading_answer.answer_by r) e.after []) e
unfolding unless_refused reads reading_answer.answer_by
reading_said t bytes (some why) = record { result = Err (case_of why); beside = []; is = rw (case_word why) }
reading_said t bytes none = record { result = Ok tt; beside = []; is = refl }

adding_said : (t : Tables) (x : Trace) (l : Label) (o : Option word.Refusal) → let e = unless_refused o t [] (adds t x l) in
    Said (λ (r : Result ℕ Refusal) (beside : List ℕ). outcome (adding_answer.answer_by r)
    (labelled_tables e.after.control e.after.samples e.after.nodes e.after.links t.work e.after.labels) []) e
unfolding unless_refused adds added_to adding_answer.answer_by
adding_said t x l (some why) = record { result = Err (case_of why); beside = []; is = rw (case_word why) }
adding_said t x l none = record { result = Ok (trace_count t); beside = []; is = refl }

-- the trail that code answers is as long as it counts
matching_said : (t : Tables) (query : Trace) (trail : List ℕ) (o : Option word.Refusal)
    → let e = unless_refused o t (trail ∷ []) (matches t query trail) in
    Said (λ (r : Result Found Refusal) (l : List ℕ). outcome (matching_answer.answer_by r l)
    (labelled_tables t.control t.samples t.nodes t.links e.after.work t.labels) (l ∷ [])) e
unfolding unless_refused matching_answer.answer_by
matching_said t query trail (some why) = record { result = Err (case_of why); beside = trail; is = rw (case_word why) }
matching_said t query trail none = record {
  result = Ok record { trace = (m).trace; distance = (m).distance; leaves = (m).leaves; traces = (m).traces };
  beside = over (m).trail trail;
  is = rw (take_at (m).trail (drop (length (m).trail) trail) (m).leaves refl);
}
  where
    m : Match
    m = let s = searched (traces_in t) (tree_in t) query in match_seen s s.best

remote_said : (t : Tables) (query : Trace) (trail : List ℕ) (o : Option word.Refusal)
    → let e = unless_refused o t (trail ∷ []) (remotes t query trail) in
    Said (λ (r : Result RemoteFound Refusal) (l : List ℕ). outcome (remote_answer.answer_by r l)
    (labelled_tables t.control t.samples t.nodes t.links e.after.work t.labels) (l ∷ [])) e
unfolding unless_refused remote_answer.answer_by
remote_said t query trail (some why) = record { result = Err (case_of why); beside = trail; is = rw (case_word why) }
remote_said t query trail none = record {
  result = Ok record {
    trace = found.trace;
    distance = found.distance;
    leaves = found.leaves;
    traces = found.traces;
    code = get_or (codes_of (labels_in t)) found.trace 0;
  };
  beside = over found.trail trail;
  is = rw (take_at found.trail (drop (length found.trail) trail) found.leaves refl);
}
  where
    found : Match
    found = let s = searched (traces_in t) (tree_in t) query in match_seen s s.best

writing_said : (t : Tables) (sheet : List ℕ) (o : Option word.Refusal) → let e = unless_refused o t (sheet ∷ []) (writes t sheet) in
    Said (λ (r : Result ℕ Refusal) (l : List ℕ). outcome (writing_answer.answer_by r l) t (l ∷ [])) e
unfolding unless_refused writes writing_answer.answer_by
writing_said t sheet (some why) = record { result = Err (case_of why); beside = sheet; is = rw (case_word why) }
writing_said t sheet none = record {
  result = Ok blocks;
  beside = over bytes sheet;
  is = rw
      (take_at bytes (drop (length bytes) sheet) (block_size * blocks) size);
}
  where
    blocks : ℕ
    blocks = blocks_needed (measures_of t) (traces_in t) (labels_in t)

    bytes : List ℕ
    bytes = sheet_of (measures_of t) (traces_in t) (labels_in t)

    size : length bytes ≡ block_size * blocks
    size = sheet_length (measures_of t) (traces_in t) (labels_in t)

listing_said : (t : Tables) (k : ℕ) (query : Trace) (trail list : List ℕ) (o : Option word.Refusal)
    → let e = unless_refused o t (trail ∷ list ∷ []) (lists t k query trail list) in
    Said (λ (r : Result Listed Refusal) (b : List ℕ × List ℕ). outcome (listing_answer.answer_by r b.0 b.1)
    (labelled_tables t.control t.samples t.nodes t.links e.after.work t.labels) (b.0 ∷ b.1 ∷ [])) e
unfolding unless_refused listing_answer.answer_by k_nearest_by_steps
listing_said t k query trail list (some why) = record { result = Err (case_of why); beside = (trail, list); is = rw (case_word why) }
listing_said t k query trail list none = record {
  result = Ok record { leaves = (m).leaves; traces = (m).traces; many = length (m).list };
  beside = (over (m).trail trail, over (list_places (m).list) list);
  is = rw (
    take_at (m).trail (drop (length (m).trail) trail) (m).leaves refl,
    nears_in_lem (m).list (drop (length (list_places (m).list)) list),
  );
}
  where
    m : KNearest
    m = k_nearest_by_steps k (traces_in t) (tree_in t) query

banding_said : (t : Tables) (query : Trace) (edges list : List ℕ) (o : Option word.Refusal)
    → let e = unless_refused o t (list ∷ []) (bands t query edges list) in
    Said (λ (r : Result ⊤ Refusal) (l : List ℕ). outcome (banding_answer.answer_by r (length edges - 1) l)
    (labelled_tables t.control t.samples t.nodes t.links e.after.work t.labels) (l ∷ [])) e
unfolding unless_refused banding_answer.answer_by
banding_said t query edges list (some why) = record { result = Err (case_of why); beside = list; is = rw (case_word why) }
banding_said t query edges list none = record { result = Ok tt; beside = over (report_places report) list; is = rw back }
  where
    report : List BandCount
    report = band_report (tree_in t) query edges

    back : counts_in (length edges - 1) (over (report_places report) list) ≡ report
    back = subst (λ (m : ℕ). counts_in m (over (report_places report) list) ≡ report) (report_anywhere (tree_in t) query edges).one_each
        (counts_in_lem report (drop (length (report_places report)) list))

-- what a match over two libraries found, as code has it
abbrev whose_by : Which → Whose
whose_by of_factory = whose.Factory
whose_by of_bench = whose.Bench

abbrev pub pair_found : Which → PairMatch → Result Paired Refusal
pair_found which m = Ok record {
  library = whose_by which;
  trace = (m).trace;
  distance = (m).distance;
  leaves = length (m).factory_trail;
  bench_leaves = length (m).bench_trail;
  traces = (m).traces;
}

-- each trail that code answers is as long as it counts
found_is : (which : Which) (m : PairMatch) → (m).which ≡ which → (m).leaves ≡ length (m).factory_trail + length (m).bench_trail
    → (trail trail' : List ℕ)
    → pairing_answer.answer_by (pair_found which m) (over (m).factory_trail trail) (over (m).bench_trail trail') ≡ answering (paired m)
unfolding pairing_answer.answer_by
found_is of_factory m is counted trail trail' = rw (
  take_at (m).factory_trail (drop (length (m).factory_trail) trail) (length (m).factory_trail) refl,
  take_at (m).bench_trail (drop (length (m).bench_trail) trail') (length (m).bench_trail) refl,
  ← is,
  ← counted,
)
found_is of_bench m is counted trail trail' = rw (
  take_at (m).factory_trail (drop (length (m).factory_trail) trail) (length (m).factory_trail) refl,
  take_at (m).bench_trail (drop (length (m).bench_trail) trail') (length (m).bench_trail) refl,
  ← is,
  ← counted,
)

pairing_said : (f b : Tables) (query : Trace) (trail trail' : List ℕ) (o : Option word.Refusal)
    → let e = unless_refused o f (trail ∷ trail' ∷ b.work ∷ []) (pairs f of_factory (other_in b trail') query trail) in
    Said (λ (r : Result Paired Refusal) (l : List ℕ × (List ℕ × List ℕ)). outcome (pairing_answer.answer_by r l.0 l.1.0)
    (with_work f e.after.work) (l.0 ∷ l.1.0 ∷ l.1.1 ∷ [])) e
unfolding unless_refused pairs paired_with pair_beside other_in pairing_answer.answer_by
pairing_said f b query trail trail' (some why) =
    record { result = Err (case_of why); beside = (trail, (trail', b.work)); is = rw (case_word why) }
pairing_said f b query trail trail' none = record {
  result = pair_found (m).which m;
  beside = (over (m).factory_trail trail, (over (m).bench_trail trail', (cleared b).work));
  is = rw (found_is (m).which m refl (pair_steps library library' query).leaves_counted trail trail');
}
  where
    library : Indexed
    library = indexed (traces_in f) (tree_in f)

    library' : Indexed
    library' = indexed (traces_in b) (tree_in b)

    m : PairMatch
    m = pair_by_steps library library' query

limiting_said : (t : Tables) (most : ℕ) (query : Trace) (trail : List ℕ) (o : Option word.Refusal)
    → let e = unless_refused o t (trail ∷ []) (limits t most query trail) in
    Said (λ (r : Result Limited Refusal) (l : List ℕ). outcome (limiting_answer.answer_by r l)
    (labelled_tables t.control t.samples t.nodes t.links e.after.work t.labels) (l ∷ [])) e
unfolding unless_refused limiting_answer.answer_by limiting_answer.limited_by limited_by_steps limited_from
limiting_said t most query trail (some why) = record { result = Err (case_of why); beside = trail; is = rw (case_word why) }
limiting_said t most query trail none = by (next_bound s.best (drop (length s.trail) (reading_order (tree_in t) query)))
  where
    s : Search
    s = limited_search most (traces_in t) (tree_in t) query

    m : Match
    m = match_seen s s.best

    back : take (m).leaves (over (m).trail trail) ≡ (m).trail
    back = take_at (m).trail (drop (length (m).trail) trail) (m).leaves refl

    -- settled or not
    by : (next : Option ℕ)
        → Said (λ (r : Result Limited Refusal) (l : List ℕ). outcome (limiting_answer.answer_by r l)
        (labelled_tables t.control t.samples t.nodes t.links (cleared t).work t.labels) (l ∷ []))
        (outcome (answering (limited (limited_from m next))) (cleared t) (over (match_so_far (limited_from m next)).trail trail ∷ []))
    by none = record {
      result = Ok record { trace = (m).trace; distance = (m).distance; leaves = (m).leaves; traces = (m).traces; unread = None };
      beside = over (m).trail trail;
      is = rw back;
    }
    by (some next) = record {
      result = Ok record { trace = (m).trace; distance = (m).distance; leaves = (m).leaves; traces = (m).traces; unread = Some next };
      beside = over (m).trail trail;
      is = rw back;
    }

clipping_said : (t : Tables) (lows highs : Trace) (list : List ℕ) (o : Option word.Refusal)
    → let e = unless_refused o t (list ∷ []) (clips t lows highs list) in
    Said (λ (r : Result ℕ Refusal) (l : List ℕ). outcome (clipping_answer.answer_by r l)
    (labelled_tables t.control t.samples t.nodes t.links e.after.work t.labels) (l ∷ [])) e
unfolding unless_refused clipping_answer.answer_by
clipping_said t lows highs list (some why) = record { result = Err (case_of why); beside = list; is = rw (case_word why) }
clipping_said t lows highs list none = record { result = Ok (m).count; beside = over (m).list list; is = rw back }
  where
    m : Possible
    m = possible_matches (traces_in t) lows highs

    back : take (m).count (over (m).list list) ≡ (m).list
    back = take_at (m).list (drop (length (m).list) list) (m).count (sym (listed_anywhere (traces_in t) lows highs).counted)

importing_said : (t : Tables) (bytes : List ℕ) (o : Option word.Refusal) → let e = unless_refused o t [] (imports t bytes) in
    Said (λ (r : Result ℕ Refusal) (l : List ℕ). outcome (importing_answer.answer_by r)
    (labelled_tables e.after.control e.after.samples e.after.nodes e.after.links t.work e.after.labels) []) e
unfolding unless_refused imports importing_answer.answer_by
importing_said t bytes (some why) = record { result = Err (case_of why); beside = []; is = rw (case_word why) }
importing_said t bytes none =
    let traces = file_traces (judge_recording (measures_of t).n bytes) in
    let zeros = replicate (length traces) no_label in
    let after = added_with t traces zeros in
    record {
      result = Ok (length traces);
      beside = [];
      is = ap (λ (work : List ℕ). outcome (answering (imported (length traces)))
          (labelled_tables after.control after.samples after.nodes after.links work after.labels) [])
          (sym (work_stays (next_labelled t zeros) traces));
    }

exporting_said : (t : Tables) (number rate : ℕ) (buffer : List ℕ) (o : Option word.Refusal)
    → first_of (exports t number rate buffer).conditions ≡ o
    → let e = unless_refused o t (buffer ∷ []) (exports t number rate buffer) in
    Said (λ (r : Result ℕ Refusal) (l : List ℕ). outcome (exporting_answer.answer_by r l) t (l ∷ [])) e
unfolding unless_refused exports exporting_answer.answer_by
exporting_said t number rate buffer (some why) q = record { result = Err (case_of why); beside = buffer; is = rw (case_word why) }
exporting_said t number rate buffer none q = record {
  result = Ok (recording_size (measures_of t).n);
  beside = over bytes buffer;
  is = rw (take_at bytes (drop (length bytes) buffer) (recording_size (measures_of t).n) size);
}
  where
    ok : Exportable t number rate (length buffer)
    ok = exportable t number rate buffer q

    bytes : List ℕ
    bytes = recording_of rate (get_or (traces_in t) number [])

    size : length bytes ≡ recording_size (measures_of t).n
    size = omega (
      arith,
      recording_length rate (get_or (traces_in t) number []),
      ap length (trace_at t number ok.numbered),
      trace_length t.samples (measures_of t).n number ok.inside,
    )

checking_said : (t : Tables) (o : Option word.Refusal) → let e = unless_refused o t [] (checks t) in
    Said (λ (r : Result ⊤ Refusal) (l : List ℕ). outcome (checking_answer.answer_by r) t []) e
unfolding unless_refused checks checking_answer.answer_by
checking_said t (some why) = record { result = Err (case_of why); beside = []; is = rw (case_word why) }
checking_said t none = record { result = Ok tt; beside = []; is = refl }

labelling_said : (t : Tables) (number : ℕ) (o : Option word.Refusal) → let e = unless_refused o t [] (tells_label t number) in
    Said (λ (r : Result Labelled Refusal) (l : List ℕ). outcome (labelling_answer.answer_by r) t []) e
unfolding unless_refused tells_label labelling_answer.answer_by
labelling_said t number (some why) = record { result = Err (case_of why); beside = []; is = rw (case_word why) }
labelling_said t number none =
    let l = get_or (labels_in t) number no_label in
    record { result = Ok record { code = l.code; serial = l.serial }; beside = []; is = refl }

leaves_are : (stored : List Trace) (tree : Tree) (queries : List Trace)
    → length (batch_by_steps stored tree queries).trail ≡ (batch_by_steps stored tree queries).leaves
unfolding batch_by_steps
leaves_are stored tree queries = refl

-- what the search of a batch finds and leaves, for every list of this length
record BatchSaid (t : Tables) (many : ℕ) (run : Trace) (trail : List ℕ) (places : ℕ) (work : List ℕ) : Type 0 where
  found : BatchFound
  trail' : List ℕ
  is : (l : List Near) → length l ≡ places
      → outcome (batching_answer.answer_by found.outcome (list_after found l) trail')
      (labelled_tables t.control t.samples t.nodes t.links work t.labels) (trail' ∷ list_places (list_after found l) ∷ [])
      ≡ outcome_on (batching many run trail l) t

-- the places of the answers hold them
answers_back : (stored : List Trace) (tree : Tree) (queries : List Trace) → let answers = (batch_by_steps stored tree queries).answers in
    nears_in (length queries) (list_places answers) ≡ answers
unfolding batch_by_steps
answers_back stored tree queries =
    let answers = (batch_by_steps stored tree queries).answers in
    subst (λ (k : ℕ). nears_in k (list_places answers) ≡ answers) (length-map queries _)
    (ap (nears_in (length answers)) (sym (append-nil (list_places answers))) ∙ nears_in_lem answers [])

batch_done : (t : Tables) (many : ℕ) (run : Trace) (trail : List ℕ) (l : List Near)
    → first_of (made_conditions t ++ batch_conditions_in t many (length l) run trail) ≡ none → length l ≡ many
    → let m = batch_by_steps (traces_in t) (tree_in t) (queries_in (measures_of t).n many run) in
    let list = list_by many (list_places (m).answers) l in
    outcome (batching_answer.answer_by (Ok (m).leaves) list (over (m).trail trail))
    (labelled_tables t.control t.samples t.nodes t.links (cleared t).work t.labels) (over (m).trail trail ∷ list_places list ∷ [])
    ≡ outcome_on (batching many run trail l) t
unfolding batching_answer.answer_by outcome_on effect_of beside_of unless_refused
batch_done t many run trail l q size =
    let queries = queries_in (measures_of t).n many run in
    let m = batch_by_steps (traces_in t) (tree_in t) queries in
    let back : nears_in many (list_places (m).answers) ≡ (m).answers =
    subst (λ (k : ℕ). nears_in k (list_places (m).answers) ≡ (m).answers) (pieces_length (measures_of t).n many run)
    (answers_back (traces_in t) (tree_in t) queries) in
    let first : take (m).leaves (over (m).trail trail) ≡ (m).trail = take_at (m).trail (drop (length (m).trail) trail) (m).leaves (leaves_are (traces_in t) (tree_in t) queries) in
    rw (q, list_filled many (list_places (m).answers) l size, back, first)

batching_said : (t : Tables) (many : ℕ) (run : Trace) (trail : List ℕ) (list : List Near) (o : Option word.Refusal)
    → first_of (made_conditions t ++ batch_conditions_in t many (length list) run trail) ≡ o
    → let e = unless_refused o t (trail ∷ list_places list ∷ []) (batches t many run trail list) in
    BatchSaid t many run trail (length list) e.after.work
unfolding unless_refused found_by
batching_said t many run trail list (some why) q = record {
  found = record { outcome = Err (case_of why); count = 0; bests = [] };
  trail' = trail;
  is = λ l size.
      batch_refused t.control t.samples t.nodes t.links t.work t.labels many run trail l (case_of why) []
      (ap (λ (p : ℕ). first_of (made_conditions t ++ batch_conditions_in t many p run trail)) size ∙ q ∙ ap some (sym (case_word why)));
}
batching_said t many run trail list none q = record {
  found = record { outcome = Ok (m).leaves; count = many; bests = list_places (m).answers };
  trail' = over (m).trail trail;
  is = λ l size.
      batch_done t many run trail l (ap (λ (p : ℕ). first_of (made_conditions t ++ batch_conditions_in t many p run trail)) size ∙ q)
      (size ∙ (taken t many (length list) run trail q).1);
}
  where
    m : Batch
    m = batch_by_steps (traces_in t) (tree_in t) (queries_in (measures_of t).n many run)

-- records with these traces and distances
abbrev records_of : List Near → List batch_record.AnswerRecord
records_of = map (λ (a : Near). record { trace = a.trace; distance = a.distance })

nears_back : (l : List Near) → nears_of (records_of l) ≡ l
nears_back [] = refl
nears_back (a ∷ l) = rw (nears_back l)

-- ---- any call

-- lifetimes, whichever
abbrev pub lifetimes : (n : ℕ) → Lfts n
lifetimes zero = tt
lifetimes (suc n) = ([], lifetimes n)

module _ (c : Call) (memory : Tables) (places : lent_of (first_places c.lent memory) ≡ c.lent) where
  abbrev t : Tables
  t = first_places c.lent memory

  in_place : {ask : Ask} {before : Tables} {answer : Answer} {after : Tables} {beside : List (List ℕ)} → c.ask ≡ ask → Typed ask
      → before ≡ t → CallMade ask before answer after beside c memory (reply answer beside) (left after memory)
  in_place asked typed before = record {
    placed = record { asks = asked; typed = typed; first_places_lem = before; so_many = ap lent_of before ∙ places; leaves = refl };
    says = refl;
  }

  -- a call of the code that its contract claims, on slices that hold what the memory has
  reply_by : {n : ℕ} {ps : List (ParamKind n)} {r : ResultKind n} {Learnt : Out n ps r}
      {seen : (κs : Lfts n) → Dens κs ps → (res_t r κs).Denot → AtExit (ended_of n ps r) κs → Exchange}
      → ((said : Reply) (memory' : Tables) → Made ps r Learnt seen c memory said memory' → Did c memory said memory')
      → (κs : Lfts n) (args : Dens κs ps) (exits : AtExit (ended_of n ps r) κs) (result : (res_t r κs).Denot) → Learnt κs args result exits
      → c.ask ≡ (seen κs args result exits).ask → Typed (seen κs args result exits).ask → (seen κs args result exits).before ≡ t
      → Replied c memory
  reply_by {seen = seen} did κs args exits result claim asked typed before =
      let x = seen κs args result exits in
      record {
        said = reply x.answer x.beside;
        memory' = left x.after memory;
        did = did _ _ (record {
          κs = κs;
          args = args;
          exits = exits;
          result = result;
          claim = claim;
          made = in_place asked typed before;
        });
      }

  -- a match over this library and one that some tables hold, whichever of the two this is
  by_pair : (which : Which) (other : Other) (query : Trace) (trail : List ℕ) → c.ask ≡ pairing which other query trail → FromTables other
      → Replied c memory
  unfolding outcome_on effect_of beside_of Typed other_in
  by_pair of_factory other query trail asked from =
      let there = from.of in
      let s = pairing_said t there query trail from.trail (first_of (pairs t of_factory (other_in there from.trail) query trail).conditions) in
      let after = (outcome_on (pairing of_factory (other_in there from.trail) query trail) t).after in
      reply_by (λ said memory' d. by_pair_factory d) (lifetimes 15) (slices_to_search t (place trail, slices_to_search there (place from.trail, (slice query, tt))))
      (slices_to_search after (place s.beside.0, slices_to_search (with_work there s.beside.1.1) (place s.beside.1.0, (slice query, tt)))) s.result s.is
      (asked ∙ ap (λ (x : Other). pairing of_factory x query trail) from.is) (record { of = there; trail = from.trail; is = refl }) refl
  by_pair of_bench other query trail asked from =
      let there = from.of in
      let s = pairing_said there t query from.trail trail (first_of (pairs there of_factory (other_in t trail) query from.trail).conditions) in
      let after = (outcome_on (pairing of_factory (other_in t trail) query from.trail) there).after in
      reply_by (λ said memory' d. by_pair_bench d) (lifetimes 15) (slices_to_search there (place from.trail, slices_to_search t (place trail, (slice query, tt))))
      (slices_to_search after (place s.beside.0, slices_to_search (with_work t s.beside.1.1) (place s.beside.1.0, (slice query, tt)))) s.result s.is
      (asked ∙ ap (λ (x : Other). pairing of_bench x query trail) from.is) (record { of = there; trail = from.trail; is = refl }) refl

  by_ask : (ask : Ask) → c.ask ≡ ask → Typed ask → Replied c memory
  unfolding outcome_on effect_of beside_of Typed
  by_ask (opening m) asked typed =
      let s = opening_said t m (first_of (opens t m).conditions) in
      reply_by (λ said memory' d. by_open d) (lifetimes 6) (slices_to_write t ((m).n, ((m).capacity, ((m).leaf_size, tt))))
      (slices_to_write (outcome_on (opening m) t).after ((m).n, ((m).capacity, ((m).leaf_size, tt)))) s.result s.is asked typed refl
  by_ask (adding x l) asked typed =
      let s = adding_said t x l (first_of (adds t x l).conditions) in
      reply_by (λ said memory' d. by_add_labelled d) (lifetimes 7) (slices_to_add t (slice x, (l.code, (l.serial, tt))))
      (slices_to_add (outcome_on (adding x l) t).after (slice x, (l.code, (l.serial, tt)))) s.result s.is asked typed refl
  by_ask (writing sheet) asked typed =
      let s = writing_said t sheet (first_of (writes t sheet).conditions) in
      reply_by (λ said memory' d. by_write d) (lifetimes 7) (slices t (place sheet, tt)) (slices t (place s.beside, tt)) s.result s.is asked typed refl
  by_ask (reading bytes) asked typed =
      let s = reading_said t bytes (first_of (reads t bytes).conditions) in
      reply_by (λ said memory' d. by_read d) (lifetimes 7) (slices_to_write t (slice bytes, tt)) (slices_to_write (outcome_on (reading bytes) t).after (slice bytes, tt))
      s.result s.is asked typed refl
  by_ask (importing bytes) asked typed =
      let s = importing_said t bytes (first_of (imports t bytes).conditions) in
      reply_by (λ said memory' d. by_import d) (lifetimes 7) (slices_to_add t (slice bytes, tt)) (slices_to_add (outcome_on (importing bytes) t).after (slice bytes, tt))
      s.result s.is asked typed refl
  by_ask (exporting number rate buffer) asked typed =
      let s = exporting_said t number rate buffer (first_of (exports t number rate buffer).conditions) refl in
      reply_by (λ said memory' d. by_export d) (lifetimes 7) (slices t (place buffer, (number, (rate, tt))))
      (slices t (place s.beside, (number, (rate, tt)))) s.result s.is asked typed refl
  by_ask checking asked typed =
      let s = checking_said t (first_of (checks t).conditions) in
      reply_by (λ said memory' d. by_check d) (lifetimes 6) (slices t tt) (slices t tt) s.result s.is asked typed refl
  by_ask (labelling number) asked typed =
      let s = labelling_said t number (first_of (tells_label t number).conditions) in
      reply_by (λ said memory' d. by_label d) (lifetimes 6) (slices t (number, tt)) (slices t (number, tt)) s.result s.is asked typed refl
  by_ask (pairing which other query trail) asked typed = by_pair which other query trail asked typed
  by_ask (searching (a_remote query trail)) asked typed =
      let s = remote_said t query trail (first_of (remotes t query trail).conditions) in
      reply_by (λ said memory' d. by_remote d) (lifetimes 8) (slices_to_search t (place trail, (slice query, tt)))
      (slices_to_search (outcome_on (remote_matching query trail) t).after (place s.beside, (slice query, tt))) s.result s.is asked typed refl
  by_ask (searching (a_match query trail)) asked typed =
      let s = matching_said t query trail (first_of (matches t query trail).conditions) in
      reply_by (λ said memory' d. by_nearest d) (lifetimes 8) (slices_to_search t (place trail, (slice query, tt)))
      (slices_to_search (outcome_on (matching query trail) t).after (place s.beside, (slice query, tt))) s.result s.is asked typed refl
  by_ask (searching (a_limited most query trail)) asked typed =
      let s = limiting_said t most query trail (first_of (limits t most query trail).conditions) in
      reply_by (λ said memory' d. by_limited d) (lifetimes 8) (slices_to_search t (place trail, (slice query, (most, tt))))
      (slices_to_search (outcome_on (limiting most query trail) t).after (place s.beside, (slice query, (most, tt)))) s.result s.is asked typed refl
  by_ask (searching (a_clipped lows highs list)) asked typed =
      let s = clipping_said t lows highs list (first_of (clips t lows highs list).conditions) in
      reply_by (λ said memory' d. by_clipped d) (lifetimes 9) (slices_to_search t (place list, (slice lows, (slice highs, tt))))
      (slices_to_search (outcome_on (clipping lows highs list) t).after (place s.beside, (slice lows, (slice highs, tt)))) s.result s.is asked typed refl
  by_ask (searching (a_banding query edges list)) asked typed =
      let s = banding_said t query edges list (first_of (bands t query edges list).conditions) in
      reply_by (λ said memory' d. by_bands d) (lifetimes 9) (slices_to_search t (place list, (slice query, (slice edges, tt))))
      (slices_to_search (outcome_on (banding query edges list) t).after (place s.beside, (slice query, (slice edges, tt)))) s.result s.is asked typed refl
  by_ask (searching (a_listing k query trail list)) asked typed =
      let s = listing_said t k query trail list (first_of (lists t k query trail list).conditions) in
      reply_by (λ said memory' d. by_list d) (lifetimes 9) (slices_to_search t (place trail, (place list, (slice query, (k, tt)))))
      (slices_to_search (outcome_on (listing k query trail list) t).after (place s.beside.0, (place s.beside.1, (slice query, (k, tt)))))
      s.result s.is asked typed refl
  by_ask (searching (a_batch many run trail list)) asked typed =
      let s = batching_said t many run trail list (first_of (batches t many run trail list).conditions) refl in
      let after = (outcome_on (batching many run trail list) t).after in
      let stored = store_of s.found (records_of list) in
      let left_list = nears_of stored.list in
      record {
        said = reply (batching_answer.answer_by s.found.outcome left_list s.trail') (s.trail' ∷ list_places left_list ∷ []);
        memory' = left (labelled_tables t.control t.samples t.nodes t.links after.work t.labels) memory;
        did = by_batch (record {
          list = records_of list;
          list' = stored.list;
          searched = record {
            κs = lifetimes 8;
            args = slices_to_search t (place trail, (slice run, (many, (length list, tt))));
            exits = slices_to_search after (place s.trail', (slice run, (many, (length list, tt))));
            result = s.found;
            claim = s.is;
            made = in_place (asked ∙ ap (batching many run trail) (sym (nears_back list)))
                (subst (λ (l : List Near). Typed (batching many run trail l)) (sym (nears_back list)) typed) refl;
          };
          so_long = length-map list _;
          done = stored.done;
          stored = refl;
        });
      }

pub replies : (c : Call) (memory : Tables) → lent_of (first_places c.lent memory) ≡ c.lent
    → Typed c.ask → Replied c memory
replies c memory places typed = by_ask c memory places c.ask refl typed
