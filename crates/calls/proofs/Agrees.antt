-- Call by call: what the book says of a call, and what the call does to tables lent of a memory that keeps the book, agree. An opening and
-- a reading agree with every book, whatever the memory held before.
use Prim.Native.Nat.{ℕ, ◌+◌, ◌*◌, ◌≤◌, ◌<◌}
use mathlib.Core.Path.{◌≡◌, refl, sym, ap, ap₂, subst, ◌∙◌}
use mathlib.Core.Bool.{true, not}
use mathlib.Core.Option.{Option, none}
use mathlib.Core.List.{List, [], ◌∷◌, ◌++◌}
use native.Mathlib.Omega.{arith}
use lib.ListN.{length, get_or, drop, replicate, length-append, length-replicate}
use lib.Seq.{take-append_seam}
use lib.Dec.{T, leb, ltb, le→leb}
use borrow.Author.Tests.{not-false, ltb-false}
use Rattle.integer.specs.Words.{every}
use Rattle.integer.proofs.Tests.{passed, passes, is_true}
use Rattle.integer.proofs.Lists.{all_none, all_more, all_append, all_replicate, every_all, all_every}
use Rattle.dstree.specs.Measures.{Trace, Measures, sample_limit, in_range, is_trace, is_library, work_needed}
use Rattle.dstree.specs.Labels.{Label, no_label, is_label, are_labels}
use Rattle.dstree.specs.Pair.{indexed, Which, Other, pair_front, pair_rest}
use Rattle.dstree.specs.Refusals.{Condition, ◌refuses◌, first_of, measure, full, sheet_length, bad_recording}
use Rattle.dstree.specs.Sheet.{are_bytes, block_size, Judged, refused, holds}
use Rattle.dstree.specs.SheetWidths.{blocks_needed, sheet_of, judge_sheet}
use Rattle.dstree.specs.Recording.{recording_size, recording_of, Recording, judge_recording, file_traces, is_bad_file}
use Rattle.dstree.specs.Book.{Ask, opening, adding, searching, writing, reading, importing, exporting, checking, labelling}
use Rattle.dstree.specs.Book.{Book, book, book_tree, Entry, added, written, imported, exported, labelled, over, import_conditions, export_conditions, label_conditions}
use Rattle.dstree.specs.Book.{short_conditions, add_conditions, write_conditions, reading_conditions, put_read, Found, AnySearch, Sought, search_of}
use Rattle.dstree.specs.Book.{opening_entry, adding_entry, searching_entry, writing_entry, reading_entry, importing_entry}
use Rattle.dstree.specs.Book.{exporting_entry, checking_entry, labelling_entry, pairing, pairing_entry, entry_of}
use Rattle.dstree.specs.Remote.{codes_of}
use Rattle.dstree.proofs.Conditions.{none_first, none_both, front_same}
use Rattle.dstree.proofs.Laws.{exact}
use Rattle.dstree.proofs.RoundTrips.{is_library_lem, are_labels_lem}
use Rattle.dstree.proofs.SheetLabels.{fits_of, labels_of, labels_are}
use Rattle.dstree.proofs.Recordings.{file_traces_lem}
use Rattle.dstree.proofs.Libraries.{library_of}
use Rattle.tables.specs.Layout.{layout}
use Rattle.tables.specs.Tables.{Tables, lent_of, measures_of, trace_count}
use Rattle.tables.specs.View.{tree_in, traces_in, labels_in}
use Rattle.tables.specs.Judge.{opening_conditions_of, Room}
use Rattle.tables.specs.Beginning.{left, Begins}
use Rattle.tables.specs.Answers.{opening_conditions, opened}
use Rattle.tables.proofs.Beginning.{tables_same, left_same, left_begins, begins_on}
use Rattle.tables.proofs.Labels.{no_labels}
use Rattle.tables.specs.Holds.{Holds}
use Rattle.insertion_memory.specs.Memory.{added_with}
use Rattle.calls.specs.Outcome.{Effect}
use Rattle.calls.specs.Library.{loaded, library_tables, Keeps}
use Rattle.calls.specs.Effects.{opens, adds, cleared, searches, writes, loaded_by, reads, imports, exports, checks, tells_label, pairs, effect_of}
use Rattle.calls.specs.Follows.{Typed}
use Rattle.calls.proofs.Taken.{taken}
use Rattle.calls.proofs.Searches.{laws}
use Rattle.calls.proofs.Library.{library_work, loaded_begins, more_begins}
use Rattle.calls.proofs.Trusted.{accepted_same, kept_trusts}
use Rattle.calls.proofs.Kept.{short_room, library_begins, part_holds, part_labels, made_same, counted}

pub record Agrees (memory : Tables) (e : Effect) (n : Entry) : Type 0 where
  -- the same refusal, or none
  pub judged : first_of e.conditions ≡ first_of n.conditions
  -- and if none: the same answer, the same beside the tables, and the memory then keeps what the book puts
  pub result_is : first_of n.conditions ≡ none → e.result ≡ n.result
  pub beside_is : first_of n.conditions ≡ none → e.beside ≡ n.beside
  pub puts : first_of n.conditions ≡ none → Keeps (left e.after memory) n.puts

-- ---- opening and reading

module _ (memory part : Tables) (m : Measures) (traces : List Trace) (labels : List Label) (library : T (is_library sample_limit m traces))
    (are : T (are_labels (length traces) labels)) where
  -- what is loaded is kept
  loads : Room (lent_of part) m → Keeps (left (loaded part m traces labels) memory) (book m traces labels)
  loads room = record {
    library = library;
    labelled = are;
    needed_places = begins_on (library_tables m traces labels) (loaded part m traces labels) (left (loaded part m traces labels) memory)
        (loaded_begins m traces labels library are part room) (left_begins (loaded part m traces labels) memory);
  }

module _ (memory part : Tables) (b : Book) where
  pub opening_agrees : (m : Measures) → Agrees memory (opens part m) (opening_entry layout (lent_of part) b m)
  unfolding opens opening_entry opening_conditions opening_conditions_of loaded is_library are_labels every
  opening_agrees m = record {
    judged = refl;
    result_is = λ e. refl;
    beside_is = λ e. refl;
    puts = λ e.
        let one = none_first (not (in_range m)) measure (short_conditions layout (lent_of part) m) e in
        let none_stored = passes (in_range m) (leb 0 m.capacity ∷ true ∷ [])
        (is_true {b = in_range m} (not-false _ one.0), (le→leb 0 m.capacity (omega arith), tt)) in
        subst (λ (t : Tables). Keeps (left t memory) (book m [] [])) (sym (no_labels (opened part m)))
        (loads memory part m [] [] none_stored tt (short_room (lent_of part) m [] one.1));
  }

  reading_puts : (j : Judged)
      → ((m : Measures) (traces : List Trace) (labels : List Label) → j ≡ holds m traces labels
      → T (is_library sample_limit m traces) × T (are_labels (length traces) labels))
      → first_of (reading_conditions layout (lent_of part) j) ≡ none → Keeps (left (loaded_by part j) memory) (put_read b j)
  unfolding reading_conditions first_of loaded_by put_read
  reading_puts (refused why) is e = let z : ◌≡◌ {A = ℕ} 0 1 = cc in absurd (omega arith)
  reading_puts (holds m traces labels) is e =
      loads memory part m traces labels (is m traces labels refl).0 (is m traces labels refl).1 (short_room (lent_of part) m [] e)

  pub reading_agrees : (bytes : List ℕ) → T (are_bytes bytes)
      → Agrees memory (reads part bytes) (reading_entry layout (lent_of part) b bytes)
  unfolding reads reading_entry
  reading_agrees bytes typed = record {
    judged = refl;
    result_is = λ e. refl;
    beside_is = λ e. refl;
    puts = reading_puts (judge_sheet bytes)
        (λ m traces labels e. (is_library_lem bytes m traces labels typed e, are_labels_lem bytes m traces labels typed e));
  }

-- ---- the others

-- more traces of n samples, where there is room, make a library
pub library_grows : (m : Measures) (traces more : List Trace) → T (is_library sample_limit m traces) → T (every (is_trace sample_limit m.n) more)
    → length traces + length more ≤ m.capacity → T (is_library sample_limit m (traces ++ more))
unfolding is_library
library_grows m traces more library each room =
    let is = is_trace sample_limit m.n in
    let p = passed (in_range m) (leb (length traces) m.capacity ∷ every is traces ∷ []) library in
    let long : T (leb (length (traces ++ more)) m.capacity) =
    le→leb (length (traces ++ more)) m.capacity (omega (arith, length-append traces more)) in
    passes (in_range m) (leb (length (traces ++ more)) m.capacity ∷ every is (traces ++ more) ∷ [])
    (p.0, (long, all_every is (all_append (every_all is traces p.1.1) (every_all is more each))))

-- and as many labels more
labels_grow : (traces more : List Trace) (labels others : List Label) → T (are_labels (length traces) labels)
    → T (are_labels (length more) others) → T (are_labels (length (traces ++ more)) (labels ++ others))
labels_grow traces more labels others these those =
    let a = labels_of (length traces) labels these in
    let b = labels_of (length more) others those in
    labels_are (length (traces ++ more)) (labels ++ others) (record {
      each_one = omega (arith, a.each_one, b.each_one, length-append labels others, length-append traces more);
      all_fit = all_append a.all_fit b.all_fit;
    })

-- one label alone
pub one_label : (l : Label) → T (is_label l) → T (are_labels 1 (l ∷ []))
one_label l is = labels_are 1 (l ∷ []) (record { each_one = refl; all_fit = all_more {a = l} (fits_of l is) all_none })

-- "zero from callers that give neither"
pub zero_labels : (k : ℕ) → T (are_labels k (replicate k no_label))
zero_labels k = labels_are k (replicate k no_label) (record {
  each_one = length-replicate k no_label;
  all_fit = all_replicate k no_label (record { code_fits = omega arith; serial_fits = omega arith });
})

module _ (memory part : Tables) (begins : Begins part memory) (b : Book) (keeps : Keeps memory b) where
  abbrev m : Measures
  m = b.measures

  abbrev own : Tables
  own = library_tables b.measures b.traces b.labels

  -- where the book refuses nothing, the tables hold the book's library
  holds_it : (rest : List Condition) → first_of (short_conditions layout (lent_of part) m ++ rest) ≡ none → Holds part m b.traces
  holds_it rest e = part_holds keeps part begins (short_room (lent_of part) m rest e)

  labels_it : (rest : List Condition) → first_of (short_conditions layout (lent_of part) m ++ rest) ≡ none → labels_in part ≡ b.labels
  labels_it rest e = part_labels keeps part begins (short_room (lent_of part) m rest e)

  -- what begins with the library's tables is kept
  kept : (b' : Book) (part' : Tables) → T (is_library sample_limit b'.measures b'.traces)
      → T (are_labels (length b'.traces) b'.labels) → Begins (library_tables b'.measures b'.traces b'.labels) part'
      → Keeps (left part' memory) b'
  kept b' part' library are on = record {
    library = library;
    labelled = are;
    needed_places = begins_on (library_tables b'.measures b'.traces b'.labels) part' (left part' memory) on (left_begins part' memory);
  }

  -- traces that there is room for, and as many labels, added to tables of which the book refuses nothing
  more_kept : (rest : List Condition) → first_of (short_conditions layout (lent_of part) m ++ rest) ≡ none
      → (more : List Trace) (others : List Label) → T (every (is_trace sample_limit m.n) more)
      → length b.traces + length more ≤ m.capacity → T (are_labels (length more) others)
      → Keeps (left (added_with part more others) memory) (book m (b.traces ++ more) (b.labels ++ others))
  more_kept rest e more others each room are =
      let grows = library_grows m b.traces more keeps.library each room in
      kept (book m (b.traces ++ more) (b.labels ++ others)) (added_with part more others) grows
      (labels_grow b.traces more b.labels others keeps.labelled are)
      (more_begins m b.traces more b.labels others grows keeps.labelled (labels_of (length more) others are).each_one part
      (library_begins keeps part begins (short_room (lent_of part) m rest e)))

  abbrev adding_rest : Trace → List Condition
  adding_rest x = add_conditions m (length b.traces) x

  adding_puts : (x : Trace) (l : Label) → T (is_label l)
      → first_of (short_conditions layout (lent_of part) m ++ adding_rest x) ≡ none
      → Keeps (left (added_with part (x ∷ []) (l ∷ [])) memory) (book m (b.traces ++ (x ∷ [])) (b.labels ++ (l ∷ [])))
  unfolding every
  adding_puts x l is_label_lem e =
      let t = taken m (length b.traces) x (none_both (short_conditions layout (lent_of part) m) (adding_rest x) e).1 in
      let less : length b.traces < m.capacity = t.less (library_of sample_limit m b.traces keeps.library).room in
      more_kept (adding_rest x) e (x ∷ []) (l ∷ []) (passes (is_trace sample_limit m.n x) (true ∷ []) (t.is_trace_lem, tt))
      (omega (arith, less)) (one_label l is_label_lem)

  pub adding_agrees : (x : Trace) (l : Label) → T (is_label l)
      → Agrees memory (adds part x l) (adding_entry layout (lent_of part) b x l)
  unfolding adds adding_entry
  adding_agrees x l is_label_lem = record {
    judged = made_same keeps part begins _ (adding_rest x)
        (λ h labels. rw (
          ap (λ (k : Measures). k.n) h.measures_are,
          ap (λ (k : Measures). k.capacity)
              h.measures_are,
          counted keeps part begins h,
        ));
    result_is = λ e. ap added (counted keeps part begins (holds_it (adding_rest x) e));
    beside_is = λ e. refl;
    puts = adding_puts x l is_label_lem;
  }

  -- "The needed search work is left zero", as it was
  cleared_begins : Room (lent_of part) m → Begins own (cleared part)
  cleared_begins room =
      let on = library_begins keeps part begins room in
      let k : ℕ = work_needed m in
      tables_same (ap (λ (t : Tables). t.control) on) (ap (λ (t : Tables). t.samples) on) (ap (λ (t : Tables). t.nodes) on)
      (ap (λ (t : Tables). t.links) on)
      (rw (library_work m b.traces b.labels, (part_holds keeps part begins room).measures_are)
      (take-append_seam (replicate {A = ℕ} k 0) (drop k part.work)))
      (ap (λ (t : Tables). t.labels) on)

  -- so a search keeps the book
  searching_puts : (rest : List Condition) → first_of (short_conditions layout (lent_of part) m ++ rest) ≡ none
      → Keeps (left (cleared part) memory) b
  searching_puts rest e = kept b (cleared part) keeps.library keeps.labelled (cleared_begins (short_room (lent_of part) m rest e))

  -- any search
  pub searching_agrees : (q : Sought) → Agrees memory (searches part (search_of q)) (searching_entry layout (lent_of part) b (search_of q))
  searching_agrees q = record {
    judged = made_same keeps part begins _ rest (λ h labels. ap first_of (
        ap (λ (k : Measures). s.refuses_own k (trace_count part) (tree_in part)) h.measures_are
        ∙ (ap (λ (k : ℕ). s.refuses_own m k (tree_in part)) (counted keeps part begins h)
        ∙ ap (s.refuses_own m (length b.traces)) h.tree_is)));
    result_is = λ e. ap (λ (f : Found). f.result) (found_is e);
    beside_is = λ e. ap (λ (f : Found). f.beside) (found_is e);
    puts = searching_puts rest;
  }
    where
      s : AnySearch
      s = search_of q

      rest : List Condition
      rest = s.refuses_own m (length b.traces) (book_tree b)

      found_is : first_of (short_conditions layout (lent_of part) m ++ rest) ≡ none
          → s.steps (measures_of part) (traces_in part) (codes_of (labels_in part)) (tree_in part)
          ≡ s.closed m b.traces (codes_of b.labels) (book_tree b)
      found_is e =
          let h = holds_it rest e in
          ap (λ (k : Measures). s.steps k (traces_in part) (codes_of (labels_in part)) (tree_in part)) h.measures_are
          ∙ (ap (λ (l : List Trace). s.steps m l (codes_of (labels_in part)) (tree_in part)) h.traces_are
          ∙ (ap (λ (l : List Label). s.steps m b.traces (codes_of l) (tree_in part)) (labels_it rest e)
          ∙ (ap (s.steps m b.traces (codes_of b.labels)) h.tree_is
          ∙ (laws q).gives m b.traces (codes_of b.labels) (book_tree b) (exact sample_limit m b.traces keeps.library)
          (none_both (short_conditions layout (lent_of part) m) rest e).1)))

  pub writing_agrees : (sheet : List ℕ) → Agrees memory (writes part sheet) (writing_entry layout (lent_of part) b sheet)
  unfolding writes writing_entry
  writing_agrees sheet = record {
    judged = made_same keeps part begins _ rest (λ h labels. ap (λ (k : ℕ). first_of (too_short k)) (blocks_same h labels));
    result_is = λ e. let h = holds_it rest e in ap₂ written (blocks_same h (labels_it rest e)) (bytes_same h (labels_it rest e));
    beside_is = λ e. ap (λ (l : List ℕ). over l sheet ∷ []) (bytes_same (holds_it rest e) (labels_it rest e));
    puts = λ e. rw (left_same part memory begins) keeps;
  }
    where
      rest : List Condition
      rest = write_conditions m b.traces b.labels sheet

      too_short : ℕ → List Condition
      too_short blocks = ltb (length sheet) (block_size * blocks) refuses sheet_length ∷ []

      blocks_same : Holds part m b.traces → labels_in part ≡ b.labels
          → blocks_needed (measures_of part) (traces_in part) (labels_in part) ≡ blocks_needed m b.traces b.labels
      blocks_same h labels = λ i. blocks_needed (h.measures_are i) (h.traces_are i) (labels i)

      bytes_same : Holds part m b.traces → labels_in part ≡ b.labels
          → sheet_of (measures_of part) (traces_in part) (labels_in part) ≡ sheet_of m b.traces b.labels
      bytes_same h labels = λ i. sheet_of (h.measures_are i) (h.traces_are i) (labels i)

  -- document 02, §2
  module _ (bytes : List ℕ) (typed : T (are_bytes bytes)) where
    abbrev file : Option Recording
    file = judge_recording m.n bytes

    -- a recording gives no labels
    abbrev zeros : List Label
    zeros = replicate (length (file_traces file)) no_label

    abbrev importing_rest : List Condition
    importing_rest = import_conditions m (length b.traces) file

    -- where the tables hold the book's library, they read the same file
    same_file : Holds part m b.traces → judge_recording (measures_of part).n bytes ≡ file
    same_file h = ap (λ (k : Measures). judge_recording k.n bytes) h.measures_are

    importing_puts : first_of (short_conditions layout (lent_of part) m ++ importing_rest) ≡ none
        → Keeps (left (added_with part (file_traces file) zeros) memory) (book m (b.traces ++ file_traces file) (b.labels ++ zeros))
    importing_puts e =
        let parts = none_both (short_conditions layout (lent_of part) m) importing_rest e in
        let one = none_first (is_bad_file file) bad_recording _ parts.1 in
        let two = none_first (ltb m.capacity (length b.traces + length (file_traces file))) full _ one.1 in
        more_kept importing_rest e (file_traces file) zeros (file_traces_lem m.n bytes typed)
        (ltb-false m.capacity (length b.traces + length (file_traces file)) two.0) (zero_labels (length (file_traces file)))

    pub importing_agrees : Agrees memory (imports part bytes) (importing_entry layout (lent_of part) b bytes)
    unfolding imports importing_entry
    importing_agrees = record {
      judged = made_same keeps part begins _ importing_rest (λ h labels. rw (
        same_file h,
        ap (λ (k : Measures). k.capacity) h.measures_are,
        counted keeps part begins h,
      ));
      result_is = λ e. ap (λ (o : Option Recording). imported (length (file_traces o))) (same_file (holds_it importing_rest e));
      beside_is = λ e. refl;
      puts = λ e. subst (λ (o : Option Recording).
          Keeps (left (added_with part (file_traces o) (replicate (length (file_traces o)) no_label)) memory)
          (book m (b.traces ++ file_traces file) (b.labels ++ zeros))) (sym (same_file (holds_it importing_rest e))) (importing_puts e);
    }

  pub exporting_agrees : (number rate : ℕ) (buffer : List ℕ)
      → Agrees memory (exports part number rate buffer) (exporting_entry layout (lent_of part) b number rate buffer)
  unfolding exports exporting_entry
  exporting_agrees number rate buffer = record {
    judged = made_same keeps part begins _ rest
        (λ h labels. rw (ap (λ (k : Measures). k.n) h.measures_are, counted keeps part begins h, same_trace h));
    result_is = λ e. let h = holds_it rest e in
        ap₂ exported (ap (λ (k : Measures). recording_size k.n) h.measures_are) (same_bytes h);
    beside_is = λ e. ap (λ (l : List ℕ). over l buffer ∷ []) (same_bytes (holds_it rest e));
    puts = λ e. rw (left_same part memory begins) keeps;
  }
    where
      rest : List Condition
      rest = export_conditions m (length b.traces) (get_or b.traces number []) number rate buffer

      same_trace : Holds part m b.traces → get_or (traces_in part) number [] ≡ get_or b.traces number []
      same_trace h = ap (λ (l : List Trace). get_or l number []) h.traces_are

      same_bytes : Holds part m b.traces → recording_of rate (get_or (traces_in part) number []) ≡ recording_of rate (get_or b.traces number [])
      same_bytes h = ap (recording_of rate) (same_trace h)

  -- document 02, §6: "It accepts every library made by calls"
  pub checking_agrees : Agrees memory (checks part) (checking_entry layout (lent_of part) b)
  unfolding checks checking_entry
  checking_agrees = record {
    judged = accepted_same (kept_trusts keeps) begins;
    result_is = λ e. refl;
    beside_is = λ e. refl;
    puts = λ e. rw (left_same part memory begins) keeps;
  }

  -- document 02, §8: "The bench has a call that answers both for a trace number"
  pub labelling_agrees : (number : ℕ) → Agrees memory (tells_label part number) (labelling_entry layout (lent_of part) b number)
  unfolding tells_label labelling_entry
  labelling_agrees number = record {
    judged = made_same keeps part begins _ rest (λ h labels. rw (counted keeps part begins h));
    result_is = λ e. ap (λ (l : List Label). labelled (get_or l number no_label)) (labels_it rest e);
    beside_is = λ e. refl;
    puts = λ e. rw (left_same part memory begins) keeps;
  }
    where
      rest : List Condition
      rest = label_conditions (length b.traces) number

  -- document 02, §11: "Match a query over both"
  module _ (which : Which) (other : Other) (query : Trace) (trail : List ℕ) where
    abbrev pairing_rest : List Condition
    pairing_rest = pair_rest which m.n (indexed b.traces (book_tree b)) other query trail

    pairing_holds : first_of (pair_front which other ++ (short_conditions layout (lent_of part) m ++ pairing_rest)) ≡ none → Holds part m b.traces
    pairing_holds e = holds_it pairing_rest (none_both (pair_front which other) _ e).1

    pub pairing_agrees : Agrees memory (pairs part which other query trail) (pairing_entry layout (lent_of part) b which other query trail)
    unfolding pairs pairing_entry
    pairing_agrees = record {
      judged = front_same (pair_front which other) _ _ (made_same keeps part begins
          (pair_rest which (measures_of part).n (indexed (traces_in part) (tree_in part)) other query trail) pairing_rest
          (λ h labels. rw (ap (λ (k : Measures). k.n) h.measures_are, h.traces_are, h.tree_is)));
      result_is = λ e. let h = pairing_holds e in rw (h.traces_are, h.tree_is);
      beside_is = λ e. let h = pairing_holds e in rw (h.traces_are, h.tree_is);
      puts = λ e. searching_puts pairing_rest (none_both (pair_front which other) _ e).1;
    }

  -- ---- any call

  pub agrees : (ask : Ask) → Typed ask → Agrees memory (effect_of ask part) (entry_of layout (lent_of part) b ask)
  unfolding effect_of entry_of Typed
  agrees (opening m) typed = opening_agrees memory part b m
  agrees (adding x l) typed = adding_agrees x l typed
  agrees (searching q) typed = searching_agrees q
  agrees (writing sheet) typed = writing_agrees sheet
  agrees (reading bytes) typed = reading_agrees memory part b bytes typed
  agrees (importing bytes) typed = importing_agrees bytes typed
  agrees (exporting number rate buffer) typed = exporting_agrees number rate buffer
  agrees checking typed = checking_agrees
  agrees (labelling number) typed = labelling_agrees number
  agrees (pairing which other query trail) typed = pairing_agrees which other query trail
