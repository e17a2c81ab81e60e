-- The tables of a library: as long as its measures need, holding its traces, their tree and their labels, with search work all zero. Each
-- adding keeps what is said here, so that a list of addings does: one induction over the traces of a library, in order.
use Prim.Native.Nat.{ℕ, zero, suc, ◌+◌, ◌*◌, ◌≤◌}
use mathlib.Core.Path.{◌≡◌, refl, sym, ap, subst, ◌∙◌}
use mathlib.Core.List.{List, [], ◌∷◌, ◌++◌, map, foldl, append_assoc, append-nil, foldl-append}
use native.Mathlib.Omega.{arith}
use lib.IntN.{pos}
use lib.ListN.{length, take, drop, replicate, length-append, length-replicate}
use lib.Seq.{take-append_seam, drop_at}
use lib.Dec.{T}
use Rattle.dstree.specs.Measures.{Trace, Measures, sample_limit, is_library, samples_needed, records_needed, links_needed, work_needed, labels_needed}
use Rattle.dstree.specs.Labels.{Label, are_labels, label_at}
use Rattle.dstree.specs.Book.{Lent}
use Rattle.dstree.proofs.Libraries.{library_of}
use Rattle.dstree.proofs.SheetLabels.{labels_of}
use Rattle.tables.specs.Layout.{control_fields, record_places}
use Rattle.tables.specs.Tables.{Tables, lent_of, measures_of, trace_count, filled}
use Rattle.tables.specs.View.{labels_in, labels_over, next_labelled}
use Rattle.tables.specs.Judge.{lent, Room}
use Rattle.tables.specs.Beginning.{Begins, LentWithin}
use Rattle.tables.specs.Answers.{opened}
use Rattle.tables.proofs.Beginning.{tables_same, opened_lent}
use Rattle.tables.proofs.Labels.{over_behind, next_lent, next_stored}
use Rattle.tables.specs.Holds.{Holds}
use Rattle.insertion_memory.specs.Memory.{added_to, added_with}
use Rattle.insertion_memory.proofs.Meaning.{AfterAdding, meaning, all_labels}
use Rattle.insertion_memory.proofs.Made.{count_is, takes_more, holds_more, holds_all, holds_none, made_holds, shorter}
use Rattle.insertion_memory.proofs.Beginnings.{begins_agree, traces_counted}
use Rattle.insertion_memory.proofs.AddedBeginnings.{added_begins}
use Rattle.insertion_memory.proofs.Labels.{labelled_holds, labels_after, with_others, next_begins}
use Rattle.calls.specs.Library.{blank, loaded, library_tables, beyond}

-- ---- as many places as the measures need

abbrev pub need : Measures → Lent
need m = lent control_fields (samples_needed m) (records_needed m * record_places) (links_needed m) (work_needed m) (labels_needed m)

blank_lent : (m : Measures) → lent_of (blank m) ≡ need m
unfolding blank
blank_lent m = simp length-replicate

pub need_room : (m : Measures) → Room (need m) m
need_room m = record {
  long = record {
    control_long = omega arith;
    samples_long = omega arith;
    nodes_long = omega arith;
    links_long = omega arith;
  };
  work_room = omega arith;
  labels_room = omega arith;
}

blank_room : (m : Measures) → Room (lent_of (blank m)) m
blank_room m = subst (λ (l : Lent). Room l m) (sym (blank_lent m)) (need_room m)

-- long enough for the measures is as long as the need
pub room_within : {lengths : Lent} {m : Measures} → Room lengths m → LentWithin (need m) lengths
room_within r = record {
  control_within = r.long.control_long;
  samples_within = r.long.samples_long;
  nodes_within = r.long.nodes_long;
  links_within = r.long.links_long;
  work_within = r.work_room;
  labels_within = r.labels_room;
}

-- ---- one trace after another

-- what holds of no trace, and of one more of a library's whenever it holds of those before it, holds of all of them
library_by : (m : Measures) (R : List Trace → Type 0) → R []
    → ((before : List Trace) (x : Trace) → T (is_library sample_limit m (before ++ (x ∷ []))) → R before → R (before ++ (x ∷ [])))
    → (traces : List Trace) → T (is_library sample_limit m traces) → R traces
library_by m R none more traces = from [] traces none
  where
    from : (before rest : List Trace) → R before → T (is_library sample_limit m (before ++ rest)) → R (before ++ rest)
    from before [] r library = rw (append-nil before) r
    from before (x ∷ rest) r library =
        let e : (before ++ (x ∷ [])) ++ rest ≡ before ++ (x ∷ rest) = append_assoc before (x ∷ []) rest in
        let all = subst (λ (l : List Trace). T (is_library sample_limit m l)) (sym e) library in
        subst R e (from (before ++ (x ∷ [])) rest (more before x (shorter m (before ++ (x ∷ [])) rest all) r) all)

-- ---- addings to tables that hold no trace yet

module _ (t : Tables) (m : Measures) (h : Holds t m []) where
  -- one more adding, as its meaning has it
  adding_to : (before : List Trace) (x : Trace) → T (is_library sample_limit m (before ++ (x ∷ []))) → AfterAdding (foldl added_to t before) x
  adding_to before x library =
      let k = holds_all m t [] before h (shorter m before (x ∷ []) library) in
      let takes = takes_more m (foldl added_to t before) before x k library in
      meaning (foldl added_to t before) x k.formed k.long takes.0 takes.1

  -- the last is added to what the others left
  last_added : (before : List Trace) (x : Trace) → foldl added_to t (before ++ (x ∷ [])) ≡ added_to (foldl added_to t before) x
  last_added before x = foldl-append added_to t before (x ∷ [])

  all_lent : (traces : List Trace) → T (is_library sample_limit m traces) → lent_of (foldl added_to t traces) ≡ lent_of t
  all_lent = library_by m (λ (l : List Trace). lent_of (foldl added_to t l) ≡ lent_of t) refl
      (λ before x library e. ap lent_of (last_added before x) ∙ ((adding_to before x library).lengths_stay ∙ e))

  -- "places beyond the needed ones untouched"
  all_beyond : (traces : List Trace) → T (is_library sample_limit m traces) → beyond m (foldl added_to t traces) ≡ beyond m t
  all_beyond = library_by m (λ (l : List Trace). beyond m (foldl added_to t l) ≡ beyond m t) refl
      (λ before x library e. ap (beyond m) (last_added before x) ∙ (added_behind before x library ∙ e))
    where
      added_behind : (before : List Trace) (x : Trace) → T (is_library sample_limit m (before ++ (x ∷ [])))
          → beyond m (added_to (foldl added_to t before) x) ≡ beyond m (foldl added_to t before)
      added_behind before x library =
          let s : Tables = foldl added_to t before in
          let a = adding_to before x library in
          let e = (holds_all m t [] before h (shorter m before (x ∷ []) library)).measures_are in
          subst (λ (k : Measures). beyond k (added_to s x) ≡ beyond k s) e
          (tables_same a.control_behind a.samples_behind a.nodes_behind a.links_behind
          (ap (drop (work_needed (measures_of s))) a.work_stays) (ap (drop (labels_needed (measures_of s))) a.labels_stay))

-- some traces of a library, and others added to tables that hold the first, and to longer ones that begin with these: the one goes on
-- beginning with the other
added_begin : (m : Measures) (before more : List Trace) → T (is_library sample_limit m (before ++ more)) → (short long : Tables)
    → Holds short m before → Begins short long → Begins (foldl added_to short more) (foldl added_to long more)
added_begin m before [] library short long h b = b
added_begin m before (x ∷ more) library short long h b =
    let e : (before ++ (x ∷ [])) ++ more ≡ before ++ (x ∷ more) = append_assoc before (x ∷ []) more in
    let all = subst (λ (l : List Trace). T (is_library sample_limit m l)) (sym e) library in
    let one = shorter m (before ++ (x ∷ [])) more all in
    let takes = takes_more m short before x h one in
    added_begin m (before ++ (x ∷ [])) more all (added_to short x) (added_to long x) (holds_more m short before x h one)
    (added_begins short long x b h.formed h.long takes.0 takes.1)

-- ---- opening, and labels for the traces to come

-- zeros over the first places leave those behind
pub fill_behind : {A : Type 0} (k : ℕ) (z : A) (l : List A) → drop k (filled k z l) ≡ drop k l
fill_behind k z l = drop_at (replicate k z) (drop k l) k (length-replicate k z)

module _ (t : Tables) (m : Measures) (room : Room (lent_of t) m) where
  pub opened_beyond : beyond m (opened t m) ≡ beyond m t
  unfolding opened
  opened_beyond = tables_same refl
      (fill_behind (samples_needed m) (pos 0) t.samples)
      (fill_behind (records_needed m * record_places) (pos 0) t.nodes)
      (fill_behind {A = ℕ} (links_needed m) 0 t.links)
      (fill_behind {A = ℕ} (work_needed m) 0 t.work)
      (fill_behind {A = ℕ} (labels_needed m) 0 t.labels)

  opened_count : trace_count (opened t m) ≡ 0
  unfolding opened
  opened_count = refl

  module _ (labels : List Label) (few : length labels ≤ labels_needed m) where
    -- there is a place for each
    opened_fits : trace_count (opened t m) + length labels ≤ length (opened t m).labels
    opened_fits = omega (arith, opened_count, few, room.labels_room, ap (λ (l : Lent). l.labels) (opened_lent t m room))

    start_lent : lent_of (next_labelled (opened t m) labels) ≡ lent_of t
    start_lent = next_lent (opened t m) labels opened_fits ∙ opened_lent t m room

    start_beyond : beyond m (next_labelled (opened t m) labels) ≡ beyond m t
    start_beyond =
        tables_same refl refl refl refl refl
        (over_behind (opened t m).labels (trace_count (opened t m)) labels opened_fits (labels_needed m) (omega (arith, opened_count, few)))
        ∙ opened_beyond

-- ---- what is loaded

module _ (t : Tables) (m : Measures) (room : Room (lent_of t) m) (traces : List Trace) (labels : List Label)
    (library : T (is_library sample_limit m traces)) where
  abbrev places : List ℕ
  places = labels_over (opened t m).labels (trace_count (opened t m)) labels

  start_holds : Holds (next_labelled (opened t m) labels) m []
  start_holds = labelled_holds (opened t m) places (holds_none t m (library_of sample_limit m traces library).measured room)

  -- made tables, with whatever labels
  pub loaded_holds : Holds (loaded t m traces labels) m traces
  unfolding loaded
  loaded_holds = subst (λ (s : Tables). Holds s m traces) (sym (labels_after (opened t m) places traces))
      (labelled_holds (foldl added_to (opened t m) traces) places
      (made_holds t m (library_of sample_limit m traces library).measured room traces library))

  pub loaded_lent : length labels ≤ labels_needed m → lent_of (loaded t m traces labels) ≡ lent_of t
  unfolding loaded
  loaded_lent few = all_lent (next_labelled (opened t m) labels) m start_holds traces library ∙ start_lent t m room labels few

  -- "places beyond the needed ones untouched"
  pub loaded_beyond : length labels ≤ labels_needed m → beyond m (loaded t m traces labels) ≡ beyond m t
  unfolding loaded
  loaded_beyond few = all_beyond (next_labelled (opened t m) labels) m start_holds traces library ∙ start_beyond t m room labels few

-- one for each trace, labels find their places
pub few_labels : (m : Measures) (traces : List Trace) (labels : List Label) → T (is_library sample_limit m traces)
    → T (are_labels (length traces) labels) → length labels ≤ labels_needed m
unfolding labels_needed
few_labels m traces labels library labelled =
    omega (arith, (labels_of (length traces) labels labelled).each_one, (library_of sample_limit m traces library).room)

-- adding leaves search work as it was, however many traces are added
pub work_stays : (t : Tables) (more : List Trace) → (foldl added_to t more).work ≡ t.work
unfolding added_to
work_stays t [] = refl
work_stays t (x ∷ more) = work_stays (added_to t x) more

-- ---- the library's tables

-- zeros over exactly as many zeros
all_filled : {A : Type 0} (k : ℕ) (z : A) → filled k z (replicate k z) ≡ replicate k z
all_filled {A = A} k z = ap (λ (d : List A). replicate k z ++ d) (drop_end k) ∙ append-nil (replicate k z)
  where
    drop_end : (k : ℕ) → drop k (replicate k z) ≡ []
    drop_end zero = refl
    drop_end (suc k) = drop_end k

-- "The needed search work is left zero"
pub library_work : (m : Measures) (traces : List Trace) (labels : List Label)
    → (library_tables m traces labels).work ≡ replicate (work_needed m) 0
unfolding loaded opened blank
library_work m traces labels = work_stays (next_labelled (opened (blank m) m) labels) traces ∙ all_filled {A = ℕ} (work_needed m) 0

module _ (part : Tables) (m : Measures) (room : Room (lent_of part) m) where
  opened_begins : Begins (opened (blank m) m) (opened part m)
  unfolding opened blank
  opened_begins = tables_same refl
      (same (samples_needed m) (pos 0) part.samples)
      (same (records_needed m * record_places) (pos 0) part.nodes)
      (same {A = ℕ} (links_needed m) 0 part.links)
      (same {A = ℕ} (work_needed m) 0 part.work)
      (same {A = ℕ} (labels_needed m) 0 part.labels)
    where
      same : {A : Type 0} (k : ℕ) (z : A) (l : List A)
          → take (length (filled k z (replicate k z))) (filled k z l) ≡ filled k z (replicate k z)
      same {A = A} k z l = rw (all_filled k z) (take-append_seam (replicate k z) (drop k l))

module _ (m : Measures) (traces : List Trace) (labels : List Label) (library : T (is_library sample_limit m traces))
    (labelled : T (are_labels (length traces) labels)) where
  abbrev own : Tables
  own = library_tables m traces labels

  pub library_holds : Holds own m traces
  library_holds = loaded_holds (blank m) m (blank_room m) traces labels library

  pub library_lent : lent_of own ≡ need m
  library_lent = loaded_lent (blank m) m (blank_room m) traces labels library (few_labels m traces labels library labelled) ∙ blank_lent m

  library_count : trace_count own ≡ length traces
  library_count = count_is own ∙ ap length library_holds.traces_are

  -- they have these labels
  pub library_labels : labels_in own ≡ labels
  unfolding loaded labels_in
  library_labels =
      let start : Tables = opened (blank m) m in
      let fits = opened_fits (blank m) m (blank_room m) labels (few_labels m traces labels library labelled) in
      let are = labels_of (length traces) labels labelled in
      next_stored start labels fits own (omega (arith, library_count, opened_count (blank m) m (blank_room m), are.each_one))
      (ap (λ (t : Tables). t.labels) (all_labels (next_labelled start labels) traces)) are.all_fit
      ∙ ap (λ (k : ℕ). map label_at (take k start.labels) ++ labels) (opened_count (blank m) m (blank_room m))

  -- what is loaded into more places begins with what is loaded into the needed ones
  pub loaded_begins : (part : Tables) → Room (lent_of part) m → Begins own (loaded part m traces labels)
  unfolding loaded
  loaded_begins part room =
      let short : Tables = opened (blank m) m in
      let long : Tables = opened part m in
      let fits = opened_fits (blank m) m (blank_room m) labels (few_labels m traces labels library labelled) in
      added_begin m [] traces library (next_labelled short labels) (next_labelled long labels)
      (start_holds (blank m) m (blank_room m) traces labels library)
      (next_begins short long labels (opened_begins part m room)
      (opened_count part m room ∙ sym (opened_count (blank m) m (blank_room m))) fits)

-- ---- more traces

module _ (m : Measures) (traces more : List Trace) (labels others : List Label)
    (library : T (is_library sample_limit m (traces ++ more))) (labelled : T (are_labels (length traces) labels))
    (each : length others ≡ length more) where
  before_library : T (is_library sample_limit m traces)
  before_library = shorter m traces more library

  -- there is a place for each label
  more_fit : trace_count (library_tables m traces labels) + length others ≤ length (library_tables m traces labels).labels
  unfolding labels_needed
  more_fit = omega (
    arith,
    library_count m traces labels before_library labelled,
    ap (λ (l : Lent). l.labels) (library_lent m traces labels before_library labelled),
    (library_of sample_limit m (traces ++ more) library).room,
    length-append traces more,
    each,
  )

  -- the library of all of them is the one of the first, with the others added
  library_more : library_tables m (traces ++ more) (labels ++ others) ≡ added_with (library_tables m traces labels) more others
  unfolding loaded
  library_more =
      let start : Tables = opened (blank m) m in
      let zeros = opened_count (blank m) m (blank_room m) in
      let are = (labels_of (length traces) labels labelled).each_one in
      with_others start traces more labels others (omega (arith, library_count m traces labels before_library labelled, zeros, are))
      (opened_fits (blank m) m (blank_room m) labels (few_labels m traces labels before_library labelled))

  -- added to tables that begin with a library's
  pub more_begins : (part : Tables) → Begins (library_tables m traces labels) part
      → Begins (library_tables m (traces ++ more) (labels ++ others)) (added_with part more others)
  more_begins part begins =
      let h = library_holds m traces labels before_library labelled in
      let short : Tables = library_tables m traces labels in
      let counted : trace_count part ≡ trace_count short = traces_counted (begins_agree begins h.long) in
      subst (λ (t : Tables). Begins t (added_with part more others)) (sym library_more)
      (added_begin m traces more library (next_labelled short others) (next_labelled part others)
      (labelled_holds short (labels_over short.labels (trace_count short) others) h) (next_begins short part others begins counted more_fit))
