-- What a memory stores, whoever made its tree. Tables lent of it that no call refuses for what they hold have its measures, its traces and
-- its labels, and these are a library's: nothing of that is read from a node. No sample stored is outside the limits, whatever the words in
-- the table are.
use Prim.Native.Nat.{ℕ, ◌≤◌}
use mathlib.Core.Path.{◌≡◌, refl, sym, ap, subst, ◌∙◌}
use mathlib.Core.Option.{none}
use mathlib.Core.List.{List, [], ◌∷◌}
use native.Mathlib.Omega.{arith}
use lib.ListN.{length}
use lib.Dec.{T, leb, le→leb}
use Rattle.integer.specs.Words.{every}
use Rattle.integer.proofs.Tests.{passes}
use Rattle.dstree.specs.Measures.{Trace, Measures, sample_limit, in_range, is_trace, is_library, labels_needed}
use Rattle.dstree.specs.Labels.{Label, are_labels}
use Rattle.dstree.specs.Refusals.{first_of}
use Rattle.dstree.specs.Book.{Lent, Book}
use Rattle.tables.specs.Tables.{Tables, measures_of, trace_count}
use Rattle.tables.specs.View.{traces_in, labels_in}
use Rattle.tables.specs.Beginning.{first_places}
use Rattle.tables.specs.Answers.{made_conditions}
use Rattle.tables.specs.Holds.{Long}
use Rattle.tables.proofs.Views.{traces_size, tree_formed}
use Rattle.tables.proofs.Samples.{no_sample_outside, spoiled_is, stored_are, words_are_samples}
use Rattle.tables.proofs.Judged.{Accepted, accepted}
use Rattle.tables.proofs.Beginning.{first_begins}
use Rattle.tables.proofs.Labels.{stored_labels, labels_begin}
use Rattle.insertion_memory.proofs.FromTables.{long_of}
use Rattle.insertion_memory.proofs.Beginnings.{Agree, begins_agree, measures_same, traces_counted, traces_same}
use Rattle.calls.specs.Library.{Keeps}
use Rattle.calls.specs.Trusted.{book_in, Trusts}
use Rattle.calls.specs.Demands.{SamplesInside}
use Rattle.calls.proofs.Kept.{kept_holds, kept_labels}

-- ---- any tables

-- "A stored sample outside the limits makes the tables spoiled": a rule that refuses none
pub samples_inside_lem : (t : Tables) → SamplesInside t
samples_inside_lem t = record {
  traces_inside = no_sample_outside t;
  words_inside = words_are_samples t.samples;
  by_others = spoiled_is t;
}

-- ---- tables that no call refuses for what they hold

-- their measures and traces are a library's
pub stored_library : (t : Tables) → Accepted t → T (is_library sample_limit (measures_of t) (traces_in t))
unfolding is_library
stored_library t ok =
    let f = tree_formed t ok.formed in
    let m : Measures = measures_of t in
    passes (in_range m) (leb (length (traces_in t)) m.capacity ∷ every (is_trace sample_limit m.n) (traces_in t) ∷ []) (
      f.measured,
      (
        le→leb (length (traces_in t)) m.capacity (omega (arith, traces_size t, f.room)),
        stored_are t (long_of t ok.room) f.room,
      ),
    )

-- the places of a memory that a call is lent are such tables
abbrev pub Fine : Lent → Tables → Type 0
Fine lent memory = first_of (made_conditions (first_places lent memory)) ≡ none

-- they have its measures, its traces and its labels
module _ (lent : Lent) (memory : Tables) (fine : Fine lent memory) where
  abbrev part : Tables
  part = first_places lent memory

  long : Long part
  long = long_of part (accepted part fine).room

  agree : Agree part memory
  agree = begins_agree (first_begins lent memory) long

  pub measures_stored : measures_of part ≡ measures_of memory
  measures_stored = sym (measures_same agree)

  pub traces_stored : traces_in part ≡ traces_in memory
  traces_stored = sym (traces_same agree (accepted part fine).formed long)

  counted_stored : trace_count memory ≡ trace_count part
  counted_stored = traces_counted agree

  -- there is a place for each label
  places_stored : trace_count part ≤ length part.labels
  unfolding labels_needed
  places_stored = omega (arith, (tree_formed part (accepted part fine).formed).room, (accepted part fine).room.labels_room)

  pub labels_stored : labels_in part ≡ labels_in memory
  labels_stored = sym (labels_begin part memory (first_begins lent memory) counted_stored places_stored)

  memory_labelled : T (are_labels (length (traces_in memory)) (labels_in memory))
  memory_labelled =
      subst (λ (k : ℕ). T (are_labels k (labels_in memory))) (sym (traces_size part) ∙ ap length traces_stored)
      (subst (λ (l : List Label). T (are_labels (trace_count part) l)) labels_stored (stored_labels part places_stored))

  memory_library : T (is_library sample_limit (measures_of memory) (traces_in memory))
  memory_library =
      subst (λ (m : Measures). T (is_library sample_limit m (traces_in memory))) measures_stored
      (subst (λ (l : List Trace). T (is_library sample_limit (measures_of part) l)) traces_stored
      (stored_library part (accepted part fine)))

-- ---- a memory with a book's measures, traces and labels

pub record Stores (memory : Tables) (b : Book) : Type 0 where
  pub measures_are : measures_of memory ≡ b.measures
  pub traces_are : traces_in memory ≡ b.traces
  pub labels_are : labels_in memory ≡ b.labels
  -- a library's, where tables lent of it are not refused for what they hold
  pub library : (lent : Lent) → Fine lent memory → T (is_library sample_limit b.measures b.traces)

-- such tables have these measures, traces and labels, one for each
module _ {memory : Tables} {b : Book} (k : Stores memory b) (lent : Lent) (fine : Fine lent memory) where
  pub lent_measures : measures_of (first_places lent memory) ≡ b.measures
  lent_measures = measures_stored lent memory fine ∙ k.measures_are

  pub lent_traces : traces_in (first_places lent memory) ≡ b.traces
  lent_traces = traces_stored lent memory fine ∙ k.traces_are

  pub lent_labels : labels_in (first_places lent memory) ≡ b.labels
  lent_labels = labels_stored lent memory fine ∙ k.labels_are

  pub lent_labelled : T (are_labels (length b.traces) b.labels)
  lent_labelled =
      subst (λ (l : List Trace). T (are_labels (length l) b.labels)) k.traces_are
      (subst (λ (l : List Label). T (are_labels (length (traces_in memory)) l)) k.labels_are (memory_labelled lent memory fine))

-- which memories these are: one that keeps the book ..
pub kept_stores : {memory : Tables} {b : Book} → Keeps memory b → Stores memory b
kept_stores k =
    let h = kept_holds k in
    record { measures_are = h.measures_are; traces_are = h.traces_are; labels_are = kept_labels k; library = λ lent fine. k.library }

-- .. one that the check would accept ..
pub trusted_stores : {memory : Tables} {b : Book} → Trusts memory b → Stores memory b
trusted_stores k = record {
  measures_are = k.measures_are;
  traces_are = k.traces_are;
  labels_are = k.labels_are;
  library = λ lent fine. k.library;
}

-- .. and any, with what it has
pub any_stores : (memory : Tables) → Stores memory (book_in memory)
any_stores memory = record {
  measures_are = refl;
  traces_are = refl;
  labels_are = refl;
  library = λ lent fine. memory_library lent memory fine;
}
