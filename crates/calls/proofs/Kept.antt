-- Tables lent of a memory have its measures where they are long enough. Those of a memory that keeps a book are then well formed, and count
-- its traces: so what every call on made tables refuses first is what the book refuses, and 3 never holds.
use Prim.Native.Nat.{ℕ, ◌≤◌, ◌<◌}
use mathlib.Core.Path.{◌≡◌, refl, sym, ap, subst, ◌∙◌}
use mathlib.Core.Bool.{Bool, true, false}
use mathlib.Core.Option.{none}
use mathlib.Core.List.{List, ◌++◌}
use native.Mathlib.Omega.{arith}
use lib.ListN.{length, get_or}
use lib.Seq.{get_or-take}
use lib.Dec.{T}
use borrow.Author.Tests.{ltb-false}
use Rattle.integer.proofs.Tests.{test_true}
use Rattle.dstree.specs.Measures.{Trace, Measures, in_range, sample_limit, is_library}
use Rattle.dstree.specs.Labels.{Label, are_labels}
use Rattle.dstree.specs.Refusals.{Condition, first_of, short_table}
use Rattle.dstree.specs.Book.{Lent, Book, control_short, tables_short, short_conditions}
use Rattle.dstree.proofs.Conditions.{none_first}
use Rattle.dstree.proofs.Libraries.{library_of}
use Rattle.dstree.proofs.SheetLabels.{labels_of}
use Rattle.tables.specs.Layout.{layout, n_place, capacity_place, leaf_size_place, control_fields}
use Rattle.tables.specs.Tables.{Tables, lent_of, field, measures_of, trace_count}
use Rattle.tables.specs.View.{labels_in, well_formed}
use Rattle.tables.specs.Judge.{lent_conditions_of, Room}
use Rattle.tables.specs.Beginning.{Begins, LentWithin}
use Rattle.tables.specs.Answers.{made_conditions}
use Rattle.tables.proofs.Judged.{room_of}
use Rattle.tables.proofs.Samples.{spoiled_is}
use Rattle.tables.proofs.Beginning.{begins_between}
use Rattle.tables.proofs.Labels.{labels_begin}
use Rattle.tables.specs.Holds.{Holds}
use Rattle.insertion_memory.proofs.Made.{count_is}
use Rattle.insertion_memory.proofs.Beginnings.{begins_agree, traces_counted, holds_whole}
use Rattle.calls.specs.Library.{library_tables, Keeps}
use Rattle.calls.proofs.Library.{need, room_within, few_labels, library_holds, library_lent, library_labels}

-- where lengths are not refused, there is room
pub short_room : (lengths : Lent) (m : Measures) (rest : List Condition) → first_of (short_conditions layout lengths m ++ rest) ≡ none
    → Room lengths m
short_room lengths m rest e =
    let one = none_first (control_short layout lengths) short_table _ e in
    let two = none_first (tables_short layout lengths m) short_table _ one.1 in
    room_of lengths m one.0 two.0

-- ---- the conditions before a call's own, by what lengths and measures decide

-- the two lists refuse the same first
abbrev pub SameRefusal : List Condition → List Condition → Tables → Measures → Type 0
SameRefusal rest others t m = first_of (made_conditions t ++ rest) ≡ first_of (short_conditions layout (lent_of t) m ++ others)

module _ (rest others : List Condition) (t : Tables) (m : Measures) where
  by_short : control_short layout (lent_of t) ≡ true → SameRefusal rest others t m
  unfolding made_conditions lent_conditions_of first_of
  by_short e = rw e

  -- with a long enough control record that has these measures
  by_long : control_short layout (lent_of t) ≡ false → measures_of t ≡ m → in_range m ≡ true → (c : Bool) → tables_short layout (lent_of t) m ≡ c
      → (c ≡ false → (well_formed t ≡ true) × (first_of rest ≡ first_of others)) → SameRefusal rest others t m
  unfolding made_conditions lent_conditions_of first_of
  by_long long measured range true e f = rw (long, measured, range, e)
  by_long long measured range false e f = rw (long, measured, range, e, spoiled_is t, (f refl).0) (f refl).1

-- ---- tables lent of a memory, whatever it holds

module _ (memory part : Tables) (begins : Begins part memory) (m : Measures) (is : measures_of memory ≡ m) where
  -- a long enough control record has the memory's measures, whatever the other tables' lengths
  pub measures_lent : control_fields ≤ length part.control → measures_of part ≡ m
  measures_lent long = rw (of n_place (omega arith), of capacity_place (omega arith), of leaf_size_place (omega arith)) is
    where
      of : (i : ℕ) → i < control_fields → field part.control i ≡ field memory.control i
      of i h = ap (λ (l : List ℕ). get_or l i 0) (sym (ap (λ (t : Tables). t.control) begins))
          ∙ get_or-take (length part.control) memory.control i 0 (omega (arith, long))

  -- so what is refused before a call's own conditions is what lengths refuse, where long tables are well formed and those then refuse the
  -- same
  pub judged_same : (rest others : List Condition) → in_range m ≡ true
      → (Room (lent_of part) m → T (well_formed part) × (first_of rest ≡ first_of others)) → SameRefusal rest others part m
  unfolding control_short
  judged_same rest others range same = by (control_short layout (lent_of part)) refl
    where
      by : (c : Bool) → control_short layout (lent_of part) ≡ c → SameRefusal rest others part m
      by true e = by_short rest others part m e
      by false e =
          by_long rest others part m e (measures_lent (ltb-false (length part.control) control_fields e)) range
          (tables_short layout (lent_of part) m) refl
          (λ f. let h = same (room_of (lent_of part) m e f) in (test_true (well_formed part) h.0, h.1))

-- ---- tables that begin with a library's have its labels

module _ (m : Measures) (traces : List Trace) (labels : List Label) (library : T (is_library sample_limit m traces))
    (labelled : T (are_labels (length traces) labels)) where
  begun_labels : (t : Tables) → Begins (library_tables m traces labels) t → labels_in t ≡ labels
  begun_labels t begins =
      let own : Tables = library_tables m traces labels in
      let h = library_holds m traces labels library labelled in
      let lengths = ap (λ (l : Lent). l.labels) (library_lent m traces labels library labelled) in
      let fits : trace_count own ≤ length own.labels =
      omega (arith, count_is own, ap length h.traces_are, few_labels m traces labels library labelled, lengths, (labels_of (length traces) labels labelled).each_one) in
      labels_begin own t begins (traces_counted (begins_agree begins h.long)) fits ∙ library_labels m traces labels library labelled

-- ---- tables lent of a memory that keeps a book

module _ {memory : Tables} {b : Book} (keeps : Keeps memory b) (part : Tables) (begins : Begins part memory) where
  abbrev m : Measures
  m = b.measures

  abbrev own : Tables
  own = library_tables b.measures b.traces b.labels

  own_holds : Holds own m b.traces
  own_holds = library_holds m b.traces b.labels keeps.library keeps.labelled

  own_lent : lent_of own ≡ need m
  own_lent = library_lent m b.traces b.labels keeps.library keeps.labelled

  -- long enough, they begin with the library's tables, and hold what these hold
  pub library_begins : Room (lent_of part) m → Begins own part
  library_begins r = begins_between own part memory keeps.needed_places begins
      (subst (λ (l : Lent). LentWithin l (lent_of part)) (sym own_lent) (room_within r))

  pub part_holds : Room (lent_of part) m → Holds part m b.traces
  part_holds r = holds_whole (library_begins r) own_holds

  pub counted : Holds part m b.traces → trace_count part ≡ length b.traces
  counted h = count_is part ∙ ap length h.traces_are

  -- and they have the book's labels
  pub part_labels : Room (lent_of part) m → labels_in part ≡ b.labels
  part_labels r = begun_labels m b.traces b.labels keeps.library keeps.labelled part (library_begins r)

  -- so what is refused before a call's own conditions is what the book refuses, where those then refuse the same
  pub made_same : (rest others : List Condition)
      → (Holds part m b.traces → labels_in part ≡ b.labels → first_of rest ≡ first_of others) → SameRefusal rest others part m
  made_same rest others same =
      judged_same memory part begins m (holds_whole keeps.needed_places own_holds).measures_are rest others
      (test_true (in_range m) (library_of sample_limit m b.traces keeps.library).measured)
      (λ room. let h = part_holds room in (h.formed, same h (part_labels room)))

-- ---- a memory that keeps a book

-- it holds the book's library, and has its labels
module _ {memory : Tables} {b : Book} (k : Keeps memory b) where
  pub kept_holds : Holds memory b.measures b.traces
  kept_holds = holds_whole k.needed_places (library_holds b.measures b.traces b.labels k.library k.labelled)

  pub kept_labels : labels_in memory ≡ b.labels
  kept_labels = begun_labels b.measures b.traces b.labels k.library k.labelled memory k.needed_places
