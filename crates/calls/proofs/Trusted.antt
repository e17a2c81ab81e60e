-- Memories that the check would accept, whatever made their tables. What they hold is read from the needed places alone, so that it is what
-- a call is lent that is lent enough; and no call refuses them for what they hold. A memory that keeps a book is one of them.
use Prim.Native.Nat.{ℕ, ◌≤◌}
use mathlib.Core.Path.{◌≡◌, refl, sym, ap, subst, ◌∙◌}
use mathlib.Core.Bool.{not}
use mathlib.Core.Option.{none}
use mathlib.Core.List.{List, [], ◌∷◌}
use native.Mathlib.Omega.{arith}
use lib.ListN.{length, get_or}
use lib.Dec.{T, leb}
use borrow.Author.Tests.{not-false}
use Rattle.integer.specs.Words.{every}
use Rattle.integer.proofs.Tests.{passed, is_true, test_true}
use Rattle.integer.proofs.Lists.{in_get_or, from_every}
use Rattle.dstree.specs.Measures.{Trace, Measures, sample_limit, in_range, is_trace, is_library, labels_needed}
use Rattle.dstree.specs.Claims.{ExactTree}
use Rattle.dstree.specs.Checking.{is_exact}
use Rattle.dstree.specs.WellFormed as abstract
use Rattle.dstree.specs.Refusals.{Condition, first_of, loose_record}
use Rattle.dstree.specs.Book.{Lent, Book, short_conditions}
use Rattle.dstree.proofs.Conditions.{none_first, none_both}
use Rattle.dstree.proofs.Limits.{trace_length}
use Rattle.dstree.proofs.Checking.{accepted_exact, made_accepted}
use Rattle.dstree.proofs.Libraries.{library_of}
use Rattle.tables.specs.Layout.{layout}
use Rattle.tables.specs.Tables.{Tables, lent_of, measures_of, trace_count}
use Rattle.tables.specs.View.{tree_in, traces_in, labels_in}
use Rattle.tables.specs.Judge.{Room}
use Rattle.tables.specs.Beginning.{Begins, LentWithin}
use Rattle.tables.specs.Answers.{made_conditions}
use Rattle.tables.specs.Holds.{Long}
use Rattle.tables.proofs.Views.{tree_passes}
use Rattle.tables.proofs.Judged.{accepted}
use Rattle.tables.proofs.Beginning.{begins_within}
use Rattle.tables.proofs.Labels.{labels_begin}
use Rattle.insertion_memory.proofs.FromTables.{long_of}
use Rattle.insertion_memory.proofs.Made.{count_is}
use Rattle.insertion_memory.proofs.Beginnings.{Agree, agree_back, begins_agree, measures_same, traces_counted, tree_same, traces_same, formed_same}
use Rattle.calls.specs.Library.{library_tables, Keeps}
use Rattle.calls.specs.Trusted.{book_in, Trusts}
use Rattle.calls.specs.Effects.{checks}
use Rattle.calls.proofs.Library.{library_holds, library_lent, library_labels, need_room}
use Rattle.calls.proofs.Kept.{SameRefusal, measures_lent, judged_same}
use Rattle.calls.proofs.Stored.{stored_library}

-- ---- what such tables hold

module _ {memory : Tables} {b : Book} (k : Trusts memory b) where
  pub long_in : Long memory
  long_in = long_of memory (subst (Room (lent_of memory)) (sym k.measures_are) k.room)

  pub count_in : trace_count memory ≡ length b.traces
  count_in = count_is memory ∙ ap length k.traces_are

  -- there is a place for each label
  labels_fit : {lengths : Lent} → Room lengths b.measures → trace_count memory ≤ lengths.labels
  unfolding labels_needed
  labels_fit room = omega (arith, count_in, (library_of sample_limit b.measures b.traces k.library).room, room.labels_room)

  pub each_is : T (every (is_trace sample_limit b.measures.n) b.traces)
  unfolding is_library
  each_is = (passed (in_range b.measures)
      (leb (length b.traces) b.measures.capacity ∷ every (is_trace sample_limit b.measures.n) b.traces ∷ []) k.library).1.1

  -- the rules hold of the book's measures and traces with the tables' tree
  pub tree_is_formed : T (abstract.well_formed_tree sample_limit b.measures (length b.traces) (tree_in memory))
  tree_is_formed =
      subst (λ (m : Measures). T (abstract.well_formed_tree sample_limit m (length b.traces) (tree_in memory))) k.measures_are
      (subst (λ (n : ℕ). T (abstract.well_formed_tree sample_limit (measures_of memory) n (tree_in memory))) count_in (tree_passes memory k.formed))

  pub book_exact : T (is_exact b.traces (tree_in memory))
  book_exact = subst (λ (l : List Trace). T (is_exact l (tree_in memory))) k.traces_are k.exact

  -- all that is claimed of a query asks for
  pub exact_tree : ExactTree sample_limit b.measures b.traces (tree_in memory)
  exact_tree = accepted_exact sample_limit b.measures b.traces (tree_in memory) tree_is_formed
      (λ t h. trace_length sample_limit b.measures.n (get_or b.traces t [])
      (from_every (is_trace sample_limit b.measures.n) b.traces each_is (in_get_or b.traces t [] h)))
      book_exact

-- ---- tables that agree on the needed places

agree_trusts : {t s : Tables} {b : Book} → Agree t s → Room (lent_of s) b.measures → labels_in s ≡ labels_in t → Trusts t b → Trusts s b
agree_trusts a room labels k =
    let traces = traces_same a k.formed (long_in k) in
    record {
      library = k.library;
      room = room;
      formed = formed_same a k.formed (long_in k);
      measures_are = measures_same a ∙ k.measures_are;
      traces_are = traces ∙ k.traces_are;
      labels_are = labels ∙ k.labels_are;
      exact = rw (traces, tree_same a k.formed (long_in k)) k.exact;
    }

room_more : {short long : Lent} {m : Measures} → LentWithin short long → Room short m → Room long m
room_more h r = record {
  long = record {
    control_long = omega (arith, h.control_within, r.long.control_long);
    samples_long = omega (arith, h.samples_within, r.long.samples_long);
    nodes_long = omega (arith, h.nodes_within, r.long.nodes_long);
    links_long = omega (arith, h.links_within, r.long.links_long);
  };
  work_room = omega (arith, h.work_within, r.work_room);
  labels_room = omega (arith, h.labels_within, r.labels_room);
}

-- a memory is accepted if its first places are
pub whole_trusts : {part memory : Tables} {b : Book} → Begins part memory → Trusts part b → Trusts memory b
whole_trusts {part} {memory} begins k =
    let a = begins_agree begins (long_in k) in
    agree_trusts a (room_more (begins_within part memory begins) k.room)
    (labels_begin part memory begins (traces_counted a) (labels_fit k k.room)) k

pub whole_tree : (part memory : Tables) {b : Book} → Begins part memory → Trusts part b → tree_in memory ≡ tree_in part
whole_tree part memory begins k = tree_same (begins_agree begins (long_in k)) k.formed (long_in k)

-- .. and then they are, long enough
module _ {memory : Tables} {b : Book} (k : Trusts memory b) {part : Tables} (begins : Begins part memory) where
  module _ (room : Room (lent_of part) b.measures) where
    forth : Agree part memory
    forth = begins_agree begins
        (long_of part (subst (Room (lent_of part)) (sym (measures_lent memory part begins b.measures k.measures_are room.long.control_long)) room))

    back : Agree memory part
    back = agree_back forth

    pub part_trusts : Trusts part b
    part_trusts = agree_trusts back room
        (sym (labels_begin part memory begins (traces_counted forth)
        (subst (λ (n : ℕ). n ≤ length part.labels) (traces_counted forth) (labels_fit k room)))) k

    pub part_tree : tree_in part ≡ tree_in memory
    part_tree = tree_same back k.formed (long_in k)

  -- tables that no call refuses for what they hold are long enough for the book's measures
  pub fine_room : first_of (made_conditions part) ≡ none → Room (lent_of part) b.measures
  fine_room e =
      let r = (accepted part e).room in
      subst (Room (lent_of part)) (measures_lent memory part begins b.measures k.measures_are r.long.control_long) r

  -- what is refused before a call's own conditions is what lengths refuse, where those then refuse the same
  pub trusted_same : (rest others : List Condition) → (Trusts part b → first_of rest ≡ first_of others)
      → SameRefusal rest others part b.measures
  trusted_same rest others same =
      judged_same memory part begins b.measures k.measures_are rest others
      (test_true (in_range b.measures) (library_of sample_limit b.measures b.traces k.library).measured)
      (λ room. let t = part_trusts room in (t.formed, same t))

  -- so a check refuses no more than lengths
  pub accepted_same : first_of (checks part).conditions ≡ first_of (short_conditions layout (lent_of part) b.measures)
  unfolding checks first_of
  accepted_same = trusted_same _ [] (λ t. rw (test_true (is_exact (traces_in part) (tree_in part)) t.exact))

-- ---- which memories these are

-- those on which a check has just accepted
pub checked_trusts : (t : Tables) → first_of (checks t).conditions ≡ none → Trusts t (book_in t)
unfolding checks
checked_trusts t e =
    let parts = none_both (made_conditions t) _ e in
    let ok = accepted t parts.0 in
    let one = none_first (not (is_exact (traces_in t) (tree_in t))) loose_record [] parts.1 in
    record {
      library = stored_library t ok;
      room = ok.room;
      formed = ok.formed;
      measures_are = refl;
      traces_are = refl;
      labels_are = refl;
      exact = is_true {b = is_exact (traces_in t) (tree_in t)} (not-false _ one.0);
    }

-- "It accepts every library made by calls"
pub kept_trusts : {memory : Tables} {b : Book} → Keeps memory b → Trusts memory b
kept_trusts {b = b} k =
    let m : Measures = b.measures in
    let h = library_holds m b.traces b.labels k.library k.labelled in
    let own : Trusts (library_tables m b.traces b.labels) b = record {
      library = k.library;
      room = subst (λ (l : Lent). Room l m) (sym (library_lent m b.traces b.labels k.library k.labelled)) (need_room m);
      formed = h.formed;
      measures_are = h.measures_are;
      traces_are = h.traces_are;
      labels_are = library_labels m b.traces b.labels k.library k.labelled;
      exact = rw (h.traces_are, h.tree_is) (made_accepted sample_limit m b.traces k.library);
    } in
    whole_trusts k.needed_places own
