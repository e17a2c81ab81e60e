-- A call on a memory that the check would accept, whichever it is, leaves one that it would accept, with the measures and traces that the
-- book then has: adding keeps figures exact, an opening and a reading make a library by calls, the others write nothing but search work. So
-- does a list of calls, from a check on that has just accepted; and none of them is refused with 3 or 13. The tree goes along: adding is
-- insertion into the one that was there.
use Rattle.std.specs.Prelude.{if◌then◌else◌}
use Prim.Native.Nat.{ℕ, ◌+◌, ◌≤◌, ◌<◌}
use mathlib.Core.Path.{◌≡◌, refl, sym, ap, subst, ◌∙◌}
use mathlib.Core.Bool.{Bool, true, false, not}
use mathlib.Core.Option.{Option, none, some}
use mathlib.Core.Logic.{◌⊎◌, inl, inr}
use mathlib.Core.List.{List, [], ◌∷◌, ◌++◌, append_assoc, append-nil}
use native.Mathlib.Omega.{arith}
use lib.ListN.{length, replicate, length-append}
use lib.Dec.{T, ltb}
use borrow.Author.Tests.{ltb-false}
use Rattle.integer.specs.Words.{every}
use Rattle.integer.specs.Lists.{In, first, later}
use Rattle.integer.proofs.Tests.{passes, test_true}
use Rattle.integer.proofs.Lists.{All, all_none, all_more, in_nil, in_cons, from_every, every_of}
use Rattle.dstree.specs.Measures.{Trace, Measures, sample_limit, is_trace, is_library, work_needed, labels_needed}
use Rattle.dstree.specs.Labels.{Label, no_label, is_label}
use Rattle.dstree.specs.Node.{Tree}
use Rattle.dstree.specs.Adding.{insertion, grown}
use Rattle.dstree.specs.Pair.{Indexed, indexed, Which, Other, pair_front, pair_rest}
use Rattle.dstree.specs.Refusals.{Refusal, Condition, ◌refuses◌, first_of, full, bad_recording, loose_record, number_of}
use Rattle.dstree.specs.Claims.{RangesOf}
use Rattle.dstree.specs.Checking.{is_exact}
use Rattle.dstree.specs.WellFormed as abstract
use Rattle.dstree.specs.Recording.{Recording, judge_recording, file_traces, is_bad_file}
use Rattle.dstree.specs.Sheet.{are_bytes}
use Rattle.dstree.specs.Book.{Lent, Ask, opening, adding, searching, writing, reading, importing, exporting, checking, labelling, pairing}
use Rattle.dstree.specs.Book.{Call, call, beside_of, accepted, refusing, answering, Reply, Book, book, book_tree, Entry, short_conditions, add_conditions}
use Rattle.dstree.specs.Book.{import_conditions, opening_entry, adding_entry, writing_entry, reading_entry, importing_entry, exporting_entry}
use Rattle.dstree.specs.Book.{checking_entry, labelling_entry, pairing_entry, entry_of, judge}
use Rattle.dstree.specs.Book.{put_unless, turn, after}
use Rattle.dstree.proofs.Conditions.{none_first, none_both, first_some, first_none, first_either}
use Rattle.dstree.specs.Remote.{codes_of}
use Rattle.dstree.proofs.Recordings.{file_traces_lem}
use Rattle.dstree.proofs.SheetLabels.{LabelFits, fits_of, Labels, labels_of}
use Rattle.dstree.proofs.Checking.{exactness, adding_accepted}
use Rattle.dstree.proofs.Libraries.{library_of}
use Rattle.tables.specs.Layout.{layout}
use Rattle.tables.specs.Tables.{Tables, lent_of, measures_of, trace_count}
use Rattle.tables.specs.View.{tree_in, traces_in, labels_in, labels_over, next_labelled, kinds_named, well_formed}
use Rattle.tables.specs.Judge.{lent_conditions_of, Room}
use Rattle.tables.specs.Beginning.{first_places, left, Begins}
use Rattle.tables.specs.Answers.{made_conditions}
use Rattle.tables.proofs.Views.{traces_size, tree_passes}
use Rattle.tables.proofs.Judged as judged
use Rattle.tables.proofs.Labels.{no_labels, next_lent, next_stored}
use Rattle.tables.proofs.Beginning.{fill_length, left_same, left_begins, first_begins}
use Rattle.insertion_memory.specs.Memory.{added_with}
use Rattle.insertion_memory.proofs.Meaning.{AfterAdding, meaning}
use Rattle.insertion_memory.proofs.Keeps.{keeps_well_formed}
use Rattle.insertion_memory.proofs.Labels.{labelled_formed, labelled_traces, labelled_tree, with_others}
use Rattle.calls.specs.Outcome.{Effect, unless_refused}
use Rattle.calls.specs.Trusted.{book_in, Trusts, tree_put, tree_unless, tree_after}
use Rattle.calls.specs.Effects.{opens, adds, cleared, writes, reads, imports, exports, checks, tells_label, other_in, pairs, effect_of}
use Rattle.calls.specs.Demands.{Said, said_first, said_later, FromOther}
use Rattle.calls.specs.Follows.{Typed, Follows, Ran, no_call, a_call}
use Rattle.calls.proofs.Kept.{kept_holds}
use Rattle.calls.proofs.Taken.{taken}
use Rattle.calls.proofs.Stored.{Fine}
use Rattle.calls.proofs.Trusted.{long_in, count_in, each_is, whole_trusts, whole_tree, part_trusts, part_tree, fine_room}
use Rattle.calls.proofs.Trusted.{trusted_same, accepted_same, checked_trusts, kept_trusts}
use Rattle.calls.proofs.Agrees.{Agrees, opening_agrees, reading_agrees, library_grows, zero_labels}
use Rattle.calls.proofs.Steps.{reply_is, memory_is}
use Rattle.calls.proofs.OfArguments.{if_any, first_any, of_arguments, other, first_other}
use Rattle.calls.proofs.Searches.{laws}
use Rattle.calls.proofs.NeverSpoiled.{opening_other, reading_other, front_from, rest_from, none_said, said_cases}
use Rattle.calls.proofs.OffTrail.{answered}

-- a memory that the check would accept, and its tree
pub record TrustsTree (memory : Tables) (b : Book) (tree : Tree) : Type 0 where
  pub trusts : Trusts memory b
  pub tree_is : tree_in memory ≡ tree

-- ---- adding

-- one trace of n samples with its label, where there is room
module _ {t : Tables} {b : Book} (k : Trusts t b) (x : Trace) (l : Label) (is_trace_lem : T (is_trace sample_limit b.measures.n x))
    (fits : LabelFits l) (less : length b.traces < b.measures.capacity) where
  abbrev m₀ : Measures
  m₀ = b.measures

  abbrev places : List ℕ
  places = labels_over t.labels (trace_count t) (l ∷ [])

  -- the tables with the label put
  abbrev s : Tables
  s = next_labelled t (l ∷ [])

  abbrev grew : Tables
  grew = added_with t (x ∷ []) (l ∷ [])

  label_fits : trace_count t + length (l ∷ []) ≤ length t.labels
  unfolding labels_needed
  label_fits = omega (arith, count_in k, less, k.room.labels_room)

  traces_there : traces_in s ≡ b.traces
  traces_there = labelled_traces t places ∙ k.traces_are

  formed_there : T (well_formed s)
  formed_there = labelled_formed t places k.formed

  each_there : T (every (is_trace sample_limit (measures_of s).n) (traces_in s))
  each_there = subst (λ (l : List Trace). T (every (is_trace sample_limit (measures_of s).n) l)) (sym traces_there)
      (subst (λ (m : Measures). T (every (is_trace sample_limit m.n) b.traces)) (sym k.measures_are) (each_is k))

  is_there : T (is_trace sample_limit (measures_of s).n x)
  is_there = subst (λ (m : Measures). T (is_trace sample_limit m.n x)) (sym k.measures_are) is_trace_lem

  room_there : trace_count s < (measures_of s).capacity
  room_there = omega (arith, less, count_in k, ap (λ (m : Measures). m.capacity) k.measures_are)

  means : AfterAdding s x
  means = meaning s x formed_there (long_in k) is_there room_there

  exact_there : T (is_exact (traces_in s) (tree_in s))
  exact_there = rw (labelled_traces t places, labelled_tree t places) k.exact

  tree_there : T (abstract.well_formed_tree sample_limit (measures_of s) (length (traces_in s)) (tree_in s))
  tree_there = subst (λ (n : ℕ). T (abstract.well_formed_tree sample_limit (measures_of s) n (tree_in s))) (sym (traces_size s)) (tree_passes s formed_there)

  grew_trusts : Trusts grew (book m₀ (b.traces ++ (x ∷ [])) (b.labels ++ (l ∷ [])))
  unfolding every
  grew_trusts = record {
    library = library_grows m₀ b.traces (x ∷ []) k.library (passes (is_trace sample_limit m₀.n x) (true ∷ []) (is_trace_lem, tt))
        (omega (arith, less));
    room = subst (λ (lengths : Lent). Room lengths m₀) (sym (means.lengths_stay ∙ next_lent t (l ∷ []) label_fits)) k.room;
    formed = keeps_well_formed s x formed_there (long_in k) is_there room_there each_there;
    measures_are = means.measures_stay ∙ k.measures_are;
    traces_are = means.traces ∙ ap (λ (l : List Trace). l ++ (x ∷ [])) traces_there;
    labels_are = next_stored t (l ∷ []) label_fits grew (means.trace_count_lem ∙ omega arith) means.labels_stay (all_more {a = l} fits all_none)
        ∙ ap (λ (labels : List Label). labels ++ (l ∷ [])) k.labels_are;
    exact = rw (means.traces, means.tree) (adding_accepted sample_limit (measures_of s) (traces_in s) (tree_in s) x tree_there each_there is_there
        (omega (arith, room_there, traces_size s)) exact_there);
  }

  add_trusts : TrustsTree grew (book m₀ (b.traces ++ (x ∷ [])) (b.labels ++ (l ∷ []))) (insertion m₀ b.traces (tree_in t) x)
  add_trusts = record {
    trusts = grew_trusts;
    tree_is = means.tree ∙ (λ i. insertion (k.measures_are i) (traces_there i) (labelled_tree t places i) x);
  }

-- any number of them, each with its label
all_trust : (more : List Trace) (others : List Label) {t : Tables} {b : Book} → Trusts t b
    → T (every (is_trace sample_limit b.measures.n) more)
    → length b.traces + length more ≤ b.measures.capacity → length others ≡ length more → All LabelFits others
    → TrustsTree (added_with t more others) (book b.measures (b.traces ++ more) (b.labels ++ others))
    (grown b.measures b.traces (tree_in t) more)
unfolding grown
all_trust [] [] {t} {b} k each room e fit =
    subst (λ (s : Tables). TrustsTree s (book b.measures (b.traces ++ []) (b.labels ++ [])) (tree_in t)) (no_labels t)
    (record { trusts = rw (append-nil b.traces, append-nil b.labels) k; tree_is = refl })
all_trust [] (l ∷ others) k each room e fit = absurd (omega (arith, e))
all_trust (x ∷ more) [] k each room e fit = absurd (omega (arith, e))
all_trust (x ∷ more) (l ∷ others) {t} {b} k each room e (all_more f fs) =
    let is = is_trace sample_limit b.measures.n in
    let m : Measures = b.measures in
    let one : Tables = added_with t (x ∷ []) (l ∷ []) in
    let next = add_trusts k x l (from_every is (x ∷ more) each first) f (omega (arith, room)) in
    let rest = all_trust more others next.trusts (every_of is more (λ y i. from_every is (x ∷ more) each (later i)))
    (omega (arith, room, length-append b.traces (x ∷ []))) (omega (arith, e)) fs in
    let counted : trace_count one ≡ trace_count t + length (l ∷ []) =
    omega (arith, count_in next.trusts, count_in k, length-append b.traces (x ∷ [])) in
    let fits : trace_count t + length (l ∷ []) ≤ length t.labels = label_fits k x l (from_every is (x ∷ more) each first) f (omega (arith, room)) in
    let after_one : added_with t (x ∷ more) (l ∷ others) ≡ added_with one more others = with_others t (x ∷ []) more (l ∷ []) others counted fits in
    let book_is : book m ((b.traces ++ (x ∷ [])) ++ more) ((b.labels ++ (l ∷ [])) ++ others) ≡ book m (b.traces ++ (x ∷ more)) (b.labels ++ (l ∷ others)) =
    λ i. book m (append_assoc b.traces (x ∷ []) more i) (append_assoc b.labels (l ∷ []) others i) in
    subst (λ (s : Tables). TrustsTree s (book m (b.traces ++ (x ∷ more)) (b.labels ++ (l ∷ others))) (grown m b.traces (tree_in t) (x ∷ more)))
    (sym after_one)
    (record {
      trusts = subst (Trusts (added_with one more others)) book_is rest.trusts;
      tree_is = rest.tree_is ∙ ap (λ (tree : Tree). grown m (b.traces ++ (x ∷ [])) tree more) next.tree_is;
    })

-- ---- one call

-- what an effect leaves of a memory that the check would accept, beside what the book puts, and the tree that is put. A refusal for what
-- tables hold comes `From` elsewhere
record Leads (memory : Tables) (b : Book) (e : Effect) (n : Entry) (put : Tree) (From : Refusal → Type 0) : Type 0 where
  -- refused or not, the book has the same after it. (A short trail is judged by the leaves of the tables' own tree, and puts nothing)
  puts_same : put_unless (first_of n.conditions) b n ≡ put_unless (first_of e.conditions) b n
  tree_same : tree_unless (first_of n.conditions) (tree_in memory) put ≡ tree_unless (first_of e.conditions) (tree_in memory) put
  trusts : first_of e.conditions ≡ none → TrustsTree (left e.after memory) n.puts put
  by_arguments : (w : Refusal) → (T (of_arguments w) → ⊥) → first_of e.conditions ≡ some w → From w

-- there is no such refusal
no_from : (From : Refusal → Type 0) (o : Option Refusal) → T (if_any of_arguments o) → (w : Refusal) → (T (of_arguments w) → ⊥) → o ≡ some w → From w
unfolding if_any
no_from From o t w is_not e = absurd (is_not (subst (λ (x : Option Refusal). T (if_any of_arguments x)) e t))

-- what agrees with a library that calls made: an opening, a reading
of_agrees : {memory : Tables} {b : Book} {e : Effect} {n : Entry} {From : Refusal → Type 0} → Agrees memory e n
    → T (every other n.conditions) → Leads memory b e n (book_tree n.puts) From
of_agrees {memory} {b} {e} {n} {From} a all = record {
  puts_same = ap (λ (o : Option Refusal). put_unless o b n) (sym a.judged);
  tree_same = ap (λ (o : Option Refusal). tree_unless o (tree_in memory) (book_tree n.puts)) (sym a.judged);
  trusts = λ f. let k = a.puts (sym a.judged ∙ f) in
      record {
        trusts = kept_trusts k;
        tree_is = (kept_holds k).tree_is;
      };
  by_arguments = no_from From (first_of e.conditions)
      (subst (λ (o : Option Refusal). T (if_any of_arguments o)) (sym a.judged) (first_other n.conditions all));
}

-- what puts nothing
put_stays : (o : Option Refusal) (b : Book) (n : Entry) → n.puts ≡ b → put_unless o b n ≡ b
unfolding put_unless
put_stays (some why) b n e = refl
put_stays none b n e = e

tree_stays : (o : Option Refusal) (tree : Tree) → tree_unless o tree tree ≡ tree
unfolding tree_unless
tree_stays (some why) tree = refl
tree_stays none tree = refl

module _ (memory part : Tables) (begins : Begins part memory) (b : Book) (k : Trusts memory b) where
  -- a call on tables that it is lent is refused by its own conditions and by lengths
  by_own : (rest : List Condition) → T (every other (short_conditions layout (lent_of part) b.measures ++ rest))
      → T (if_any of_arguments (first_of (made_conditions part ++ rest)))
  by_own rest all = subst (λ (o : Option Refusal). T (if_any of_arguments o)) (sym (trusted_same k begins rest rest (λ t. refl)))
      (first_other (short_conditions layout (lent_of part) b.measures ++ rest) all)

  -- where it is not refused, its tables are accepted
  lent_trusts : (rest : List Condition) → first_of (made_conditions part ++ rest) ≡ none → TrustsTree part b (tree_in memory)
  lent_trusts rest f =
      let room = fine_room k begins (none_both (made_conditions part) rest f).0 in
      record { trusts = part_trusts k begins room; tree_is = part_tree k begins room }

  left_trusts : {after : Tables} {b' : Book} {tree : Tree} → TrustsTree after b' tree → TrustsTree (left after memory) b' tree
  left_trusts {after} t =
      let on = left_begins after memory in
      record { trusts = whole_trusts on t.trusts; tree_is = whole_tree after (left after memory) on t.trusts ∙ t.tree_is }

  -- a search leaves search work zero, and all else
  cleared_trusts : {tree : Tree} → TrustsTree part b tree → TrustsTree (cleared part) b tree
  unfolding well_formed kinds_named tree_in traces_in labels_in
  cleared_trusts {tree} r =
      let t : Trusts part b = r.trusts in
      let w : ℕ = work_needed (measures_of part) in
      let room : work_needed (measures_of part) ≤ length part.work = rw t.measures_are t.room.work_room in
      record {
        trusts = record {
          library = t.library;
          room = rw (fill_length {A = ℕ} w 0 part.work room) t.room;
          formed = t.formed;
          measures_are = t.measures_are;
          traces_are = t.traces_are;
          labels_are = t.labels_are;
          exact = t.exact;
        };
        tree_is = r.tree_is;
      }

  -- an effect whose own conditions are `rest`
  search_leads : {From : Refusal → Type 0} (rest : List Condition) (e : Effect) (n : Entry) → e.conditions ≡ made_conditions part ++ rest
      → n.puts ≡ b → e.after ≡ cleared part → T (every other (short_conditions layout (lent_of part) b.measures ++ rest))
      → Leads memory b e n (tree_in memory) From
  search_leads {From} rest e n c p l all = record {
    puts_same = put_stays _ b n p ∙ sym (put_stays _ b n p);
    tree_same = tree_stays _ (tree_in memory) ∙ sym (tree_stays _ (tree_in memory));
    trusts = λ f. rw (l, p) (left_trusts (cleared_trusts (lent_trusts rest (ap first_of (sym c) ∙ f))));
    by_arguments = no_from From (first_of e.conditions) (rw c (by_own rest all));
  }

  staying : {From : Refusal → Type 0} (e : Effect) (n : Entry) → n.puts ≡ b → e.after ≡ part
      → T (if_any of_arguments (first_of e.conditions)) → Leads memory b e n (tree_in memory) From
  staying {From} e n p l args = record {
    puts_same = put_stays _ b n p ∙ sym (put_stays _ b n p);
    tree_same = tree_stays _ (tree_in memory) ∙ sym (tree_stays _ (tree_in memory));
    trusts = λ f. rw (l, p, left_same part memory begins) (record { trusts = k; tree_is = refl });
    by_arguments = no_from From (first_of e.conditions) args;
  }

  abbrev m : Measures
  m = b.measures

  adding_leads : {From : Refusal → Type 0} (x : Trace) (l : Label) → T (is_label l)
      → Leads memory b (adds part x l) (adding_entry layout (lent_of part) b x l) (insertion m b.traces (tree_in memory) x) From
  unfolding adds adding_entry is_library every of_arguments number_of
  adding_leads {From} x l is_label_lem = record {
    puts_same = ap (λ (o : Option Refusal). put_unless o b (adding_entry layout (lent_of part) b x l)) (sym judged);
    tree_same = ap (λ (o : Option Refusal). tree_unless o (tree_in memory) (insertion m b.traces (tree_in memory) x)) (sym judged);
    trusts = λ f. left_trusts (added f);
    by_arguments = no_from From (first_of (adds part x l).conditions) (by_own _ tt);
  }
    where
      rest : List Condition
      rest = add_conditions m (length b.traces) x

      judged : first_of (adds part x l).conditions ≡ first_of (short_conditions layout (lent_of part) m ++ rest)
      judged = trusted_same k begins _ rest (λ t. rw (
        ap (λ (k : Measures). k.n) t.measures_are,
        ap (λ (k : Measures). k.capacity) t.measures_are,
        count_in t,
      ))

      Grew : Tree → Type 0
      Grew tree = TrustsTree (added_with part (x ∷ []) (l ∷ [])) (book m (b.traces ++ (x ∷ [])) (b.labels ++ (l ∷ []))) (insertion m b.traces tree x)

      added : first_of (adds part x l).conditions ≡ none → Grew (tree_in memory)
      added f =
          let t = lent_trusts _ f in
          let own = taken m (length b.traces) x (none_both (short_conditions layout (lent_of part) m) rest (sym judged ∙ f)).1 in
          subst Grew t.tree_is
          (add_trusts t.trusts x l own.is_trace_lem (fits_of l is_label_lem) (own.less (library_of sample_limit m b.traces k.library).room))

  importing_leads : {From : Refusal → Type 0} (bytes : List ℕ) → T (are_bytes bytes)
      → Leads memory b (imports part bytes) (importing_entry layout (lent_of part) b bytes)
      (grown m b.traces (tree_in memory) (file_traces (judge_recording m.n bytes))) From
  unfolding imports importing_entry every of_arguments number_of
  importing_leads {From} bytes typed = record {
    puts_same = ap (λ (o : Option Refusal). put_unless o b (importing_entry layout (lent_of part) b bytes)) (sym judged);
    tree_same = ap (λ (o : Option Refusal). tree_unless o (tree_in memory) (grown m b.traces (tree_in memory) (file_traces file))) (sym judged);
    trusts = λ f. left_trusts (added f);
    by_arguments = no_from From (first_of (imports part bytes).conditions) (by_own _ tt);
  }
    where
      file : Option Recording
      file = judge_recording m.n bytes

      zeros : Labels (length (file_traces file)) (replicate (length (file_traces file)) no_label)
      zeros = labels_of (length (file_traces file)) (replicate (length (file_traces file)) no_label) (zero_labels (length (file_traces file)))

      Grows : Option Recording → Tree → Type 0
      Grows o tree =
          TrustsTree (added_with part (file_traces o) (replicate (length (file_traces o)) no_label))
          (book m (b.traces ++ file_traces file) (b.labels ++ replicate (length (file_traces file)) no_label)) (grown m b.traces tree (file_traces file))

      same_file : Trusts part b → judge_recording (measures_of part).n bytes ≡ file
      same_file t = ap (λ (k : Measures). judge_recording k.n bytes) t.measures_are

      judged : first_of (imports part bytes).conditions
          ≡ first_of (short_conditions layout (lent_of part) m ++ import_conditions m (length b.traces) file)
      judged = trusted_same k begins _ (import_conditions m (length b.traces) file)
          (λ t. rw (same_file t, ap (λ (k : Measures). k.capacity) t.measures_are, count_in t))

      added : first_of (imports part bytes).conditions ≡ none → Grows (judge_recording (measures_of part).n bytes) (tree_in memory)
      added f =
          let own = (none_both (short_conditions layout (lent_of part) m) (import_conditions m (length b.traces) file) (sym judged ∙ f)).1 in
          let two = none_first (ltb m.capacity (length b.traces + length (file_traces file))) full _
          (none_first (is_bad_file file) bad_recording _ own).1 in
          let t = lent_trusts _ f in
          subst (λ (o : Option Recording). Grows o (tree_in memory)) (sym (same_file t.trusts))
          (subst (Grows file) t.tree_is
          (all_trust (file_traces file) (replicate (length (file_traces file)) no_label) t.trusts (file_traces_lem m.n bytes typed)
          (ltb-false m.capacity (length b.traces + length (file_traces file)) two.0) zeros.each_one zeros.all_fit))

  -- document 02, §11: a refusal for what tables hold is one for the other library's
  pairing_leads : (which : Which) (o : Other) (query : Trace) (trail : List ℕ)
      → Leads memory b (pairs part which o query trail) (pairing_entry layout (lent_of part) b which o query trail) (tree_in memory)
      (λ w. first_of o.conditions ≡ some w)
  unfolding pairs pairing_entry every of_arguments number_of
  pairing_leads which o query trail = record {
    puts_same = put_stays _ b entry refl ∙ sym (put_stays _ b entry refl);
    tree_same = tree_stays _ (tree_in memory) ∙ sym (tree_stays _ (tree_in memory));
    trusts = λ f. left_trusts (cleared_trusts (lent_trusts rest (none_both (pair_front which o) _ f).1));
    by_arguments = λ w is_not e. from w is_not (first_either (pair_front which o) (made_conditions part ++ rest) w e);
  }
    where
      entry : Entry
      entry = pairing_entry layout (lent_of part) b which o query trail

      own : Indexed
      own = indexed (traces_in part) (tree_in part)

      rest : List Condition
      rest = pair_rest which (measures_of part).n own o query trail

      short : List Condition
      short = short_conditions layout (lent_of part) m

      behind : (w : Refusal) → (T (of_arguments w) → ⊥) → (first_of short ≡ some w) ⊎ (first_of rest ≡ some w) → first_of o.conditions ≡ some w
      behind w is_not (inl q) = no_from (λ (v : Refusal). first_of o.conditions ≡ some v) (first_of short) (first_other short tt) w is_not q
      behind w is_not (inr q) = rest_from w is_not which (measures_of part).n own o query trail q

      from : (w : Refusal) → (T (of_arguments w) → ⊥)
          → (first_of (pair_front which o) ≡ some w) ⊎ (first_of (made_conditions part ++ rest) ≡ some w) → first_of o.conditions ≡ some w
      from w is_not (inl q) = front_from w is_not which o q
      from w is_not (inr q) = behind w is_not (first_either short rest w (sym (trusted_same k begins rest rest (λ t. refl)) ∙ q))

  leads : (ask : Ask) → Typed ask
      → Leads memory b (effect_of ask part) (entry_of layout (lent_of part) b ask) (tree_put b (tree_in memory) ask) (λ w. FromOther w ask)
  unfolding effect_of entry_of Typed writes exports checks tells_label opening_entry reading_entry writing_entry exporting_entry checking_entry labelling_entry
      every of_arguments number_of tree_put grown FromOther
  leads (opening x) typed = of_agrees (opening_agrees memory part b x) (opening_other layout (lent_of part) b x)
  leads (adding x l) typed = adding_leads x l typed
  leads (searching q) typed = search_leads _ _ _ refl refl refl ((laws q).by_arguments (measures_of part) (trace_count part) (tree_in part))
  leads (writing sheet) typed = staying _ _ refl refl (by_own _ tt)
  leads (reading bytes) typed = of_agrees (reading_agrees memory part b bytes typed) (reading_other layout (lent_of part) b bytes)
  leads (importing bytes) typed = importing_leads bytes typed
  leads (exporting number rate buffer) typed = staying _ _ refl refl (by_own _ tt)
  leads checking typed = staying _ _ refl refl
      (subst (λ (o : Option Refusal). T (if_any of_arguments o)) (sym (accepted_same k begins))
      (first_other (short_conditions layout (lent_of part) m) tt))
  leads (labelling number) typed = staying _ _ refl refl (by_own _ tt)
  leads (pairing which o query trail) typed = pairing_leads which o query trail

-- ---- the step

-- what is said is no refusal for what the tables hold
abbrev pub NotOfTables : Ask → Reply → Type 0
NotOfTables ask said = (w : Refusal) → (T (of_arguments w) → ⊥) → said.answer ≡ refusing w → FromOther w ask

module _ {memory : Tables} {b : Book} {e : Effect} {n : Entry} {put : Tree} {From : Refusal → Type 0} (l : Leads memory b e n put From)
    (part : Tables) (begins : Begins part memory) (beside : List (List ℕ)) where
  leads_by : Trusts memory b → (o : Option Refusal) → first_of e.conditions ≡ o
      → TrustsTree (left (unless_refused o part beside e).after memory) (put_unless o b n) (tree_unless o (tree_in memory) put)
  unfolding unless_refused put_unless tree_unless
  leads_by k (some why) q = rw (left_same part memory begins) (record { trusts = k; tree_is = refl })
  leads_by k none q = l.trusts q

  says_by : (o : Option Refusal) → first_of e.conditions ≡ o → (w : Refusal) → (T (of_arguments w) → ⊥)
      → (unless_refused o part beside e).answer ≡ refusing w → From w
  unfolding unless_refused
  says_by (some why) p w is_not q = let same : why ≡ w = cc in l.by_arguments w is_not (p ∙ ap some same)
  says_by none p w is_not q = let z : ◌≡◌ {A = ℕ} 0 1 = cc in absurd (omega arith)

pub trusting : {c : Call} {memory memory' : Tables} {said : Reply} {b : Book} → Follows c memory said memory' → Trusts memory b
    → TrustsTree memory' (turn layout b c) (tree_unless (judge layout b c) (tree_in memory) (tree_put b (tree_in memory) c.ask))
    × NotOfTables c.ask said
unfolding turn judge
trusting {c} {memory} {memory'} {said} {b} f k =
    let part = first_places c.lent memory in
    let begins = first_begins c.lent memory in
    let put : Tree = tree_put b (tree_in memory) c.ask in
    let l : Leads memory b (effect_of c.ask part) (entry_of layout c.lent b c.ask) put (λ w. FromOther w c.ask) =
    subst (λ (l : Lent). Leads memory b (effect_of c.ask part) (entry_of layout l b c.ask) put (λ w. FromOther w c.ask)) f.has_places
    (leads memory part begins b k c.ask f.typed) in (
      rw (memory_is f, l.puts_same, l.tree_same) (leads_by l part begins (beside_of c.ask) k (first_of (effect_of c.ask part).conditions) refl),
      λ w is_not q. says_by l part begins (beside_of c.ask) (first_of (effect_of c.ask part).conditions) refl w is_not
          (sym (ap (λ (r : Reply). r.answer) (reply_is f)) ∙ q),
    )

-- ---- a list of calls

pub all_trusting : {b : Book} {memory memory' : Tables} {calls : List Call} {said : List Reply} → Trusts memory b
    → Ran memory calls said memory'
    → TrustsTree memory' (after layout b calls) (tree_after layout b (tree_in memory) calls)
    × ((c : Call) (r : Reply) → Said c r calls said → NotOfTables c.ask r)
unfolding after tree_after
all_trusting k no_call = (record { trusts = k; tree_is = refl }, λ c r i. absurd (none_said i))
all_trusting {b} {memory} {memory'} k (a_call {c = c} {rest = calls} f rest) =
    let s = trusting f k in
    let t = all_trusting {b = turn layout b c} s.0.trusts rest in
    let b₁ : Book = turn layout b c in (
      subst (λ (tree : Tree). TrustsTree memory' (after layout b₁ calls) (tree_after layout b₁ tree calls)) s.0.tree_is t.0,
      λ c r i. said_cases (λ (c : Call) (r : Reply). NotOfTables c.ask r) s.1 t.1 i,
    )

-- ---- the first call

-- only a check answers `accepted`
only_check : (ask : Ask) (t : Tables) → (effect_of ask t).result ≡ accepted → ask ≡ checking
unfolding effect_of opens adds writes reads imports exports checks tells_label pairs
only_check (opening m) t e = let z : ◌≡◌ {A = ℕ} 0 1 = cc in absurd (omega arith)
only_check (adding x l) t e = let z : ◌≡◌ {A = ℕ} 0 1 = cc in absurd (omega arith)
only_check (searching q) t e = absurd (((laws q).own_answer (measures_of t) (traces_in t) (codes_of (labels_in t)) (tree_in t)).1 e)
only_check (writing sheet) t e = let z : ◌≡◌ {A = ℕ} 0 1 = cc in absurd (omega arith)
only_check (reading bytes) t e = let z : ◌≡◌ {A = ℕ} 0 1 = cc in absurd (omega arith)
only_check (importing bytes) t e = let z : ◌≡◌ {A = ℕ} 0 1 = cc in absurd (omega arith)
only_check (exporting number rate buffer) t e = let z : ◌≡◌ {A = ℕ} 0 1 = cc in absurd (omega arith)
only_check checking t e = refl
only_check (labelling number) t e = let z : ◌≡◌ {A = ℕ} 0 1 = cc in absurd (omega arith)
only_check (pairing which o query trail) t e = let z : ◌≡◌ {A = ℕ} 0 1 = cc in absurd (omega arith)

module _ {lent : Lent} {memory memory' : Tables} {said : Reply} (f : Follows (call lent checking) memory said memory') where
  abbrev lent_part : Tables
  lent_part = first_places lent memory

  -- a check leaves everything as it was, whatever it answers
  pub check_stays : memory' ≡ memory
  unfolding effect_of beside_of checks unless_refused
  check_stays = memory_is f ∙ by (first_of (checks lent_part).conditions)
    where
      by : (o : Option Refusal) → left (unless_refused o lent_part [] (checks lent_part)).after memory ≡ memory
      by (some why) = left_same lent_part memory (first_begins lent memory)
      by none = left_same lent_part memory (first_begins lent memory)

  -- where it accepts, no condition holds
  pub check_fine : said.answer ≡ answering accepted → first_of (checks lent_part).conditions ≡ none
  unfolding effect_of beside_of
  check_fine a = (answered (first_of (checks lent_part).conditions) lent_part [] (checks lent_part) accepted
      (sym (ap (λ (r : Reply). r.answer) (reply_is f)) ∙ a)).0

  pub part_checked : said.answer ≡ answering accepted → Trusts lent_part (book_in lent_part)
  part_checked a = checked_trusts lent_part (check_fine a)

  -- the memory is accepted with what it holds
  whole_checked : said.answer ≡ answering accepted → Trusts memory (book_in memory)
  whole_checked a =
      let k = whole_trusts (first_begins lent memory) (part_checked a) in
      let same : book_in lent_part ≡ book_in memory = rw (k.measures_are, k.traces_are, k.labels_are) in
      subst (Trusts memory) same k

-- ---- 13

pub refused_with : (o : Option Refusal) (t : Tables) (beside : List (List ℕ)) (e : Effect) (w : Refusal)
    → (unless_refused o t beside e).answer ≡ refusing w → o ≡ some w
unfolding unless_refused
refused_with (some why) t beside e w q = cc
refused_with none t beside e w q = let z : ◌≡◌ {A = ℕ} 0 1 = cc in absurd (omega arith)

-- 13 is none of the refusals before it
below_13 : Refusal → Bool
unfolding number_of
below_13 r = ltb (number_of r) 13

made_below : (t : Tables) → T (if_any below_13 (first_of (made_conditions t)))
unfolding made_conditions lent_conditions_of every below_13 number_of
made_below t = first_any below_13 (made_conditions t) tt

-- another library is not refused with it
no_other : (ask : Ask) → Typed ask → FromOther loose_record ask → ⊥
unfolding Typed FromOther other_in if_any below_13 number_of
no_other (pairing which o query trail) typed e =
    let made : first_of (made_conditions typed.of) ≡ some loose_record = sym (ap (λ (x : Other). first_of x.conditions) typed.is) ∙ e in
    subst (λ (x : Option Refusal). T (if_any below_13 x)) made (made_below typed.of)
no_other (opening m) typed e = e
no_other (adding x l) typed e = e
no_other (searching q) typed e = e
no_other (writing sheet) typed e = e
no_other (reading bytes) typed e = e
no_other (importing bytes) typed e = e
no_other (exporting number rate buffer) typed e = e
no_other checking typed e = e
no_other (labelling number) typed e = e

-- so no call of a list is, where such a refusal could only come from another library
pub no_loose : {memory memory' : Tables} {calls : List Call} {said : List Reply} → Ran memory calls said memory'
    → ((c : Call) (r : Reply) → Said c r calls said → r.answer ≡ refusing loose_record → FromOther loose_record c.ask)
    → (r : Reply) → In r said → r.answer ≡ refusing loose_record → ⊥
no_loose no_call from r i = absurd (in_nil i)
no_loose (a_call {c = c} {said = said} {others = others} f rest) from r i =
    by (in_cons i) (no_loose rest (λ d s j. from d s (said_later j)) r)
  where
    by : (r ≡ said) ⊎ In r others → (In r others → r.answer ≡ refusing loose_record → ⊥) → r.answer ≡ refusing loose_record → ⊥
    by (inl e) onward q = no_other c.ask f.typed (from c said said_first (sym (ap (λ (x : Reply). x.answer) e) ∙ q))
    by (inr j) onward q = onward j q

-- so where it is found, nothing before it was
last_holds : (t : Tables) (loose : Bool) → first_of (made_conditions t ++ loose refuses loose_record ∷ []) ≡ some loose_record
    → (first_of (made_conditions t) ≡ none) × (loose ≡ true)
unfolding first_of if_any below_13 number_of
last_holds t loose q = by (first_of (made_conditions t)) refl (made_below t)
  where
    is_loose : (b : Bool) → (if b then some loose_record else none) ≡ some loose_record → b ≡ true
    is_loose true e = refl
    is_loose false e = let z : ◌≡◌ {A = ℕ} 0 1 = cc in absurd (omega arith)

    by : (o : Option Refusal) → first_of (made_conditions t) ≡ o → T (if_any below_13 o) → (first_of (made_conditions t) ≡ none) × (loose ≡ true)
    by none e below = (e, is_loose loose (sym (first_none (made_conditions t) (loose refuses loose_record ∷ []) e) ∙ q))
    by (some why) e below =
        let same : why ≡ loose_record = cc (sym (first_some (made_conditions t) (loose refuses loose_record ∷ []) why e) ∙ q) in
        absurd (subst (λ (r : Refusal). T (below_13 r)) same below)

module _ {lent : Lent} {memory memory' : Tables} {said : Reply} (f : Follows (call lent checking) memory said memory')
    (a : said.answer ≡ refusing loose_record) where
  abbrev loose_tables : Tables
  loose_tables = first_places lent memory

  loose_last : (first_of (made_conditions loose_tables) ≡ none) × (not (is_exact (traces_in loose_tables) (tree_in loose_tables)) ≡ true)
  unfolding effect_of beside_of checks
  loose_last = last_holds loose_tables (not (is_exact (traces_in loose_tables) (tree_in loose_tables)))
      (refused_with (first_of (checks loose_tables).conditions) loose_tables [] (checks loose_tables) loose_record
      (sym (ap (λ (r : Reply). r.answer) (reply_is f)) ∙ a))

  -- "when well-formed tables hold a figure that isn't exactly the recomputed one"
  pub loose_is : T (well_formed loose_tables) × (RangesOf (traces_in loose_tables) (tree_in loose_tables) → ⊥)
  loose_is =
      let t : Tables = loose_tables in
      let w = (judged.accepted t loose_last.0).formed in
      let passes = subst (λ (n : ℕ). T (abstract.well_formed_tree sample_limit (measures_of t) n (tree_in t))) (sym (traces_size t))
      (tree_passes t w) in
      let exact = exactness sample_limit (measures_of t) (traces_in t) (tree_in t) passes in (
        w,
        λ r. let e = test_true (is_exact (traces_in t) (tree_in t)) (exact.ranges_exact r) in
            let z : ◌≡◌ {A = ℕ} 0 1 = cc (loose_last.1, e) in omega arith,
      )

  -- so no other call refuses them for what they hold
  pub loose_fine : Fine lent memory
  loose_fine = loose_last.0

-- ---- a memory on which a check has just accepted

-- a memory on which a call has just answered so
pub trusted : {c : Call} {memory memory' : Tables} {said : Reply} → Follows c memory said memory' → said.answer ≡ answering accepted
    → TrustsTree memory' (book_in memory) (tree_in memory)
trusted {c} {memory} {memory'} {said} f a =
    let part = first_places c.lent memory in
    let e = effect_of c.ask part in
    let is = (answered (first_of e.conditions) part (beside_of c.ask) e accepted (sym (ap (λ (r : Reply). r.answer) (reply_is f)) ∙ a)).1 in
    let g : Follows (call c.lent checking) memory said memory' =
    subst (λ (d : Call). Follows d memory said memory') (ap (call c.lent) (only_check c.ask part is)) f in
    rw (check_stays g) (record { trusts = whole_checked g a; tree_is = refl })
