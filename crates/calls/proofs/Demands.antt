-- The demands over calls that follow their definitions. A memory keeps the book from the first opening on, and so is one that the check
-- would accept; of any query, what is claimed holds of every such memory (`Queries`). From a check on that has just accepted, a memory goes
-- on being one, and the same claims hold of it.
use Prim.Native.Nat.{ℕ, ◌*◌, ◌<◌}
use mathlib.Core.Path.{◌≡◌, refl, sym, ap, subst, ◌∙◌}
use mathlib.Core.Bool.{Bool, true, false, not}
use mathlib.Core.Option.{Option, none, some}
use mathlib.Core.List.{List, [], ◌∷◌}
use lib.ListN.{length, take}
use lib.Dec.{T}
use borrow.Author.Tests.{eq-eqb}
use Rattle.integer.proofs.Tests.{is_true, test_true}
use Rattle.dstree.specs.Measures.{Trace, sample_limit, are_samples}
use Rattle.dstree.specs.Node.{Tree}
use Rattle.dstree.specs.Matching.{Near, searched, match_from, match_by_steps}
use Rattle.dstree.specs.KNearest.{ranking, Listing, k_nearest_by_steps, distances_among}
use Rattle.dstree.specs.Batch.{near_or_zero}
use Rattle.dstree.specs.Claims.{RangesOf}
use Rattle.dstree.specs.Checking.{is_exact, Exactness}
use Rattle.dstree.specs.WellFormed as abstract
use Rattle.dstree.specs.Refusals.{◌refuses◌, first_of, spoiled, empty, loose_record}
use Rattle.dstree.specs.Book.{Lent, listing, checking, call, beside_of, matched, match_seen, refusing, neighbours, Reply, Book, book_tree, Call, done, accepted, answering, after}
use Rattle.dstree.specs.Book.{short_conditions, list_conditions, entry_of, judge, reply_unless, reply_of, start}
use Rattle.dstree.proofs.Conditions.{first_none}
use Rattle.dstree.proofs.KSteps.{step_claims, list_of, one_searched}
use Rattle.dstree.proofs.Checking.{exactness}
use Rattle.dstree.proofs.Damage.{may_be_torn}
use Rattle.tables.specs.Layout.{layout}
use Rattle.tables.specs.Tables.{Tables, measures_of}
use Rattle.tables.specs.View.{tree_in, traces_in}
use Rattle.tables.specs.Beginning.{first_places}
use Rattle.tables.proofs.Beginning.{first_begins}
use Rattle.tables.specs.Answers.{made_conditions}
use Rattle.tables.proofs.Views.{traces_size, tree_passes}
use Rattle.tables.proofs.Judged as judged
use Rattle.calls.specs.Library.{Keeps}
use Rattle.calls.specs.Trusted.{book_in, Trusts, tree_after}
use Rattle.calls.specs.Effects.{matches, lists, checks, effect_of}
use Rattle.calls.specs.Follows.{Follows, Ran, a_call}
use Rattle.calls.specs.Demands.{MatchedIn, MatchesAnywhere, ListedIn, ListsAnywhere, ChecksAnywhere, judge_in, OfAnyQuery, EmptyIsSix, IsAccepted}
use Rattle.calls.specs.Demands.{OfAnyBatch, OfAnyBands, Said, AfterList, ReadBack, OfStored, AfterCheck, Demands}
use Rattle.calls.proofs.Kept.{kept_holds, kept_labels}
use Rattle.calls.proofs.Finds.{Some, found}
use Rattle.calls.proofs.Stored.{Stores, kept_stores, trusted_stores, any_stores, samples_inside_lem}
use Rattle.calls.proofs.Trusted.{exact_tree, accepted_same, kept_trusts}
use Rattle.calls.proofs.Agrees.{agrees}
use Rattle.calls.proofs.Steps.{reply_is, stepped, started, ran}
use Rattle.calls.proofs.OneCall.{one_call}
use Rattle.calls.proofs.OfArguments.{spoiled_is_not, loose_is_not}
use Rattle.calls.proofs.NeverSpoiled.{never}
use Rattle.calls.proofs.RoundTrips.{written_is, is_written, read_back_in, written_again_from, torn_in}
use Rattle.calls.proofs.OffTrail.{answered, off_trail}
use Rattle.calls.proofs.Trails.{list_by_bound, search_by_bound}
use Rattle.calls.proofs.Differ.{may_differ}
use Rattle.calls.proofs.Adds.{adds_anywhere}
use Rattle.calls.proofs.Imports.{imports_anywhere, exported_sound, exported_and_imported}
use Rattle.calls.proofs.Trusting.{check_stays, part_checked, loose_is, loose_fine, no_loose, trusted, all_trusting}
use Rattle.calls.proofs.Trees.{tree_of_book}
use Rattle.calls.proofs.Queries.{Judges, of_any_query}
use Rattle.calls.proofs.Pairs.{joins_both, pairs_anywhere}
use Rattle.calls.proofs.PairsOffTrail.{pairs_off_trail}
use Rattle.calls.proofs.PairsTrusted.{trusted_pairs}
use Rattle.calls.proofs.Batches.{of_any_batch, batches_anywhere}
use Rattle.calls.proofs.Banding.{of_any_bands, reports_anywhere, reads_no_traces}
use Rattle.calls.proofs.Limited.{limits_anywhere}
use Rattle.calls.proofs.Clipping.{of_any_clipped, clipped_anywhere}
use Rattle.calls.proofs.Labels.{labels_anywhere, label_gives}
use Rattle.calls.proofs.Remote.{remote_is_match, sees_no_serials, serials_may_differ}

-- ---- a check

-- "It accepts every library made by calls", and goes on accepting what it has accepted
is_accepted : {memory : Tables} {b : Book} → Trusts memory b → IsAccepted b.measures memory
unfolding effect_of checks
is_accepted {memory} {b} k lent said memory' f long =
    let fine : first_of (checks (first_places lent memory)).conditions ≡ none =
    accepted_same k (first_begins lent memory)
    ∙ subst (λ (l : Lent). first_of (short_conditions layout l b.measures) ≡ none) (sym f.has_places) long in
    (((one_call _ memory memory' said f).works fine).0, check_stays f)

-- ---- a memory that keeps a book

module _ {memory : Tables} {b : Book} (keeps : Keeps memory b) where
  -- the book judges as the tables do
  book_judges : Judges (judge layout b) memory
  unfolding judge
  book_judges c places typed e =
      let part = first_places c.lent memory in
      (agrees memory part (first_begins c.lent memory) b keeps c.ask typed).judged
      ∙ subst (λ (l : Lent). first_of (entry_of layout l b c.ask).conditions ≡ none) (sym places) e

  pub of_book : (query : Trace) → 0 < length b.traces → length query ≡ b.measures.n
      → OfAnyQuery (judge layout b) b.traces (book_tree b) query memory
  of_book query some_trace size =
      let h = kept_holds keeps in
      subst (λ (t : Tree). OfAnyQuery (judge layout b) b.traces t query memory) h.tree_is
      (of_any_query (kept_trusts keeps) (judge layout b) book_judges query size some_trace)

  pub batch_of_book : (count : ℕ) (run : Trace) → 0 < length b.traces → length run ≡ b.measures.n * count
      → OfAnyBatch (judge layout b) b.traces (book_tree b) b.measures.n count run memory
  batch_of_book count run some_trace size =
      let h = kept_holds keeps in
      subst (λ (t : Tree). OfAnyBatch (judge layout b) b.traces t b.measures.n count run memory) h.tree_is
      (of_any_batch (kept_trusts keeps) (judge layout b) book_judges some_trace count run size)

  pub bands_of_book : (query : Trace) → length query ≡ b.measures.n → OfAnyBands (judge layout b) b.traces (book_tree b) query memory
  bands_of_book query size =
      subst (λ (t : Tree). OfAnyBands (judge layout b) b.traces t query memory) (kept_holds keeps).tree_is
      (of_any_bands (kept_trusts keeps) (judge layout b) book_judges query size)

  -- "an empty one is still 6"
  empty_is_six : EmptyIsSix b memory
  unfolding reply_of reply_unless judge entry_of first_of
  empty_is_six lent k query trail list said memory' f long ok size samples none_stored =
      let judged : judge layout b (call lent (listing k query trail list)) ≡ some empty =
      first_none (short_conditions layout lent b.measures)
      (list_conditions b.measures (length b.traces) (book_tree b) k query trail list) long
      ∙ rw (ok, eq-eqb (length query) b.measures.n size, test_true (are_samples query) samples, none_stored) in
      ap (λ (r : Reply). r.answer) (stepped f keeps).0 ∙ rw judged

-- a match on any tables: what is answered are the steps, and they find a trace
matched_by : (t : Tables) (query : Trace) (best : Option Near) → let s = searched (traces_in t) (tree_in t) query in
    s.best ≡ best → Some best → MatchedIn query t (match_seen s best)
unfolding match_by_steps match_from near_or_zero
matched_by t query none e h = absurd h
matched_by t query (some a) e h =
    let stored : List Trace = traces_in t in
    let tree : Tree = tree_in t in
    let steps = step_claims 1 stored tree query in
    let one = one_searched stored tree query in
    record {
      by_steps = rw e refl;
      nearest_read = ap list_of (sym e)
          ∙ subst (λ (l : Listing). l.list ≡ take 1 (ranking (distances_among stored tree query l.trail))) one steps.nearest_read;
      by_bound_lem = search_by_bound tree query stored;
      leaves_counted = refl;
      traces_counted = subst (λ (l : Listing). l.traces ≡ length (distances_among stored tree query l.trail)) one steps.traces_read;
    }

matches_anywhere : MatchesAnywhere
unfolding effect_of beside_of
matches_anywhere lent query trail memory memory' said f m answers =
    let t = first_places lent memory in
    let e = matches t query trail in
    let known = answered (first_of e.conditions) t (trail ∷ []) e (matched m)
    (sym (ap (λ (r : Reply). r.answer) (reply_is f)) ∙ answers) in
    let s = searched (traces_in t) (tree_in t) query in
    let is : match_seen s s.best ≡ m = cc in (
      subst (MatchedIn query t) is (matched_by t query s.best refl (found t query trail known.0)),
      ((one_call _ memory memory' said f).works known.0).1,
    )

-- document 02, §1, on any tables: what is answered are the steps
lists_anywhere : ListsAnywhere
unfolding effect_of beside_of k_nearest_by_steps
lists_anywhere lent k query trail list memory memory' said f m answers =
    let t = first_places lent memory in
    let e = lists t k query trail list in
    let known = answered (first_of e.conditions) t (trail ∷ list ∷ []) e (neighbours m)
    (sym (ap (λ (r : Reply). r.answer) (reply_is f)) ∙ answers) in
    let steps = step_claims k (traces_in t) (tree_in t) query in
    let is : k_nearest_by_steps k (traces_in t) (tree_in t) query ≡ m = cc in (
      subst (ListedIn k query t) is
          (record { by_steps = refl; nearest_read = steps.nearest_read; by_bound_lem = list_by_bound (tree_in t) query k (traces_in t); leaves_counted = refl; traces_counted = steps.traces_read }),
      ((one_call _ memory memory' said f).works known.0).1,
    )

-- ---- a list of calls

-- what holds after a list of calls, from a memory on that keeps a book
after_list : {b : Book} {memory₀ memory : Tables} {calls : List Call} {said : List Reply} → Keeps memory₀ b → Ran memory₀ calls said memory
    → AfterList b calls said memory
after_list {b} {calls = calls} keeps rest =
    let r = ran keeps rest in
    let e = r.0 in
    let k = r.1 in
    record {
      keeps = k;
      holds = kept_holds k;
      labels_are = kept_labels k;
      replies_are = e;
      written_and_read = read_back_in (kept_stores k);
      written_then_torn = torn_in (kept_stores k);
      never_spoiled = λ c r i. never layout spoiled spoiled_is_not b calls c r (subst (λ (l : List Reply). Said c r calls l) e i);
      never_loose = no_loose rest (λ c r i. never layout loose_record loose_is_not b calls c r (subst (λ (l : List Reply). Said c r calls l) e i));
      any_query = of_book k;
      any_batch = batch_of_book k;
      any_bands = bands_of_book k;
      any_clipped = of_any_clipped (kept_trusts k) (judge layout (after layout b calls)) (book_judges k);
      empty_is_six = empty_is_six k;
      exported_sound = exported_sound (kept_stores k);
      label_gives = label_gives (kept_trusts k) (judge layout (after layout b calls)) (book_judges k);
      trusts = kept_trusts k;
      is_accepted = is_accepted (kept_trusts k);
    }

-- ---- what a memory stores

-- a sheet that was read back puts a library, and from then on it is one made by calls
put_back : {b : Book} {memory : Tables} {said : Reply} → said.answer ≡ answering done → Keeps memory b → ReadBack b said memory
put_back {b} d k = record {
  is_done = d;
  keeps = k;
  holds = kept_holds k;
  labels_are = kept_labels k;
  is_accepted = is_accepted (kept_trusts k);
  goes_on = λ calls others memory' rest. after_list k rest;
}

of_stored : {memory : Tables} {b : Book} → Stores memory b → OfStored b memory
of_stored k = record {
  sheet_is = λ lent sheet said memory' f blocks bytes a. (written_is k f a).0;
  written_and_read = λ lent sheet said₁ memory₁ f blocks bytes a lent' memory₂ said₃ memory₃ g short.
      let r = read_back_in k lent sheet said₁ memory₁ f blocks bytes a lent' memory₂ said₃ memory₃ g short in
      put_back r.0 r.1;
  written_then_torn = torn_in k;
  exported_sound = exported_sound k;
  exported_and_imported = exported_and_imported k;
}

-- what a check answers of tables that no call refuses for what they hold is whether their figures are exact
module _ {lent : Lent} {memory memory' : Tables} {said : Reply} (f : Follows (call lent checking) memory said memory')
    (fine : first_of (made_conditions (first_places lent memory)) ≡ none) where
  abbrev t : Tables
  t = first_places lent memory

  abbrev exact : Bool
  exact = is_exact (traces_in t) (tree_in t)

  checked : first_of (checks t).conditions ≡ first_of (not exact refuses loose_record ∷ [])
  unfolding checks
  checked = first_none (made_conditions t) (not exact refuses loose_record ∷ []) fine

  both_ways : Exactness (traces_in t) (tree_in t)
  both_ways = exactness sample_limit (measures_of t) (traces_in t) (tree_in t)
      (subst (λ (n : ℕ). T (abstract.well_formed_tree sample_limit (measures_of t) n (tree_in t))) (sym (traces_size t))
      (tree_passes t (judged.accepted t fine).formed))

  accepts_exact : RangesOf (traces_in t) (tree_in t) → said.answer ≡ answering accepted
  unfolding effect_of checks first_of
  accepts_exact ranges = ap (λ (r : Reply). r.answer)
      ((one_call _ memory memory' said f).works (checked ∙ rw (test_true exact (both_ways.ranges_exact ranges)))).0

  loose_refused : (RangesOf (traces_in t) (tree_in t) → ⊥) → said.answer ≡ refusing loose_record
  unfolding effect_of checks first_of
  loose_refused loose = (one_call _ memory memory' said f).refuses loose_record (checked ∙ by exact refl)
    where
      by : (b : Bool) → exact ≡ b → first_of (not exact refuses loose_record ∷ []) ≡ some loose_record
      by true e = absurd (loose (both_ways.exact_ranges (is_true {b = exact} e)))
      by false e = rw e

-- document 02, §6, on any tables
checks_anywhere : ChecksAnywhere
checks_anywhere lent memory memory' said f = record {
  stays = check_stays f;
  accepts = λ a. exact_tree (part_checked f a);
  refuses_loose = λ a. loose_is f a;
  accepts_exact = accepts_exact f;
  loose_refused = loose_refused f;
  loose_written = λ a. is_written lent memory (loose_fine f a);
  loose_stored = λ a. of_stored (any_stores memory);
}

-- ---- a list of calls, from its first on

from_first : (first : Call) (calls : List Call) (memory₀ memory : Tables) (said₀ : Reply) (said : List Reply)
    → Ran memory₀ (first ∷ calls) (said₀ ∷ said) memory → said₀.answer ≡ answering done → AfterList (start layout first) calls said memory
from_first first calls memory₀ memory said₀ said (a_call f rest) e = after_list (started f e) rest

-- from a check on that has just accepted
from_check : (first : Call) (calls : List Call) (memory₀ memory : Tables) (said₀ : Reply) (said : List Reply)
    → Ran memory₀ (first ∷ calls) (said₀ ∷ said) memory → said₀.answer ≡ answering accepted
    → AfterCheck (book_in memory₀) (tree_in memory₀) calls said memory
from_check first calls memory₀ memory said₀ said (a_call f rest) e =
    let start = trusted f e in
    let r = all_trusting start.trusts rest in
    let t = r.0.trusts in
    record {
      trusts = t;
      tree_is = r.0.tree_is ∙ ap (λ (tree : Tree). tree_after layout (book_in memory₀) tree calls) start.tree_is;
      is_accepted = is_accepted t;
      never_spoiled = λ c s i. r.1 c s i spoiled spoiled_is_not;
      never_loose = no_loose rest (λ c s i. r.1 c s i loose_record loose_is_not);
      any_query = λ query some_trace size. of_any_query t (judge_in memory) (λ c places typed q. q) query size some_trace;
      any_batch = λ count run some_trace size. of_any_batch t (judge_in memory) (λ c places typed q. q) some_trace count run size;
      any_bands = of_any_bands t (judge_in memory) (λ c places typed q. q);
      any_clipped = of_any_clipped t (judge_in memory) (λ c places typed q. q);
      label_gives = label_gives t (judge_in memory) (λ c places typed q. q);
      of_stored = of_stored (trusted_stores t);
    }

pub demands : Demands
demands = record {
  one_call = one_call;
  off_trail = off_trail;
  may_differ = may_differ;
  adds_anywhere = adds_anywhere;
  matches_anywhere = matches_anywhere;
  lists_anywhere = lists_anywhere;
  imports_anywhere = imports_anywhere;
  checks_anywhere = checks_anywhere;
  batches_anywhere = batches_anywhere;
  reports_anywhere = reports_anywhere;
  reads_no_traces = reads_no_traces;
  limits_anywhere = limits_anywhere;
  clipped_anywhere = clipped_anywhere;
  labels_anywhere = labels_anywhere;
  remote_is_match = remote_is_match;
  sees_no_serials = sees_no_serials;
  serials_may_differ = serials_may_differ;
  samples_inside_lem = samples_inside_lem;
  joins_both = joins_both;
  pairs_anywhere = pairs_anywhere;
  pairs_off_trail = pairs_off_trail;
  trusted_pairs = trusted_pairs;
  after_both = λ bf bb calls others said also factory bench f b. trusted_pairs factory bench (after layout bf calls) (after layout bb others) _ _
      f.trusts f.holds.tree_is b.trusts b.holds.tree_is;
  stored_anywhere = λ memory. of_stored (any_stores memory);
  may_be_torn = may_be_torn;
  after_list = from_first;
  after_check = from_check;
  tree_of_book = tree_of_book;
  read_and_written = λ lent bytes memory₀ memory₁ said₁ g d lent' sheet said₂ memory₂ f blocks again a. written_again_from g d f a;
}
