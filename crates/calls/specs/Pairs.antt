-- Document 02, §11, on the memories of two libraries. "A call added later joins the list of each library whose tables it is lent": so a
-- match over both is a call of two lists, with one answer. In each list the other memory is an argument.
use Rattle.std.specs.Prelude.{ℕ, ◌+◌, ◌*◌, ◌≤◌, ◌<◌, ◌≡◌, List, [], ◌∷◌, ◌++◌, length, get_or, take, drop, ℤ, T}
use Rattle.std.proofs.Math.Option.{Option, none, some}
use Rattle.segment.specs.Stored.{samples_of}
use Rattle.dstree.specs.Measures.{Trace, are_samples}
use Rattle.dstree.specs.Node.{Tree}
use Rattle.dstree.specs.Matching.{leaves, match_of}
use Rattle.dstree.specs.Refusals.{Refusal, empty, unlike_libraries, Condition, first_of}
use Rattle.dstree.specs.Pair.{Indexed, indexed, of_factory, of_bench, by_which, pair_conditions, PairMatch, pair_by_steps, pair_of, alone}
use Rattle.dstree.specs.Pair.{PairStepsClaims, PairAnswered, PairClaims}
use Rattle.dstree.specs.Book.{Lent, pairing, paired, Call, call, Answer, refusing, answering, reply, over, Book, short_conditions}
use Rattle.tables.specs.Layout.{layout}
use Rattle.tables.specs.Tables.{Tables, labelled_tables, lent_of, measures_of}
use Rattle.tables.specs.View.{tree_in, traces_in}
use Rattle.tables.specs.Beginning.{first_places, left}
use Rattle.tables.specs.Answers.{made_conditions}
use Rattle.calls.specs.Trusted.{Trusts}
use Rattle.calls.specs.Outcome.{outcome}
use Rattle.calls.specs.Effects.{cleared, other_in, outcome_on}
use Rattle.calls.specs.Follows.{Follows}
use Rattle.calls.specs.Trails.{ByBound, DifferOutside}

-- ---- one call, two lists

-- what is lent of each memory, the query, and a trail for each library
pub record PairCall : Type 0 where
  pub factory_lent : Lent
  pub bench_lent : Lent
  pub query : Trace
  pub factory_trail : List ℕ
  pub bench_trail : List ℕ

-- the call in the factory's list, the bench's memory being this
abbrev pub in_factory_list : PairCall → Tables → Call
in_factory_list p bench =
    call p.factory_lent (pairing of_factory (other_in (first_places p.bench_lent bench) p.bench_trail) p.query p.factory_trail)

-- .. and in the bench's, the factory's memory being this
abbrev pub in_bench_list : PairCall → Tables → Call
in_bench_list p factory =
    call p.bench_lent (pairing of_bench (other_in (first_places p.factory_lent factory) p.factory_trail) p.query p.bench_trail)

-- what such a call answers, and what it leaves where it may write: a trail and the lent search work of each library
pub record PairSaid : Type 0 where
  pub answer : Answer
  pub factory_trail : List ℕ
  pub bench_trail : List ℕ
  pub factory_work : List ℕ
  pub bench_work : List ℕ

-- tables with other search work
abbrev pub with_work : Tables → List ℕ → Tables
with_work t work = labelled_tables t.control t.samples t.nodes t.links work t.labels

-- the memories after it: nothing but search work is written there
abbrev pub factory_after : PairCall → Tables → PairSaid → Tables
factory_after p factory s = left (with_work (first_places p.factory_lent factory) s.factory_work) factory

abbrev pub bench_after : PairCall → Tables → PairSaid → Tables
bench_after p bench s = left (with_work (first_places p.bench_lent bench) s.bench_work) bench

-- a step of both lists
pub record PairFollows (p : PairCall) (factory bench : Tables) (s : PairSaid) : Type 0 where
  pub in_factory_lem : Follows (in_factory_list p bench) factory
      (reply s.answer (s.factory_trail ∷ s.bench_trail ∷ s.bench_work ∷ [])) (factory_after p factory s)
  pub in_bench_lem : Follows (in_bench_list p factory) bench
      (reply s.answer (s.bench_trail ∷ s.factory_trail ∷ s.factory_work ∷ [])) (bench_after p bench s)

-- one contract is enough: what the code answers and leaves by that of the factory's list is a step of both
abbrev pub JoinsBoth : Type 0
JoinsBoth = (p : PairCall) (factory bench : Tables) (s : PairSaid) → lent_of (first_places p.factory_lent factory) ≡ p.factory_lent
    → lent_of (first_places p.bench_lent bench) ≡ p.bench_lent
    → outcome s.answer (with_work (first_places p.factory_lent factory) s.factory_work)
    (s.factory_trail ∷ s.bench_trail ∷ s.bench_work ∷ [])
    ≡ outcome_on (in_factory_list p bench).ask (first_places p.factory_lent factory)
    → PairFollows p factory bench s

-- ---- on any two memories, whatever they hold

-- the library in the places that are lent of a memory
abbrev pub lent_library : Lent → Tables → Indexed
lent_library lent memory = indexed (traces_in (first_places lent memory)) (tree_in (first_places lent memory))

-- what is refused of two libraries together, for traces of n and n' samples: 17, 4, 15, 6, 7
abbrev pub together_conditions : PairCall → ℕ → Indexed → ℕ → Indexed → List Condition
together_conditions p n f n' b =
    pair_conditions n n' (length f.traces) (length b.traces) (length (leaves f.tree)) (length (leaves b.tree)) p.query
    p.factory_trail p.bench_trail

-- "The factory's tables are tested first", then the bench's, each for 2 and 3; "17 .., after both pass 3"
abbrev pub pair_conditions_in : PairCall → Tables → Tables → List Condition
pair_conditions_in p factory bench =
    let f = first_places p.factory_lent factory in
    let b = first_places p.bench_lent bench in
    made_conditions f ++ (made_conditions b ++ together_conditions p (measures_of f).n (lent_library p.factory_lent factory)
    (measures_of b).n (lent_library p.bench_lent bench))

-- the words of a trace in a samples table: n of them from trace × n on
abbrev pub trace_words : List ℤ → ℕ → ℕ → List ℤ
trace_words samples n trace = take n (drop (trace * n) samples)

-- .. as "part of the lent table": they lie inside it, n of them, and stand for the samples of the stored trace
pub record PartIs (t : Tables) (trace : ℕ) : Type 0 where
  pub inside : trace * (measures_of t).n + (measures_of t).n ≤ length t.samples
  pub as_long : length (trace_words t.samples (measures_of t).n trace) ≡ (measures_of t).n
  pub is_trace_lem : samples_of (trace_words t.samples (measures_of t).n trace) ≡ get_or (traces_in t) trace []

-- a call that answered m, whoever made the tables: "where other well-formed tables break [a claim], that answer is the program's"
pub record PairMatched (p : PairCall) (factory bench : Tables) (s : PairSaid) (m : PairMatch) : Type 0 where
  -- the program's steps on what is recorded in both
  pub by_steps : m ≡ pair_by_steps (lent_library p.factory_lent factory) (lent_library p.bench_lent bench) p.query
  -- what holds of them: counts, trails, that samples off the trails do not bear ..
  pub steps_are : PairStepsClaims (lent_library p.factory_lent factory) (lent_library p.bench_lent bench) p.query m
  -- .. and that the answer is a stored trace, the nearest of those in the leaves read, "the factory's on equal distance"
  pub nearest_read : PairAnswered (lent_library p.factory_lent factory) (lent_library p.bench_lent bench) p.query m
  -- "hands back the winning trace as part of the lent table it came from"
  pub part_is : PartIs (by_which m.which (first_places p.factory_lent factory) (first_places p.bench_lent bench)) m.trace
  -- "Each has its own trail, by bound, then number"; places behind it stay
  pub factory_by_bound : ByBound (tree_in (first_places p.factory_lent factory)) p.query m.factory_trail
  pub bench_by_bound : ByBound (tree_in (first_places p.bench_lent bench)) p.query m.bench_trail
  pub factory_trail_lem : s.factory_trail ≡ over m.factory_trail p.factory_trail
  pub bench_trail_lem : s.bench_trail ≡ over m.bench_trail p.bench_trail
  -- "A call that takes a query leaves the needed search work zero", of both, and all else as it was
  pub factory_after_lem : factory_after p factory s ≡ left (cleared (first_places p.factory_lent factory)) factory
  pub bench_after_lem : bench_after p bench s ≡ left (cleared (first_places p.bench_lent bench)) bench

-- a call that is refused, with all lent memory "as before the call": both memories and both trails
pub record PairRefused (p : PairCall) (factory bench : Tables) (s : PairSaid) : Type 0 where
  pub factory_stays : factory_after p factory s ≡ factory
  pub bench_stays : bench_after p bench s ≡ bench
  pub factory_trail_lem : s.factory_trail ≡ p.factory_trail
  pub bench_trail_lem : s.bench_trail ≡ p.bench_trail

pub record PairedIn (p : PairCall) (factory bench : Tables) (s : PairSaid) : Type 0 where
  -- the first condition that holds is refused, and nothing else
  pub refuses : (why : Refusal) → first_of (pair_conditions_in p factory bench) ≡ some why → s.answer ≡ refusing why
  pub works : first_of (pair_conditions_in p factory bench) ≡ none
      → s.answer ≡ answering (paired (pair_by_steps (lent_library p.factory_lent factory) (lent_library p.bench_lent bench) p.query))
  pub as_before : (why : Refusal) → s.answer ≡ refusing why → PairRefused p factory bench s
  pub answered : (m : PairMatch) → s.answer ≡ answering (paired m) → PairMatched p factory bench s m

abbrev pub PairsAnywhere : Type 0
PairsAnywhere = (p : PairCall) (factory bench : Tables) (s : PairSaid) → PairFollows p factory bench s → PairedIn p factory bench s

-- "Samples in leaves off the trail don't bear on a search": memories that differ from these only in samples off each library's trail give
-- the same answer. The same trails and search work are left. (There are such memories: `MayDiffer`)
abbrev pub PairsOffTrail : Type 0
PairsOffTrail = (p : PairCall) (factory bench : Tables) (s : PairSaid) → PairFollows p factory bench s
    → (m : PairMatch) → s.answer ≡ answering (paired m)
    → (other_factory other_bench : Tables) (also : PairSaid) → DifferOutside m.factory_trail factory other_factory
    → DifferOutside m.bench_trail bench other_bench → PairFollows p other_factory other_bench also → also ≡ s

-- ---- on two memories that the check would accept, those that calls made among them

-- "Refusals follow the table, judged by arguments and book": by both books, with the trees beside them
abbrev pub judge_both : Book → Tree → Book → Tree → PairCall → Option Refusal
judge_both bf tf bb tb p =
    first_of (short_conditions layout p.factory_lent bf.measures ++ (short_conditions layout p.bench_lent bb.measures
    ++ together_conditions p bf.measures.n (indexed bf.traces tf) bb.measures.n (indexed bb.traces tb)))

-- a call on two memories, whatever it is lent there, that the table doesn't refuse, gives this answer and these trails
abbrev pub PairGives : (PairCall → Option Refusal) → Trace → Tables → Tables → PairMatch → Type 0
PairGives judges query factory bench m = (p : PairCall) (s : PairSaid) → p.query ≡ query → PairFollows p factory bench s
    → judges p ≡ none → (s.answer ≡ answering (paired m))
    × ((s.factory_trail ≡ over m.factory_trail p.factory_trail) × (s.bench_trail ≡ over m.bench_trail p.bench_trail))

-- of any query, of two libraries' traces and trees in two memories
pub record OfAnyPair (judges : PairCall → Option Refusal) (f b : Indexed) (query : Trace) (factory bench : Tables) : Type 0 where
  -- "Match a query over both"
  pub pair_gives : PairGives judges query factory bench (pair_of f b query)
  -- "nearest of all, the factory's on equal distance, then the lower number. It says which library"; "In each library the leaves read are
  -- those with a bound at most the joint distance"; "counts are over both"; and these are the fewest
  pub claims : PairClaims f b query
  -- "Each has its own trail, by bound, then number"
  pub factory_by_bound : ByBound f.tree query (pair_of f b query).factory_trail
  pub bench_by_bound : ByBound b.tree query (pair_of f b query).bench_trail
  -- "One library may be empty": then the answer is the other's match, with its trail and counts
  pub factory_empty : f.traces ≡ [] → PairGives judges query factory bench (alone of_bench (match_of b.traces b.tree query))
  pub bench_empty : b.traces ≡ [] → PairGives judges query factory bench (alone of_factory (match_of f.traces f.tree query))
  -- the same call on memories that differ from these only in samples of traces outside the leaves read gives that answer and those trails
  pub others_do_not_bear : (other_factory other_bench : Tables) → DifferOutside (pair_of f b query).factory_trail factory other_factory
      → DifferOutside (pair_of f b query).bench_trail bench other_bench → PairGives judges query other_factory other_bench (pair_of f b query)

-- a call that is lent the places that both books' measures need
abbrev pub LentEnough : Book → Book → PairCall → Type 0
LentEnough bf bb p = (first_of (short_conditions layout p.factory_lent bf.measures) ≡ none)
    × (first_of (short_conditions layout p.bench_lent bb.measures) ≡ none)

-- two memories with a book and a tree each
pub record OfBoth (bf : Book) (tf : Tree) (bb : Book) (tb : Tree) (factory bench : Tables) : Type 0 where
  -- what is refused is judged by arguments and books: 2 of either, 17, 4, 15, 6 or 7, so that 3 never arises
  pub judged : (p : PairCall) (s : PairSaid) → PairFollows p factory bench s
      → (why : Refusal) → judge_both bf tf bb tb p ≡ some why → s.answer ≡ refusing why
  -- "17 unlike libraries, when their n differ"
  pub unlike : (p : PairCall) (s : PairSaid) → PairFollows p factory bench s → LentEnough bf bb p
      → (bf.measures.n ≡ bb.measures.n → ⊥) → s.answer ≡ refusing unlike_libraries
  -- "both empty is 6", for a query of n samples within the limits
  pub both_empty : (p : PairCall) (s : PairSaid) → PairFollows p factory bench s → LentEnough bf bb p
      → bf.measures.n ≡ bb.measures.n → length p.query ≡ bf.measures.n → T (are_samples p.query)
      → bf.traces ≡ [] → bb.traces ≡ [] → s.answer ≡ refusing empty
  -- any query of n samples, if one of the two has a trace
  pub any_query : (query : Trace) → bf.measures.n ≡ bb.measures.n → length query ≡ bf.measures.n
      → 0 < length bf.traces + length bb.traces
      → OfAnyPair (judge_both bf tf bb tb) (indexed bf.traces tf) (indexed bb.traces tb) query factory bench

abbrev pub TrustedPairs : Type 0
TrustedPairs = (factory bench : Tables) (bf bb : Book) (tf tb : Tree) → Trusts factory bf → tree_in factory ≡ tf → Trusts bench bb
    → tree_in bench ≡ tb → OfBoth bf tf bb tb factory bench
