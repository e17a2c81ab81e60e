-- The three demands, of calls that follow their definitions: demand 1 of every call on every memory; demand 2 and document 01's "Demand 3,
-- over a list of calls", a field for each sentence, of what a list of calls leaves; and document 02's claims of the calls that it adds.
-- `proofs/Demands` proves them.
use Rattle.std.specs.Prelude.{ℕ, ◌*◌, ◌≤◌, ◌<◌, ◌≡◌, true, false, not, List, [], ◌∷◌, ◌++◌, map, length, get_or, take, T}
use Rattle.std.proofs.Math.Option.{Option, none, some}
use Rattle.integer.specs.Words.{every, is_in, counting}
use Rattle.integer.specs.Lists.{In, Up}
use Rattle.segment.specs.Figures.{distance}
use Rattle.segment.specs.Clipped.{is_crossed}
use Rattle.segment.specs.Stored.{samples_of}
use Rattle.dstree.specs.Measures.{Trace, Measures, sample_limit, are_samples}
use Rattle.dstree.specs.Labels.{Label, no_label, label_at}
use Rattle.dstree.specs.Node.{Tree}
use Rattle.dstree.specs.Adding.{insertion}
use Rattle.dstree.specs.Matching.{bound, leaves, least_distance, Near, Match, match_by_steps, match_of}
use Rattle.dstree.specs.KNearest.{is_k, ranking, list_places, KNearest, k_nearest_by_steps, k_nearest_of, distances_among, ListClaims}
use Rattle.dstree.specs.KNearest.{KNearestClaims, OneIsMatch}
use Rattle.dstree.specs.Batch.{queries_in, Batch, answer_in, batch_of, batch_by_steps, StepsClaims, BatchClaims, OneClaims}
use Rattle.dstree.specs.Bands.{BandCount, band_report, report_places, BandClaims, ReportClaims}
use Rattle.dstree.specs.LeafLimit.{LimitedMatch, match_so_far, limited_match, limited_by_steps, LimitSteps, LimitFormed, LimitClaims}
use Rattle.dstree.specs.Clipped.{Possible, possible_matches, ListedClaims, PossibleClaims}
use Rattle.dstree.specs.Refusals.{Refusal, spoiled, empty, loose_record, first_of}
use Rattle.dstree.specs.Sheet.{block_size}
use Rattle.dstree.specs.SheetWidths.{blocks_needed, sheet_of}
use Rattle.dstree.specs.Torn.{MayBeTorn, CannotHide}
use Rattle.dstree.specs.Recording.{Recording, recording, judge_recording}
use Rattle.dstree.specs.Book.{Lent, adding, matching, writing, reading, listing, importing, exporting, checking, batching, labelling}
use Rattle.dstree.specs.Book.{Ask, opening, searching, pairing, banding, banded, limiting, limited, clipping, possible, paired, Call}
use Rattle.dstree.specs.Book.{call, beside_of, Result, done, added, matched, written, neighbours, imported, exported, accepted}
use Rattle.dstree.specs.Book.{batched, labelled}
use Rattle.dstree.specs.Book.{remote_matched, refusing, answering, Reply, reply, over, Book, book_tree, short_conditions, judge, after}
use Rattle.dstree.specs.Book.{replies_of, start}
use Rattle.dstree.specs.Claims.{Below, LeavesOutOnlyAbove, RangesOf, ExactTree}
use Rattle.tables.specs.Layout.{layout}
use Rattle.tables.specs.Tables.{Tables, lent_of, measures_of, trace_count}
use Rattle.tables.specs.View.{tree_in, traces_in, labels_in, well_formed, samples_inside, is_spoiled}
use Rattle.tables.specs.Beginning.{first_places, left}
use Rattle.tables.specs.Answers.{made_conditions}
use Rattle.tables.specs.Holds.{Holds}
use Rattle.calls.specs.Outcome.{Effect}
use Rattle.calls.specs.Library.{Keeps, beyond}
use Rattle.calls.specs.Trusted.{book_in, Trusts, tree_after}
use Rattle.calls.specs.Effects.{cleared, effect_of}
use Rattle.calls.specs.Follows.{Follows, Ran}
use Rattle.calls.specs.Remote.{RemoteIsMatch, MayDifferInSerials, RemoteSeesNoSerials}
use Rattle.calls.specs.Trails.{ByBound, DifferOutside, MayDiffer}
use Rattle.calls.specs.Pairs.{JoinsBoth, PairsAnywhere, PairsOffTrail, OfBoth, TrustedPairs}

-- ---- demand 1

-- a call's conditions and work, on the places of a memory that it is lent
abbrev pub effect_in : Call → Tables → Effect
effect_in c memory = effect_of c.ask (first_places c.lent memory)

-- a call on any memory, whatever it holds
pub record OneCall (c : Call) (memory : Tables) (said : Reply) (memory' : Tables) : Type 0 where
  -- "the one refusal that document 01 fixes"
  pub refuses : (why : Refusal) → first_of (effect_in c memory).conditions ≡ some why → said.answer ≡ refusing why
  -- "does its work": "No condition, no refusal"
  pub works : first_of (effect_in c memory).conditions ≡ none
      → (said ≡ reply (answering (effect_in c memory).result) (effect_in c memory).beside)
      × (memory' ≡ left (effect_in c memory).after memory)
  -- "with all lent memory then as before the call"
  pub as_before : (why : Refusal) → said.answer ≡ refusing why → (memory' ≡ memory) × (said.beside ≡ beside_of c.ask)
  -- "All calls leave places beyond the needed ones untouched"
  pub untouched : (r : Result) → said.answer ≡ answering r
      → (lent_of memory' ≡ lent_of memory) × (beyond (measures_of memory') memory' ≡ beyond (measures_of memory') memory)

-- ---- "A stored sample outside the limits makes the tables spoiled" (document 02, §9)

-- no tables have one, whoever wrote them
pub record SamplesInside (t : Tables) : Type 0 where
  pub traces_inside : T (samples_inside t)
  -- every word of the samples table stands for a sample within the limits, those behind the stored traces too
  pub words_inside : T (are_samples (samples_of t.samples))
  -- so the other rules alone say whether tables are spoiled
  pub by_others : is_spoiled t ≡ not (well_formed t)

-- ---- "Samples in leaves off the trail don't bear on a search"

-- the leaves that a search has read, by its answer: a match's, with a limit or without, that of the k nearest, a batch's, or the remote's.
-- A report has read none (document 02, §10). For a clipped sweep every trace is read, whatever its leaf (§13). No other call is a search
unfoldable pub trail_found : Result → Option (List ℕ)
trail_found (matched m) = some m.trail
trail_found (neighbours m) = some m.trail
trail_found (batched m) = some m.trail
trail_found (remote_matched m code) = some m.trail
trail_found (banded report) = some []
trail_found (limited m) = some (match_so_far m).trail
trail_found done = none
trail_found (added number) = none
trail_found (written blocks sheet) = none
trail_found (imported count) = none
trail_found (exported size bytes) = none
trail_found accepted = none
trail_found (labelled l) = none
trail_found (possible m) = none
-- a match over two libraries has two trails (`PairsOffTrail`)
trail_found (paired m) = none

-- "well-formed tables that differ only there give the same answer and the same trail": of a search that is not refused, so that its tables
-- are well formed, whoever made them
abbrev pub SamplesOffTrail : Type 0
SamplesOffTrail = (c : Call) (these these' : Tables) (said : Reply) → Follows c these said these'
    → (r : Result) (trail : List ℕ) → said.answer ≡ answering r → trail_found r ≡ some trail
    → (other other' : Tables) (also : Reply) → DifferOutside trail these other → Follows c other also other'
    → also ≡ said

-- ---- adding, on any tables

-- an adding that answered a number, on some memory, and what it left there: "With well-formed tables that somebody altered, calls follow
-- the steps above on what is recorded"
pub record AddedInto (lent : Lent) (x : Trace) (l : Label) (memory : Tables) (number : ℕ) (memory' : Tables) : Type 0 where
  pub number_is : number ≡ trace_count (first_places lent memory)
  pub measures_stay : measures_of (first_places lent memory') ≡ measures_of (first_places lent memory)
  -- "Adding appends its trace"
  pub traces_are : traces_in (first_places lent memory') ≡ traces_in (first_places lent memory) ++ (x ∷ [])
  -- document 02, §8: a label is "given when it is added", whatever stood in its place
  pub labels_are : labels_in (first_places lent memory') ≡ labels_in (first_places lent memory) ++ (l ∷ [])
  -- the tree is the one that the steps under "Adding" make of the recorded one
  pub tree_is : tree_in (first_places lent memory')
      ≡ insertion (measures_of (first_places lent memory)) (traces_in (first_places lent memory)) (tree_in (first_places lent memory)) x
  -- "Adding and writing leave search work as it was"
  pub work_stays : (first_places lent memory').work ≡ (first_places lent memory).work

abbrev pub AddsAnywhere : Type 0
AddsAnywhere = (lent : Lent) (x : Trace) (l : Label) (memory memory' : Tables) (said : Reply)
    → Follows (call lent (adding x l)) memory said memory'
    → (number : ℕ) → said.answer ≡ answering (added number) → AddedInto lent x l memory number memory'

-- ---- a match, on any tables

-- a match that answered m, on the tables t that it was lent, whoever made them
pub record MatchedIn (query : Trace) (t : Tables) (m : Match) : Type 0 where
  -- "With well-formed tables that somebody altered, calls follow the steps above on what is recorded": they find a trace
  pub by_steps : match_by_steps (traces_in t) (tree_in t) query ≡ some m
  -- it is the nearest of the traces read, the lowest number among equals
  pub nearest_read : answer_in m ∷ [] ≡ take 1 (ranking (distances_among (traces_in t) (tree_in t) query m.trail))
  pub by_bound_lem : ByBound (tree_in t) query m.trail
  -- "leaves read and traces read"
  pub leaves_counted : m.leaves ≡ length m.trail
  pub traces_counted : m.traces ≡ length (distances_among (traces_in t) (tree_in t) query m.trail)

-- "A call that takes a query leaves the needed search work zero", and all else as it was
abbrev pub MatchesAnywhere : Type 0
MatchesAnywhere = (lent : Lent) (query : Trace) (trail : List ℕ) (memory memory' : Tables) (said : Reply)
    → Follows (call lent (matching query trail)) memory said memory'
    → (m : Match) → said.answer ≡ answering (matched m)
    → MatchedIn query (first_places lent memory) m × (memory' ≡ left (cleared (first_places lent memory)) memory)

-- ---- document 02, §1, on any tables

-- a search for the k nearest that answered m, on the tables t that it was lent, whoever made them
pub record ListedIn (k : ℕ) (query : Trace) (t : Tables) (m : KNearest) : Type 0 where
  -- "Leaves are read in the match's order .. until the next bound is above the k-th best distance read"
  pub by_steps : m ≡ k_nearest_by_steps k (traces_in t) (tree_in t) query
  -- "on altered tables the list is the nearest of the traces read"
  pub nearest_read : m.list ≡ take k (ranking (distances_among (traces_in t) (tree_in t) query m.trail))
  -- "with its trail and counts": the leaves read, and the traces in them
  pub by_bound_lem : ByBound (tree_in t) query m.trail
  pub leaves_counted : m.leaves ≡ length m.trail
  pub traces_counted : m.traces ≡ length (distances_among (traces_in t) (tree_in t) query m.trail)

-- "A call that takes a query leaves the needed search work zero", and all else as it was
abbrev pub ListsAnywhere : Type 0
ListsAnywhere = (lent : Lent) (k : ℕ) (query : Trace) (trail list : List ℕ) (memory memory' : Tables) (said : Reply)
    → Follows (call lent (listing k query trail list)) memory said memory'
    → (m : KNearest) → said.answer ≡ answering (neighbours m)
    → ListedIn k query (first_places lent memory) m × (memory' ≡ left (cleared (first_places lent memory)) memory)

-- ---- document 02, §2, on any tables

-- "adding its traces one after another", with so many places lent. Their labels are "zero from callers that give neither" (§8)
abbrev pub addings : Lent → List Trace → List Call
addings lent traces = map (λ x. call lent (adding x no_label)) traces

-- an import that added so many traces, on some memory, and what it left
pub record ImportedInto (lent : Lent) (bytes : List ℕ) (memory : Tables) (count : ℕ) (memory' : Tables) : Type 0 where
  -- "The samples are cut into traces of n and added ..; the answer is how many"
  pub file : Recording
  pub file_sound : judge_recording (measures_of (first_places lent memory)).n bytes ≡ some file
  pub counted : count ≡ length file.traces
  -- "A file imported gives the library that adding its traces one after another gives", at every place of every table: none of these
  -- addings is refused, each answers the next number
  pub as_addings : (others : List Reply) (memory'' : Tables) → Ran memory (addings lent file.traces) others memory''
      → (memory'' ≡ memory')
      × (others ≡ map (λ number. reply (answering (added number)) []) (counting count (trace_count (first_places lent memory))))

abbrev pub ImportsAnywhere : Type 0
ImportsAnywhere = (lent : Lent) (bytes : List ℕ) (memory memory' : Tables) (said : Reply)
    → Follows (call lent (importing bytes)) memory said memory'
    → (count : ℕ) → said.answer ≡ answering (imported count) → ImportedInto lent bytes memory count memory'

-- ---- document 02, §7, on any tables

-- a batch that answered m, on the tables t that it was lent, whoever made them: "where other well-formed tables break [a claim], that
-- answer is the program's"
pub record BatchedIn (count : ℕ) (run : Trace) (t : Tables) (m : Batch) : Type 0 where
  -- the program's steps: query after query, each in its match's order until the next bound is above its best; a leaf is read for all at
  -- once
  pub by_steps : m ≡ batch_by_steps (traces_in t) (tree_in t) (queries_in (measures_of t).n count run)
  -- what holds of them: "no leaf is read twice"; "The trail lists the leaves read by rising number"; "one count of leaves"; and each answer
  -- is the nearest of the traces in the leaves read
  pub steps_are : StepsClaims (traces_in t) (tree_in t) (queries_in (measures_of t).n count run)
  -- "One answer record for each query"
  pub one_each : length m.answers ≡ count

-- "A call that takes a query leaves the needed search work zero", and all else as it was
abbrev pub BatchesAnywhere : Type 0
BatchesAnywhere = (lent : Lent) (count : ℕ) (run : Trace) (trail : List ℕ) (list : List Near) (memory memory' : Tables) (said : Reply)
    → Follows (call lent (batching count run trail list)) memory said memory'
    → (m : Batch) → said.answer ≡ answering (batched m)
    → BatchedIn count run (first_places lent memory) m × (memory' ≡ left (cleared (first_places lent memory)) memory)

-- ---- document 02, §8, on any tables

-- the bench's call that answered a label for a trace number, on the tables t that it was lent, whoever made them
pub record LabelledIn (number : ℕ) (t : Tables) (l : Label) : Type 0 where
  -- "one out of range is 12"
  pub is_stored : number < trace_count t
  -- "The bench has a call that answers both for a trace number": what lies in the trace's place, of which bits above code and serial do not
  -- count
  pub label_is : l ≡ label_at (get_or t.labels number 0)

-- it leaves everything as it was, search work too
abbrev pub LabelsAnywhere : Type 0
LabelsAnywhere = (lent : Lent) (number : ℕ) (memory memory' : Tables) (said : Reply)
    → Follows (call lent (labelling number)) memory said memory'
    → (l : Label) → said.answer ≡ answering (labelled l) → LabelledIn number (first_places lent memory) l × (memory' ≡ memory)

-- ---- document 02, §10, on any tables

-- a report of these edges, on the tables t that the call was lent, whoever made them: it is what their records say
pub record ReportedIn (query : Trace) (edges : List ℕ) (t : Tables) (report : List BandCount) : Type 0 where
  pub by_records : report ≡ band_report (tree_in t) query edges
  -- "one record per band"; what is sure in a band is possible there
  pub report_is : ReportClaims (tree_in t) query edges

-- "A call that takes a query leaves the needed search work zero", and all else as it was
abbrev pub ReportsAnywhere : Type 0
ReportsAnywhere = (lent : Lent) (query : Trace) (edges list : List ℕ) (memory memory' : Tables) (said : Reply)
    → Follows (call lent (banding query edges list)) memory said memory'
    → (report : List BandCount) → said.answer ≡ answering (banded report)
    → ReportedIn query edges (first_places lent memory) report × (memory' ≡ left (cleared (first_places lent memory)) memory)

-- "a report that reads no traces": tables that differ from these in samples alone, any of them, give the same report
abbrev pub ReadsNoTraces : Type 0
ReadsNoTraces = (lent : Lent) (query : Trace) (edges list : List ℕ) (these these' : Tables) (said : Reply)
    → Follows (call lent (banding query edges list)) these said these'
    → (report : List BandCount) → said.answer ≡ answering (banded report)
    → (other other' : Tables) (also : Reply) → DifferOutside [] these other
    → Follows (call lent (banding query edges list)) other also other' → also ≡ said

-- ---- document 02, §12, on any tables

-- a match with a limit that answered m, on the tables t that it was lent, whoever made them
pub record LimitedIn (most : ℕ) (query : Trace) (t : Tables) (m : LimitedMatch) : Type 0 where
  pub by_steps : m ≡ limited_by_steps most (traces_in t) (tree_in t) query
  -- what holds of them: "The leaves read are the first L of the full trail, or all of it. Each leaf counts once against the limit, and the
  -- answer carries that count. If the whole trail was read the answer is settled"
  pub steps_are : LimitSteps most (traces_in t) (tree_in t) query
  -- "the best so far": the nearest of the traces read; "A larger L never gives a greater distance"
  pub best_is : LimitFormed most (traces_in t) (tree_in t) query

-- "A call that takes a query leaves the needed search work zero", and all else as it was
abbrev pub LimitsAnywhere : Type 0
LimitsAnywhere = (lent : Lent) (most : ℕ) (query : Trace) (trail : List ℕ) (memory memory' : Tables) (said : Reply)
    → Follows (call lent (limiting most query trail)) memory said memory'
    → (m : LimitedMatch) → said.answer ≡ answering (limited m)
    → LimitedIn most query (first_places lent memory) m × (memory' ≡ left (cleared (first_places lent memory)) memory)

-- ---- document 02, §13, on any tables

-- what was listed for a clipped sweep, on the tables t that the call was lent, whoever made them: it goes by their traces alone
pub record PossibleIn (lows highs : Trace) (t : Tables) (m : Possible) : Type 0 where
  pub by_distances : m ≡ possible_matches (traces_in t) lows highs
  -- "every trace whose least is no more than the smallest greatest", by number, and no other; "Any trace that could be the match for some
  -- sweep inside the ranges is then listed"
  pub listed_is : ListedClaims (traces_in t) lows highs
  -- "Each stored trace has a least and a greatest possible distance"
  pub possible_is : PossibleClaims (traces_in t) lows highs
  pub one_listed : 0 < m.count

-- "A call that takes a query leaves the needed search work zero", and all else as it was
abbrev pub ClippedAnywhere : Type 0
ClippedAnywhere = (lent : Lent) (lows highs : Trace) (list : List ℕ) (memory memory' : Tables) (said : Reply)
    → Follows (call lent (clipping lows highs list)) memory said memory'
    → (m : Possible) → said.answer ≡ answering (possible m)
    → PossibleIn lows highs (first_places lent memory) m × (memory' ≡ left (cleared (first_places lent memory)) memory)

-- ---- any query, of stored traces and their tree in some memory

-- what a call is refused for is judged by a book (`judge`), which takes nothing from the tables, or, where these may be anyone's, by what
-- they hold
abbrev pub judge_in : Tables → Call → Option Refusal
judge_in memory c = first_of (effect_in c memory).conditions

-- a match on some memory, whatever it is lent there, "that the table doesn't refuse", gives this answer and this trail
abbrev pub MatchGives : (Call → Option Refusal) → Trace → Tables → Match → Type 0
MatchGives judges query memory m = (lent : Lent) (trail : List ℕ) (said : Reply) (memory' : Tables)
    → Follows (call lent (matching query trail)) memory said memory'
    → judges (call lent (matching query trail)) ≡ none → said ≡ reply (answering (matched m)) (over m.trail trail ∷ [])

-- document 02, §1: a search for the k nearest on some memory, whatever it is lent there, that the table doesn't refuse, gives this list and
-- this trail. "List places past those filled keep their contents"
abbrev pub ListGives : (Call → Option Refusal) → ℕ → Trace → Tables → KNearest → Type 0
ListGives judges k query memory m = (lent : Lent) (trail list : List ℕ) (said : Reply) (memory' : Tables)
    → Follows (call lent (listing k query trail list)) memory said memory'
    → judges (call lent (listing k query trail list)) ≡ none
    → said ≡ reply (answering (neighbours m)) (over m.trail trail ∷ over (list_places m.list) list ∷ [])

-- of any query and each k. (A call refuses those outside 1 to 16; the claims hold of them too)
pub record OfEachK (judges : Call → Option Refusal) (k : ℕ) (stored : List Trace) (tree : Tree) (query : Trace) (memory : Tables)
    : Type 0 where
  -- "A search takes k from 1 to 16 and lists the k nearest traces"
  pub list_gives : ListGives judges k query memory (k_nearest_of k stored tree query)
  -- what the list is: "the k nearest traces by distance, then number; a smaller library lists all it has"; "A shorter list must be the
  -- beginning of a longer one"
  pub list_is : ListClaims k stored query
  pub by_bound_lem : ByBound tree query (k_nearest_of k stored tree query).trail
  -- which leaves are read: "those with a bound at most the last listed distance, or every leaf when fewer than k traces are stored"; "The
  -- fewest-leaves property is wanted for each k"
  pub leaves_are : KNearestClaims k stored tree query
  -- "The same [search] on tables that differ from these only in samples of traces outside" these leaves "gives that answer and that trail"
  pub others_do_not_bear : (other : Tables) → DifferOutside (k_nearest_of k stored tree query).trail memory other
      → ListGives judges k query other (k_nearest_of k stored tree query)

-- document 02, §12: a match with a limit on some memory, whatever it is lent there, that the table doesn't refuse, gives this answer and
-- this trail
abbrev pub LimitGives : (Call → Option Refusal) → ℕ → Trace → Tables → LimitedMatch → Type 0
LimitGives judges most query memory m = (lent : Lent) (trail : List ℕ) (said : Reply) (memory' : Tables)
    → Follows (call lent (limiting most query trail)) memory said memory'
    → judges (call lent (limiting most query trail)) ≡ none
    → said ≡ reply (answering (limited m)) (over (match_so_far m).trail trail ∷ [])

-- of any query and each limit, "L at least 1"
pub record OfEachLimit (judges : Call → Option Refusal) (most : ℕ) (stored : List Trace) (tree : Tree) (query : Trace) (memory : Tables)
    : Type 0 where
  -- "Match with a limit of L leaves"
  pub limit_gives : LimitGives judges most query memory (limited_match most stored tree query)
  -- "The leaves read are the first L of the full trail, or all of it. Each leaf counts once against the limit, and the answer carries that
  -- count"
  pub steps_are : LimitSteps most stored tree query
  -- "the best so far"; "A larger L never gives a greater distance"
  pub best_is : 0 < most → LimitFormed most stored tree query
  -- "If the whole trail was read the answer is settled and is the match. Else .. the true distance is at least that bound and at most the
  -- one given"
  pub limit_is : 0 < most → LimitClaims most stored tree query
  -- the same match on tables that differ from these only in samples of traces outside the leaves read gives that answer and that trail
  pub others_do_not_bear : (other : Tables) → DifferOutside (match_so_far (limited_match most stored tree query)).trail memory other
      → LimitGives judges most query other (limited_match most stored tree query)

-- "take any query of n samples. Let d be its least distance to the book's traces, and R the leaves with a bound at most d"
pub record OfAnyQuery (judges : Call → Option Refusal) (stored : List Trace) (tree : Tree) (query : Trace) (memory : Tables)
    : Type 0 where
  -- "No node's bound exceeds the query's distance to a trace below it"
  pub bound_at_most : (number trace : ℕ) → Below tree trace number → bound tree query number ≤ distance query (get_or stored trace [])
  -- "A match of this query that the table doesn't refuse answers the lowest trace number at distance d, d, the number of leaves in R, and
  -- the number of traces in them; the trail begins with R, by bound, then by number"
  pub match_gives : MatchGives judges query memory (match_of stored tree query)
  pub by_bound_lem : ByBound tree query (match_of stored tree query).trail
  -- demand 2: "the match is the stored trace with the least sum of squared sample differences, the lowest number among equals"
  pub is_stored : (match_of stored tree query).trace < length stored
  pub has_distance : distance query (get_or stored (match_of stored tree query).trace []) ≡ (match_of stored tree query).distance
  pub is_least : (trace : ℕ) → trace < length stored → (match_of stored tree query).distance ≤ distance query (get_or stored trace [])
  pub is_lowest : (trace : ℕ) → trace < (match_of stored tree query).trace
      → (match_of stored tree query).distance < distance query (get_or stored trace [])
  -- "The same match on tables that differ from these only in samples of traces outside R, still well formed, gives that answer and that
  -- trail"
  pub others_do_not_bear : (other : Tables) → DifferOutside (match_of stored tree query).trail memory other
      → MatchGives judges query other (match_of stored tree query)
  -- "R leaves out only bounds above d"
  pub out_of_R : (number : ℕ) → T (is_in number (leaves tree)) → T (not (is_in number (match_of stored tree query).trail))
      → least_distance stored query < bound tree query number
  -- "Any set of one leaf or more that leaves out only bounds above the least distance in the set contains R, so it has at least as many
  -- leaves as the answer counts"
  pub contains_R : (set : List ℕ) → LeavesOutOnlyAbove stored tree query set
      → T (every (λ number. is_in number set) (match_of stored tree query).trail)
  pub fewest : (set : List ℕ) → LeavesOutOnlyAbove stored tree query set → (match_of stored tree query).leaves ≤ length set
  -- R is itself such a set, so that "the fewest its bounds allow" is reached
  pub R_itself : LeavesOutOnlyAbove stored tree query (match_of stored tree query).trail
  -- document 02, §1; the one nearest is the match, "with its trail and counts"
  pub each_k : (k : ℕ) → OfEachK judges k stored tree query memory
  pub one_is_match : OneIsMatch stored tree query
  -- document 02, §12
  pub each_limit : (most : ℕ) → OfEachLimit judges most stored tree query memory

-- ---- document 02, §7: any batch, of stored traces and their tree in some memory

-- a batch on some memory, whatever it is lent there, that the table doesn't refuse, gives these records in the caller's list, this count of
-- leaves and this trail
abbrev pub BatchGives : (Call → Option Refusal) → ℕ → Trace → Tables → Batch → Type 0
BatchGives judges count run memory m = (lent : Lent) (trail : List ℕ) (list : List Near) (said : Reply) (memory' : Tables)
    → Follows (call lent (batching count run trail list)) memory said memory'
    → judges (call lent (batching count run trail list)) ≡ none
    → said ≡ reply (answering (batched m)) (over m.trail trail ∷ list_places m.answers ∷ [])

-- of any run of so many queries of n samples. (A call refuses a number outside 1 to 16; the claims hold of it too)
pub record OfAnyBatch (judges : Call → Option Refusal) (stored : List Trace) (tree : Tree) (n count : ℕ) (run : Trace) (memory : Tables)
    : Type 0 where
  -- "One answer record for each query is filled in the caller's list .., and the batch gives one count of leaves"
  pub batch_gives : BatchGives judges count run memory (batch_of stored tree (queries_in n count run))
  -- ".. with trace and distance as if matched alone"
  pub as_alone : (batch_of stored tree (queries_in n count run)).answers
      ≡ map (λ query. answer_in (match_of stored tree query)) (queries_in n count run)
  pub one_each : length (batch_of stored tree (queries_in n count run)).answers ≡ count
  -- "the leaves read are exactly those that at least one query alone would read"
  pub leaves_are : BatchClaims stored tree (queries_in n count run)
  -- "no leaf is read twice"
  pub steps_are : StepsClaims stored tree (queries_in n count run)
  -- "The trail lists the leaves read by rising number", and "one count of leaves" is how many they are
  pub rising : Up 0 (batch_of stored tree (queries_in n count run)).trail
  pub counted : (batch_of stored tree (queries_in n count run)).leaves ≡ length (batch_of stored tree (queries_in n count run)).trail
  -- a batch of one reads the match's leaves
  pub one_alone : count ≡ 1 → (queries_in n count run ≡ run ∷ []) × OneClaims stored tree run
  -- the same batch on tables that differ from these only in samples of traces outside these leaves gives these records and that trail
  pub others_do_not_bear : (other : Tables) → DifferOutside (batch_of stored tree (queries_in n count run)).trail memory other
      → BatchGives judges count run other (batch_of stored tree (queries_in n count run))

-- ---- document 02, §10: the bands of any query, of stored traces and their tree in some memory

-- a report on some memory, whatever it is lent there, that the table doesn't refuse, gives these records in the caller's list. Its other
-- places stay
abbrev pub ReportGives : (Call → Option Refusal) → Trace → List ℕ → Tables → List BandCount → Type 0
ReportGives judges query edges memory report = (lent : Lent) (list : List ℕ) (said : Reply) (memory' : Tables)
    → Follows (call lent (banding query edges list)) memory said memory'
    → judges (call lent (banding query edges list)) ≡ none
    → said ≡ reply (answering (banded report)) (over (report_places report) list ∷ [])

-- of any query of n samples, a trace being stored or not. (A call refuses edges that do not rise; the claims hold of them too)
pub record OfAnyBands (judges : Call → Option Refusal) (stored : List Trace) (tree : Tree) (query : Trace) (memory : Tables)
    : Type 0 where
  -- "For each band from one edge up to but not including the next, it says how many traces surely lie in it and how many may"
  pub report_gives : (edges : List ℕ) → ReportGives judges query edges memory (band_report tree query edges)
  pub report_is : (edges : List ℕ) → ReportClaims tree query edges
  -- no trace is nearer than a bound above it or farther than an upper figure; "The true number lies between"; "An empty library reports
  -- zeros"
  pub bands_are : BandClaims stored tree query
  -- "reads no traces": tables that differ from these in samples alone give the same report
  pub others_do_not_bear : (edges : List ℕ) (other : Tables) → DifferOutside [] memory other
      → ReportGives judges query edges other (band_report tree query edges)

-- ---- document 02, §13: any clipped sweep, of stored traces in some memory

-- a clipped sweep on some memory, whatever it is lent there, that the table doesn't refuse, gives this list and its count. The list's other
-- places stay
abbrev pub ClippedGives : (Call → Option Refusal) → Trace → Trace → Tables → Possible → Type 0
ClippedGives judges lows highs memory m = (lent : Lent) (list : List ℕ) (said : Reply) (memory' : Tables)
    → Follows (call lent (clipping lows highs list)) memory said memory'
    → judges (call lent (clipping lows highs list)) ≡ none
    → said ≡ reply (answering (possible m)) (over m.list list ∷ [])

-- of n low and n high figures that are not crossed
pub record OfAnyClipped (judges : Call → Option Refusal) (stored : List Trace) (lows highs : Trace) (memory : Tables) : Type 0 where
  -- "List, by number, and count every trace whose least is no more than the smallest greatest among all stored"
  pub clipped_gives : ClippedGives judges lows highs memory (possible_matches stored lows highs)
  -- "Any trace that could be the match for some sweep inside the ranges is then listed"; "With low equal to high everywhere, it lists all
  -- traces at the match's distance"
  pub listed_is : ListedClaims stored lows highs
  -- "Each stored trace has a least and a greatest possible distance"
  pub possible_is : PossibleClaims stored lows highs

-- ---- document 02, §8: any trace number, of labels in some memory

-- the bench's call on some memory, whatever it is lent there, that the table doesn't refuse, answers the trace's label of these
abbrev pub LabelGives : (Call → Option Refusal) → List Label → Tables → Type 0
LabelGives judges labels memory = (lent : Lent) (number : ℕ) (said : Reply) (memory' : Tables)
    → Follows (call lent (labelling number)) memory said memory'
    → judges (call lent (labelling number)) ≡ none → said ≡ reply (answering (labelled (get_or labels number no_label))) []

-- ---- demands 2 and 3

-- a writing of some memory that is not refused, and then a reading of its sheet into whatever memory that has the places these measures
-- need: what holds of the reading's reply and of the memory after it
abbrev pub WrittenThenRead : (Reply → Tables → Type 0) → Measures → Tables → Type 0
WrittenThenRead Leaves m memory = (lent : Lent) (sheet : List ℕ) (said₁ : Reply) (memory₁ : Tables)
    → Follows (call lent (writing sheet)) memory said₁ memory₁
    → (blocks : ℕ) (bytes : List ℕ) → said₁.answer ≡ answering (written blocks bytes)
    → (lent' : Lent) (memory₂ : Tables) (said₃ : Reply) (memory₃ : Tables) → Follows (call lent' (reading bytes)) memory₂ said₃ memory₃
    → first_of (short_conditions layout lent' m) ≡ none → Leaves said₃ memory₃

-- demand 2: "Such a library, written to a sheet and read back, is the same library", at every needed place
abbrev pub WrittenAndRead : Book → Tables → Type 0
WrittenAndRead b memory =
    WrittenThenRead (λ (said : Reply) (memory' : Tables). (said.answer ≡ answering done) × Keeps memory' b) b.measures memory

-- document 02, §14: the sheet that a writing of some memory left, damaged, is refused by every reading of it, into whatever memory; that
-- memory stays as it was
abbrev pub WrittenThenTorn : Tables → Type 0
WrittenThenTorn memory = (lent : Lent) (sheet : List ℕ) (said₁ : Reply) (memory₁ : Tables)
    → Follows (call lent (writing sheet)) memory said₁ memory₁
    → (blocks : ℕ) (bytes : List ℕ) → said₁.answer ≡ answering (written blocks bytes)
    → CannotHide (λ (damaged : List ℕ) (why : Refusal). (lent' : Lent) (memory₂ : Tables) (said₃ : Reply) (memory₃ : Tables)
    → Follows (call lent' (reading damaged)) memory₂ said₃ memory₃ → (said₃.answer ≡ refusing why) × (memory₃ ≡ memory₂)) bytes

-- document 02, §1: "an empty one is still 6", for a query of n samples within the limits and any k from 1 to 16, whatever trail and list
-- are lent
abbrev pub EmptyIsSix : Book → Tables → Type 0
EmptyIsSix b memory = (lent : Lent) (k : ℕ) (query : Trace) (trail list : List ℕ) (said : Reply) (memory' : Tables)
    → Follows (call lent (listing k query trail list)) memory said memory'
    → first_of (short_conditions layout lent b.measures) ≡ none → is_k k ≡ true → length query ≡ b.measures.n
    → T (are_samples query) → b.traces ≡ []
    → said.answer ≡ refusing empty

-- document 02, §2: an export "writes one stored trace so, at a rate the caller gives, .. and answers its bytes' number": what it wrote is
-- a sound recording of that rate and that trace, for an import to take
abbrev pub ExportedSound : Book → Tables → Type 0
ExportedSound b memory = (lent : Lent) (number rate : ℕ) (buffer : List ℕ) (said : Reply) (memory' : Tables)
    → Follows (call lent (exporting number rate buffer)) memory said memory'
    → (size : ℕ) (bytes : List ℕ) → said.answer ≡ answering (exported size bytes)
    → (said.beside ≡ over bytes buffer ∷ []) × ((size ≡ length bytes)
    × (judge_recording b.measures.n bytes ≡ some (recording rate (get_or b.traces number [] ∷ []))))

-- .. so that an import of it, into whatever memory for traces of as many samples, that is not refused is the adding of that trace
abbrev pub ExportedThenImported : Book → Tables → Type 0
ExportedThenImported b memory = (lent : Lent) (number rate : ℕ) (buffer : List ℕ) (said₁ : Reply) (memory₁ : Tables)
    → Follows (call lent (exporting number rate buffer)) memory said₁ memory₁
    → (size : ℕ) (bytes : List ℕ) → said₁.answer ≡ answering (exported size bytes)
    → (lent' : Lent) (memory₂ : Tables) (said₃ : Reply) (memory₃ : Tables) → Follows (call lent' (importing bytes)) memory₂ said₃ memory₃
    → (measures_of (first_places lent' memory₂)).n ≡ b.measures.n → (count : ℕ) → said₃.answer ≡ answering (imported count)
    → (count ≡ 1) × ((others : List Reply) (memory'' : Tables)
    → Ran memory₂ (addings lent' (get_or b.traces number [] ∷ [])) others memory'' → memory'' ≡ memory₃)

-- document 02, §6: a check that is lent the places that the measures need accepts, and leaves everything as it was
abbrev pub IsAccepted : Measures → Tables → Type 0
IsAccepted m memory = (lent : Lent) (said : Reply) (memory' : Tables) → Follows (call lent checking) memory said memory'
    → first_of (short_conditions layout lent m) ≡ none → (said ≡ reply (answering accepted) []) × (memory' ≡ memory)

-- a call of a list, and its reply
pub data Said : Call → Reply → List Call → List Reply → Type 0 where
  said_first : {c : Call} {r : Reply} {calls : List Call} {said : List Reply} → Said c r (c ∷ calls) (r ∷ said)
  said_later : {c d : Call} {r s : Reply} {calls : List Call} {said : List Reply} → Said c r calls said → Said c r (d ∷ calls) (s ∷ said)

-- a refusal that arises from the tables of another library, which a call is lent too: document 02, §11
unfoldable pub FromOther : Refusal → Ask → Type 0
FromOther why (pairing which other query trail) = first_of other.conditions ≡ some why
FromOther why (opening m) = ⊥
FromOther why (adding x l) = ⊥
FromOther why (searching q) = ⊥
FromOther why (writing sheet) = ⊥
FromOther why (reading bytes) = ⊥
FromOther why (importing bytes) = ⊥
FromOther why (exporting number rate buffer) = ⊥
FromOther why checking = ⊥
FromOther why (labelling number) = ⊥

-- "3 never arises from these tables": where a call of a list is refused so, it is for the other library's
abbrev pub NeverFromThese : Refusal → List Call → List Reply → Type 0
NeverFromThese why calls said = (c : Call) (r : Reply) → Said c r calls said → r.answer ≡ refusing why → FromOther why c.ask

-- what holds after a list of calls, from a book on
pub record AfterList (b : Book) (calls : List Call) (said : List Reply) (memory : Tables) : Type 0 where
  -- "What is stored, a book says": every needed place is as the book's library has it ..
  pub keeps : Keeps memory (after layout b calls)
  -- .. so that the tables stand for its measures, its traces and its tree, "the one that the published DSTree insertion .. builds from the
  -- same traces in the same order", and are well formed
  pub holds : Holds memory (after layout b calls).measures (after layout b calls).traces
  -- .. and have its labels (document 02, §8): "the book keeps them with its traces"
  pub labels_are : labels_in memory ≡ (after layout b calls).labels
  -- "Refusals follow the table, judged by arguments and book", and every answer is the book's; "a refused call changes nothing"
  pub replies_are : said ≡ replies_of layout b calls
  pub written_and_read : WrittenAndRead (after layout b calls) memory
  pub written_then_torn : WrittenThenTorn memory
  -- "3 never arises from these tables", nor does document 02's 13
  pub never_spoiled : NeverFromThese spoiled calls said
  pub never_loose : (r : Reply) → In r said → r.answer ≡ refusing loose_record → ⊥
  -- "After the list, if the book has a trace, take any query of n samples"
  pub any_query : (query : Trace) → 0 < length (after layout b calls).traces → length query ≡ (after layout b calls).measures.n
      → OfAnyQuery (judge layout (after layout b calls)) (after layout b calls).traces (book_tree (after layout b calls)) query memory
  -- document 02, §7: "A service round brings up to 16 queries"
  pub any_batch : (count : ℕ) (run : Trace) → 0 < length (after layout b calls).traces
      → length run ≡ (after layout b calls).measures.n * count
      → OfAnyBatch (judge layout (after layout b calls)) (after layout b calls).traces (book_tree (after layout b calls))
      (after layout b calls).measures.n count run memory
  -- document 02, §10: a report, of a library with traces or without
  pub any_bands : (query : Trace) → length query ≡ (after layout b calls).measures.n
      → OfAnyBands (judge layout (after layout b calls)) (after layout b calls).traces (book_tree (after layout b calls)) query memory
  -- document 02, §13: a clipped sweep of n samples
  pub any_clipped : (lows highs : Trace) → length lows ≡ (after layout b calls).measures.n
      → length highs ≡ (after layout b calls).measures.n → is_crossed lows highs ≡ false
      → OfAnyClipped (judge layout (after layout b calls)) (after layout b calls).traces lows highs memory
  pub empty_is_six : EmptyIsSix (after layout b calls) memory
  pub exported_sound : ExportedSound (after layout b calls) memory
  -- document 02, §8: "The bench has a call that answers both for a trace number", as "given when it is added"
  pub label_gives : LabelGives (judge layout (after layout b calls)) (after layout b calls).labels memory
  -- document 02, §6: "It accepts every library made by calls"
  pub trusts : Trusts memory (after layout b calls)
  pub is_accepted : IsAccepted (after layout b calls).measures memory

-- ---- what a memory stores, whoever made its tree: document 01's sheets and document 02's recordings of it

-- a sheet of a book's measures, traces and labels that was read: the reading's reply, and the memory after it
pub record ReadBack (b : Book) (said : Reply) (memory : Tables) : Type 0 where
  pub is_done : said.answer ≡ answering done
  -- "Reading opens the library and adds the traces in order": every needed place is as these calls leave it ..
  pub keeps : Keeps memory b
  -- .. so that the tables have these measures and these traces, and the tree that adding makes of them ..
  pub holds : Holds memory b.measures b.traces
  -- .. and these labels
  pub labels_are : labels_in memory ≡ b.labels
  -- a check accepts them
  pub is_accepted : IsAccepted b.measures memory
  -- all that is claimed of a library made by calls holds of them, and goes on to hold, whatever calls follow
  pub goes_on : (calls : List Call) (others : List Reply) (memory' : Tables) → Ran memory calls others memory'
      → AfterList b calls others memory'

-- a memory with a book's measures, traces and labels. Its tests, its recorded figures and the shape of its tree do not bear on this
pub record OfStored (b : Book) (memory : Tables) : Type 0 where
  -- the sheet that a writing leaves is that of these measures, and of these traces and labels, in order
  pub sheet_is : (lent : Lent) (sheet : List ℕ) (said : Reply) (memory' : Tables) → Follows (call lent (writing sheet)) memory said memory'
      → (blocks : ℕ) (bytes : List ℕ) → said.answer ≡ answering (written blocks bytes)
      → bytes ≡ sheet_of b.measures b.traces b.labels
  -- read back, it is the library that opening with these measures and adding these traces with these labels makes
  pub written_and_read : WrittenThenRead (ReadBack b) b.measures memory
  -- damaged, it is refused
  pub written_then_torn : WrittenThenTorn memory
  -- what an export leaves is a sound recording of the one of these traces that was asked for; to import it is to add that trace
  pub exported_sound : ExportedSound b memory
  pub exported_and_imported : ExportedThenImported b memory

-- a writing that is lent so many places, and bytes enough, is not refused
abbrev pub IsWritten : Lent → Tables → Type 0
IsWritten lent memory = (sheet : List ℕ) (said : Reply) (memory' : Tables) → Follows (call lent (writing sheet)) memory said memory'
    → let blocks = blocks_needed (measures_of memory) (traces_in memory) (labels_in memory) in
    let bytes = sheet_of (measures_of memory) (traces_in memory) (labels_in memory) in
    block_size * blocks ≤ length sheet → said ≡ reply (answering (written blocks bytes)) (over bytes sheet ∷ [])

-- ---- document 02, §6

-- document 02, §6: what holds after a list of calls that a check started which has just accepted, "whatever made the tables". The book
-- and the tree start with what these hold
pub record AfterCheck (b : Book) (tree : Tree) (calls : List Call) (said : List Reply) (memory : Tables) : Type 0 where
  -- "What is stored, a book says", refused calls included: the tables have its measures and its traces, and every recorded figure is exact
  pub trusts : Trusts memory (after layout b calls)
  -- the tree is what document 01's insertion makes of the accepted one by the traces added since, in order; after an opening or a reading
  -- it is that of the library put there
  pub tree_is : tree_in memory ≡ tree_after layout b tree calls
  -- so that it goes on accepting: each of these calls leaves "libraries it would accept"
  pub is_accepted : IsAccepted (after layout b calls).measures memory
  -- 3 and 13 never arise from these tables
  pub never_spoiled : NeverFromThese spoiled calls said
  pub never_loose : (r : Reply) → In r said → r.answer ≡ refusing loose_record → ⊥
  -- "If it accepts, a match must be the nearest stored trace and read the fewest leaves": of any query of n samples, if a trace is stored
  pub any_query : (query : Trace) → 0 < length (after layout b calls).traces → length query ≡ (after layout b calls).measures.n
      → OfAnyQuery (judge_in memory) (after layout b calls).traces (tree_in memory) query memory
  -- document 02, §7, "for libraries it would accept"
  pub any_batch : (count : ℕ) (run : Trace) → 0 < length (after layout b calls).traces
      → length run ≡ (after layout b calls).measures.n * count
      → OfAnyBatch (judge_in memory) (after layout b calls).traces (tree_in memory) (after layout b calls).measures.n count run memory
  -- document 02, §10, "for libraries it would accept"
  pub any_bands : (query : Trace) → length query ≡ (after layout b calls).measures.n
      → OfAnyBands (judge_in memory) (after layout b calls).traces (tree_in memory) query memory
  -- document 02, §13
  pub any_clipped : (lows highs : Trace) → length lows ≡ (after layout b calls).measures.n
      → length highs ≡ (after layout b calls).measures.n → is_crossed lows highs ≡ false
      → OfAnyClipped (judge_in memory) (after layout b calls).traces lows highs memory
  -- document 02, §8: the bench is answered the book's labels
  pub label_gives : LabelGives (judge_in memory) (after layout b calls).labels memory
  -- written to a sheet and read back, such tables are the library of the book's traces and labels
  pub of_stored : OfStored (after layout b calls) memory

-- a check on some memory, whatever it holds
pub record CheckedIn (lent : Lent) (memory : Tables) (said : Reply) (memory' : Tables) : Type 0 where
  -- it leaves everything as it was, search work too, whatever it answers
  pub stays : memory' ≡ memory
  -- "If it accepts", tables are well formed, and each recorded "least and greatest sum and scatter" is that of "the traces below"
  pub accepts : let t = first_places lent memory in said.answer ≡ answering accepted
      → ExactTree sample_limit (measures_of t) (traces_in t) (tree_in t)
  -- "13 loose record, when well-formed tables hold a figure that isn't exactly the recomputed one"
  pub refuses_loose : let t = first_places lent memory in said.answer ≡ refusing loose_record
      → T (well_formed t) × (RangesOf (traces_in t) (tree_in t) → ⊥)
  -- and so the other way, of tables that no call refuses for their lengths or for what they hold
  pub accepts_exact : let t = first_places lent memory in first_of (made_conditions t) ≡ none → RangesOf (traces_in t) (tree_in t)
      → said.answer ≡ answering accepted
  pub loose_refused : let t = first_places lent memory in first_of (made_conditions t) ≡ none → (RangesOf (traces_in t) (tree_in t) → ⊥)
      → said.answer ≡ refusing loose_record
  -- such tables can be written as a sheet; read back, it is the library of the traces as these tables have them
  pub loose_written : said.answer ≡ refusing loose_record → IsWritten lent memory
  pub loose_stored : said.answer ≡ refusing loose_record → OfStored (book_in memory) memory

abbrev pub ChecksAnywhere : Type 0
ChecksAnywhere = (lent : Lent) (memory memory' : Tables) (said : Reply) → Follows (call lent checking) memory said memory'
    → CheckedIn lent memory said memory'

-- ---- all of it

pub record Demands : Type 0 where
  pub one_call : (c : Call) (memory memory' : Tables) (said : Reply) → Follows c memory said memory' → OneCall c memory said memory'
  pub off_trail : SamplesOffTrail
  pub may_differ : (those : List ℕ) (these : Tables) → MayDiffer those these
  pub adds_anywhere : AddsAnywhere
  pub matches_anywhere : MatchesAnywhere
  pub lists_anywhere : ListsAnywhere
  pub imports_anywhere : ImportsAnywhere
  pub checks_anywhere : ChecksAnywhere
  pub batches_anywhere : BatchesAnywhere
  pub reports_anywhere : ReportsAnywhere
  pub reads_no_traces : ReadsNoTraces
  pub limits_anywhere : LimitsAnywhere
  pub clipped_anywhere : ClippedAnywhere
  pub labels_anywhere : LabelsAnywhere
  -- document 02, §8: "The jog remote has one call, a match whose answer adds the fault code and nothing else"
  pub remote_is_match : RemoteIsMatch
  -- "Two libraries alike but for serials must give the remote equal answers and equal refusals", and there are such
  pub sees_no_serials : RemoteSeesNoSerials
  pub serials_may_differ : (these : Tables) → MayDifferInSerials these
  -- document 02, §9: "A stored sample outside the limits makes the tables spoiled", and there is none
  pub samples_inside_lem : (memory : Tables) → SamplesInside memory
  -- document 02, §11: a match over two libraries is a call of both lists; on any two memories; on two that the check would accept
  pub joins_both : JoinsBoth
  pub pairs_anywhere : PairsAnywhere
  pub pairs_off_trail : PairsOffTrail
  pub trusted_pairs : TrustedPairs
  -- .. so after two lists of calls, one for each library: judged by both books
  pub after_both : (bf bb : Book) (calls others : List Call) (said also : List Reply) (factory bench : Tables)
      → AfterList bf calls said factory → AfterList bb others also bench
      → OfBoth (after layout bf calls) (book_tree (after layout bf calls)) (after layout bb others) (book_tree (after layout bb others))
      factory bench
  -- of any memory, whatever it holds, with the measures, traces and labels that it has. (That they make a library, a writing or an export
  -- that is not refused has tested)
  pub stored_anywhere : (memory : Tables) → OfStored (book_in memory) memory
  -- document 02, §14: there are damaged sheets of every kind that a writing's sheet is claimed of
  pub may_be_torn : (sheet : List ℕ) → MayBeTorn sheet
  -- "An opening or a sheet reading has just succeeded when it starts": the first call is one that answers `done`
  pub after_list : (first : Call) (calls : List Call) (memory₀ memory : Tables) (said₀ : Reply) (said : List Reply)
      → Ran memory₀ (first ∷ calls) (said₀ ∷ said) memory → said₀.answer ≡ answering done
      → AfterList (start layout first) calls said memory
  -- document 02, §6: a check has just accepted when it starts: the first call is one that answers `accepted`
  pub after_check : (first : Call) (calls : List Call) (memory₀ memory : Tables) (said₀ : Reply) (said : List Reply)
      → Ran memory₀ (first ∷ calls) (said₀ ∷ said) memory → said₀.answer ≡ answering accepted
      → AfterCheck (book_in memory₀) (tree_in memory₀) calls said memory
  -- the tree that goes along there is the book's own, where it was at the start: of a library made by calls
  pub tree_of_book : (b : Book) (calls : List Call) → tree_after layout b (book_tree b) calls ≡ book_tree (after layout b calls)
  -- demand 2: "an accepted sheet is written again byte for byte"
  pub read_and_written : (lent : Lent) (bytes : List ℕ) (memory₀ memory₁ : Tables) (said₁ : Reply)
      → Follows (call lent (reading bytes)) memory₀ said₁ memory₁ → said₁.answer ≡ answering done
      → (lent' : Lent) (sheet : List ℕ) (said₂ : Reply) (memory₂ : Tables) → Follows (call lent' (writing sheet)) memory₁ said₂ memory₂
      → (blocks : ℕ) (again : List ℕ) → said₂.answer ≡ answering (written blocks again) → again ≡ bytes
