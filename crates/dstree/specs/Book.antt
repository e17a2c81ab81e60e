-- Document 01, "Demand 3, over a list of calls": the calls, what the table refuses, and the book. "A call added later joins the list":
-- document 02's stand behind document 01's.
use Rattle.std.specs.Prelude.{ℕ, ◌+◌, ◌*◌, Bool, true, not, ◌&&◌, ◌||◌, List, [], ◌∷◌, ◌++◌, map, length, get_or, drop, replicate, ltb, eqb}
use Rattle.std.proofs.Math.Option.{Option, none, some}
use Rattle.dstree.specs.Measures.{Trace, Measures, measures, in_range, samples_needed, records_needed, links_needed, work_needed}
use Rattle.dstree.specs.Measures.{labels_needed, are_within, are_samples}
use Rattle.dstree.specs.Labels.{Label, no_label}
use Rattle.dstree.specs.Node.{Tree}
use Rattle.dstree.specs.Adding.{tree_of}
use Rattle.dstree.specs.Matching.{leaves, Near, Match, searched, match_of}
use Rattle.dstree.specs.KNearest.{is_k, list_places, KNearest, k_nearest_by_steps, k_nearest_of}
use Rattle.dstree.specs.Batch.{queries_in, batch_conditions, Batch, batch_by_steps, batch_of}
pub use Rattle.dstree.specs.Batch.{match_seen}
use Rattle.dstree.specs.Bands.{BandCount, band_report, report_places, band_conditions}
use Rattle.dstree.specs.Pair.{indexed, Which, by_which, Other, pairing_conditions, PairMatch, paired_with}
use Rattle.dstree.specs.LeafLimit.{LimitedMatch, match_so_far, limit_conditions, limited_match, limited_by_steps}
use Rattle.dstree.specs.Clipped.{Possible, possible_matches, clipped_conditions}
use Rattle.dstree.specs.Refusals.{Refusal, measure, short_table, wrong_trace, full, short_trail, sheet_length, bad_k, bad_recording}
use Rattle.dstree.specs.Refusals.{sample_range, Condition, ◌refuses◌, first_of, run_conditions}
use Rattle.dstree.specs.Recording.{rate_limit, recording_size, recording_of, Recording, judge_recording, is_bad_file, file_traces}
use Rattle.dstree.specs.Sheet.{block_size, narrow_limit, Judged, refused, holds}
use Rattle.dstree.specs.SheetWidths.{blocks_needed, sheet_of, judge_sheet}

-- ---- calls

-- what the layout needs, which is "the team's": fields of the control record, places of a node's record
pub record Layout : Type 0 where
  pub control_fields : ℕ
  pub record_places : ℕ

-- the lengths of the lent tables, in their places
pub record Lent : Type 0 where
  pub control : ℕ
  pub samples : ℕ
  pub nodes : ℕ
  pub links : ℕ
  pub work : ℕ
  pub labels : ℕ

-- what a search is asked: a match comes with its query and the contents of its trail; the search of document 02, §1, with k, its query, and
-- the contents of its trail and its list; a batch of §7 with the number of its queries, their run of samples, and the contents of its trail
-- and of its list of answer records; the remote's match of §8 with its query and its trail; a report of §10 with its query, its edges and
-- the contents of its list; a match of §12 with its limit of leaves, its query and the contents of its trail; a clipped sweep of §13 with
-- its lows, its highs and the contents of its list
pub data Sought : Type 0 where
  a_match : Trace → List ℕ → Sought
  a_listing : ℕ → Trace → List ℕ → List ℕ → Sought
  a_batch : ℕ → Trace → List ℕ → List Near → Sought
  a_remote : Trace → List ℕ → Sought
  a_banding : Trace → List ℕ → List ℕ → Sought
  a_limited : ℕ → Trace → List ℕ → Sought
  a_clipped : Trace → Trace → List ℕ → Sought

-- what a call asks for: "calls of opening, adding, match, sheet writing and sheet reading .. with any arguments". "Trails and sheets are
-- not part of" the tables: a writing and a reading come with the bytes of their sheet; an import of document 02, §2, with the bytes of its
-- file, an export with a trace's number, a rate, and the contents of its buffer; the check of §6 with nothing but the tables; an adding
-- with the label of §8 too, the bench's call for a label with a trace's number; a match over two libraries of §11 with which of the two
-- this one is, the other one, its query, and the contents of this one's trail
pub data Ask : Type 0 where
  opening : Measures → Ask
  adding : Trace → Label → Ask
  searching : Sought → Ask
  writing : List ℕ → Ask
  reading : List ℕ → Ask
  importing : List ℕ → Ask
  exporting : ℕ → ℕ → List ℕ → Ask
  checking : Ask
  labelling : ℕ → Ask
  pairing : Which → Other → Trace → List ℕ → Ask

abbrev pub matching : Trace → List ℕ → Ask
matching query trail = searching (a_match query trail)

abbrev pub listing : ℕ → Trace → List ℕ → List ℕ → Ask
listing k query trail list = searching (a_listing k query trail list)

abbrev pub batching : ℕ → Trace → List ℕ → List Near → Ask
batching count run trail list = searching (a_batch count run trail list)

abbrev pub remote_matching : Trace → List ℕ → Ask
remote_matching query trail = searching (a_remote query trail)

abbrev pub banding : Trace → List ℕ → List ℕ → Ask
banding query edges list = searching (a_banding query edges list)

abbrev pub limiting : ℕ → Trace → List ℕ → Ask
limiting most query trail = searching (a_limited most query trail)

abbrev pub clipping : Trace → Trace → List ℕ → Ask
clipping lows highs list = searching (a_clipped lows highs list)

-- a call: "arguments .., lengths of tables included"
pub record Call : Type 0 where
  pub lent : Lent
  pub ask : Ask

abbrev pub call : Lent → Ask → Call
call lent ask = record { lent = lent; ask = ask }

-- ---- answers

-- what a call answers that is not refused: "Opening and sheet reading answer only that they succeeded, adding the new trace's number,
-- writing the number of blocks"; a match with its trail, a writing with its sheet, a listing with list and trail; an import "how many"
-- traces it added, an export "its bytes' number", with these bytes; a check that "it accepts"; a batch with its answer records, "one count
-- of leaves" and its trail; the bench's call "both for a trace number"; the remote's a match that "adds the fault code and nothing else"; a
-- report "how many traces surely lie in" each band "and how many may"; a match over two libraries "which library", with both trails; a
-- match with a limit "the match", or "the best so far, with the bound of the first unread leaf"; for a clipped sweep list and count of
-- "every trace" that could be the match
pub data Result : Type 0 where
  done : Result
  added : ℕ → Result
  matched : Match → Result
  written : ℕ → List ℕ → Result
  neighbours : KNearest → Result
  imported : ℕ → Result
  exported : ℕ → List ℕ → Result
  accepted : Result
  batched : Batch → Result
  labelled : Label → Result
  remote_matched : Match → ℕ → Result
  banded : List BandCount → Result
  paired : PairMatch → Result
  limited : LimitedMatch → Result
  possible : Possible → Result

-- "does its work or gives the one refusal that document 01 fixes"
pub data Answer : Type 0 where
  refusing : Refusal → Answer
  answering : Result → Answer

-- what a call answers, and what stands then in what it was lent beside the tables
pub record Reply : Type 0 where
  pub answer : Answer
  pub beside : List (List ℕ)

abbrev pub reply : Answer → List (List ℕ) → Reply
reply answer beside = record { answer = answer; beside = beside }

-- a list, its beginning replaced: "places after them keep their contents"
abbrev pub over : {A : Type 0} → List A → List A → List A
over front l = front ++ drop (length front) l

-- what a match over two libraries leaves beside this one's tables: its trail, the other's trail, and the other's search work, "the needed
-- search work zero"
unfoldable pub pair_beside : Which → Other → PairMatch → List ℕ → List (List ℕ)
pair_beside which other found trail =
    over (by_which which found.factory_trail found.bench_trail) trail
    ∷ over (by_which which found.bench_trail found.factory_trail) other.trail
    ∷ (replicate other.needed 0 ++ drop other.needed other.work)
    ∷ []

-- ---- the book

-- "keeps n, capacity, leaf size and a list of traces"; document 02, §8: "the book keeps" labels "with its traces", one for each
pub record Book : Type 0 where
  pub measures : Measures
  pub traces : List Trace
  pub labels : List Label

abbrev pub book : Measures → List Trace → List Label → Book
book m traces labels = record { measures = m; traces = traces; labels = labels }

-- "The book's tree is what the steps under Adding make of its traces"
abbrev pub book_tree : Book → Tree
book_tree b = tree_of b.measures b.traces

-- what the book says of a call, "fed the calls' arguments alone": the table's conditions, in order; and, if none holds, what it puts, what
-- it answers, and what it leaves in what it is lent beside the tables
pub record Entry : Type 0 where
  pub conditions : List Condition
  pub puts : Book
  pub result : Result
  pub beside : List (List ℕ)

-- ---- refusals, "judged by arguments and book"

-- "control record too short"
unfoldable pub control_short : Layout → Lent → Bool
control_short layout lent = ltb lent.control layout.control_fields

-- one of the "other tables .. below the need"
unfoldable pub tables_short : Layout → Lent → Measures → Bool
tables_short layout lent m =
    ltb lent.samples (samples_needed m)
    || ltb lent.nodes (records_needed m * layout.record_places)
    || ltb lent.links (links_needed m)
    || ltb lent.work (work_needed m)
    || ltb lent.labels (labels_needed m)

-- 2, for tables that these measures need. "3 never arises from these tables"
abbrev pub short_conditions : Layout → Lent → Measures → List Condition
short_conditions layout lent m = control_short layout lent refuses short_table ∷ tables_short layout lent m refuses short_table ∷ []

-- What each call refuses behind 2 and 3, of a library of these measures, with so many traces and this tree: the book's here, and what the
-- tables hold where a call is lent some (`calls/specs/Effects`).

-- adding, of its trace: 4, 15, 5
abbrev pub add_conditions : Measures → ℕ → Trace → List Condition
add_conditions m count x =
    not (eqb (length x) m.n) refuses wrong_trace
    ∷ not (are_samples x) refuses sample_range
    ∷ eqb count m.capacity refuses full
    ∷ []

-- a search, of its query and its trail
abbrev pub query_conditions : Measures → ℕ → Tree → Trace → List ℕ → List Condition
query_conditions m count tree query trail = run_conditions m.n count (length (leaves tree)) query trail

-- writing, of its sheet: 8
abbrev pub write_conditions : Measures → List Trace → List Label → List ℕ → List Condition
write_conditions m traces labels sheet = ltb (length sheet) (block_size * blocks_needed m traces labels) refuses sheet_length ∷ []

-- document 02, §8, of the bench's call: a trace number "out of range is 12, as in export"
abbrev pub label_conditions : ℕ → ℕ → List Condition
label_conditions count number = not (ltb number count) refuses bad_recording ∷ []

-- document 02, §1: "11 bad k, outside 1 to 16, after 3; a list shorter than k is refused as 7", k traces taking two places each
abbrev pub list_conditions : Measures → ℕ → Tree → ℕ → Trace → List ℕ → List ℕ → List Condition
list_conditions m count tree k query trail list =
    not (is_k k) refuses bad_k ∷ (query_conditions m count tree query trail ++ (ltb (length list) (2 * k) refuses short_trail ∷ []))

-- document 02, §2: "12 bad recording, for a file of any other form ..; 5 if not all traces fit"
abbrev pub import_conditions : Measures → ℕ → Option Recording → List Condition
import_conditions m count file = is_bad_file file refuses bad_recording ∷ ltb m.capacity (count + length (file_traces file)) refuses full ∷ []

-- ".. or an export rate or trace number out of range ..; an export buffer too short is 8"; §9: "WAV export refuses wider samples as 12",
-- of the trace that has this number
abbrev pub export_conditions : Measures → ℕ → Trace → ℕ → ℕ → List ℕ → List Condition
export_conditions m count x number rate buffer =
    not (ltb rate rate_limit && ltb number count) refuses bad_recording
    ∷ not (are_within narrow_limit x) refuses bad_recording
    ∷ ltb (length buffer) (recording_size m.n) refuses sheet_length
    ∷ []

-- "Reading: 8; 9 over all blocks; 10; 2", and document 02, §9, 15 before 2
unfoldable pub reading_conditions : Layout → Lent → Judged → List Condition
reading_conditions layout lent (refused r) = true refuses r ∷ []
reading_conditions layout lent (holds m traces labels) = short_conditions layout lent m

-- "Reading puts the sheet's measures and traces, in order", and its labels
unfoldable pub put_read : Book → Judged → Book
put_read b (refused r) = b
put_read b (holds m traces labels) = book m traces labels

-- ---- searches, each as a value

-- what a search finds: its answer, and what then stands in what it was lent beside the tables
pub record Found : Type 0 where
  pub result : Result
  pub beside : List (List ℕ)

abbrev pub finding : Result → List (List ℕ) → Found
finding result beside = record { result = result; beside = beside }

pub record AnySearch : Type 0 where
  -- what it is lent beside the tables to be written, slice by slice
  pub lends : List (List ℕ)
  -- what it refuses behind 2 and 3
  pub refuses_own : Measures → ℕ → Tree → List Condition
  -- what it finds: by its steps, whoever made the tables, and in closed form, which the book has. Of labels a search is given the fault
  -- codes alone (document 02, §8), so that no search sees a serial
  pub steps : Measures → List Trace → List ℕ → Tree → Found
  pub closed : Measures → List Trace → List ℕ → Tree → Found

-- a match. "the trail begins with R". (A search of well-formed tables with a trace finds one, so that 0 and 0 are never answered:
-- `calls/proofs/Finds`)
abbrev pub match_found : List ℕ → Match → Found
match_found trail m = finding (matched m) (over m.trail trail ∷ [])

abbrev pub match_search : Trace → List ℕ → AnySearch
match_search query trail = record {
  lends = trail ∷ [];
  refuses_own = λ m count tree. query_conditions m count tree query trail;
  steps = λ m traces codes tree. let s = searched traces tree query in match_found trail (match_seen s s.best);
  closed = λ m traces codes tree. match_found trail (match_of traces tree query);
}

-- document 02, §1: "lists the k nearest traces"; "List places past those filled keep their contents"
abbrev pub list_found : List ℕ → List ℕ → KNearest → Found
list_found trail list m = finding (neighbours m) (over m.trail trail ∷ over (list_places m.list) list ∷ [])

abbrev pub list_search : ℕ → Trace → List ℕ → List ℕ → AnySearch
list_search k query trail list = record {
  lends = trail ∷ list ∷ [];
  refuses_own = λ m count tree. list_conditions m count tree k query trail list;
  steps = λ m traces codes tree. list_found trail list (k_nearest_by_steps k traces tree query);
  closed = λ m traces codes tree. list_found trail list (k_nearest_of k traces tree query);
}

-- document 02, §7: "One answer record for each query is filled in the caller's list", which has a place for each and no more
abbrev pub batch_found : List ℕ → Batch → Found
batch_found trail m = finding (batched m) (over m.trail trail ∷ list_places m.answers ∷ [])

abbrev pub batch_search : ℕ → Trace → List ℕ → List Near → AnySearch
batch_search count run trail list = record {
  lends = trail ∷ list_places list ∷ [];
  refuses_own = λ m stored tree. batch_conditions m.n stored (length (leaves tree)) count (length list) run trail;
  steps = λ m traces codes tree. batch_found trail (batch_by_steps traces tree (queries_in m.n count run));
  closed = λ m traces codes tree. batch_found trail (batch_of traces tree (queries_in m.n count run));
}

-- document 02, §8: "The jog remote has one call, a match whose answer adds the fault code and nothing else"
abbrev pub remote_found : List ℕ → List ℕ → Match → Found
remote_found codes trail m = finding (remote_matched m (get_or codes m.trace 0)) (over m.trail trail ∷ [])

abbrev pub remote_search : Trace → List ℕ → AnySearch
remote_search query trail = record {
  lends = trail ∷ [];
  refuses_own = λ m count tree. query_conditions m count tree query trail;
  steps = λ m traces codes tree. let s = searched traces tree query in remote_found codes trail (match_seen s s.best);
  closed = λ m traces codes tree. remote_found codes trail (match_of traces tree query);
}

-- document 02, §10: "a report that reads no traces", nor a label. Places past the bands keep their contents
abbrev pub band_found : List ℕ → List BandCount → Found
band_found list report = finding (banded report) (over (report_places report) list ∷ [])

abbrev pub band_search : Trace → List ℕ → List ℕ → AnySearch
band_search query edges list = record {
  lends = list ∷ [];
  refuses_own = λ m count tree. band_conditions m.n query edges list;
  steps = λ m traces codes tree. band_found list (band_report tree query edges);
  closed = λ m traces codes tree. band_found list (band_report tree query edges);
}

-- document 02, §12: "Match with a limit of L leaves"
abbrev pub limit_found : List ℕ → LimitedMatch → Found
limit_found trail m = finding (limited m) (over (match_so_far m).trail trail ∷ [])

abbrev pub limit_search : ℕ → Trace → List ℕ → AnySearch
limit_search most query trail = record {
  lends = trail ∷ [];
  refuses_own = λ m count tree. limit_conditions m.n count (length (leaves tree)) most query trail;
  steps = λ m traces codes tree. limit_found trail (limited_by_steps most traces tree query);
  closed = λ m traces codes tree. limit_found trail (limited_match most traces tree query);
}

-- document 02, §13: "Sweeps with clipped samples". It asks nothing of the tree; "places past those filled stay"
abbrev pub clipped_found : List ℕ → Possible → Found
clipped_found list m = finding (possible m) (over m.list list ∷ [])

abbrev pub clipped_search : Trace → Trace → List ℕ → AnySearch
clipped_search lows highs list = record {
  lends = list ∷ [];
  refuses_own = λ m count tree. clipped_conditions m.n count lows highs list;
  steps = λ m traces codes tree. clipped_found list (possible_matches traces lows highs);
  closed = λ m traces codes tree. clipped_found list (possible_matches traces lows highs);
}

abbrev pub search_of : Sought → AnySearch
search_of (a_match query trail) = match_search query trail
search_of (a_listing k query trail list) = list_search k query trail list
search_of (a_batch count run trail list) = batch_search count run trail list
search_of (a_remote query trail) = remote_search query trail
search_of (a_banding query edges list) = band_search query edges list
search_of (a_limited most query trail) = limit_search most query trail
search_of (a_clipped lows highs list) = clipped_search lows highs list

-- what a call is lent beside the tables to be written, slice by slice
unfoldable pub beside_of : Ask → List (List ℕ)
beside_of (opening m) = []
beside_of (adding x l) = []
beside_of (searching q) = (search_of q).lends
beside_of (writing sheet) = sheet ∷ []
beside_of (reading bytes) = []
beside_of (importing bytes) = []
beside_of (exporting number rate buffer) = buffer ∷ []
beside_of checking = []
beside_of (labelling number) = []
beside_of (pairing which other query trail) = trail ∷ other.trail ∷ other.work ∷ []

-- ---- call by call

module _ (layout : Layout) (lent : Lent) (b : Book) where
  -- "An opening puts its measures and no trace"
  unfoldable pub opening_entry : Measures → Entry
  opening_entry m = record {
    conditions = not (in_range m) refuses measure ∷ short_conditions layout lent m;
    puts = book m [] [];
    result = done;
    beside = [];
  }

  -- "Adding appends its trace", and its label
  unfoldable pub adding_entry : Trace → Label → Entry
  adding_entry x l = record {
    conditions = short_conditions layout lent b.measures ++ add_conditions b.measures (length b.traces) x;
    puts = book b.measures (b.traces ++ (x ∷ [])) (b.labels ++ (l ∷ []));
    result = added (length b.traces);
    beside = [];
  }

  -- a search: "A refused call changes nothing, nor does a match or a writing"
  abbrev pub searching_entry : AnySearch → Entry
  searching_entry s =
      let found = s.closed b.measures b.traces (map (λ (l : Label). l.code) b.labels) (book_tree b) in
      record {
        conditions = short_conditions layout lent b.measures ++ s.refuses_own b.measures (length b.traces) (book_tree b);
        puts = b;
        result = found.result;
        beside = found.beside;
      }

  unfoldable pub writing_entry : List ℕ → Entry
  writing_entry sheet =
      let bytes = sheet_of b.measures b.traces b.labels in
      record {
        conditions = short_conditions layout lent b.measures ++ write_conditions b.measures b.traces b.labels sheet;
        puts = b;
        result = written (blocks_needed b.measures b.traces b.labels) bytes;
        beside = over bytes sheet ∷ [];
      }

  unfoldable pub reading_entry : List ℕ → Entry
  reading_entry bytes = record {
    conditions = reading_conditions layout lent (judge_sheet bytes);
    puts = put_read b (judge_sheet bytes);
    result = done;
    beside = [];
  }

  -- document 02, §2: "The samples are cut into traces of n and added in order, all or none; the answer is how many"
  unfoldable pub importing_entry : List ℕ → Entry
  importing_entry bytes =
      let file = judge_recording b.measures.n bytes in
      record {
        conditions = short_conditions layout lent b.measures ++ import_conditions b.measures (length b.traces) file;
        puts =
            book b.measures (b.traces ++ file_traces file) (b.labels ++ replicate (length (file_traces file)) no_label);
        result = imported (length (file_traces file));
        beside = [];
      }

  -- "Export writes one stored trace so, at a rate the caller gives, .. and answers its bytes' number"
  unfoldable pub exporting_entry : ℕ → ℕ → List ℕ → Entry
  exporting_entry number rate buffer =
      let x = get_or b.traces number [] in
      let bytes = recording_of rate x in
      record {
        conditions = short_conditions layout lent b.measures ++ export_conditions b.measures (length b.traces) x number rate buffer;
        puts = b;
        result = exported (recording_size b.measures.n) bytes;
        beside = over bytes buffer ∷ [];
      }

  -- document 02, §6: "It accepts every library made by calls". (13 is refused of other tables alone)
  unfoldable pub checking_entry : Entry
  checking_entry = record { conditions = short_conditions layout lent b.measures; puts = b; result = accepted; beside = [] }

  -- document 02, §8: "The bench has a call that answers both for a trace number"
  unfoldable pub labelling_entry : ℕ → Entry
  labelling_entry number = record {
    conditions = short_conditions layout lent b.measures ++ label_conditions (length b.traces) number;
    puts = b;
    result = labelled (get_or b.labels number no_label);
    beside = [];
  }

  -- document 02, §11: "Match a query over both". The other library is an argument, about which the book knows nothing: of tables that the
  -- check would not accept, the answer is the program's
  unfoldable pub pairing_entry : Which → Other → Trace → List ℕ → Entry
  pairing_entry which other query trail =
      let own = indexed b.traces (book_tree b) in
      let found = paired_with which own other.library query in
      record {
        conditions = pairing_conditions which (short_conditions layout lent b.measures) b.measures.n own other query trail;
        puts = b;
        result = paired found;
        beside = pair_beside which other found trail;
      }

  unfoldable pub entry_of : Ask → Entry
  entry_of (opening m) = opening_entry m
  entry_of (adding x l) = adding_entry x l
  entry_of (searching q) = searching_entry (search_of q)
  entry_of (writing sheet) = writing_entry sheet
  entry_of (reading bytes) = reading_entry bytes
  entry_of (importing bytes) = importing_entry bytes
  entry_of (exporting number rate buffer) = exporting_entry number rate buffer
  entry_of checking = checking_entry
  entry_of (labelling number) = labelling_entry number
  entry_of (pairing which other query trail) = pairing_entry which other query trail

-- ---- every call

abbrev pub entry : Layout → Book → Call → Entry
entry layout b c = entry_of layout c.lent b c.ask

-- the refusal of a call, if any: "Refusals follow the table"
unfoldable pub judge : Layout → Book → Call → Option Refusal
judge layout b c = first_of (entry layout b c).conditions

-- "A refused call changes nothing"
unfoldable pub put_unless : Option Refusal → Book → Entry → Book
put_unless (some r) b e = b
put_unless none b e = e.puts

-- the book after a call
unfoldable pub turn : Layout → Book → Call → Book
turn layout b c = put_unless (judge layout b c) b (entry layout b c)

-- the book after a list of calls
unfoldable pub after : Layout → Book → List Call → Book
after layout b [] = b
after layout b (c ∷ rest) = after layout (turn layout b c) rest

-- "with all lent memory then as before the call", if it is refused
unfoldable pub reply_unless : Option Refusal → List (List ℕ) → Entry → Reply
reply_unless (some r) beside e = reply (refusing r) beside
reply_unless none beside e = reply (answering e.result) e.beside

-- the reply that the book has for a call: nothing is taken from the tables
unfoldable pub reply_of : Layout → Book → Call → Reply
reply_of layout b c = reply_unless (judge layout b c) (beside_of c.ask) (entry layout b c)

-- .. and for a list of calls
unfoldable pub replies_of : Layout → Book → List Call → List Reply
replies_of layout b [] = []
replies_of layout b (c ∷ rest) = reply_of layout b c ∷ replies_of layout (turn layout b c) rest

-- "It starts with what that call puts": an opening or a reading that has just succeeded. What the book is before it does not matter
unfoldable pub start : Layout → Call → Book
start layout c = (entry layout (book (measures 0 0 0) [] []) c).puts
