-- The calls, one by one, on tables that hold anything. A contract says that a call's answer, and all that it leaves, is `outcome_on` what it
-- asked.
use Rattle.std.specs.Prelude.{ℕ, not, List, [], ◌∷◌, ◌++◌, length, get_or, replicate}
use Rattle.dstree.specs.Measures.{Trace, Measures, work_needed}
use Rattle.dstree.specs.Labels.{Label, no_label}
use Rattle.dstree.specs.Matching.{leaves, Near}
use Rattle.dstree.specs.Batch.{batch_conditions}
use Rattle.dstree.specs.Bands.{band_conditions}
use Rattle.dstree.specs.Pair.{indexed, Which, Other, pairing_conditions, paired_with}
use Rattle.dstree.specs.LeafLimit.{limit_conditions}
use Rattle.dstree.specs.Clipped.{clipped_conditions}
use Rattle.dstree.specs.Refusals.{Condition, ◌refuses◌, loose_record, run_conditions}
use Rattle.dstree.specs.Checking.{is_exact}
use Rattle.dstree.specs.Sheet.{Judged, refused, holds}
use Rattle.dstree.specs.SheetWidths.{blocks_needed, sheet_of, judge_sheet}
use Rattle.dstree.specs.Recording.{recording_size, recording_of, judge_recording, file_traces}
use Rattle.dstree.specs.Book.{Ask, opening, adding, searching, writing, reading, importing, exporting, checking, labelling, beside_of}
use Rattle.dstree.specs.Book.{search_of, done, added, written, imported, exported, accepted, labelled, over}
use Rattle.dstree.specs.Book.{AnySearch, match_search, list_search, batch_search, remote_search, band_search, limit_search, clipped_search}
use Rattle.dstree.specs.Book.{add_conditions, query_conditions, write_conditions, reading_conditions, list_conditions, import_conditions}
use Rattle.dstree.specs.Book.{export_conditions, label_conditions, pairing, paired, pair_beside}
use Rattle.dstree.specs.Remote.{codes_of}
use Rattle.tables.specs.Layout.{layout}
use Rattle.tables.specs.Tables.{Tables, labelled_tables, lent_of, measures_of, trace_count, filled}
use Rattle.tables.specs.View.{tree_in, traces_in, labels_in}
use Rattle.tables.specs.Answers.{made_conditions, opening_conditions, opened}
use Rattle.insertion_memory.specs.Memory.{added_with}
use Rattle.calls.specs.Outcome.{Effect, Outcome, outcome_of}
pub use Rattle.calls.specs.Library.{loaded}

-- ---- opening: "1; .. other tables (2)"

unfoldable pub opens : Tables → Measures → Effect
opens t m = record { conditions = opening_conditions t m; result = done; after = opened t m; beside = [] }

-- ---- adding: "control record too short (2); its measures (3); other tables (2); the rest of 3; then 4"; document 02, §9: 15 "after 4"; 5

-- document 02, §8: the trace's label is "given when it is added, and zero from callers that give neither" code nor serial
unfoldable pub adds : Tables → Trace → Label → Effect
adds t x l = record {
  conditions = made_conditions t ++ add_conditions (measures_of t) (trace_count t) x;
  result = added (trace_count t);
  after = added_with t (x ∷ []) (l ∷ []);
  beside = [];
}

-- ---- a search: the same; then what it refuses of its own

-- "The needed search work is left zero"
abbrev pub cleared : Tables → Tables
cleared t =
    labelled_tables t.control t.samples t.nodes t.links (filled (work_needed (measures_of t)) 0 t.work) t.labels

-- "With well-formed tables that somebody altered, calls follow the steps above on what is recorded"; document 02, §7: "where other
-- well-formed tables break [a claim], that answer is the program's". Of labels a search is given the fault codes alone
abbrev pub searches : Tables → AnySearch → Effect
searches t s =
    let found = s.steps (measures_of t) (traces_in t) (codes_of (labels_in t)) (tree_in t) in
    record {
      conditions = made_conditions t ++ s.refuses_own (measures_of t) (trace_count t) (tree_in t);
      result = found.result;
      after = cleared t;
      beside = found.beside;
    }

-- what a search refuses of a run of so many samples and of its trail
abbrev pub run_conditions_in : Tables → ℕ → Trace → List ℕ → List Condition
run_conditions_in t size run trail = run_conditions size (trace_count t) (length (leaves (tree_in t))) run trail

-- a match, of its query: 4, 15, 6, 7
abbrev pub query_conditions_in : Tables → Trace → List ℕ → List Condition
query_conditions_in t query trail = query_conditions (measures_of t) (trace_count t) (tree_in t) query trail

abbrev pub matches : Tables → Trace → List ℕ → Effect
matches t query trail = searches t (match_search query trail)

-- the k nearest (document 02, §1): as a match; "11 .. after 3; a list shorter than k is refused as 7"
abbrev pub list_conditions_in : Tables → ℕ → Trace → List ℕ → List ℕ → List Condition
list_conditions_in t k query trail list = list_conditions (measures_of t) (trace_count t) (tree_in t) k query trail list

abbrev pub lists : Tables → ℕ → Trace → List ℕ → List ℕ → Effect
lists t k query trail list = searches t (list_search k query trail list)

-- a batch (document 02, §7), with a list of so many records: "14 bad batch .., after 3", then 4, 15, 6, 7
abbrev pub batch_conditions_in : Tables → ℕ → ℕ → Trace → List ℕ → List Condition
batch_conditions_in t count places run trail =
    batch_conditions (measures_of t).n (trace_count t) (length (leaves (tree_in t))) count places run trail

abbrev pub batches : Tables → ℕ → Trace → List ℕ → List Near → Effect
batches t count run trail list = searches t (batch_search count run trail list)

-- the remote's call (document 02, §8): "a match whose answer adds the fault code and nothing else"
abbrev pub remotes : Tables → Trace → List ℕ → Effect
remotes t query trail = searches t (remote_search query trail)

-- a report of bands (document 02, §10): 4 and 15 of its query, then "16 bad edges", then 7; no 6
abbrev pub band_conditions_in : Tables → Trace → List ℕ → List ℕ → List Condition
band_conditions_in t query edges list = band_conditions (measures_of t).n query edges list

abbrev pub bands : Tables → Trace → List ℕ → List ℕ → Effect
bands t query edges list = searches t (band_search query edges list)

-- a match with a limit (document 02, §12): "18 no leaves, for L = 0, after 3", then 4, 15, 6, 7
abbrev pub limit_conditions_in : Tables → ℕ → Trace → List ℕ → List Condition
limit_conditions_in t most query trail = limit_conditions (measures_of t).n (trace_count t) (length (leaves (tree_in t))) most query trail

abbrev pub limits : Tables → ℕ → Trace → List ℕ → Effect
limits t most query trail = searches t (limit_search most query trail)

-- a clipped sweep (document 02, §13): 4 and 15 of lows and highs alike, "19 crossed range", 6, then 7 by "the trace count"
abbrev pub clipped_conditions_in : Tables → Trace → Trace → List ℕ → List Condition
clipped_conditions_in t lows highs list = clipped_conditions (measures_of t).n (trace_count t) lows highs list

abbrev pub clips : Tables → Trace → Trace → List ℕ → Effect
clips t lows highs list = searches t (clipped_search lows highs list)

-- ---- writing: the same; then 8, "below the need"

unfoldable pub writes : Tables → List ℕ → Effect
writes t sheet =
    let bytes = sheet_of (measures_of t) (traces_in t) (labels_in t) in
    record {
      conditions = made_conditions t ++ write_conditions (measures_of t) (traces_in t) (labels_in t) sheet;
      result = written (blocks_needed (measures_of t) (traces_in t) (labels_in t)) bytes;
      after = t;
      beside = over bytes sheet ∷ [];
    }

-- ---- reading: "8; 9 over all blocks; 10; 2", and document 02, §9, 15 before 2

-- "Reading opens the library and adds the traces in order", each with the label that its sheet has for it
unfoldable pub loaded_by : Tables → Judged → Tables
loaded_by t (refused why) = t
loaded_by t (holds m traces labels) = loaded t m traces labels

unfoldable pub reads : Tables → List ℕ → Effect
reads t bytes = record {
  conditions = reading_conditions layout (lent_of t) (judge_sheet bytes);
  result = done;
  after = loaded_by t (judge_sheet bytes);
  beside = [];
}

-- ---- recordings (document 02, §2): "12 bad recording .., after 3 and before 5; 5 if not all traces fit; an export buffer too short is 8"

-- "The samples are cut into traces of n and added in order, all or none"; "A file imported gives the library that adding its traces one
-- after another gives". A recording gives no labels, so that they are zero
unfoldable pub imports : Tables → List ℕ → Effect
imports t bytes =
    let file = judge_recording (measures_of t).n bytes in
    record {
      conditions = made_conditions t ++ import_conditions (measures_of t) (trace_count t) file;
      result = imported (length (file_traces file));
      after = added_with t (file_traces file) (replicate (length (file_traces file)) no_label);
      beside = [];
    }

-- "Export writes one stored trace so, at a rate the caller gives"; §9: it "refuses wider samples as 12"
unfoldable pub exports : Tables → ℕ → ℕ → List ℕ → Effect
exports t number rate buffer =
    let x = get_or (traces_in t) number [] in
    let bytes = recording_of rate x in
    record {
      conditions = made_conditions t ++ export_conditions (measures_of t) (trace_count t) x number rate buffer;
      result = exported (recording_size (measures_of t).n) bytes;
      after = t;
      beside = over bytes buffer ∷ [];
    }

-- ---- the check (document 02, §6): "13 loose record, when well-formed tables hold a figure that isn't exactly the recomputed one, last in
-- order". It leaves everything as it was, search work too

unfoldable pub checks : Tables → Effect
checks t = record {
  conditions = made_conditions t ++ not (is_exact (traces_in t) (tree_in t)) refuses loose_record ∷ [];
  result = accepted;
  after = t;
  beside = [];
}

-- ---- the bench's call (document 02, §8): it "answers both for a trace number; one out of range is 12, as in export". It leaves
-- everything as it was, search work too

unfoldable pub tells_label : Tables → ℕ → Effect
tells_label t number = record {
  conditions = made_conditions t ++ label_conditions (trace_count t) number;
  result = labelled (get_or (labels_in t) number no_label);
  after = t;
  beside = [];
}

-- ---- two libraries together (document 02, §11): "The factory's tables are tested first"; "17 .., after both pass 3", then 4, 15, 6, 7

-- another library, as a call finds it in the tables that it is lent of it, with its trail
unfoldable pub other_in : Tables → List ℕ → Other
other_in t trail = record {
  conditions = made_conditions t;
  n = (measures_of t).n;
  library = indexed (traces_in t) (tree_in t);
  needed = work_needed (measures_of t);
  work = t.work;
  trail = trail;
}

-- "where other well-formed tables break [a claim], that answer is the program's": its steps, on what is recorded in both
unfoldable pub pairs : Tables → Which → Other → Trace → List ℕ → Effect
pairs t which other query trail =
    let own = indexed (traces_in t) (tree_in t) in
    let found = paired_with which own other.library query in
    record {
      conditions = pairing_conditions which (made_conditions t) (measures_of t).n own other query trail;
      result = paired found;
      after = cleared t;
      beside = pair_beside which other found trail;
    }

-- ---- any call

unfoldable pub effect_of : Ask → Tables → Effect
effect_of (opening m) t = opens t m
effect_of (adding x l) t = adds t x l
effect_of (searching q) t = searches t (search_of q)
effect_of (writing sheet) t = writes t sheet
effect_of (reading bytes) t = reads t bytes
effect_of (importing bytes) t = imports t bytes
effect_of (exporting number rate buffer) t = exports t number rate buffer
effect_of checking t = checks t
effect_of (labelling number) t = tells_label t number
effect_of (pairing which other query trail) t = pairs t which other query trail

-- what a call answers and leaves that asks this of these tables
unfoldable pub outcome_on : Ask → Tables → Outcome
outcome_on ask t = outcome_of t (beside_of ask) (effect_of ask t)
