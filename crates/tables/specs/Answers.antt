-- Refusals as code has them, in document 01's terms; what every call that is lent made tables refuses first; what opening leaves.
use Rattle.std.specs.Prelude.{ℕ, ◌*◌, ◌-◌, ◌≤◌, ◌≡◌, true, List, [], ◌∷◌, ◌++◌, ℤ, pos, length, drop, Result, Ok, Err, ⊤}
use Rattle.std.proofs.Math.Option.{Option, none, some}
use Rattle.dstree.specs.Measures.{Measures, in_range, samples_needed, records_needed, links_needed, work_needed, labels_needed}
use Rattle.dstree.specs.Refusals as word
use Rattle.dstree.specs.Refusals.{Condition, ◌refuses◌}
use Rattle.tables.specs.Layout.{capacity_place, record_places, control_fields}
use Rattle.tables.specs.Tables.{Tables, labelled_tables, tables, lent_of, field, measures_of, filled}
use Rattle.tables.specs.View.{is_spoiled}
use Rattle.tables.specs.Judge.{opening_conditions_of, lent_conditions_of}
use Rattle.tables.specs.declared.Refusal.{Refusal}
use Rattle.tables.specs.declared.Refusal.TheVariants as r

-- ---- refusals

-- each case of the enum is a word of the table, which has document 01's number and place
unfoldable pub word_of : Refusal → word.Refusal
word_of r.Measure = word.measure
word_of r.ShortTable = word.short_table
word_of r.Spoiled = word.spoiled
word_of r.WrongTrace = word.wrong_trace
word_of r.Full = word.full
word_of r.Empty = word.empty
word_of r.ShortTrail = word.short_trail
word_of r.SheetLength = word.sheet_length
word_of (r.TornBlock block) = word.torn_block block
word_of r.BadSheet = word.bad_sheet
word_of r.BadK = word.bad_k
word_of r.BadRecording = word.bad_recording
word_of r.LooseRecord = word.loose_record
word_of r.BadBatch = word.bad_batch
word_of r.SampleRange = word.sample_range
word_of r.BadEdges = word.bad_edges
word_of r.UnlikeLibraries = word.unlike_libraries
word_of r.NoLeaves = word.no_leaves
word_of r.CrossedRange = word.crossed_range

-- what a judge found: the first condition that holds, or none
unfoldable pub found_by : Result ⊤ Refusal → Option word.Refusal
found_by (Ok _) = none
found_by (Err why) = some (word_of why)

-- ---- tables that a call is lent to work on

-- "control record too short (2); its measures (3); other tables (2); the rest of 3"
unfoldable pub made_conditions : Tables → List Condition
made_conditions t = lent_conditions_of (lent_of t) (measures_of t) ++ is_spoiled t refuses word.spoiled ∷ []

-- tables with measures in range and the places that these need, as far as their contents are tested
pub record Lends (control : List ℕ) (nodes : List ℤ) (links : List ℕ) : Type 0 where
  pub control_long : control_fields ≤ length control
  pub measured : in_range (measures_of (tables control [] nodes links [])) ≡ true
  pub nodes_long : (2 * field control capacity_place - 1) * record_places ≤ length nodes
  pub links_long : field control capacity_place ≤ length links

-- ---- opening

-- 1, then 2
unfoldable pub opening_conditions : Tables → Measures → List Condition
opening_conditions t m = opening_conditions_of (lent_of t) m

-- "Opening sets the needed parts of the tables to zero, then writes the control record (n, capacity, leaf size, counts)"
unfoldable pub opened : Tables → Measures → Tables
opened t m =
    labelled_tables (m.n ∷ m.capacity ∷ m.leaf_size ∷ 0 ∷ 0 ∷ drop control_fields t.control)
    (filled (samples_needed m) (pos 0) t.samples)
    (filled (records_needed m * record_places) (pos 0) t.nodes)
    (filled (links_needed m) 0 t.links)
    (filled (work_needed m) 0 t.work)
    (filled (labels_needed m) 0 t.labels)
