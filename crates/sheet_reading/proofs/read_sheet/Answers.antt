-- `sheet_reading::read_sheet` meets its contract: what was judged says which of the two ways the call ends; an accepted sheet's measures
-- open an empty library, which its traces are added to, with their labels.
use mathlib.Core.Path.{◌≡◌, sym, ap, ◌∙◌, subst}
use mathlib.Core.Option.{none}
use mathlib.Core.List.{List, [], foldl}
use Prim.Native.Nat.{ℕ, ◌≤◌}
use native.Mathlib.Omega.{arith}
use lib.ListN.{length}
use lib.Seq.{take_all}
use Rattle.dstree.specs.Measures.{Measures, labels_needed}
use Rattle.dstree.specs.Refusals.{first_of}
use Rattle.dstree.specs.SheetWidths.{sheet_conditions, judge_sheet}
use Rattle.dstree.specs.Book.{Lent, reading_conditions}
use Rattle.dstree.proofs.SheetFields.{known_bytes}
use Rattle.tables.specs.Layout.{layout}
use Rattle.tables.specs.Tables.{Tables, labelled_tables, with_labels, lent_of}
use Rattle.tables.specs.View.{labels_over, next_labelled}
use Rattle.tables.specs.Answers.{found_by, opened}
use Rattle.tables.specs.Judge.{LongEnough}
use Rattle.tables.proofs.Beginning.{opened_lent}
use Rattle.insertion_memory.specs.Memory.{added_to}
use Rattle.insertion_memory.proofs.Labels.{labels_after}
use Rattle.calls.specs.Library.{loaded}
use Rattle.sheet_blocks.specs.Traces.{count_of, sheet_traces, sheet_labels}
use Rattle.sheet_blocks.proofs.Places.{first_inside}
use Rattle.sheet_judging.proofs.Samples.{fine}
use Rattle.tables.proofs.Passed.{passed}
use Rattle.sheet_reading.proofs.Ends.{said, sheet_fine, accepted, refused_answer, done_answer}
use Rattle.sheet_reading.proofs.Library.{traces_count, loads}
use Rattle.sheet_reading.proofs.Steps.{opened_empty}
use Rattle.sheet_reading.proofs.read_sheet.Goals as goal

-- nothing was refused of these tables and this sheet
module _ (t : Tables) (bytes : List ℕ) (nothing : first_of (reading_conditions layout (lent_of t) (judge_sheet bytes)) ≡ none) where
  sound : first_of (sheet_conditions bytes) ≡ none
  sound = sheet_fine bytes (lent_of t) nothing

  room : LongEnough (lent_of t) (said bytes)
  room = accepted bytes (lent_of t) nothing

  -- what block 0 says, and what was opened with it
  module _ (m : Measures) (count : ℕ) (said_is : said bytes ≡ m) (count_is : count_of bytes ≡ count) (empty : Tables) (made : empty ≡ opened t m) where
    opened_is : empty ≡ opened t (said bytes)
    opened_is = made ∙ ap (opened t) (sym said_is)

    -- a place for each label
    labels_long : count ≤ length empty.labels
    unfolding labels_needed
    labels_long =
        omega (
          arith,
          count_is,
          (fine bytes sound).good.counted,
          room.room.labels_room,
          ap (λ (t : Tables). length t.labels) opened_is,
          ap (λ (l : Lent). l.labels) (opened_lent t (said bytes) room.room),
        )

    -- what was opened, with the labels
    start_is : (places : List ℕ) → places ≡ labels_over empty.labels 0 (sheet_labels bytes)
        → with_labels places empty ≡ next_labelled (opened t (said bytes)) (sheet_labels bytes)
    unfolding opened
    start_is places put =
        ap (λ (l : List ℕ). with_labels l empty) put
        ∙ ap (λ (t : Tables). with_labels (labels_over t.labels 0 (sheet_labels bytes)) t) opened_is

pub head_of-head-requires : goal.head_of-head-requires
unfolding found_by
head_of-head-requires c =
    let a = c.args in
    let t = labelled_tables a.control.now a.samples.now a.nodes.now a.links.now a.work.now a.labels.now in
    let nothing = sym (rw c.lengths.ensures at c.in_ok-judge_reading.ensures) in
    first_inside a.sheet.now (fine a.sheet.now (sound t a.sheet.now nothing)).whole

pub put_empty-requires : goal.put_empty-requires
unfolding found_by
put_empty-requires c =
    let a = c.args in
    let t = labelled_tables a.control.now a.samples.now a.nodes.now a.links.now a.work.now a.labels.now in
    let nothing = sym (rw c.lengths.ensures at c.in_ok-judge_reading.ensures) in
    subst (LongEnough (lent_of t)) c.head_of-head.ensures.measures_are (room t a.sheet.now nothing)

pub put_labels-requires : goal.put_labels-requires
unfolding found_by
put_labels-requires c =
    let a = c.args in
    let t = labelled_tables a.control.now a.samples.now a.nodes.now a.links.now a.work.now a.labels.now in
    let nothing = sym (rw c.lengths.ensures at c.in_ok-judge_reading.ensures) in (
      sound t a.sheet.now nothing,
      c.head_of-head.ensures.count_is,
      labels_long t a.sheet.now nothing _ _ c.head_of-head.ensures.measures_are c.head_of-head.ensures.count_is _ c.put_empty.ensures,
    )

pub load-requires : goal.load-requires
unfolding found_by
load-requires c =
    let a = c.args in
    let t = labelled_tables a.control.now a.samples.now a.nodes.now a.links.now a.work.now a.labels.now in
    let b = a.sheet.now in
    let nothing = sym (rw c.lengths.ensures at c.in_ok-judge_reading.ensures) in
    let ok = room t b nothing in
    let whole = sound t b nothing in
    let said_is = c.head_of-head.ensures.measures_are in
    let count_is = c.head_of-head.ensures.count_is in
    loads b whole (known_bytes b (λ i. (c.type_inv.sheet i).fits)) _ _ _ _
    (opened_empty t (said b) (fine b whole).good.measured ok.room _ _ _ _ _ _ (opened_is t b nothing _ _ said_is count_is _ c.put_empty.ensures))
    _ _ (ap (λ (m : Measures). m.n) (sym said_is)) (omega (arith, count_is))

pub returns-in_err-judge_reading : goal.returns-in_err-judge_reading
returns-in_err-judge_reading c =
    let a = c.args in
    let t = labelled_tables a.control.now a.samples.now a.nodes.now a.links.now a.work.now a.labels.now in
    rw (passed c.from_residual.result _ c.from_residual.ensures.1)
    (refused_answer t a.sheet.now _ (sym (rw c.lengths.ensures at c.in_err-judge_reading.ensures)))

pub returns : goal.returns
unfolding loaded found_by
returns c =
    let a = c.args in
    let t = labelled_tables a.control.now a.samples.now a.nodes.now a.links.now a.work.now a.labels.now in
    let b = a.sheet.now in
    let nothing = sym (rw c.lengths.ensures at c.in_ok-judge_reading.ensures) in
    let said_is = c.head_of-head.ensures.measures_are in
    let count_is = c.head_of-head.ensures.count_is in
    let p = c.put_empty.new in
    let places = c.put_labels.new.labels in
    let traces = sheet_traces b in
    let unlabelled = labelled_tables p.control p.samples p.nodes p.links p.work [] in
    done_answer t b _ nothing
    (ap (with_labels places) (c.load.ensures p.work
    ∙ ap (foldl added_to unlabelled) (take_all c.head_of-head.result.count traces (omega (arith, count_is, traces_count b))))
    ∙ (sym (labels_after unlabelled places traces)
    ∙ ap (λ (t : Tables). foldl added_to t traces) (start_is t b nothing _ _ said_is count_is _ c.put_empty.ensures places c.put_labels.ensures)))
