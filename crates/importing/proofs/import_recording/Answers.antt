-- `importing::import_recording` meets its contract: what was judged says which of the two ways the call ends; tables and a file that
-- nothing is refused of refuse nothing of the file's traces.
use mathlib.Core.Path.{◌≡◌, refl, sym, ap, ◌∙◌, subst}
use mathlib.Core.Option.{none}
use mathlib.Core.List.{List, [], foldl}
use Prim.Native.Nat.{ℕ, ◌≤◌}
use native.Mathlib.Omega.{arith}
use lib.ListN.{length, take, replicate}
use lib.Seq.{take_all}
use lib.Dec.{T}
use Rattle.dstree.specs.Measures.{Trace}
use Rattle.dstree.specs.Labels.{no_label}
use Rattle.dstree.specs.Refusals.{first_of}
use Rattle.dstree.specs.Sheet.{are_bytes}
use Rattle.dstree.specs.Recording.{recorded_traces, judge_recording, file_traces}
use Rattle.std.specs.Prelude.{Ok}
use Rattle.dstree.specs.Book.{importing, imported, beside_of}
use Rattle.dstree.proofs.SheetFields.{known_bytes}
use Rattle.tables.specs.Tables.{Tables, labelled_tables, with_labels, measures_of, trace_count}
use Rattle.tables.specs.View.{labels_over, next_labelled}
use Rattle.tables.specs.Answers.{found_by}
use Rattle.insertion_memory.specs.Memory.{added_to}
use Rattle.insertion_memory.proofs.Meaning.{all_labels}
use Rattle.tables.proofs.Passed.{passed}
use Rattle.calls.specs.Effects.{imports, effect_of, outcome_on}
use Rattle.calls.proofs.Ends.{ends_refused, ends_done}
use Rattle.importing.specs.Answered.{answer_by}
use Rattle.loading.specs.Loads.{Loads}
use Rattle.loading.specs.declared.Source.TheVariants as s
use Rattle.importing.proofs.Answers.{refused_first, counted}
use Rattle.importing.proofs.Takes.{traces_are, loads, has_places}
use Rattle.importing.proofs.import_recording.Goals as goal

-- nothing was refused, and the file has so many traces
taken : (t : Tables) (bytes : List ℕ) (count : ℕ) → answer_by (Ok count) ≡ (outcome_on (importing bytes) t).answer
    → (first_of (imports t bytes).conditions ≡ none) × (count ≡ length (file_traces (judge_recording (measures_of t).n bytes)))
unfolding answer_by
taken t bytes count e = counted t bytes count e

-- the labels behind those of the stored traces are zero, one for each trace of the file
cleared_is : (t : Tables) (bytes labels : List ℕ) (k count : ℕ) → k ≡ trace_count t
    → count ≡ length (file_traces (judge_recording (measures_of t).n bytes)) → labels ≡ labels_over t.labels k (replicate count no_label)
    → labels ≡ (next_labelled t (replicate (length (file_traces (judge_recording (measures_of t).n bytes))) no_label)).labels
cleared_is t bytes labels k count stored_is count_is cleared =
    cleared
    ∙ (ap (λ (at : ℕ). labels_over t.labels at (replicate count no_label)) stored_is
    ∙ ap (λ (many : ℕ). labels_over t.labels (trace_count t) (replicate many no_label)) count_is)

pub clear-requires : goal.clear-requires
clear-requires c =
    let a = c.args in
    let t = labelled_tables a.control.now a.samples.now a.nodes.now a.links.now a.work.now a.labels.now in
    let bytes = a.bytes.now in
    let count = c.in_ok-count.count in
    let k = taken t bytes count c.in_ok-count.ensures in
    let are_bytes_lem : T (are_bytes bytes) = known_bytes bytes (λ i. (c.type_inv.bytes i).fits) in
    omega (arith, c.wide-k.ensures, c.field-2.ensures, has_places t bytes k.0 are_bytes_lem count k.1)

pub load-requires : goal.load-requires
load-requires c =
    let a = c.args in
    let t = labelled_tables a.control.now a.samples.now a.nodes.now a.links.now a.work.now a.labels.now in
    let bytes = a.bytes.now in
    let count = c.in_ok-count.count in
    let k = taken t bytes count c.in_ok-count.ensures in
    let are_bytes_lem : T (are_bytes bytes) = known_bytes bytes (λ i. (c.type_inv.bytes i).fits) in
    subst (λ (n : ℕ). Loads s.Recording a.control.now a.samples.now a.nodes.now a.links.now bytes n count)
    (sym (c.wide-n.ensures ∙ c.field.ensures))
    (loads t bytes k.0 are_bytes_lem count k.1)

pub returns-in_err-count : goal.returns-in_err-count
unfolding answer_by outcome_on effect_of beside_of found_by
returns-in_err-count c =
    let a = c.args in
    let t = labelled_tables a.control.now a.samples.now a.nodes.now a.links.now a.work.now a.labels.now in
    rw (passed c.from_residual.result _ c.from_residual.ensures.1)
    (ends_refused t [] (imports t a.bytes.now) _ (refused_first t a.bytes.now _ c.in_err-count.ensures))

pub returns : goal.returns
unfolding answer_by outcome_on effect_of beside_of imports
returns c =
    let a = c.args in
    let t = labelled_tables a.control.now a.samples.now a.nodes.now a.links.now a.work.now a.labels.now in
    let bytes = a.bytes.now in
    let count = c.in_ok-count.count in
    let k = taken t bytes count c.in_ok-count.ensures in
    let traces = file_traces (judge_recording (measures_of t).n bytes) in
    let n_is = c.wide-n.ensures ∙ c.field.ensures in
    let all : length (recorded_traces (measures_of t).n bytes) ≤ count = omega (arith, k.1, ap (λ (l : List Trace). length l) (traces_are t bytes k.0)) in
    ends_done t [] (imports t bytes) (imported count) _ [] k.0 (ap imported k.1)
    (ap (with_labels c.clear.new.labels) (c.load.ensures a.work.now
    ∙ (ap (λ (n : ℕ). foldl added_to (with_labels [] t) (take count (recorded_traces n bytes))) n_is
    ∙ (ap (foldl added_to (with_labels [] t)) (take_all count (recorded_traces (measures_of t).n bytes) all)
    ∙ sym (ap (foldl added_to (with_labels [] t)) (traces_are t bytes k.0)))))
    ∙ (ap (λ (ls : List ℕ). with_labels ls (foldl added_to (with_labels [] t) traces))
    (cleared_is t bytes c.clear.new.labels _ count (c.wide-k.ensures ∙ c.field-2.ensures) k.1 c.clear.ensures)
    ∙ sym (all_labels (next_labelled t (replicate (length traces) no_label)) traces))) refl
