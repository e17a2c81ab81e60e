-- Labels and adding: labels do not bear on what adding does, so that it is all one whether they are put before some traces or after them, and
-- whether traces are added at once or one after another.
use Prim.Native.Nat.{ℕ, ◌+◌, ◌≤◌}
use mathlib.Core.Path.{◌≡◌, refl, sym, ap, ◌∙◌}
use mathlib.Core.List.{List, ◌++◌, map, foldl, foldl-append}
use lib.ListN.{length, take}
use lib.Seq.{take-append_seam}
use lib.Dec.{T}
use Rattle.dstree.specs.Measures.{Trace, Measures}
use Rattle.dstree.specs.Labels.{Label, label_place}
use Rattle.tables.specs.Tables.{Tables, with_labels, trace_count}
use Rattle.tables.specs.View.{tree_in, traces_in, labels_over, next_labelled, kinds_named, well_formed}
use Rattle.tables.specs.Beginning.{Begins}
use Rattle.tables.specs.Holds.{Holds}
use Rattle.tables.proofs.Beginning.{tables_same, rest_of, begins_is}
use Rattle.tables.proofs.Labels.{over_more}
use Rattle.insertion_memory.specs.Memory.{added_to, added_with}
use Rattle.insertion_memory.specs.Takes.{TakesAll}
use Rattle.insertion_memory.proofs.Meaning.{all_labels}
use Rattle.insertion_memory.proofs.Longer.{paste_more}

-- ---- other labels

module _ (t : Tables) (labels : List ℕ) where
  pub labelled_formed : T (well_formed t) → T (well_formed (with_labels labels t))
  unfolding well_formed kinds_named tree_in
  labelled_formed formed = formed

  pub labelled_traces : traces_in (with_labels labels t) ≡ traces_in t
  unfolding traces_in
  labelled_traces = refl

  pub labelled_tree : tree_in (with_labels labels t) ≡ tree_in t
  unfolding tree_in
  labelled_tree = refl

  pub labelled_holds : {m : Measures} {traces : List Trace} → Holds t m traces → Holds (with_labels labels t) m traces
  labelled_holds h = record {
    formed = labelled_formed h.formed;
    long = h.long;
    measures_are = h.measures_are;
    traces_are = labelled_traces ∙ h.traces_are;
    tree_is = labelled_tree ∙ h.tree_is;
  }

  pub labelled_takes : {more : List Trace} → TakesAll t more → TakesAll (with_labels labels t) more
  unfolding traces_in
  labelled_takes k = record {
    formed = labelled_formed k.formed;
    long = k.long;
    room = k.room;
    stored = k.stored;
    each = k.each;
  }

-- put before some traces are added, or after
pub labels_after : (t : Tables) (labels : List ℕ) (more : List Trace)
    → foldl added_to (with_labels labels t) more ≡ with_labels labels (foldl added_to t more)
labels_after t labels more = all_labels (with_labels labels t) more ∙ sym (ap (with_labels labels) (all_labels t more))

-- ---- some traces with their labels, and then others

pub with_others : (t : Tables) (traces more : List Trace) (labels others : List Label)
    → trace_count (added_with t traces labels) ≡ trace_count t + length labels → trace_count t + length labels ≤ length t.labels
    → added_with t (traces ++ more) (labels ++ others) ≡ added_with (added_with t traces labels) more others
with_others t traces more labels others counted room =
    let both : List ℕ = labels_over t.labels (trace_count t) (labels ++ others) in
    let some_labels : List ℕ = labels_over t.labels (trace_count t) labels in
    let s : Tables = foldl added_to t traces in
    let same : both ≡ labels_over some_labels (trace_count s) others =
    sym (ap (λ (k : ℕ). labels_over some_labels k others) (sym (ap trace_count (labels_after t some_labels traces)) ∙ counted)
    ∙ over_more t.labels (trace_count t) labels room others) in
    foldl-append added_to (with_labels both t) traces more
    ∙ (ap (λ (k : Tables). foldl added_to k more) (labels_after t both traces)
    ∙ (ap (λ (l : List ℕ). foldl added_to (with_labels l s) more) same
    ∙ ap (λ (k : Tables). added_with k more others) (sym (labels_after t some_labels traces))))

-- ---- in a longer memory

-- labels for the next traces do to a memory's first places what they do to these alone
pub next_begins : (part memory : Tables) (labels : List Label) → Begins part memory → trace_count memory ≡ trace_count part
    → trace_count part + length labels ≤ length part.labels → Begins (next_labelled part labels) (next_labelled memory labels)
next_begins part memory labels begins counted room =
    tables_same (ap (λ (t : Tables). t.control) begins) (ap (λ (t : Tables). t.samples) begins) (ap (λ (t : Tables). t.nodes) begins)
    (ap (λ (t : Tables). t.links) begins) (ap (λ (t : Tables). t.work) begins) same
  where
    own : List ℕ
    own = labels_over part.labels (trace_count part) labels

    rest : List ℕ
    rest = (rest_of part memory).labels

    longer : labels_over memory.labels (trace_count memory) labels ≡ own ++ rest
    longer =
        ap (λ (k : ℕ). labels_over memory.labels k labels) counted
        ∙ (ap (λ (t : Tables). labels_over t.labels (trace_count part) labels) (begins_is part memory begins)
        ∙ paste_more part.labels rest (map label_place labels) (trace_count part) (length labels) room)

    same : take (length own) (labels_over memory.labels (trace_count memory) labels) ≡ own
    same = ap (take (length own)) longer ∙ take-append_seam own rest
