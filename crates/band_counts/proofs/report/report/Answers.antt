-- `band_counts::report::report` meets its contract: the loop's counts are the report (`Places`), and the needed search work is set to zero
-- behind it.
use mathlib.Core.Path.{◌≡◌, sym, ap, subst, ◌∙◌}
use mathlib.Core.List.{List, ◌++◌}
use Prim.Native.Nat.{ℕ}
use native.Mathlib.Omega.{arith}
use lib.ListN.{length, drop, replicate}
use lib.Seq.{length_front, length-take-le, drop_at}
use Rattle.segment.specs.Stored.{samples_of}
use Rattle.segment.proofs.Stored.{samples_length}
use Rattle.dstree.specs.Measures.{Trace, measures, records_needed, work_needed}
use Rattle.dstree.specs.Node.{Tree}
use Rattle.tables.specs.Tables.{Tables, measures_of, trace_count, node_count, field, filled}
use Rattle.tables.specs.View.{tree_in}
use Rattle.tables.specs.Nodes.{tree_by}
use Rattle.tables.proofs.Views.{tree_size}
use Rattle.tables.proofs.ByKind.{same_tree}
use Rattle.band_counts.specs.Counted.{Countable, CountedTo}
use Rattle.band_counts.specs.Reported.{records_only, Reportable}
use Rattle.band_counts.proofs.Ready.{as_many, few_samples, capacity_fits, some_work, nodes_needed, countable}
use Rattle.band_counts.proofs.Places.{report_is}
use Rattle.band_counts.proofs.report.report.Goals as goal

-- ---- the counts and the places that the call read, of tables without samples
module _ (t : Tables) where
  needed_is : (needed capacity : ℕ) → needed ≡ records_needed (measures (field t.control 0) capacity (field t.control 2)) → capacity ≡ (measures_of t).capacity
      → needed ≡ work_needed (measures_of t)
  needed_is needed capacity e f =
      e ∙ (ap (λ (i : ℕ). records_needed (measures (field t.control 0) i (field t.control 2))) f ∙ as_many (measures_of t))

  module _ (query : Trace) (edges : List ℕ) (k m : ℕ) (traces_are : k ≡ trace_count t) (nodes_are : m ≡ node_count t) where
    given : (work list : ℕ) → Reportable t query edges work list → Countable t.nodes t.links k m query edges
    given work list ready =
        subst (λ (i : ℕ). Countable t.nodes t.links i m query edges) (sym traces_are)
        (subst (λ (j : ℕ). Countable t.nodes t.links (trace_count t) j query edges) (sym nodes_are) (countable t query edges work list ready))

    -- all nodes are taken
    counted : (part list : List ℕ) → CountedTo (tree_by t.nodes t.links k m) query edges m part list
        → CountedTo (tree_in t) query edges (length (tree_in t)) part list
    counted part list h =
        let all : CountedTo (tree_by t.nodes t.links (trace_count t) (node_count t)) query edges (node_count t) part list =
        subst (λ (i : ℕ). CountedTo (tree_by t.nodes t.links i (node_count t)) query edges (node_count t) part list) traces_are
        (subst (λ (j : ℕ). CountedTo (tree_by t.nodes t.links k j) query edges j part list) nodes_are h) in
        subst (λ (j : ℕ). CountedTo (tree_in t) query edges j part list) (sym (tree_size t))
        (subst (λ (tree : Tree). CountedTo tree query edges (node_count t) part list) (same_tree t) all)

pub of-summed-requires : goal.of-summed-requires
of-summed-requires c =
    let a = c.args in
    let t = records_only a.control.now a.nodes.now a.links.now in
    let query = samples_of a.query.now in
    let edges = a.edges.now in
    omega (arith, samples_length a.query.now, few_samples t query edges _ _ c.requires)

pub records_needed-needed-requires : goal.records_needed-needed-requires
records_needed-needed-requires c =
    let a = c.args in
    let t = records_only a.control.now a.nodes.now a.links.now in
    let query = samples_of a.query.now in
    let edges = a.edges.now in
    omega (arith, c.from.ensures, c.field-3.ensures, capacity_fits t query edges _ _ c.requires)

pub slice_bounds-count_nodes-end : goal.slice_bounds-count_nodes-end
slice_bounds-count_nodes-end c =
    let a = c.args in
    let t = records_only a.control.now a.nodes.now a.links.now in
    let query = samples_of a.query.now in
    let edges = a.edges.now in
    let needed = needed_is t c.records_needed-needed.result c.from.result (c.records_needed-needed.ensures (field t.control 0) (field t.control 2)) (c.from.ensures ∙ c.field-3.ensures) in
    omega (arith, needed, c.requires.work_long)

pub slice_bounds-count_nodes-end-2 : goal.slice_bounds-count_nodes-end-2
slice_bounds-count_nodes-end-2 c =
    let a = c.args in
    let t = records_only a.control.now a.nodes.now a.links.now in
    let query = samples_of a.query.now in
    let edges = a.edges.now in
    let needed = needed_is t c.records_needed-needed.result c.from.result (c.records_needed-needed.ensures (field t.control 0) (field t.control 2)) (c.from.ensures ∙ c.field-3.ensures) in
    sym (length-take-le c.records_needed-needed.result a.work.now (omega (arith, needed, c.requires.work_long)))

pub count_nodes-requires : goal.count_nodes-requires
count_nodes-requires c =
    let a = c.args in
    let t = records_only a.control.now a.nodes.now a.links.now in
    let query = samples_of a.query.now in
    let edges = a.edges.now in
    let needed = needed_is t c.records_needed-needed.result c.from.result (c.records_needed-needed.ensures (field t.control 0) (field t.control 2)) (c.from.ensures ∙ c.field-3.ensures) in
    let ready = c.requires in
    let nodes = c.from-m.ensures ∙ c.field-2.ensures in
    let long = length-take-le c.records_needed-needed.result a.work.now (omega (arith, needed, ready.work_long)) in
    rw c.of-summed.ensures (record {
      countable = given t query edges c.from-k.result c.from-m.result (c.from-k.ensures ∙ c.field.ensures) nodes _ _ ready;
      room = (
        omega (arith, long, needed, some_work t query edges _ _ ready),
        omega (arith, long, needed, nodes, nodes_needed t query edges _ _ ready),
        ready.list_long,
      );
    })

pub fill_first-requires : goal.fill_first-requires
fill_first-requires c =
    let a = c.args in
    let t = records_only a.control.now a.nodes.now a.links.now in
    let query = samples_of a.query.now in
    let edges = a.edges.now in
    let needed = needed_is t c.records_needed-needed.result c.from.result (c.records_needed-needed.ensures (field t.control 0) (field t.control 2)) (c.from.ensures ∙ c.field-3.ensures) in
    let whole = length_front a.work.now c.count_nodes.new.work c.records_needed-needed.result c.count_nodes.auto.work in
    omega (arith, needed, c.requires.work_long, whole)

pub shape_of-work : goal.shape_of-work
shape_of-work c = c.fill_first.auto.table ∙ length_front c.args.work.now c.count_nodes.new.work c.records_needed-needed.result c.count_nodes.auto.work

pub shape_of-list : goal.shape_of-list
shape_of-list c = c.count_nodes.auto.list

pub returns : goal.returns
returns c =
    let a = c.args in
    let t = records_only a.control.now a.nodes.now a.links.now in
    let query = samples_of a.query.now in
    let edges = a.edges.now in
    let needed = needed_is t c.records_needed-needed.result c.from.result (c.records_needed-needed.ensures (field t.control 0) (field t.control 2)) (c.from.ensures ∙ c.field-3.ensures) in
    let n = c.records_needed-needed.result in
    let part = c.count_nodes.new.work in
    let list = c.count_nodes.new.list in
    let taken = rw c.of-summed.ensures at c.count_nodes.ensures.counted_to in
    let all = counted t query edges c.from-k.result c.from-m.result (c.from-k.ensures ∙ c.field.ensures) (c.from-m.ensures ∙ c.field-2.ensures) part list taken in
    -- search work behind the part that was lent
    let behind : drop n (part ++ drop n a.work.now) ≡ drop n a.work.now =
    drop_at part (drop n a.work.now) n (c.count_nodes.auto.work ∙ length-take-le n a.work.now (omega (arith, needed, c.requires.work_long))) in
    record {
      list_after = report_is (tree_in t) query edges part list a.list.now all c.count_nodes.ensures.rest;
      zero = c.fill_first.ensures ∙ (ap (λ (l : List ℕ). replicate n 0 ++ l) behind ∙ ap (λ (i : ℕ). filled i 0 a.work.now) needed);
    }
