-- `figures_below::nodes::node_exact` meets its contract: the segments passed are exact, and the test of those that are left is the test of
-- all.
use mathlib.Core.Path.{◌≡◌, sym, ap, ap₂, subst, ◌∙◌}
use mathlib.Core.Bool.{Bool, ◌&&◌}
use mathlib.Core.List.{List}
use Prim.Native.Nat.{ℕ, ◌+◌, ◌*◌, ◌≤◌, ◌<◌}
use native.Mathlib.Omega.{arith}
use borrow.Author.Tests.{not-true, not-false}
use lib.IntN.{ℤ}
use lib.ListN.{length}
use Rattle.dstree.specs.Figures.{run}
use Rattle.dstree.specs.Node.{Segment, ends}
use Rattle.dstree.specs.Adding.{segment_of}
use Rattle.dstree.specs.Formed.{Rises}
use Rattle.dstree.specs.Checking.{same_figures, are_exact}
use Rattle.dstree.proofs.Cuts.{parted_rises}
use Rattle.tables.proofs.Views.{end_at, ends_length}
use Rattle.tables.specs.Layout.{segments_place, segment_at, record_places}
use Rattle.tables.specs.Tables.{record_of}
use Rattle.tables.specs.View.{small_at, segment_in, segments_in}
use Rattle.tables.proofs.Frame.{record_length}
use Rattle.leaf_figures.specs.Sides.{segment_by}
use Rattle.figures_below.specs.Compared.{traces_under, exact_in, AboveExact}
use Rattle.leaf_figures.specs.declared.sides.SideRange.{SideRange}
use Rattle.figures_below.proofs.Segments.{left_from, all_left, none_left, next_end, test_more}
use Rattle.figures_below.proofs.Steps.{same_by}
use Rattle.figures_below.proofs.nodes.node_exact.Goals as goal

-- the record, and how many segments it has
module _ {samples nodes : List ℤ} {n : ℕ} {sizes starts order : List ℕ} {j : ℕ} (q : AboveExact samples nodes n sizes starts order j) where
  in_table : (j * record_places + record_places ≤ length nodes) × (j ≤ 8191)
  in_table = let r = q.ready in (omega (arith, r.nodes_room, q.inside), omega (arith, r.nodes_few, q.inside))

  few : {count : ℕ} {r : List ℤ} → count ≡ small_at r segments_place → r ≡ record_of nodes j → count ≤ 16
  few e g = let h = ap (λ (x : List ℤ). small_at x segments_place) g in omega (arith, e, h, ends_length (record_of nodes j), (q.ready.fits j q.inside).few)

  places : {r : List ℤ} → r ≡ record_of nodes j → length r ≡ record_places
  places e = ap length e ∙ record_length nodes j in_table.0

all : {r : List ℤ} (nodes : List ℤ) (j : ℕ) {count : ℕ} → r ≡ record_of nodes j → count ≡ small_at r segments_place → left_from (record_of nodes j) count 0 ≡ segments_in (record_of nodes j)
all {r} nodes j {count} e g =
    ap (λ (k : ℕ). left_from (record_of nodes j) k 0) (g ∙ ap (λ (x : List ℤ). small_at x segments_place) e) ∙ all_left (record_of nodes j)

-- a turn of the loop: segment i's end
end_is : {r s : List ℤ} (i : ℕ) {last : ℕ} → r ≡ s → last ≡ small_at r (segment_at i) → (segment_in s i).end ≡ last
end_is {r} {s} i e g = end_at s i ∙ sym (g ∙ ap (λ (x : List ℤ). small_at x (segment_at i)) e)

-- the segment's figures compared: the test from this segment on
test_is : (samples nodes : List ℤ) (n : ℕ) (sizes starts order : List ℕ) (j : ℕ) {r : List ℤ} (count first i last : ℕ) (one figures : SideRange) {same : Bool} → r ≡ record_of nodes j
    → i < count → (segment_in (record_of nodes j) i).end ≡ last
    → are_exact (traces_under samples n sizes starts order j) first (left_from (record_of nodes j) count i) ≡ exact_in samples nodes n sizes starts order j
    → segment_by (segment_in r i).end one ≡ segment_in r i → segment_by last figures ≡ segment_of (traces_under samples n sizes starts order j) (run first last)
    → ((e d : ℕ) → same ≡ same_figures (segment_by e one) (segment_by d figures))
    → exact_in samples nodes n sizes starts order j ≡ same && are_exact (traces_under samples n sizes starts order j) (last + 1) (left_from (record_of nodes j) count (i + 1))
test_is samples nodes n sizes starts order j {r} count first i last one figures {same} e h end here is taken compared =
    let traces = traces_under samples n sizes starts order j in
    let s = record_of nodes j in
    let one_is : segment_by (segment_in s i).end one ≡ segment_in s i = subst (λ (x : List ℤ). segment_by (segment_in x i).end one ≡ segment_in x i) e is in
    let same_is : same ≡ same_figures (segment_in s i) (segment_of traces (run first last)) = compared (segment_in s i).end last ∙ ap₂ same_figures one_is taken in
    sym here
    ∙ (test_more traces s count first i last h end
    ∙ ap (λ (b : Bool). b && are_exact traces (last + 1) (left_from s count (i + 1))) (sym same_is))

pub record_at-record-requires : goal.record_at-record-requires
record_at-record-requires c = in_table c.requires

pub small_at-count-requires : goal.small_at-count-requires
small_at-count-requires c = (places c.requires c.record_at-record.ensures, omega arith)

pub loop-i-init : goal.loop-i-init
loop-i-init c =
    let a = c.args in
    let traces = traces_under a.samples.now a.n a.sizes.now a.starts.now a.order.now a.j in
    let whole = all a.nodes.now a.j c.record_at-record.ensures c.small_at-count.ensures in (
      omega arith,
      ap (are_exact traces 1) whole,
      subst (λ (l : List Segment). Rises a.n 1 (ends l)) (sym whole) (parted_rises (c.requires.ready.fits a.j c.requires.inside).parted),
    )

pub overflow_mul-i : goal.overflow_mul-i
overflow_mul-i c = omega (arith, c.loop-i-test.true, few c.requires c.small_at-count.ensures c.record_at-record.ensures)

pub overflow_add-i : goal.overflow_add-i
overflow_add-i c = omega (arith, c.loop-i-test.true, few c.requires c.small_at-count.ensures c.record_at-record.ensures)

pub small_at-last-requires : goal.small_at-last-requires
small_at-last-requires c =
    (places c.requires c.record_at-record.ensures, omega (arith, c.loop-i-test.true, few c.requires c.small_at-count.ensures c.record_at-record.ensures))

pub node_figures-figures-requires : goal.node_figures-figures-requires
node_figures-figures-requires c =
    let n = next_end (record_of c.args.nodes.now c.args.j) c.args.n c.small_at-count.result c.loop-i.first c.loop-i.i c.small_at-last.result
    c.loop-i-test.true (end_is c.loop-i.i c.record_at-record.ensures c.small_at-last.ensures) c.loop-i.invariant.2 in
    (c.requires, record { from_1 = c.loop-i.invariant.0; rises = n.rises; to_n = n.to_n })

pub recorded-requires : goal.recorded-requires
recorded-requires c =
    (places c.requires c.record_at-record.ensures, omega (arith, c.loop-i-test.true, few c.requires c.small_at-count.ensures c.record_at-record.ensures))

pub returns-then-ne : goal.returns-then-ne
returns-then-ne c =
    let a = c.args in
    let rest = are_exact (traces_under a.samples.now a.n a.sizes.now a.starts.now a.order.now a.j) (c.small_at-last.result + 1)
    (left_from (record_of a.nodes.now a.j) c.small_at-count.result (c.loop-i.i + 1)) in
    sym (test_is a.samples.now a.nodes.now a.n a.sizes.now a.starts.now a.order.now a.j c.small_at-count.result c.loop-i.first c.loop-i.i c.small_at-last.result c.recorded.result
    c.node_figures-figures.result c.record_at-record.ensures
    c.loop-i-test.true (end_is c.loop-i.i c.record_at-record.ensures c.small_at-last.ensures) c.loop-i.invariant.1
    c.recorded.ensures c.node_figures-figures.ensures (λ e d. same_by e d c.recorded.result c.node_figures-figures.result)
    ∙ ap (λ (b : Bool). b && rest) (not-true _ (sym c.ne.ensures ∙ c.if-ne.true)))

pub overflow_add-first : goal.overflow_add-first
overflow_add-first c =
    let n = next_end (record_of c.args.nodes.now c.args.j) c.args.n c.small_at-count.result c.loop-i.first c.loop-i.i c.small_at-last.result
    c.loop-i-test.true (end_is c.loop-i.i c.record_at-record.ensures c.small_at-last.ensures) c.loop-i.invariant.2 in
    omega (arith, n.to_n, c.requires.ready.narrow)

pub loop-i-preserved : goal.loop-i-preserved
loop-i-preserved c =
    let a = c.args in
    let rest = are_exact (traces_under a.samples.now a.n a.sizes.now a.starts.now a.order.now a.j) (c.small_at-last.result + 1)
    (left_from (record_of a.nodes.now a.j) c.small_at-count.result (c.loop-i.i + 1)) in
    let n = next_end (record_of c.args.nodes.now c.args.j) c.args.n c.small_at-count.result c.loop-i.first c.loop-i.i c.small_at-last.result
    c.loop-i-test.true (end_is c.loop-i.i c.record_at-record.ensures c.small_at-last.ensures) c.loop-i.invariant.2 in (
      omega arith,
      sym (test_is a.samples.now a.nodes.now a.n a.sizes.now a.starts.now a.order.now a.j c.small_at-count.result c.loop-i.first c.loop-i.i c.small_at-last.result c.recorded.result
          c.node_figures-figures.result c.record_at-record.ensures
          c.loop-i-test.true (end_is c.loop-i.i c.record_at-record.ensures c.small_at-last.ensures) c.loop-i.invariant.1
          c.recorded.ensures c.node_figures-figures.ensures (λ e d. same_by e d c.recorded.result c.node_figures-figures.result)
          ∙ ap (λ (b : Bool). b && rest) (not-false _ (sym c.ne.ensures ∙ c.if-ne.false))),
      n.on,
    )

pub returns : goal.returns
unfolding are_exact
returns c =
    let a = c.args in
    let l = c.loop-i in
    sym (ap (are_exact (traces_under a.samples.now a.n a.sizes.now a.starts.now a.order.now a.j) l.first) (none_left (record_of a.nodes.now a.j) c.small_at-count.result l.i c.loop-i-test.false))
    ∙ l.invariant.1
