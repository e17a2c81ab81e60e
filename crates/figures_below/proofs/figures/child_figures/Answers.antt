-- `figures_below::figures::child_figures` meets its contract: a segment of a record that has exactly the figures of the traces below has those
-- on its samples.
use mathlib.Core.Path.{◌≡◌, sym, ap, subst, ◌∙◌}
use mathlib.Core.List.{List}
use Prim.Native.Nat.{ℕ, ◌+◌, ◌*◌, ◌≤◌}
use native.Mathlib.Omega.{arith}
use lib.IntN.{ℤ}
use lib.ListN.{length}
use lib.Dec.{T}
use Rattle.dstree.specs.Figures.{run}
use Rattle.dstree.specs.Adding.{segment_of}
use Rattle.dstree.specs.Checking.{are_exact}
use Rattle.tables.specs.Layout.{segments_place, record_places}
use Rattle.tables.specs.Tables.{record_of}
use Rattle.tables.specs.View.{small_at, segment_in, segments_in}
use Rattle.tables.proofs.Frame.{record_length}
use Rattle.tables.proofs.Views.{ends_length}
use Rattle.leaf_figures.specs.Sides.{segment_by}
use Rattle.figures_below.specs.Compared.{first_on, traces_under, ReadyAt}
use Rattle.figures_below.proofs.Segments.{segment_is}
use Rattle.figures_below.proofs.figures.child_figures.Goals as goal

-- the record, of a node in the table
in_table : {samples nodes : List ℤ} {n : ℕ} {sizes starts order : List ℕ} {c : ℕ} → ReadyAt samples nodes n sizes starts order c
    → (c * record_places + record_places ≤ length nodes) × (c ≤ 8191)
in_table p = let r = p.ready in (omega (arith, r.nodes_room, p.inside), omega (arith, r.nodes_few, p.inside))

places : {samples nodes : List ℤ} {n : ℕ} {sizes starts order : List ℕ} {c : ℕ} {r : List ℤ} → ReadyAt samples nodes n sizes starts order c → r ≡ record_of nodes c → length r ≡ record_places
places {samples} {nodes} {n} {sizes} {starts} {order} {c} p e = ap length e ∙ record_length nodes c (in_table p).0

few : {samples nodes : List ℤ} {n : ℕ} {sizes starts order : List ℕ} {c : ℕ} {r : List ℤ} → ReadyAt samples nodes n sizes starts order c → r ≡ record_of nodes c
    → small_at r segments_place ≤ 16
few {samples} {nodes} {n} {sizes} {starts} {order} {c} p e = rw e (omega (arith, ends_length (record_of nodes c), (p.ready.fits c p.inside).few))

pub record_at-record-requires : goal.record_at-record-requires
record_at-record-requires c = in_table c.requires.0

pub segment_on-requires : goal.segment_on-requires
segment_on-requires c = (places c.requires.0 c.record_at-record.ensures, few c.requires.0 c.record_at-record.ensures)

pub recorded-requires : goal.recorded-requires
recorded-requires c = (places c.requires.0 c.record_at-record.ensures, omega (arith, c.in-Some.ensures, few c.requires.0 c.record_at-record.ensures))

pub returns-in-Some : goal.returns-in-Some
returns-in-Some c =
    let a = c.args in
    let r = c.record_at-record.result.now in
    let i = c.in-Some.i in
    let on = c.in-Some.ensures in
    let f = c.recorded.result in
    let traces = traces_under a.samples.now a.n a.sizes.now a.starts.now a.order.now a.c in
    let exact : T (are_exact traces 1 (segments_in r)) = subst (λ (x : List ℤ). T (are_exact traces 1 (segments_in x))) (sym c.record_at-record.ensures) c.requires.2 in
    let base : segment_by (segment_in r i).end f ≡ segment_of traces (run (first_on r i) (segment_in r i).end) =
    c.recorded.ensures ∙ segment_is traces r i exact on.0 in
    subst (λ (x : ℕ). segment_by a.last f ≡ segment_of traces (run x a.last)) on.1
    (subst (λ (x : ℕ). segment_by x f ≡ segment_of traces (run (first_on r i) x)) on.2 base)

pub figures_below-requires : goal.figures_below-requires
figures_below-requires c = (c.requires.0, c.requires.1)

pub returns-in-None : goal.returns-in-None
returns-in-None c = c.figures_below.ensures
