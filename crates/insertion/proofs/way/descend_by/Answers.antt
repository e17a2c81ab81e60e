-- `insertion::way::descend_by` meets its contract: what is left to do comes to the whole (`Down`), and the node's number rises below their
-- count.
use mathlib.Core.Path.{◌≡◌, sym, ap, subst, ◌∙◌}
use mathlib.Core.List.{List}
use Prim.Native.Nat.{ℕ, ◌+◌, ◌*◌, ◌-◌, ◌≤◌}
use native.Mathlib.Omega.{arith}
use lib.IntN.{ℤ}
use lib.ListN.{length, take, drop}
use borrow.Rule.Slice.PartMut.{put_mid}
use Rattle.segment.specs.Stored.{samples_of}
use Rattle.dstree.specs.Measures.{Trace}
use Rattle.tables.specs.Layout.{kind_place, record_places}
use Rattle.tables.specs.Tables.{record_of, with_record}
use Rattle.tables.specs.View.{small_at}
use Rattle.tables.proofs.Frame.{part_is, put_is}
use Rattle.insertion_memory.specs.Records.{widen_record}
use Rattle.insertion_memory.specs.Memory.{on_record}
use Rattle.insertion.specs.Widening.{Readable}
use Rattle.insertion.specs.Way.{TestReadable}
use Rattle.insertion.proofs.Down.{GoingDown, going_starts, fits, same_record, widened_length, ended, falls, goes_on}
use Rattle.insertion.proofs.way.descend_by.Goals as goal

-- the table after a turn: the part that is lent is the node's record, and comes back widened
widened : (nodes : List ℤ) (x : Trace) (at a e : ℕ) (r : List ℤ) → a ≡ at * record_places → e ≡ at * record_places + record_places
    → r ≡ widen_record x (take (e - a) (drop a nodes)) → put_mid a (e - a) nodes r ≡ on_record (widen_record x) nodes at
widened nodes x at a e r starts ends is = put_is nodes at a e starts ends r ∙ ap (with_record nodes at) (is ∙ ap (widen_record x) (part_is nodes at a e starts ends))

pub loop-child-init : goal.loop-child-init
loop-child-init c = going_starts c.requires (samples_of c.args.trace.now.trace.now)

pub record_at-requires : goal.record_at-requires
record_at-requires c =
    let l = c.loop-child in
    (fits c.requires (samples_of c.args.trace.now.trace.now) l.invariant, omega (arith, c.requires.few, l.invariant.inside))

pub next_of-next-requires : goal.next_of-next-requires
next_of-next-requires c =
    let l = c.loop-child in
    let i = l.invariant.inside in
    let ok = c.requires in
    let P : List ℤ → Type 0 = λ r. (length r ≡ record_places) × (small_at r kind_place ≤ 2) × (1 ≤ small_at r kind_place → TestReadable r (length c.args.trace.now.trace.now)) in
    let there : P (record_of c.args.nodes.now l.at) = ((ok.readable l.at i).size, ok.kind l.at i, ok.test l.at i) in
    subst P (sym (c.record_at.ensures ∙ same_record ok (samples_of c.args.trace.now.trace.now) l.invariant)) there

pub record_start-a-requires : goal.record_start-a-requires
record_start-a-requires c = omega (arith, c.requires.few, c.loop-child.invariant.inside)

pub record_end-e-requires : goal.record_end-e-requires
record_end-e-requires c = omega (arith, c.requires.few, c.loop-child.invariant.inside)

pub offset_bounds-nodes-a : goal.offset_bounds-nodes-a
offset_bounds-nodes-a c = omega (arith, c.record_start-a.ensures, c.requires.few, c.loop-child.invariant.inside)

pub slice_bounds-widen_record-count : goal.slice_bounds-widen_record-count
slice_bounds-widen_record-count c = omega (arith, c.record_start-a.ensures, c.record_end-e.ensures)

pub slice_bounds-widen_record-start : goal.slice_bounds-widen_record-start
slice_bounds-widen_record-start c = omega (arith, c.record_start-a.ensures, c.record_end-e.ensures)

pub slice_bounds-widen_record-end : goal.slice_bounds-widen_record-end
slice_bounds-widen_record-end c = omega (arith, c.record_end-e.ensures, fits c.requires (samples_of c.args.trace.now.trace.now) c.loop-child.invariant)

pub widen_record-requires : goal.widen_record-requires
widen_record-requires c =
    let x = samples_of c.args.trace.now.trace.now in
    let l = c.loop-child in
    let ok = c.requires in
    let lent = part_is l.nodes l.at c.record_start-a.result c.record_end-e.result c.record_start-a.ensures c.record_end-e.ensures ∙ same_record ok x l.invariant in
    subst (λ (r : List ℤ). Readable r (length c.args.trace.now.trace.now)) (sym lent) (ok.readable l.at l.invariant.inside)

pub shape_of-nodes-in_default : goal.shape_of-nodes-in_default
shape_of-nodes-in_default c =
    let x = samples_of c.args.trace.now.trace.now in
    let l = c.loop-child in
    let after = widened l.nodes x l.at c.record_start-a.result c.record_end-e.result c.widen_record.new.record c.record_start-a.ensures c.record_end-e.ensures c.widen_record.ensures in
    ap length after ∙ widened_length c.requires x l.invariant

pub returns-in_default : goal.returns-in_default
returns-in_default c =
    let x = samples_of c.args.trace.now.trace.now in
    let l = c.loop-child in
    let after = widened l.nodes x l.at c.record_start-a.result c.record_end-e.result c.widen_record.new.record c.record_start-a.ensures c.record_end-e.ensures c.widen_record.ensures in
    let next = rw c.record_at.ensures at c.in_default.ensures in
    let done = ended c.requires x l.invariant next in
    record { value = done.0; widened = after ∙ done.1 }

pub loop-child-smaller : goal.loop-child-smaller
loop-child-smaller c =
    let x = samples_of c.args.trace.now.trace.now in
    let l = c.loop-child in
    let next = rw c.record_at.ensures at c.in-Some.ensures in
    let b = falls c.requires x l.invariant next in
    omega arith

pub loop-child-preserved : goal.loop-child-preserved
loop-child-preserved c =
    let x = samples_of c.args.trace.now.trace.now in
    let l = c.loop-child in
    let after = widened l.nodes x l.at c.record_start-a.result c.record_end-e.result c.widen_record.new.record c.record_start-a.ensures c.record_end-e.ensures c.widen_record.ensures in
    let next = rw c.record_at.ensures at c.in-Some.ensures in
    subst (λ (t : List ℤ). GoingDown c.args.nodes.now c.args.count x t c.in-Some.child) (sym after)
    (goes_on c.requires x l.invariant next)
