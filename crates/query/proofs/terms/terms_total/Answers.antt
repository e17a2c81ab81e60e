-- `query::terms::terms_total` meets its contract: the total, and the terms of the segments that are left, make the whole. Sixteen terms fit
-- 64 bits.
use mathlib.Core.Path.{◌≡◌, sym, ap, subst}
use mathlib.Core.List.{List}
use Prim.Native.Nat.{ℕ, ◌≤◌}
use native.Mathlib.Omega.{arith}
use lib.IntN.{ℤ}
use lib.ListN.{length}
use Rattle.segment.specs.Stored.{samples_of}
use Rattle.dstree.specs.Node.{total_over}
use Rattle.tables.specs.Layout.{segments_place}
use Rattle.tables.specs.View.{small_at, segments_in}
use Rattle.query.specs.Bounded.{Bounded}
use Rattle.query.proofs.Own.{segments_after, Left, NextSegment, next_at, total_more, total_end, after_start, few_words, few_segments, left_all}
use Rattle.query.proofs.terms.terms_total.Goals as goal
use Rattle.query.proofs.terms.terms_total.Goals.{After-small_at-last}
use Rattle.query.proofs.terms.terms_total.Given.{Over}

-- no more than 16 segments
few : {r : List ℤ} {n count : ℕ} → Bounded r n → count ≡ small_at r segments_place → count ≤ 16
few {r} {n} b e = omega (arith, e, few_segments r n b)

-- the segment that is next, and how the rest go on
next : (g : Over) (c : After-small_at-last g) →
    let l = c.loop-i in
    NextSegment c.args.«record».now (length c.args.query.now.trace.now) c.small_at-count.result l.first l.i c.small_at-last.result
next g c =
    let l = c.loop-i in
    next_at c.args.«record».now c.small_at-count.result l.i c.loop-i-test.true c.small_at-last.result c.small_at-last.ensures l.invariant.4

pub small_at-count-requires : goal.small_at-count-requires
small_at-count-requires g c = (c.requires.places, omega arith)

pub loop-i-init : goal.loop-i-init
loop-i-init g c =
    let r = c.args.«record».now in
    let e : c.small_at-count.result ≡ small_at r segments_place = c.small_at-count.ensures in
    let a : segments_after r c.small_at-count.result 0 ≡ segments_in r = rw e (after_start r) in (
      omega arith,
      omega (arith, ap (total_over (g.T.Term.term (samples_of c.args.query.now.trace.now)) 1) a),
      omega arith,
      omega arith,
      subst (λ (k : ℕ). Left r (length c.args.query.now.trace.now) k 1 0) (sym e) (left_all r (length c.args.query.now.trace.now) c.requires),
    )

pub overflow_mul-i : goal.overflow_mul-i
overflow_mul-i g c = omega (arith, few c.requires c.small_at-count.ensures)

pub overflow_add-i : goal.overflow_add-i
overflow_add-i g c = omega (arith, few c.requires c.small_at-count.ensures)

pub small_at-last-requires : goal.small_at-last-requires
small_at-last-requires g c = (c.requires.places, omega (arith, few c.requires c.small_at-count.ensures))

pub of_segment-total-requires : goal.of_segment-total-requires
of_segment-total-requires g c =
    let x = next g c in
    (record { from_1 = c.loop-i.invariant.0; rises = x.rises; to_n = x.to_n }, c.requires.places, omega (arith, few c.requires c.small_at-count.ensures), x.limited)

pub overflow_add-total : goal.overflow_add-total
overflow_add-total g c = omega (arith, c.of_segment-total.ensures.size, c.loop-i.invariant.2, few c.requires c.small_at-count.ensures)

pub overflow_add-first : goal.overflow_add-first
overflow_add-first g c = omega (arith, (next g c.before).to_n, few_words c.args.query.now.trace.now c.args.query.now.summed)

pub loop-i-preserved : goal.loop-i-preserved
loop-i-preserved g c =
    let l = c.loop-i in
    let x = next g c.before in
    let more = total_more c.args.«record».now c.small_at-count.result l.i
    c.loop-i-test.true c.small_at-last.result c.small_at-last.ensures (g.T.Term.term (samples_of c.args.query.now.trace.now)) l.first in
    (omega arith, omega (arith, l.invariant.1, more, c.of_segment-total.ensures.value), omega (arith, l.invariant.2, c.of_segment-total.ensures.size), omega (arith, x.to_n), x.on)

pub returns : goal.returns
returns g c =
    let l = c.loop-i in
    let rest = total_end c.args.«record».now c.small_at-count.result (g.T.Term.term (samples_of c.args.query.now.trace.now)) l.first l.i c.loop-i-test.false in
    omega (arith, l.invariant.1, rest)
