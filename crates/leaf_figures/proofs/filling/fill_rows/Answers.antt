-- `leaf_figures::filling::fill_rows` meets its contract: each segment is inside, since the ends rise.
use native.Mathlib.Omega.{arith}
use Rattle.leaf_figures.proofs.Totals.{next_at}
use Rattle.leaf_figures.proofs.filling.fill_rows.Goals as goal

pub fill_segment-requires : goal.fill_segment-requires
fill_segment-requires c =
    let l = c.loop-i in
    let r = next_at c.args.e.at c.args.e.count (omega (arith, c.requires.0.places, c.requires.0.few)) l.i c.loop-i-test.true l.invariant.1 in
    (record { from_1 = l.invariant.0; rises = r.rises; to_n = r.to_n }, omega (arith, c.if-traces-gt65.false), omega (arith, c.requires.0.few, c.loop-i-test.true), l.invariant.2)

pub overflow_add-first : goal.overflow_add-first
overflow_add-first c = omega (
  arith,
  (next_at c.args.e.at c.args.e.count (omega (arith, c.requires.0.places, c.requires.0.few)) c.loop-i.i c.loop-i-test.true c.loop-i.invariant.1).to_n,
  c.args.traces.inside.narrow,
)

pub loop-i-init : goal.loop-i-init
loop-i-init c = (omega arith, c.requires.1, c.requires.2 (omega (arith, c.if-traces-gt65.false)))

pub loop-i-preserved : goal.loop-i-preserved
loop-i-preserved c = (
  omega arith,
  (next_at c.args.e.at c.args.e.count (omega (arith, c.requires.0.places, c.requires.0.few)) c.loop-i.i c.loop-i-test.true c.loop-i.invariant.1).on,
  c.fill_segment.ensures,
)
