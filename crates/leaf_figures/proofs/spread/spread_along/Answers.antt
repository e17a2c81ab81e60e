-- `leaf_figures::spread::spread_along` meets its contract: the total, and the spread over the ends that are left, make the whole spread. 16
-- terms of 57 bits have at most 61.
use native.Mathlib.Omega.{arith}
use lib.ListN.{take}
use Rattle.leaf_figures.specs.Rows.{all_traces}
use Rattle.leaf_figures.proofs.Totals.{next_at, spread_more, spread_end, spread_is}
use Rattle.leaf_figures.proofs.spread.spread_along.Goals as goal

pub loop-i-init : goal.loop-i-init
loop-i-init c =
    let a = c.args in (
      omega arith,
      omega (arith, spread_is (take a.e.count a.e.at) (all_traces a.rows.traces)),
      omega arith,
      c.requires.1,
    )

pub segment_spread-total-requires : goal.segment_spread-total-requires
segment_spread-total-requires c =
    let r = next_at c.args.e.at c.args.e.count (omega (arith, c.requires.0.places, c.requires.0.few)) c.loop-i.i c.loop-i-test.true c.loop-i.invariant.3 in
    record { from_1 = c.loop-i.invariant.0; rises = r.rises; to_n = r.to_n }

pub overflow_add-total : goal.overflow_add-total
overflow_add-total c = omega (arith, c.segment_spread-total.ensures.size, c.loop-i.invariant.2, c.requires.0.few)

pub overflow_add-first : goal.overflow_add-first
overflow_add-first c = omega (
  arith,
  (next_at c.args.e.at c.args.e.count (omega (arith, c.requires.0.places, c.requires.0.few)) c.loop-i.i c.loop-i-test.true c.loop-i.invariant.3).to_n,
  c.args.rows.traces.inside.narrow,
)

pub loop-i-preserved : goal.loop-i-preserved
loop-i-preserved c =
    let a = c.args in
    let l = c.loop-i in
    let more = spread_more a.e.at a.e.count (omega (arith, c.requires.0.places, c.requires.0.few)) l.i c.loop-i-test.true l.first (all_traces a.rows.traces) in (
      omega arith,
      omega (arith, l.invariant.1, more, c.segment_spread-total.ensures.value),
      omega (arith, l.invariant.2, c.segment_spread-total.ensures.size),
      (next_at c.args.e.at c.args.e.count (omega (arith, c.requires.0.places, c.requires.0.few)) c.loop-i.i c.loop-i-test.true c.loop-i.invariant.3).on,
    )

pub returns : goal.returns
returns c =
    let a = c.args in
    let l = c.loop-i in
    let rest = spread_end a.e.at a.e.count (omega (arith, c.requires.0.places, c.requires.0.few)) l.i c.loop-i-test.false l.first (all_traces a.rows.traces) in
    record { value = omega (arith, l.invariant.1, rest); size = omega (arith, l.invariant.2, c.requires.0.few) }
