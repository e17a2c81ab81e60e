-- `segment::ranges::stretch` meets its contract: the total is what the samples passed add, at most 2^40 each.
use mathlib.Core.Path.{◌≡◌, ap}
use native.Mathlib.Omega.{arith}
use Rattle.segment.specs.Clipped.{summed_to}
use Rattle.segment.specs.Stored.{samples_of}
use Rattle.segment.proofs.Steps.{read_plain}
use Rattle.segment.proofs.ClippedSteps.{summed_grows}
use Rattle.segment.proofs.ranges.stretch.Goals as goal

pub square-total-requires : goal.square-total-requires
square-total-requires g c =
    let l = c.loop-i in
    rw (
      read_plain c.args.lows.now l.i c.square-arg-in-loop-i-1.given,
      read_plain c.args.highs.now l.i c.square-arg-in-loop-i-2-1.given,
    ) (c.requires.5 l.i (omega arith), c.requires.6 l.i (omega arith))

pub loop-i-preserved : goal.loop-i-preserved
loop-i-preserved g c =
    let l = c.loop-i in
    omega (
      arith,
      c.square-total.ensures.value,
      c.square-total.ensures.size,
      summed_grows g.R.Reach.reach c.args.lows.now c.args.highs.now c.args.trace.now l.i (omega arith) (omega arith) (omega arith)
          c.square-arg-1.given c.square-arg-in-loop-i-1.given c.square-arg-in-loop-i-2-1.given,
    )

pub returns : goal.returns
returns g c =
    let e : c.loop-i.i ≡ c.args.end = omega arith in
    let at_end = ap (summed_to g.R.Reach.reach c.args.lows.now c.args.highs.now (samples_of c.args.trace.now)) e in
    record { result_value = omega (arith, at_end); size = omega (arith, at_end) }
