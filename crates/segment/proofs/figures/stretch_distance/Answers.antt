-- `segment::figures::stretch_distance` meets its contract: the total is what the samples passed add, at most 2^40 each.
use mathlib.Core.Path.{◌≡◌, ap}
use native.Mathlib.Omega.{arith}
use Rattle.segment.proofs.Steps.{words_distance_to, distance_grows}
use Rattle.segment.proofs.figures.stretch_distance.Goals as goal

pub loop-i-preserved : goal.loop-i-preserved
loop-i-preserved c =
    let l = c.loop-i in
    omega (
      arith,
      c.square_difference-total.ensures.value,
      distance_grows c.args.x.now c.args.y.now l.i (omega arith) (omega arith)
          c.square_difference-arg-1.given c.square_difference-arg-in-loop-i-1.given,
    )

pub returns : goal.returns
returns c =
    let e : c.loop-i.i ≡ c.args.end = omega arith in record {
      result_value = omega (arith, ap (words_distance_to c.args.x.now c.args.y.now) e);
      size = omega
          (arith, ap (words_distance_to c.args.x.now c.args.y.now) e);
    }
