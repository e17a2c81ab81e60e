-- `segment::figures::stretch_squares` meets its contract: the total is what the samples passed add, at most 2^38 each.
use mathlib.Core.Path.{◌≡◌, ap}
use native.Mathlib.Omega.{arith}
use Rattle.segment.proofs.Steps.{squares_to, squares_grow}
use Rattle.segment.proofs.figures.stretch_squares.Goals as goal

pub loop-i-preserved : goal.loop-i-preserved
loop-i-preserved c =
    let l = c.loop-i in
    omega (
      arith,
      c.sample_square-total.ensures.value,
      squares_grow c.args.samples.now l.i (omega arith) c.sample_square-arg-1.given,
    )

pub returns : goal.returns
returns c =
    let e : c.loop-i.i ≡ c.args.end = omega arith in record { result_value = omega (arith, ap (squares_to c.args.samples.now) e); size = omega (arith, ap (squares_to c.args.samples.now) e) }
