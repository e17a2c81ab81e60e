-- `segment::within::passing` meets its contract: the total is the distance of the samples passed, which is at most the limit until it
-- returns.
use mathlib.Core.Path.{◌≡◌, ap₂}
use Prim.Native.Nat.{◌+◌}
use native.Mathlib.Omega.{arith}
use lib.ListN.{length-map}
use Rattle.segment.specs.Figures.{distance}
use Rattle.segment.proofs.Steps.{words_distance_to, distance_grows}
use Rattle.segment.proofs.Stored.{all_samples}
use Rattle.segment.specs.Stored.{sample_of, samples_of}
use Rattle.segment.proofs.Fewest.{fewest_at}
use Rattle.segment.proofs.within.passing.Goals as goal

-- the distance with sample i
next : (c : goal.Then-limit-total)
    → let a = c.args in
    words_distance_to a.x.now a.y.now (c.loop-i.i + 1) ≡ c.loop-i.total + c.square_difference-total.result
next c =
    omega (
      arith,
      c.square_difference-total.ensures.value,
      distance_grows c.args.x.now c.args.y.now c.loop-i.i (omega arith) (omega arith)
          c.square_difference-arg-1.given c.square_difference-arg-in-loop-i-1.given,
    )

-- the distance with sample i
next_2 : (c : goal.Else-limit-total)
    → let a = c.args in
    words_distance_to a.x.now a.y.now (c.loop-i.i + 1) ≡ c.loop-i.total + c.square_difference-total.result
next_2 c =
    omega (
      arith,
      c.square_difference-total.ensures.value,
      distance_grows c.args.x.now c.args.y.now c.loop-i.i (omega arith) (omega arith)
          c.square_difference-arg-1.given c.square_difference-arg-in-loop-i-1.given,
    )

pub returns-then-limit-total : goal.returns-then-limit-total
returns-then-limit-total c =
    fewest_at c.args.limit c.loop-i.i _ (samples_of c.args.x.now) (samples_of c.args.y.now) (omega (arith, length-map c.args.x.now sample_of, length-map c.args.y.now sample_of))
    (omega (arith, length-map c.args.x.now sample_of, length-map c.args.y.now sample_of)) (omega (arith, next c))

pub loop-i-preserved : goal.loop-i-preserved
loop-i-preserved c = omega (arith, next_2 c)

-- all samples pass the limit, so that the walk does not come to their end
pub returns : goal.returns
returns c =
    let i = c.loop-i.i in
    absurd
    (omega (arith, ap₂ distance (all_samples i c.args.x.now (omega arith)) (all_samples i c.args.y.now (omega arith))))
