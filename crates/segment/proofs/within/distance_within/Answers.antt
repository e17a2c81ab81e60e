-- `segment::within::distance_within` meets its contract: the total is the distance of the samples passed, which is at most the limit.
-- Where sixteen more pass it, so do all together, and `passing` finds the sample.
use mathlib.Core.Path.{◌≡◌, refl, ap₂}
use mathlib.Core.List.{List}
use Prim.Native.Nat.{ℕ, ◌+◌, ◌≤◌}
use native.Mathlib.Omega.{arith}
use lib.IntN.{ℤ}
use lib.ListN.{length}
use Rattle.segment.specs.Figures.{distance}
use Rattle.segment.specs.Within.{distance_within, IsFewest, DistanceSays}
use Rattle.segment.specs.declared.within.Distance.TheVariants as w
use Rattle.segment.proofs.Stored.{all_samples}
use Rattle.segment.specs.Stored.{samples_of}
use Rattle.segment.proofs.Fewest.{first_less, is_distance_within}
use Rattle.segment.proofs.within.distance_within.Goals as goal

-- the two answers
beyond : (x y : List ℤ) (limit n : ℕ) → IsFewest limit x y n → w.Beyond n ≡ distance_within limit x y
unfolding DistanceSays
beyond x y limit n f = (is_distance_within limit x y).no_other (w.Beyond n) f

exact : (x y : List ℤ) (limit d : ℕ) → d ≡ distance x y → d ≤ limit → w.Exact d ≡ distance_within limit x y
unfolding DistanceSays
exact x y limit d e h = (is_distance_within limit x y).no_other (w.Exact d) (e, h)

-- the whole distance
whole : (c : goal.Then-limit-whole)
    → c.loop-k.total + c.stretch_distance-2.result ≡ distance (samples_of c.args.x.now) (samples_of c.args.y.now)
whole c =
    let n = length c.args.x.now in
    omega (arith, ap₂ distance (all_samples n c.args.x.now (omega arith)) (all_samples n c.args.y.now (omega arith)))

-- the whole distance
whole_2 : (c : goal.Else-limit-whole)
    → c.loop-k.total + c.stretch_distance-2.result ≡ distance (samples_of c.args.x.now) (samples_of c.args.y.now)
whole_2 c =
    let n = length c.args.x.now in
    omega (arith, ap₂ distance (all_samples n c.args.x.now (omega arith)) (all_samples n c.args.y.now (omega arith)))

pub loop-k-init : goal.loop-k-init
unfolding distance
loop-k-init c = (omega arith, refl, omega arith, omega arith)

-- sixteen more samples pass the limit
pub passing-requires : goal.passing-requires
passing-requires c =
    omega (arith, first_less (c.loop-k.k + 16) (samples_of c.args.x.now) (samples_of c.args.y.now))

pub returns-then-limit-next : goal.returns-then-limit-next
returns-then-limit-next c = record { value = beyond (samples_of c.args.x.now) (samples_of c.args.y.now) c.args.limit c.passing.result c.passing.ensures; size = λ h. absurd (omega arith) }

pub passing-requires-then-limit-whole : goal.passing-requires-then-limit-whole
passing-requires-then-limit-whole c = omega (arith, whole c)

pub returns-then-limit-whole : goal.returns-then-limit-whole
returns-then-limit-whole c = record {
  value = beyond (samples_of c.args.x.now) (samples_of c.args.y.now) c.args.limit c.passing-then-limit-whole.result c.passing-then-limit-whole.ensures;
  size =
      λ h. absurd (omega arith);
}

pub returns : goal.returns
returns c = record {
  value = exact (samples_of c.args.x.now) (samples_of c.args.y.now) c.args.limit
      (c.loop-k.total + c.stretch_distance-2.result)
      (whole_2 c) (omega (arith, c.if-limit-whole.false));
  size = λ h. omega (arith, whole_2 c);
}
