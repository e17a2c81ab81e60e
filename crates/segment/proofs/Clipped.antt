-- The least and greatest distance of a trace from the sweeps inside ranges: sample by sample the distance to a range, and to its farther
-- end. Both are reached by the sweep that takes the nearest sample, or the farther end, of each range.
use Rattle.std.specs.Prelude.{if◌then◌else◌}
use Prim.Native.Nat.{ℕ, ◌+◌, ◌*◌, ◌-◌, ◌≤◌, ◌<◌, max}
use mathlib.Core.Path.{◌≡◌, refl}
use mathlib.Core.Bool.{Bool, true, false}
use mathlib.Core.List.{List, [], ◌∷◌}
use native.Mathlib.Omega.{arith}
use native.Mathlib.Nat.{mul-le-mul}
use lib.ListN.{length}
use lib.IntN.{ℤ, ◌-ℤ◌, nat_abs}
use lib.Signed.{mag, lt_z, lt_z_yes}
use lib.Dec.{leb}
use borrow.Author.Tests.{leb-true, leb-false}
use Rattle.integer.specs.Words.{square}
use Rattle.integer.proofs.Tests.{test_false, neither}
use Rattle.integer.proofs.Order.{◌≤ℤ◌, →≤ℤ, <ℤ→, nat_abs_diff}
use Rattle.segment.specs.Figures.{distance}
use Rattle.segment.specs.Terms.{sum_gap}
use Rattle.segment.specs.Limits.{SamplesWithin, largest_distance}
use Rattle.segment.specs.Upper.{sum_reach}
use Rattle.segment.specs.Clipped.{summed, least_from, greatest_from, is_crossed, Inside, inside_none, inside_more, Sweep, Clipped}
use Rattle.segment.specs.Clipped.{PointClaims}
use Rattle.segment.proofs.Limits.{within_tail, gap_limit}
use Rattle.segment.proofs.Bound.{gap_at_most}
use Rattle.segment.proofs.Upper.{reach_at_least, apart_turned, not_below, point_gap}

-- ---- one sample

≤ℤ_refl : (a : ℤ) → a ≤ℤ a
≤ℤ_refl a = →≤ℤ {a = a} {b = a} (omega arith)

-- a sample's place in a range: the sample itself, or the nearer end
nearest_to : ℤ → ℤ → ℤ → ℤ
nearest_to y low high = if lt_z y low then low else if lt_z high y then high else y

-- the end that is farther from it
farthest_from : ℤ → ℤ → ℤ → ℤ
farthest_from y low high = if leb (nat_abs (y -ℤ low)) (nat_abs (y -ℤ high)) then high else low

self_apart : (y : ℤ) → nat_abs (y -ℤ y) ≡ 0
self_apart y = omega (arith, nat_abs_diff y y)

module _ (y low high : ℤ) where
  nearest_inside : low ≤ℤ high → (low ≤ℤ nearest_to y low high) × (nearest_to y low high ≤ℤ high)
  unfolding nearest_to
  nearest_inside h = by (lt_z y low) (lt_z high y) refl refl
    where
      by : (a b : Bool) → lt_z y low ≡ a → lt_z high y ≡ b
          → (low ≤ℤ (if a then low else if b then high else y)) × ((if a then low else if b then high else y) ≤ℤ high)
      by true b p q = (≤ℤ_refl low, h)
      by false true p q = (h, ≤ℤ_refl high)
      by false false p q = (not_below y low p, not_below high y q)

  nearest_is : nat_abs (nearest_to y low high -ℤ y) ≡ sum_gap y low high
  unfolding nearest_to sum_gap
  nearest_is = by (lt_z y low) (lt_z high y)
    where
      by : (a b : Bool)
          → nat_abs ((if a then low else if b then high else y) -ℤ y) ≡ (if a then nat_abs (low -ℤ y) else if b then nat_abs (y -ℤ high) else 0)
      by true b = refl
      by false true = apart_turned y high
      by false false = self_apart y

  farthest_inside : low ≤ℤ high → (low ≤ℤ farthest_from y low high) × (farthest_from y low high ≤ℤ high)
  unfolding farthest_from
  farthest_inside h = by (leb (nat_abs (y -ℤ low)) (nat_abs (y -ℤ high)))
    where
      by : (a : Bool) → (low ≤ℤ (if a then high else low)) × ((if a then high else low) ≤ℤ high)
      by true = (h, ≤ℤ_refl high)
      by false = (≤ℤ_refl low, h)

  farthest_is : nat_abs (farthest_from y low high -ℤ y) ≡ sum_reach y low high
  unfolding farthest_from sum_reach
  farthest_is = by (leb (nat_abs (y -ℤ low)) (nat_abs (y -ℤ high))) refl
    where
      by : (a : Bool) → leb (nat_abs (y -ℤ low)) (nat_abs (y -ℤ high)) ≡ a
          → nat_abs ((if a then high else low) -ℤ y) ≡ max (nat_abs (y -ℤ low)) (nat_abs (y -ℤ high))
      by true p = let k = leb-true (nat_abs (y -ℤ low)) (nat_abs (y -ℤ high)) p in let e = apart_turned y high in omega (arith, k, e)
      by false p = let k = leb-false (nat_abs (y -ℤ low)) (nat_abs (y -ℤ high)) p in let e = apart_turned y low in omega (arith, k, e)

-- ---- sample by sample

pub none_nearer : {lows highs xs : List ℤ} → Inside lows highs xs → (ys : List ℤ) → least_from lows highs ys ≤ distance xs ys
unfolding summed distance
none_nearer inside_none ys = omega arith
none_nearer (inside_more h k i) [] = omega arith
none_nearer (inside_more {low} {high} {x} h k i) (y ∷ ys) =
    let g = gap_at_most y x low high h k in
    let e = apart_turned x y in
    let s : sum_gap y low high * sum_gap y low high ≤ square (x -ℤ y) = rw (← e) (mul-le-mul g g) in
    omega (arith, s, none_nearer i ys)

pub none_farther : {lows highs xs : List ℤ} → Inside lows highs xs → (ys : List ℤ) → distance xs ys ≤ greatest_from lows highs ys
unfolding summed distance
none_farther inside_none ys = omega arith
none_farther (inside_more h k i) [] = omega arith
none_farther (inside_more {low} {high} {x} h k i) (y ∷ ys) =
    let g = reach_at_least y x low high h k in
    let e = apart_turned x y in
    let s : square (x -ℤ y) ≤ sum_reach y low high * sum_reach y low high = rw (← e) (mul-le-mul g g) in
    omega (arith, s, none_farther i ys)

-- one more sample of a sweep
sweep_more : {lows highs ys : List ℤ} {d : ℕ} (low high x y : ℤ) (k : ℕ) → low ≤ℤ x → x ≤ℤ high → nat_abs (x -ℤ y) ≡ k
    → Sweep lows highs ys d → Sweep (low ∷ lows) (high ∷ highs) (y ∷ ys) (k * k + d)
unfolding distance
sweep_more low high x y k h g e s = record {
  sweep = x ∷ s.sweep;
  is_inside = inside_more h g s.is_inside;
  is = let f = s.is in rw (e, f);
}

-- a range that is not crossed, and those behind it
uncrossed : (low high : ℤ) (lows highs : List ℤ) → is_crossed (low ∷ lows) (high ∷ highs) ≡ false → (low ≤ℤ high)
    × (is_crossed lows highs ≡ false)
unfolding is_crossed
uncrossed low high lows highs e =
    let h : (lt_z high low ≡ false) × (is_crossed lows highs ≡ false) = neither (lt_z high low) (is_crossed lows highs) e in
    (not_below high low h.0, h.1)

-- a sweep that takes of each range what is just so far away
module _ (f : ℤ → ℤ → ℤ → ℕ) (pick : ℤ → ℤ → ℤ → ℤ)
    (inside : (y low high : ℤ) → low ≤ℤ high → (low ≤ℤ pick y low high) × (pick y low high ≤ℤ high))
    (is : (y low high : ℤ) → nat_abs (pick y low high -ℤ y) ≡ f y low high) where
  reached : (lows highs ys : List ℤ) → length lows ≡ length highs → length ys ≡ length lows → is_crossed lows highs ≡ false
      → Sweep lows highs ys (summed f lows highs ys)
  unfolding summed distance
  reached [] [] ys a b e = record { sweep = []; is_inside = inside_none; is = refl }
  reached [] (high ∷ highs) ys a b e = absurd (omega arith)
  reached (low ∷ lows) [] ys a b e = absurd (omega arith)
  reached (low ∷ lows) (high ∷ highs) [] a b e = absurd (omega arith)
  reached (low ∷ lows) (high ∷ highs) (y ∷ ys) a b e =
      let h = uncrossed low high lows highs e in
      let i = inside y low high h.0 in
      sweep_more low high (pick y low high) y (f y low high) i.0 i.1 (is y low high)
      (reached lows highs ys (omega arith) (omega arith) h.1)

-- ---- how large

pub reach_most : (limit : ℕ) (y low high : ℤ) → mag y < limit → mag low < limit → mag high < limit → sum_reach y low high ≤ 2 * limit - 1
unfolding sum_reach
reach_most limit y low high h k l =
    let a = gap_limit limit y low h k in
    let b = gap_limit limit y high h l in
    omega (arith, a, b)

at_most : (limit : ℕ) (lows highs ys : List ℤ) → SamplesWithin limit lows → SamplesWithin limit highs → SamplesWithin limit ys
    → greatest_from lows highs ys ≤ largest_distance limit (length lows)
unfolding summed largest_distance
at_most limit [] highs ys p q r = omega arith
at_most limit (low ∷ lows) [] ys p q r = omega arith
at_most limit (low ∷ lows) (high ∷ highs) [] p q r = omega arith
at_most limit (low ∷ lows) (high ∷ highs) (y ∷ ys) p q r =
    let g = reach_most limit y low high (r 0 (omega arith)) (p 0 (omega arith)) (q 0 (omega arith)) in
    omega (
      arith,
      mul-le-mul g g,
      at_most limit lows highs ys (within_tail low lows p) (within_tail high highs q) (within_tail y ys r),
    )

pub clipped : Clipped
clipped lows highs ys a b e = record {
  none_nearer = λ xs i. none_nearer i ys;
  none_farther = λ xs i. none_farther i ys;
  nearest = reached sum_gap nearest_to nearest_inside nearest_is lows highs ys a b e;
  farthest = reached sum_reach farthest_from farthest_inside farthest_is lows highs ys a b e;
  at_most = λ limit p q r. at_most limit lows highs ys p q r;
}

-- ---- "With low equal to high everywhere"

points_inside : (xs : List ℤ) → Inside xs xs xs
points_inside [] = inside_none
points_inside (x ∷ xs) = inside_more (≤ℤ_refl x) (≤ℤ_refl x) (points_inside xs)

never_below : (x : ℤ) → lt_z x x ≡ false
never_below x = test_false (lt_z x x) (λ t. omega (arith, <ℤ→ {a = x} {b = x} (lt_z_yes t)))

points_uncrossed : (xs : List ℤ) → is_crossed xs xs ≡ false
unfolding is_crossed
points_uncrossed [] = refl
points_uncrossed (x ∷ xs) = rw (never_below x) (points_uncrossed xs)

-- a range of one number: the farther end's distance is the number's own
point_reach : (x y : ℤ) → sum_reach y x x ≡ nat_abs (x -ℤ y)
unfolding sum_reach
point_reach x y = let e = apart_turned x y in omega (arith, e)

least_is : (xs ys : List ℤ) → least_from xs xs ys ≡ distance xs ys
unfolding summed distance
least_is [] ys = refl
least_is (x ∷ xs) [] = refl
least_is (x ∷ xs) (y ∷ ys) = let e = point_gap x y in let f = least_is xs ys in rw (e, f)

greatest_is : (xs ys : List ℤ) → greatest_from xs xs ys ≡ distance xs ys
unfolding summed distance
greatest_is [] ys = refl
greatest_is (x ∷ xs) [] = refl
greatest_is (x ∷ xs) (y ∷ ys) = let e = point_reach x y in let f = greatest_is xs ys in rw (e, f)

pub point_claims : (xs ys : List ℤ) → PointClaims xs ys
point_claims xs ys =
    record { uncrossed = points_uncrossed xs; inside = points_inside xs; least_is = least_is xs ys; greatest_is = greatest_is xs ys }
