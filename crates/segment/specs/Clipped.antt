-- Document 02, §13: "When the log clips we know a sample only as lying between two figures. A query gives a low and a high figure per
-- sample. Each stored trace has a least and a greatest possible distance, summed sample by sample".
use Rattle.std.specs.Prelude.{ℕ, ◌+◌, ◌*◌, ◌≤◌, ◌≡◌, Bool, false, ◌||◌, List, [], ◌∷◌, length, take, ℤ, ◌≤ℤ◌}
use Rattle.std.specs.Int.Signed.{lt_z}
use Rattle.segment.specs.Figures.{distance}
use Rattle.segment.specs.Terms.{sum_gap}
use Rattle.segment.specs.Upper.{sum_reach}
use Rattle.segment.specs.Limits.{SamplesWithin, largest_distance}

-- "summed sample by sample": the squares of what a stored sample and its range give
unfoldable pub summed : (ℤ → ℤ → ℤ → ℕ) → List ℤ → List ℤ → List ℤ → ℕ
summed f [] highs ys = 0
summed f (low ∷ lows) [] ys = 0
summed f (low ∷ lows) (high ∷ highs) [] = 0
summed f (low ∷ lows) (high ∷ highs) (y ∷ ys) = f y low high * f y low high + summed f lows highs ys

-- the least: by a stored sample's distance to the range
abbrev pub least_from : List ℤ → List ℤ → List ℤ → ℕ
least_from = summed sum_gap

-- the greatest: by its larger distance to the range's ends
abbrev pub greatest_from : List ℤ → List ℤ → List ℤ → ℕ
greatest_from = summed sum_reach

-- such a sum over the first k samples
abbrev pub summed_to : (ℤ → ℤ → ℤ → ℕ) → List ℤ → List ℤ → List ℤ → ℕ → ℕ
summed_to f lows highs ys k = summed f (take k lows) (take k highs) (take k ys)

-- "a low above its high"
unfoldable pub is_crossed : List ℤ → List ℤ → Bool
is_crossed [] highs = false
is_crossed (low ∷ lows) [] = false
is_crossed (low ∷ lows) (high ∷ highs) = lt_z high low || is_crossed lows highs

-- a "sweep inside the ranges"
pub data Inside : List ℤ → List ℤ → List ℤ → Type 0 where
  inside_none : Inside [] [] []
  inside_more : {low high x : ℤ} {lows highs xs : List ℤ} → low ≤ℤ x → x ≤ℤ high → Inside lows highs xs
      → Inside (low ∷ lows) (high ∷ highs) (x ∷ xs)

-- ---- what is claimed

-- a sweep inside the ranges at just this distance from a trace
pub record Sweep (lows highs ys : List ℤ) (d : ℕ) : Type 0 where
  pub sweep : List ℤ
  pub is_inside : Inside lows highs sweep
  pub is : distance sweep ys ≡ d

-- of ranges that are not crossed, and a trace of as many samples
pub record ClippedClaims (lows highs ys : List ℤ) : Type 0 where
  -- they are the "least and [the] greatest possible distance": no sweep inside the ranges is nearer or farther, and one is just so far
  pub none_nearer : (xs : List ℤ) → Inside lows highs xs → least_from lows highs ys ≤ distance xs ys
  pub none_farther : (xs : List ℤ) → Inside lows highs xs → distance xs ys ≤ greatest_from lows highs ys
  pub nearest : Sweep lows highs ys (least_from lows highs ys)
  pub farthest : Sweep lows highs ys (greatest_from lows highs ys)
  -- no greater than the largest distance
  pub at_most : (limit : ℕ) → SamplesWithin limit lows → SamplesWithin limit highs → SamplesWithin limit ys
      → greatest_from lows highs ys ≤ largest_distance limit (length lows)

abbrev pub Clipped : Type 0
Clipped = (lows highs ys : List ℤ) → length lows ≡ length highs → length ys ≡ length lows → is_crossed lows highs ≡ false
    → ClippedClaims lows highs ys

-- "With low equal to high everywhere" nothing is crossed, the one sweep is inside, and both are its distance
pub record PointClaims (xs ys : List ℤ) : Type 0 where
  pub uncrossed : is_crossed xs xs ≡ false
  pub inside : Inside xs xs xs
  pub least_is : least_from xs xs ys ≡ distance xs ys
  pub greatest_is : greatest_from xs xs ys ≡ distance xs ys
