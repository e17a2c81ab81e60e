-- How large figures get, for any sample limit L: samples are from −L to L − 1. Document 02's 20 bits are L = 524,288.
use Rattle.std.specs.Prelude.{ℕ, ◌*◌, ◌-◌, ◌^◌, ◌≤◌, ◌<◌, ◌≡◌, List, length, get_or, ℤ, pos}
use Rattle.std.specs.Int.Signed.{mag}
use Rattle.segment.specs.Figures.{distance}

-- document 02, §9: "−524,288 to 524,287". Laws take the limit as a parameter; this is its number
abbrev pub sample_most : ℕ
sample_most = 524288

-- the most samples of a segment: document 01's greatest n
abbrev pub width_most : ℕ
width_most = 256

-- every sample is from −limit to limit − 1. (`mag` of −1 − m is m)
abbrev pub SamplesWithin : ℕ → List ℤ → Type 0
SamplesWithin limit xs = (i : ℕ) → i < length xs → mag (get_or xs i (pos 0)) < limit

-- document 01: "sums within w × 32,768 either side of 0"; document 02, §9, has 524,288
unfoldable pub sum_limit : ℕ → ℕ → ℕ
sum_limit limit w = w * limit

-- document 01: "scatters 0 to w² × 2^30"; document 02, §9, has 2^38
unfoldable pub scatter_limit : ℕ → ℕ → ℕ
scatter_limit limit w = w * w * (limit * limit)

-- the floor root of such a scatter is at most this; document 02 §4: "T's limit among the well-formed rules becomes 2 × w × 32,768", twice
-- it; §9 has 524,288
unfoldable pub root_limit : ℕ → ℕ → ℕ
root_limit limit w = w * limit

-- Ours: no term of a segment that is w wide is above this, nor a bound over w samples. (g is at most 2 × w × limit and h at most
-- w × limit, so that five times w × limit² and 1 would do)
unfoldable pub bound_limit : ℕ → ℕ → ℕ
bound_limit limit w = 8 * (w * (limit * limit))

-- ---- what code counts on, of w samples of 20 bits: these compute, so that they are numbers wherever they stand

-- the size of a sum
abbrev pub sum_most : ℕ → ℕ
sum_most w = sample_most * w

abbrev pub squares_most : ℕ → ℕ
squares_most w = sample_most * sample_most * w

abbrev pub scatter_most : ℕ → ℕ
scatter_most w = sample_most * sample_most * (w * w)

-- two samples are less than twice the limit apart
abbrev pub distance_most : ℕ → ℕ
distance_most w = 2 * sample_most * (2 * sample_most) * w

-- ---- what code has room for: figures of 256 samples of 20 bits

abbrev pub sum_room : ℕ
sum_room = 2 ^ 27

abbrev pub scatter_room : ℕ
scatter_room = 2 ^ 54

-- a sum of squares, and the two gaps of a bound's term
abbrev pub squares_room : ℕ
squares_room = 2 ^ 46

abbrev pub gap_room : ℕ
gap_room = 2 ^ 30

-- a total that samples or their squares are added to
abbrev pub total_room : ℕ
total_room = 2 ^ 47

-- a segment's term of a spread, or of a bound, from figures within that room; and the spread of 16 segments
abbrev pub term_most : ℕ
term_most = 2 ^ 57

abbrev pub spread_most : ℕ
spread_most = 16 * term_most

-- ---- the largest distance

-- "Its largest is 1,099,478,073,600", and "281,474,439,840,000" with document 02, §9, of 256 samples; of n samples: the distance between
-- −limit and limit − 1 at each
unfoldable pub largest_distance : ℕ → ℕ → ℕ
largest_distance limit n = n * ((2 * limit - 1) * (2 * limit - 1))

-- what is claimed of it, for every n: no two traces of n samples are farther apart, and two are just so far
pub record IsLargest (limit n : ℕ) : Type 0 where
  pub none_greater : (x y : List ℤ) → length x ≡ n → SamplesWithin limit x → SamplesWithin limit y → distance x y ≤ largest_distance limit n
  pub one : List ℤ
  pub other : List ℤ
  pub sizes : (length one ≡ n) × (length other ≡ n)
  pub within : SamplesWithin limit one × SamplesWithin limit other
  pub reached : distance one other ≡ largest_distance limit n
