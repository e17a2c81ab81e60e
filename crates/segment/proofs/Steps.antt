-- One word more, as a loop reads it: what the loop adds is what the figure of the samples passed grows by.
-- A read hands on a word's bits, and what is read of a number that fits them is that number.
use mathlib.Core.Path.{◌≡◌, sym, ap, ap₂, ◌∙◌}
use mathlib.Core.List.{List}
use Prim.Native.Nat.{ℕ, ◌+◌, ◌*◌, ◌≤◌, ◌<◌}
use native.Mathlib.Nat.{mul-le-mul}
use native.Mathlib.Omega.{arith}
use lib.ListN.{length, take, get_or, length-map}
use lib.IntN.{ℤ, pos, ◌-ℤ◌}
use mir.Syntax.{w32}
use mir.Facts.{to_z-of_z}
use Rattle.integer.specs.Words.{square}
use Rattle.integer.proofs.Width.{of_mag, read}
use Rattle.segment.specs.Figures.{sum_of_squares, distance}
use Rattle.segment.specs.Limits.{sample_most}
use Rattle.segment.specs.Stored.{sample_of, samples_of}
use Rattle.segment.proofs.Sums.{squares_more, distance_more}
use Rattle.segment.proofs.Stored.{FitsWord, sample_at}

pub read_word : (xs : List ℤ) (i : ℕ) → FitsWord (get_or xs i (pos 0)) → sample_of (read w32 (get_or xs i (pos 0))) ≡ get_or (samples_of xs) i (pos 0)
read_word xs i m = ap sample_of (to_z-of_z (of_mag {w = w32} (get_or xs i (pos 0)) m)) ∙ sym (sample_at xs i)

-- a plain number
pub read_plain : (xs : List ℤ) (i : ℕ) → FitsWord (get_or xs i (pos 0)) → read w32 (get_or xs i (pos 0)) ≡ get_or xs i (pos 0)
read_plain xs i m = to_z-of_z (of_mag {w = w32} (get_or xs i (pos 0)) m)

-- the distance of the first k samples
abbrev pub distance_to : List ℤ → List ℤ → ℕ → ℕ
distance_to xs ys k = distance (take k xs) (take k ys)

-- .. of words
abbrev pub words_distance_to : List ℤ → List ℤ → ℕ → ℕ
words_distance_to xs ys = distance_to (samples_of xs) (samples_of ys)

pub distance_grows : (xs ys : List ℤ) (i : ℕ) → i < length xs → i < length ys → FitsWord (get_or xs i (pos 0)) → FitsWord (get_or ys i (pos 0))
    → words_distance_to xs ys (i + 1)
    ≡ words_distance_to xs ys i + square (sample_of (read w32 (get_or xs i (pos 0))) -ℤ sample_of (read w32 (get_or ys i (pos 0))))
distance_grows xs ys i l k m n =
    let e = ap₂ ◌-ℤ◌ (read_word xs i m) (read_word ys i n) in
    let grown = distance_more (samples_of xs) (samples_of ys) i (rw (length-map xs sample_of) l) (rw (length-map ys sample_of) k) in
    omega (arith, grown, ap square e)

-- the squares of the first k samples
abbrev pub squares_to : List ℤ → ℕ → ℕ
squares_to xs k = sum_of_squares (take k (samples_of xs))

pub squares_grow : (xs : List ℤ) (i : ℕ) → i < length xs → FitsWord (get_or xs i (pos 0))
    → squares_to xs (i + 1) ≡ squares_to xs i + square (sample_of (read w32 (get_or xs i (pos 0))))
squares_grow xs i l m =
    omega (arith, squares_more (samples_of xs) i (rw (length-map xs sample_of) l), ap square (read_word xs i m))

-- the square of a difference of two samples
pub small_square : (d : ℕ) → d < 2 * sample_most → d * d ≤ 2 * sample_most * (2 * sample_most)
small_square d h = let k : d ≤ 2 * sample_most = omega arith in mul-le-mul k k
