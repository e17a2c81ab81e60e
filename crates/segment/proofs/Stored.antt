-- The view of words as samples. Whatever a word is, its sample is within the limits.
use mathlib.Core.Path.{◌≡◌, refl, ap, ap₂}
use mathlib.Core.List.{List, [], ◌∷◌, ◌++◌}
use Prim.Native.Nat.{ℕ, zero, suc, ◌+◌, ◌*◌, ◌^◌, ◌≤◌, ◌<◌}
use native.Mathlib.Omega.{arith}
use lib.ListN.{length, take, drop, get_or, length-map, get_or-map}
use lib.Seq.{take_all}
use lib.IntN.{ℤ, pos, negsuc}
use lib.Signed.{mag, shr_z}
use Rattle.segment.specs.Limits.{sample_most, SamplesWithin}
use Rattle.segment.specs.Stored.{word_scale, sample_of, word_of, samples_of, words_of, IsView}
use Rattle.segment.proofs.Limits.{within_tail}

-- ---- one word

-- a number that 32 bits hold
abbrev pub FitsWord : ℤ → Type 0
FitsWord z = mag z < 2 ^ 31

pub sample_within : (z : ℤ) → mag (sample_of z) < sample_most
unfolding sample_of
sample_within (pos a) = omega arith
sample_within (negsuc a) = omega arith

-- of a word, a shift by twelve bits is its sample
pub shifted : (z : ℤ) → FitsWord z → shr_z z word_scale ≡ sample_of z
unfolding sample_of
shifted (pos a) h = ap pos (omega arith)
shifted (negsuc a) h = ap negsuc (omega arith)

pub word_fits : (z : ℤ) → mag z < sample_most → FitsWord (word_of z)
unfolding word_of
word_fits (pos a) h = omega arith
word_fits (negsuc a) h = let e : suc a * 4096 ≡ suc (4096 * a + 4095) = omega arith in rw e (omega arith)

pub sample_back : (z : ℤ) → mag z < sample_most → sample_of (word_of z) ≡ z
unfolding sample_of word_of
sample_back (pos a) h = ap pos (omega arith)
sample_back (negsuc a) h = let e : suc a * 4096 ≡ suc (4096 * a + 4095) = omega arith in rw e (ap negsuc (omega arith))

-- ---- many

pub sample_at : (words : List ℤ) (i : ℕ) → get_or (samples_of words) i (pos 0) ≡ sample_of (get_or words i (pos 0))
unfolding sample_of
sample_at words i = get_or-map sample_of words i (pos 0)

pub samples_within : (words : List ℤ) → SamplesWithin sample_most (samples_of words)
samples_within words i l = rw (sample_at words i) (sample_within (get_or words i (pos 0)))

pub samples_length : (words : List ℤ) → length (samples_of words) ≡ length words
samples_length words = length-map words sample_of

pub samples_take : (n : ℕ) (words : List ℤ) → samples_of (take n words) ≡ take n (samples_of words)
samples_take zero words = refl
samples_take (suc n) [] = refl
samples_take (suc n) (z ∷ words) = ap (λ (l : List ℤ). sample_of z ∷ l) (samples_take n words)

pub samples_drop : (n : ℕ) (words : List ℤ) → samples_of (drop n words) ≡ drop n (samples_of words)
samples_drop zero words = refl
samples_drop (suc n) [] = refl
samples_drop (suc n) (z ∷ words) = samples_drop n words

pub samples_joined : (one other : List ℤ) → samples_of (one ++ other) ≡ samples_of one ++ samples_of other
samples_joined [] other = refl
samples_joined (z ∷ one) other = ap (λ (l : List ℤ). sample_of z ∷ l) (samples_joined one other)

pub samples_back : (samples : List ℤ) → SamplesWithin sample_most samples → samples_of (words_of samples) ≡ samples
samples_back [] h = refl
samples_back (z ∷ samples) h =
    ap₂ (λ (y : ℤ) (l : List ℤ). y ∷ l) (sample_back z (h 0 (omega arith))) (samples_back samples (within_tail z samples h))

-- as many as there are
pub all_samples : (n : ℕ) (words : List ℤ) → length words ≤ n → take n (samples_of words) ≡ samples_of words
all_samples n words h = take_all n (samples_of words) (rw (length-map words sample_of) h)

pub is_view : IsView
is_view = record {
  within = samples_within;
  as_many = samples_length;
  first = samples_take;
  rest = samples_drop;
  joined = samples_joined;
  written = samples_back;
}
