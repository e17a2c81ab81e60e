-- Document 02, §9: how a sample of 20 bits lies in the samples table. It is a word of 32 bits, left-justified, as converters deliver it.
use Rattle.std.specs.Prelude.{ℕ, ◌/◌, ◌%◌, ◌≡◌, List, map, ◌++◌, ℤ, pos, negsuc, ◌*ℤ◌, length, take, drop}
use Rattle.segment.specs.Limits.{sample_most, SamplesWithin}

-- twelve bits lie below the sample
abbrev pub word_scale : ℕ
word_scale = 4096

-- the sample of a word: a 4,096th of it, rounded down. The low twelve bits say nothing. A word has 32 bits; of a greater number only the
-- places that a word has count, so that every number stands for a sample
unfoldable pub sample_of : ℤ → ℤ
sample_of (pos v) = pos (v / word_scale % sample_most)
sample_of (negsuc v) = negsuc (v / word_scale % sample_most)

-- the word that is written for a sample: low bits zero
unfoldable pub word_of : ℤ → ℤ
word_of sample = sample *ℤ pos word_scale

abbrev pub samples_of : List ℤ → List ℤ
samples_of words = map sample_of words

abbrev pub words_of : List ℤ → List ℤ
words_of samples = map word_of samples

-- what is claimed of them: words stand for samples within the limits, one each, whatever they are; part by part; and samples within the
-- limits come back from the words that are written for them
pub record IsView : Type 0 where
  pub within : (words : List ℤ) → SamplesWithin sample_most (samples_of words)
  pub as_many : (words : List ℤ) → length (samples_of words) ≡ length words
  pub first : (n : ℕ) (words : List ℤ) → samples_of (take n words) ≡ take n (samples_of words)
  pub rest : (n : ℕ) (words : List ℤ) → samples_of (drop n words) ≡ drop n (samples_of words)
  pub joined : (one other : List ℤ) → samples_of (one ++ other) ≡ samples_of one ++ samples_of other
  pub written : (samples : List ℤ) → SamplesWithin sample_most samples → samples_of (words_of samples) ≡ samples
