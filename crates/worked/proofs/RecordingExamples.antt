-- Recordings by computation: a small file byte by byte, and files that differ from it in one thing.
use Prim.Native.Nat.{ℕ, ◌-◌, ◌^◌}
use mathlib.Core.Path.{◌≡◌, refl}
use mathlib.Core.Option.{none, some}
use mathlib.Core.List.{List, [], ◌∷◌, ◌++◌}
use lib.ListN.{take, drop}
use Rattle.dstree.specs.Sheet.{bytes_of}
use Rattle.dstree.specs.Recording.{recording_of, recording, judge_recording}
use Rattle.dstree.proofs.Notation.{+, −}
use Rattle.dstree.proofs.Everything.{everything}

-- ---- the samples 1 and −1 at a rate of 8,000

abbrev small : List ℕ
small =
    82 ∷ 73 ∷ 70 ∷ 70 ∷ 40 ∷ 0 ∷ 0 ∷ 0 ∷ 87 ∷ 65 ∷ 86 ∷ 69 ∷ 102 ∷ 109 ∷ 116 ∷ 32 ∷ 16 ∷ 0 ∷ 0 ∷ 0 ∷ 1 ∷ 0 ∷ 1 ∷ 0
    ∷ 64 ∷ 31 ∷ 0 ∷ 0 ∷ 128 ∷ 62 ∷ 0 ∷ 0 ∷ 2 ∷ 0 ∷ 16 ∷ 0 ∷ 100 ∷ 97 ∷ 116 ∷ 97 ∷ 4 ∷ 0 ∷ 0 ∷ 0
    ∷ 1 ∷ 0 ∷ 255 ∷ 255 ∷ []

small_written : recording_of 8000 (+ 1 ∷ − 1 ∷ []) ≡ small
unfolding everything
small_written = refl

-- one trace of two samples, or two of one; two samples are no multiple of 3
small_of_2 : judge_recording 2 small ≡ some (recording 8000 ((+ 1 ∷ − 1 ∷ []) ∷ []))
unfolding everything
small_of_2 = refl

small_of_1 : judge_recording 1 small ≡ some (recording 8000 ((+ 1 ∷ []) ∷ (− 1 ∷ []) ∷ []))
unfolding everything
small_of_1 = refl

small_of_3 : judge_recording 3 small ≡ none
unfolding everything
small_of_3 = refl

-- ---- other files

-- RIFF's size; format, channels, rate, byte rate, block align and bits; the data size; what follows
abbrev file : ℕ → ℕ → ℕ → ℕ → ℕ → ℕ → ℕ → ℕ → List ℕ → List ℕ
file riff format channels rate byte_rate align bits size behind =
    take 4 small ++ bytes_of 4 riff ++ (87 ∷ 65 ∷ 86 ∷ 69 ∷ 102 ∷ 109 ∷ 116 ∷ 32 ∷ []) ++ bytes_of 4 16
    ++ bytes_of 2 format ++ bytes_of 2 channels ++ bytes_of 4 rate ++ bytes_of 4 byte_rate ++ bytes_of 2 align ++ bytes_of 2 bits
    ++ (100 ∷ 97 ∷ 116 ∷ 97 ∷ []) ++ bytes_of 4 size ++ behind

abbrev two : List ℕ
two = 1 ∷ 0 ∷ 255 ∷ 255 ∷ []

small_file : file 40 1 1 8000 16000 2 16 4 two ≡ small
unfolding everything
small_file = refl

-- LIST and a size of 0
abbrev chunk : List ℕ
chunk = 76 ∷ 73 ∷ 83 ∷ 84 ∷ 0 ∷ 0 ∷ 0 ∷ 0 ∷ []

-- refused for traces of one sample, of which any count is a multiple
abbrev Bad : List ℕ → Type 0
Bad bytes = judge_recording 1 bytes ≡ none

record BadFiles : Type 0 where
  -- "any other length": nothing, a header alone cut short, one byte less, one more
  nothing : Bad []
  cut_header : Bad (take 43 small)
  one_less : Bad (take 47 small)
  one_more : Bad (small ++ (0 ∷ []))
  -- "an odd size", all else agreeing
  odd_size : Bad (file 39 1 1 8000 16000 2 16 3 (1 ∷ 0 ∷ 255 ∷ []))
  -- a pad byte behind it
  padded : Bad (file 40 1 1 8000 16000 2 16 3 (1 ∷ 0 ∷ 255 ∷ 0 ∷ []))
  -- "any other form": 8 bits; two channels; another format; another byte rate; RIFF's size is the data's, or the file's
  eight_bits : Bad (file 40 1 1 8000 8000 1 8 4 two)
  stereo : Bad (file 40 1 2 8000 32000 4 16 4 two)
  other_format : Bad (file 40 3 1 8000 16000 2 16 4 two)
  byte_rate_lem : Bad (file 40 1 1 8000 8000 2 16 4 two)
  data_as_riff : Bad (file 4 1 1 8000 16000 2 16 4 two)
  file_as_riff : Bad (file 48 1 1 8000 16000 2 16 4 two)
  -- an empty chunk LIST behind the data, and before it
  chunk_behind : Bad (file 48 1 1 8000 16000 2 16 4 (two ++ chunk))
  chunk_before : Bad (take 36 (file 48 1 1 8000 16000 2 16 4 two) ++ chunk ++ drop 36 small)
  -- RIFX
  other_letters : Bad (82 ∷ 73 ∷ 70 ∷ 88 ∷ drop 4 small)
  -- "any rate below 2^31"; sizes are not taken modulo 2^32
  high_rate : Bad (file 40 1 1 (2 ^ 31) 0 2 16 4 two)
  high_size : Bad (file 0 1 1 8000 16000 2 16 (2 ^ 32 - 36) two)

bad_files : BadFiles
unfolding everything
bad_files = record {
  nothing = refl;
  cut_header = refl;
  one_less = refl;
  one_more = refl;
  odd_size = refl;
  padded = refl;
  eight_bits = refl;
  stereo = refl;
  other_format = refl;
  byte_rate_lem = refl;
  data_as_riff = refl;
  file_as_riff = refl;
  chunk_behind = refl;
  chunk_before = refl;
  other_letters = refl;
  high_rate = refl;
  high_size = refl;
}

-- ---- the ends

-- no sample: a recording of no trace, for every n
without_samples : judge_recording 3 (file 36 1 1 8000 16000 2 16 0 []) ≡ some (recording 8000 [])
unfolding everything
without_samples = refl

-- rates 0 and 2^31 − 1, and the least and greatest samples
lowest : judge_recording 1 (file 38 1 1 0 0 2 16 2 (0 ∷ 128 ∷ [])) ≡ some (recording 0 ((− 32768 ∷ []) ∷ []))
unfolding everything
lowest = refl

highest : judge_recording 1 (file 38 1 1 (2 ^ 31 - 1) (2 ^ 32 - 2) 2 16 2 (255 ∷ 127 ∷ []))
    ≡ some (recording (2 ^ 31 - 1) ((+ 32767 ∷ []) ∷ []))
unfolding everything
highest = refl
