-- Document 02, §2: recordings, WAV files with "its header in WAV's usual 44 bytes". A file is a list of bytes, as a sheet is; its header is
-- one table of fields, by which it is written and judged.
use Rattle.std.specs.Prelude.{ℕ, ◌+◌, ◌*◌, ◌/◌, ◌%◌, ◌^◌, ◌<◌, ◌≤◌, ◌≡◌, Bool, true, false, ◌&&◌, length, take, drop, ℤ, T, ltb, eqb, if◌then◌else◌}
use Rattle.std.proofs.Math.Option.{Option, none, some}
use mathlib.Core.List.{List, [], ◌∷◌, ◌++◌, map, flatten}
use Rattle.integer.specs.Words.{every}
use Rattle.dstree.specs.Measures.{Trace, most_samples, is_trace}
use Rattle.dstree.specs.Sheet.{are_bytes, bytes_of, number_in, part, pieces, narrow, narrow_limit, coded_all, decoded}

-- ---- the header

-- a field: how many bytes it takes, and the number that they say, "low byte first"
pub record Field : Type 0 where
  pub width : ℕ
  pub value : ℕ

abbrev pub number : ℕ → ℕ → Field
number width value = record { width = width; value = value }

-- "the letters", in ASCII
abbrev pub word : List ℕ → Field
word letters = number (length letters) (number_in letters)

abbrev pub letters_riff : List ℕ
letters_riff = 82 ∷ 73 ∷ 70 ∷ 70 ∷ []

abbrev pub letters_wave : List ℕ
letters_wave = 87 ∷ 65 ∷ 86 ∷ 69 ∷ []

-- "fmt ", the last a blank
abbrev pub letters_fmt : List ℕ
letters_fmt = 102 ∷ 109 ∷ 116 ∷ 32 ∷ []

abbrev pub letters_data : List ℕ
letters_data = 100 ∷ 97 ∷ 116 ∷ 97 ∷ []

-- the header of a recording with a rate and so many bytes of data
unfoldable pub header : ℕ → ℕ → List Field
header rate size =
    -- "the letters RIFF, a size 36 above the data size, WAVE"
    word letters_riff
    ∷ number 4 (36 + size)
    ∷ word letters_wave
    -- "fmt " and "of 16 bytes"
    ∷ word letters_fmt
    ∷ number 4 16
    -- "format 1, one channel"
    ∷ number 2 1
    ∷ number 2 1
    -- "any rate below 2^31, byte rate twice the rate"
    ∷ number 4 rate
    ∷ number 4 (2 * rate)
    -- "block align 2, 16 bits"
    ∷ number 2 2
    ∷ number 2 16
    -- "data" and "the data size"
    ∷ word letters_data
    ∷ number 4 size
    ∷ []

-- "44 bytes"
abbrev pub header_size : ℕ
header_size = 44

-- "any rate below 2^31"
abbrev pub rate_limit : ℕ
rate_limit = 2 ^ 31

-- four bytes say sizes below this
abbrev pub size_limit : ℕ
size_limit = 2 ^ 32

-- ---- writing

-- the bytes of some fields, one behind another
unfoldable pub field_bytes : List Field → List ℕ
field_bytes [] = []
field_bytes (f ∷ rest) = bytes_of f.width f.value ++ field_bytes rest

-- the recording of some samples, "16 bits" each, at a rate
unfoldable pub recording_of : ℕ → List ℤ → List ℕ
recording_of rate samples = field_bytes (header rate (2 * length samples)) ++ coded_all narrow samples

-- .. and its bytes' number
abbrev pub recording_size : ℕ → ℕ
recording_size samples = header_size + 2 * samples

-- ---- judging: what a file of any bytes says

-- its rate and its data size, at their places in the header
unfoldable pub rate_in : List ℕ → ℕ
rate_in bytes = number_in (part 24 4 bytes)

unfoldable pub size_in : List ℕ → ℕ
size_in bytes = number_in (part 40 4 bytes)

-- the bytes begin with some fields. Numbers are compared, so that none is taken modulo 2^32
unfoldable pub begins : List Field → List ℕ → Bool
begins [] bytes = true
begins (f ∷ rest) bytes = eqb (number_in (take f.width bytes)) f.value && begins rest (drop f.width bytes)

-- a file that is not "of any other form or length, an odd size, a sample count not a multiple of n"
unfoldable pub is_recording : ℕ → List ℕ → Bool
is_recording n bytes =
    let rate = rate_in bytes in
    let size = size_in bytes in
    -- "then exactly that many bytes"
    eqb (length bytes) (header_size + size)
    && begins (header rate size) bytes
    && ltb rate rate_limit
    && eqb (size % 2) 0
    && eqb (size / 2 % n) 0

-- what a recording holds
pub record Recording : Type 0 where
  pub rate : ℕ
  pub traces : List Trace

abbrev pub recording : ℕ → List Trace → Recording
recording rate traces = record { rate = rate; traces = traces }

-- "The samples are cut into traces of n"
unfoldable pub recorded_traces : ℕ → List ℕ → List Trace
recorded_traces n bytes =
    let count = size_in bytes / 2 in
    pieces n (count / n) (map (decoded narrow) (pieces narrow.sample_bytes count (drop header_size bytes)))

-- a file for traces of n samples; none for a bad recording, document 02's 12
unfoldable pub judge_recording : ℕ → List ℕ → Option Recording
judge_recording n bytes = if is_recording n bytes then some (recording (rate_in bytes) (recorded_traces n bytes)) else none

-- the traces of a file; a bad recording has none
unfoldable pub file_traces : Option Recording → List Trace
file_traces none = []
file_traces (some r) = r.traces

unfoldable pub is_bad_file : Option Recording → Bool
is_bad_file none = true
is_bad_file (some r) = false

-- ---- what is promised, for traces of n samples

pub record RecordingClaims (n : ℕ) : Type 0 where
  -- what is written holds that rate and those traces. (Four bytes say a size below 2^32)
  pub read_back : (rate : ℕ) (traces : List Trace) → rate < rate_limit → T (every (is_trace narrow_limit n) traces)
      → 36 + 2 * length (flatten traces) < size_limit → judge_recording n (recording_of rate (flatten traces)) ≡ some (recording rate traces)
  -- "Export writes one stored trace so, at a rate the caller gives, 0 to 2^31 − 1"
  pub exported : (rate : ℕ) (trace : Trace) → rate < rate_limit → n ≤ most_samples → T (is_trace narrow_limit n trace)
      → judge_recording n (recording_of rate trace) ≡ some (recording rate (trace ∷ []))
  -- "any rate below 2^31"; sizes are whole numbers, and none is above what its four bytes say
  pub fits : (bytes : List ℕ) (r : Recording) → T (are_bytes bytes) → judge_recording n bytes ≡ some r
      → (r.rate < rate_limit) × (36 + 2 * length (flatten r.traces) < size_limit)
  -- what a file holds are traces of n samples
  pub are_traces : (bytes : List ℕ) (r : Recording) → T (are_bytes bytes) → judge_recording n bytes ≡ some r
      → T (every (is_trace narrow_limit n) r.traces)
  -- a file is the header for its rate and size and its samples: what it holds, written again, is that file
  pub written_again : (bytes : List ℕ) (r : Recording) → T (are_bytes bytes) → judge_recording n bytes ≡ some r
      → recording_of r.rate (flatten r.traces) ≡ bytes
  -- so that no two files hold the same
  pub one_file : (a b : List ℕ) (r : Recording) → T (are_bytes a) → T (are_bytes b) → judge_recording n a ≡ some r
      → judge_recording n b ≡ some r → a ≡ b
