-- Document 02, §2, without memory: what export writes is judged sound, and a sound file is what export writes.
use Rattle.std.specs.Prelude.{if◌then◌else◌}
use Prim.Native.Nat.{ℕ, ◌+◌, ◌*◌, ◌/◌, ◌%◌, ◌^◌, ◌≤◌, ◌<◌}
use mathlib.Core.Path.{◌≡◌, refl, sym, ◌∙◌, ap, subst}
use mathlib.Core.Bool.{Bool, true, false}
use mathlib.Core.Option.{Option, none, some}
use mathlib.Core.List.{List, [], ◌∷◌, ◌++◌, map, flatten, append_assoc, append-nil}
use native.Mathlib.Omega.{arith}
use native.Mathlib.Nat.{le_of_eq, div-add-mod, mul-div_cancel, mul-mod_left}
use lib.ListN.{length, take, drop, length-append, length-map, length-drop, take-append-drop}
use lib.Seq.{take_at, drop_at, drop-drop, length-take-le}
use lib.IntN.{ℤ}
use lib.Dec.{T, ltb, eqb, eqb→eq, lt→ltb, ltb→lt}
use mir.Facts.{and_yes, yes_and}
use Rattle.integer.specs.Words.{every}
use Rattle.integer.proofs.Tests.{passed, passes, eq→eqb, is_true, test_true}
use Rattle.integer.proofs.Lists.{All, all_none, all_more, all_take, all_drop, all_flatten, all_mono, every_all}
use Rattle.dstree.specs.Measures.{Trace, sample_limit, most_samples, is_trace}
use Rattle.dstree.specs.Sheet.{are_bytes, bytes_of, number_in, part, pieces, narrow, narrow_limit, coded, coded_all, decoded}
use Rattle.dstree.specs.Recording.{Field, number, word, letters_riff, letters_wave, letters_fmt, letters_data, header, header_size}
use Rattle.dstree.specs.Recording.{rate_limit, size_limit, field_bytes, recording_of, rate_in, size_in, begins, is_recording}
use Rattle.dstree.specs.Recording.{Recording, recording, recorded_traces, judge_recording, file_traces, RecordingClaims}
use Rattle.dstree.proofs.Limits.{trace_length}
use Rattle.dstree.proofs.Libraries.{AllWithinLimit, trace_small, traces_are, traces_wider}
use Rattle.dstree.proofs.SheetPieces.{AllOfSize, part_length, pieces_length, pieces_sized, pieces_all, pieces_flatten}
use Rattle.dstree.proofs.SheetPieces.{flatten_length, flatten_all}
use Rattle.dstree.proofs.SheetFields.{Bytes, bytes_of_lem, bytes_length, number_bytes, number_below, said, coded_sized, codes_length}
use Rattle.dstree.proofs.SheetFields.{coded_all_lem, decoded_all, decoded_all_fit}
use Rattle.dstree.proofs.SheetFormat.{narrow_sound}

-- ---- fields

-- how many bytes fields take
unfoldable widths : List Field → ℕ
widths [] = 0
widths (f ∷ rest) = f.width + widths rest

-- the bytes of a field say its number
abbrev Says : Field → Type 0
Says f = f.value < 256 ^ f.width

fields_length : (fs : List Field) → length (field_bytes fs) ≡ widths fs
unfolding field_bytes widths
fields_length [] = refl
fields_length (f ∷ rest) =
    length-append (bytes_of f.width f.value) (field_bytes rest) ∙ rw (bytes_length f.width f.value, fields_length rest) refl

-- what begins with the bytes of fields begins with the fields
fields_begin : {fs : List Field} → All Says fs → (behind : List ℕ) → T (begins fs (field_bytes fs ++ behind))
unfolding field_bytes begins
fields_begin all_none behind = tt
fields_begin (all_more {a = f} {rest} h hs) behind =
    let here = bytes_of f.width f.value in
    let later = field_bytes rest ++ behind in
    let l = bytes_length f.width f.value in
    rw (append_assoc here (field_bytes rest) behind, take_at here later f.width l, drop_at here later f.width l)
    (yes_and (eqb (number_in here) f.value) (begins rest later) (eq→eqb (number_bytes f.width f.value h)) (fields_begin hs behind))

-- and bytes that begin with fields begin with the fields' bytes
begin_fields : (fs : List Field) (bytes : List ℕ) → Bytes bytes → widths fs ≤ length bytes → T (begins fs bytes)
    → field_bytes fs ++ drop (widths fs) bytes ≡ bytes
unfolding field_bytes begins widths
begin_fields [] bytes h l t = refl
begin_fields (f ∷ rest) bytes h l t =
    let w = f.width in
    let both = and_yes (eqb (number_in (take w bytes)) f.value) (begins rest (drop w bytes)) t in
    let number_is = eqb→eq (number_in (take w bytes)) f.value both.0 in
    let here = said w f.value (take w bytes) (length-take-le w bytes (omega arith)) (all_take w h) number_is in
    let later = begin_fields rest (drop w bytes) (all_drop w h) (rw (length-drop w bytes) (omega arith)) both.1 in
    append_assoc (bytes_of w f.value) (field_bytes rest) (drop (w + widths rest) bytes)
    ∙ ap (λ (l : List ℕ). bytes_of w f.value ++ (field_bytes rest ++ l)) (sym (drop-drop (widths rest) w bytes))
    ∙ ap (λ (l : List ℕ). bytes_of w f.value ++ l) later ∙ ap (λ (l : List ℕ). l ++ drop w bytes) here ∙ take-append-drop w bytes

-- ---- the header

header_widths : (rate size : ℕ) → widths (header rate size) ≡ header_size
unfolding header widths
header_widths rate size = refl

pub header_length : (rate size : ℕ) → length (field_bytes (header rate size)) ≡ header_size
header_length rate size = fields_length (header rate size) ∙ header_widths rate size

-- "Export .. answers its bytes' number"
pub recording_length : (rate : ℕ) (samples : List ℤ) → length (recording_of rate samples) ≡ header_size + 2 * length samples
unfolding recording_of
recording_length rate samples =
    length-append (field_bytes (header rate (2 * length samples))) (coded_all narrow samples)
    ∙ rw (header_length rate (2 * length samples), codes_length narrow samples) (omega arith)

says : (w v : ℕ) {rest : List Field} → v < 256 ^ w → All Says rest → All Says (number w v ∷ rest)
says w v h hs = all_more {a = number w v} h hs

says_word : (letters : List ℕ) {rest : List Field} → T (are_bytes letters) → All Says rest → All Says (word letters ∷ rest)
says_word letters t hs = all_more {a = word letters} (number_below (bytes_of_lem letters t)) hs

-- a header's numbers fit their fields
says_all : (rate size : ℕ) → rate < rate_limit → 36 + size < size_limit → All Says (header rate size)
unfolding header are_bytes every
says_all rate size h k =
    says_word letters_riff tt (says 4 (36 + size) k (says_word letters_wave tt (says_word letters_fmt tt (says 4 16 (omega arith)
    (says 2 1 (omega arith) (says 2 1 (omega arith) (says 4 rate (omega arith) (says 4 (2 * rate) (omega arith) (says 2 2 (omega arith)
    (says 2 16 (omega arith) (says_word letters_data tt (says 4 size (omega arith) all_none))))))))))))

module _ (rate size : ℕ) (behind : List ℕ) where
  rate_is : rate < rate_limit → rate_in (field_bytes (header rate size) ++ behind) ≡ rate
  unfolding rate_in header field_bytes bytes_of
  rate_is h = number_bytes 4 rate (omega arith)

  size_is : size < size_limit → size_in (field_bytes (header rate size) ++ behind) ≡ size
  unfolding size_in header field_bytes bytes_of
  size_is h = number_bytes 4 size (omega arith)

  behind_is : drop header_size (field_bytes (header rate size) ++ behind) ≡ behind
  behind_is = drop_at (field_bytes (header rate size)) behind header_size (header_length rate size)

-- ---- a sound file

-- all tests pass
pub record SoundFile (n : ℕ) (bytes : List ℕ) : Type 0 where
  pub long : length bytes ≡ header_size + size_in bytes
  pub formed : T (begins (header (rate_in bytes) (size_in bytes)) bytes)
  pub low : rate_in bytes < rate_limit
  pub even : size_in bytes % 2 ≡ 0
  pub multiple : size_in bytes / 2 % n ≡ 0

module _ (n : ℕ) (bytes : List ℕ) where
  abbrev tests : List Bool
  tests =
      begins (header (rate_in bytes) (size_in bytes)) bytes ∷ ltb (rate_in bytes) rate_limit ∷ eqb (size_in bytes % 2) 0
      ∷ eqb (size_in bytes / 2 % n) 0 ∷ []

  sound_passes : SoundFile n bytes → T (is_recording n bytes)
  unfolding is_recording
  sound_passes s =
      passes (eqb (length bytes) (header_size + size_in bytes)) tests
      (eq→eqb s.long, (s.formed, (lt→ltb (rate_in bytes) rate_limit s.low, (eq→eqb s.even, eq→eqb s.multiple))))

  pub passed_sound : T (is_recording n bytes) → SoundFile n bytes
  unfolding is_recording
  passed_sound t =
      let all = passed (eqb (length bytes) (header_size + size_in bytes)) tests t in
      record {
        long = eqb→eq (length bytes) (header_size + size_in bytes) all.0;
        formed = all.1.0;
        low = ltb→lt (rate_in bytes) rate_limit all.1.1.0;
        even = eqb→eq (size_in bytes % 2) 0 all.1.1.1.0;
        multiple = eqb→eq (size_in bytes / 2 % n) 0 all.1.1.1.1;
      }

  abbrev recorded : Recording
  recorded = recording (rate_in bytes) (recorded_traces n bytes)

  judged_sound : SoundFile n bytes → judge_recording n bytes ≡ some recorded
  unfolding judge_recording
  judged_sound s = rw (test_true (is_recording n bytes) (sound_passes s)) refl

  by_test : (b : Bool) (r : Recording) → is_recording n bytes ≡ b → (if b then some recorded else none) ≡ some r
      → SoundFile n bytes × (recorded ≡ r)
  by_test true r t e = (passed_sound (is_true t), ap (λ (o : Option Recording). elim o [ none ↦ recorded | some x ↦ x ]) e)
  by_test false r t e = let z : ◌≡◌ {A = ℕ} 0 1 = cc in absurd (omega arith)

  sound_judged : (r : Recording) → judge_recording n bytes ≡ some r → SoundFile n bytes × (recorded ≡ r)
  unfolding judge_recording
  sound_judged r e = by_test (is_recording n bytes) r refl e

-- ---- what is written is sound

half : (a : ℕ) → 2 * a / 2 ≡ a
half a = omega arith

even_double : (a : ℕ) → 2 * a % 2 ≡ 0
even_double a = omega arith

module _ (n rate : ℕ) (traces : List Trace) (some_sample : 0 < n) (low : rate < rate_limit) (sized : AllOfSize n traces)
    (small : All (AllWithinLimit narrow_limit) traces) (fits : 36 + 2 * length (flatten traces) < size_limit) where
  abbrev samples : List ℤ
  samples = flatten traces

  abbrev size : ℕ
  size = 2 * length samples

  abbrev front : List ℕ
  front = field_bytes (header rate size)

  abbrev behind : List ℕ
  behind = coded_all narrow samples

  abbrev written : List ℕ
  written = front ++ behind

  count : length samples ≡ length traces * n
  count = flatten_length n sized

  rate_said : rate_in written ≡ rate
  rate_said = rate_is rate size behind low

  size_said : size_in written ≡ size
  size_said = size_is rate size behind (omega arith)

  written_sound : SoundFile n written
  unfolding recording_of
  written_sound = record {
    long = rw size_said (recording_length rate samples);
    formed = rw (rate_said, size_said) (fields_begin (says_all rate size low fits) behind);
    low = rw rate_said low;
    even = rw size_said (even_double (length samples));
    multiple = rw (size_said, half (length samples), count) (mul-mod_left (length traces) n);
  }

  traces_back : recorded_traces n written ≡ traces
  unfolding recorded_traces
  traces_back =
      rw (size_said, half (length samples), behind_is rate size behind)
      (ap (pieces n (length samples / n)) samples_back
      ∙ ap (λ (k : ℕ). pieces n k samples) (ap (λ (k : ℕ). k / n) count ∙ mul-div_cancel (length traces) some_sample)
      ∙ pieces_flatten n sized)
    where
      cells : pieces 2 (length samples) behind ≡ map (coded narrow) samples
      cells =
          ap (λ (k : ℕ). pieces 2 k behind) (sym (length-map samples (coded narrow))) ∙ pieces_flatten 2 (coded_sized narrow samples)

      samples_back : map (decoded narrow) (pieces 2 (length samples) behind) ≡ samples
      samples_back = ap (map (decoded narrow)) cells ∙ decoded_all narrow narrow_limit narrow_sound.halves (all_flatten small)

  written_back : judge_recording n (recording_of rate samples) ≡ some (recording rate traces)
  unfolding recording_of
  written_back = judged_sound n written written_sound ∙ rw (rate_said, traces_back) refl

-- ---- a sound file is written so

module _ (n : ℕ) (bytes : List ℕ) (h : Bytes bytes) (s : SoundFile n bytes) where
  abbrev samples_in : ℕ
  samples_in = size_in bytes / 2

  abbrev data_in : List ℕ
  data_in = drop header_size bytes

  twice : 2 * samples_in ≡ size_in bytes
  twice = omega (arith, s.even)

  data_length : length data_in ≡ samples_in * 2
  data_length = length-drop header_size bytes ∙ omega (arith, s.long, twice)

  abbrev cells : List (List ℕ)
  cells = pieces 2 samples_in data_in

  cells_sized : AllOfSize 2 cells
  cells_sized = pieces_sized 2 samples_in data_in (le_of_eq (sym data_length))

  cells_bytes : All Bytes cells
  cells_bytes = pieces_all 2 samples_in (all_drop header_size h)

  abbrev ys : List ℤ
  ys = map (decoded narrow) cells

  ys_count : length ys ≡ samples_in
  ys_count = length-map cells (decoded narrow) ∙ pieces_length 2 samples_in data_in

  ys_whole : samples_in / n * n ≡ length ys
  ys_whole = omega (arith, div-add-mod samples_in n, s.multiple, ys_count)

  traces_of : recorded_traces n bytes ≡ pieces n (samples_in / n) ys
  unfolding recorded_traces
  traces_of = refl

  flat : flatten (recorded_traces n bytes) ≡ ys
  flat = ap flatten traces_of ∙ flatten_all n (samples_in / n) ys (le_of_eq (sym ys_whole))

  data_back : coded_all narrow ys ≡ data_in
  data_back =
      ap flatten (coded_all_lem narrow narrow_limit narrow_sound.halves cells_sized cells_bytes)
      ∙ flatten_all 2 samples_in data_in (le_of_eq data_length)

  abbrev fields : List Field
  fields = header (rate_in bytes) (size_in bytes)

  front_back : field_bytes fields ++ data_in ≡ bytes
  front_back =
      let w = header_widths (rate_in bytes) (size_in bytes) in
      subst (λ (w : ℕ). field_bytes fields ++ drop w bytes ≡ bytes) w (begin_fields fields bytes h (omega (arith, s.long, w)) s.formed)

  file_back : recording_of (rate_in bytes) (flatten (recorded_traces n bytes)) ≡ bytes
  unfolding recording_of
  file_back = rw (flat, ys_count, twice, data_back) front_back

  -- the size of RIFF, at its place
  riff_said : number_in (part 4 4 bytes) ≡ 36 + size_in bytes
  unfolding begins header
  riff_said =
      let behind = (and_yes (eqb (number_in (take 4 bytes)) (number_in letters_riff)) (begins (drop 1 fields) (drop 4 bytes)) s.formed).1 in
      let here = (and_yes (eqb (number_in (part 4 4 bytes)) (36 + size_in bytes)) (begins (drop 2 fields) (drop 4 (drop 4 bytes))) behind).0 in
      eqb→eq (number_in (part 4 4 bytes)) (36 + size_in bytes) here

  size_fits : 36 + 2 * length (flatten (recorded_traces n bytes)) < size_limit
  size_fits =
      let four : length (part 4 4 bytes) ≡ 4 = part_length 4 4 bytes (omega (arith, s.long)) in
      let below : number_in (part 4 4 bytes) < 256 ^ 4 =
      subst (λ (k : ℕ). number_in (part 4 4 bytes) < 256 ^ k) four (number_below (all_take 4 (all_drop 4 h))) in
      rw (flat, ys_count, twice, ← riff_said) below

  -- what it holds are traces of n samples
  traces_sound : T (every (is_trace narrow_limit n) (recorded_traces n bytes))
  traces_sound =
      rw traces_of (traces_are narrow_limit n (pieces_sized n (samples_in / n) ys (le_of_eq ys_whole))
      (pieces_all n (samples_in / n) (decoded_all_fit narrow narrow_limit narrow_sound.halves cells_sized cells_bytes)))

-- ---- all together

module _ (n : ℕ) where
  -- "Export writes one stored trace so": one trace is a list of traces
  one_back : 0 < n → n ≤ most_samples → (rate : ℕ) (trace : Trace) → rate < rate_limit → T (is_trace narrow_limit n trace)
      → judge_recording n (recording_of rate trace) ≡ some (recording rate (trace ∷ []))
  unfolding flatten
  one_back some_sample most rate trace low t =
      let one : flatten (trace ∷ []) ≡ trace = append-nil trace in
      let long = trace_length narrow_limit n trace t in
      ap (λ (samples : List ℤ). judge_recording n (recording_of rate samples)) (sym one)
      ∙ written_back n rate (trace ∷ []) some_sample low (all_more {a = trace} long all_none)
      (all_more {a = trace} (trace_small narrow_limit n trace t) all_none) (rw one (omega arith))

  module _ (bytes : List ℕ) (r : Recording) (t : T (are_bytes bytes)) (e : judge_recording n bytes ≡ some r) where
    -- "its header in WAV's usual 44 bytes .. then exactly that many bytes": a file of no other form is taken
    again : recording_of r.rate (flatten r.traces) ≡ bytes
    again =
        let both = sound_judged n bytes r e in
        subst (λ (x : Recording). recording_of x.rate (flatten x.traces) ≡ bytes) both.1
        (file_back n bytes (bytes_of_lem bytes t) both.0)

    its_numbers : (r.rate < rate_limit) × (36 + 2 * length (flatten r.traces) < size_limit)
    its_numbers =
        let both = sound_judged n bytes r e in
        subst (λ (x : Recording). (x.rate < rate_limit) × (36 + 2 * length (flatten x.traces) < size_limit)) both.1
        (both.0.low, size_fits n bytes (bytes_of_lem bytes t) both.0)

    its_traces : T (every (is_trace narrow_limit n) r.traces)
    its_traces =
        let both = sound_judged n bytes r e in
        subst (λ (x : Recording). T (every (is_trace narrow_limit n) x.traces)) both.1
        (traces_sound n bytes (bytes_of_lem bytes t) both.0)

-- a bad recording has no trace, and what a sound one has are traces
pub file_traces_lem : (n : ℕ) (bytes : List ℕ) → T (are_bytes bytes) → T (every (is_trace sample_limit n) (file_traces (judge_recording n bytes)))
unfolding sample_limit file_traces every
file_traces_lem n bytes t = by (judge_recording n bytes) refl
  where
    by : (file : Option Recording) → judge_recording n bytes ≡ file → T (every (is_trace sample_limit n) (file_traces file))
    by none e = tt
    by (some r) e = traces_wider narrow_limit sample_limit n r.traces (omega arith) (its_traces n bytes r t e)

-- document 02, §2, of files alone, for every n from 1 on
pub recording_claims : (n : ℕ) → 0 < n → RecordingClaims n
recording_claims n some_sample = record {
  read_back = λ rate traces low t fits.
      let each = every_all (is_trace narrow_limit n) traces t in
      let sized = all_mono (trace_length narrow_limit n) each in
      written_back n rate traces some_sample low sized (all_mono (trace_small narrow_limit n) each) fits;
  exported = λ rate trace low most t. one_back n some_sample most rate trace low t;
  fits = its_numbers n;
  are_traces = its_traces n;
  written_again = again n;
  one_file = λ a b r t u e f. sym (again n a r t e) ∙ again n b r u f;
}
