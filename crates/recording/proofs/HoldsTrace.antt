-- The traces of a sound file: how many there are, and where their bytes stand.
use Prim.Native.Nat.{ℕ, suc, ◌+◌, ◌*◌, ◌/◌, ◌≤◌}
use mathlib.Core.Path.{◌≡◌, sym, ap, ap₂, ◌∙◌, subst}
use mathlib.Core.List.{List, [], map}
use native.Mathlib.Omega.{arith}
use native.Mathlib.Nat.{suc-mul, mul-le-mul_right, div-add-mod}
use lib.ListN.{length, get_or, take, drop}
use lib.Seq.{drop-drop}
use Rattle.dstree.specs.Sheet.{narrow, part, pieces, decoded}
use Rattle.dstree.specs.Recording.{header_size, size_in, recorded_traces}
use Rattle.dstree.proofs.SheetPieces.{pieces_length}
use Rattle.dstree.proofs.Recordings.{SoundFile, passed_sound}
use Rattle.sheet.specs.Codes.{samples_in}
use Rattle.sheet.proofs.SamplesIn.{samples_first, trace_at}
use Rattle.recording.specs.HoldsTrace.{HoldsTrace}

pub traces_count : (n : ℕ) (bytes : List ℕ) → length (recorded_traces n bytes) ≡ size_in bytes / 2 / n
unfolding recorded_traces
traces_count n bytes =
    pieces_length n (size_in bytes / 2 / n) (map (decoded narrow) (pieces narrow.sample_bytes (size_in bytes / 2) (drop header_size bytes)))

module _ (n : ℕ) (bytes : List ℕ) (number : ℕ) (h : HoldsTrace n bytes number) where
  abbrev samples : ℕ
  samples = size_in bytes / 2

  abbrev count : ℕ
  count = samples / n

  numbered : suc number ≤ count
  numbered = subst (λ (k : ℕ). suc number ≤ k) (traces_count n bytes) h.numbered

  all_cut : count * n ≤ samples
  all_cut = omega (arith, div-add-mod samples n)

  abbrev pub first_byte : ℕ
  first_byte = header_size + 2 * (number * n)

  -- its bytes are in the file
  pub inside : first_byte + 2 * n ≤ length bytes
  inside =
      let s : SoundFile n bytes = passed_sound n bytes h.sound in
      omega (arith, suc-mul number n, mul-le-mul_right n numbered, all_cut, s.long)

  -- and say its samples
  pub trace_is : samples_in narrow n (part first_byte (2 * n) bytes) ≡ get_or (recorded_traces n bytes) number []
  unfolding recorded_traces
  trace_is =
      let data_bytes = drop header_size bytes in
      let from : header_size + number * n * 2 ≡ first_byte = omega arith in
      let long : n * 2 ≡ 2 * n = omega arith in
      sym (trace_at narrow n count samples number data_bytes numbered all_cut
      ∙ samples_first narrow n (drop (number * n * 2) data_bytes)
      ∙ ap (λ (l : List ℕ). samples_in narrow n (take (n * 2) l)) (drop-drop (number * n * 2) header_size bytes)
      ∙ ap₂ (λ (a k : ℕ). samples_in narrow n (part a k bytes)) from long)
