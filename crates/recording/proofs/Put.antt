-- How a file comes about: the header's sections one behind another, and the samples behind them.
use Prim.Native.Nat.{ℕ, ◌+◌, ◌*◌, ◌≤◌}
use mathlib.Core.Path.{◌≡◌, refl, sym, ap, ◌∙◌}
use mathlib.Core.List.{List, ◌++◌}
use native.Mathlib.Omega.{arith}
use lib.IntN.{ℤ}
use lib.ListN.{length, drop}
use lib.Seq.{sets, sets-eq}
use Rattle.dstree.specs.Sheet.{bytes_of, narrow, coded_all}
use Rattle.dstree.specs.Book.{over}
use Rattle.dstree.specs.Recording.{header, header_size, field_bytes, recording_of}
use Rattle.dstree.proofs.Recordings.{header_length, recording_length}
use Rattle.sheet.proofs.Laid.{sets_append}
use Rattle.recording.specs.Sections.{riff_fields, format_fields, rate_fields, data_fields, format_place, rate_place, data_place}

module _ (rate size : ℕ) (l : List ℕ) where
  pub sections_put : sets (sets (sets (sets l 0 (field_bytes (riff_fields size))) format_place (field_bytes format_fields)) rate_place (field_bytes (rate_fields rate)))
      data_place (field_bytes (data_fields size)) ≡ sets l 0 (field_bytes (header rate size))
  unfolding header field_bytes bytes_of
  sections_put = refl

module _ (rate : ℕ) (samples : List ℤ) (l : List ℕ) (room : header_size + 2 * length samples ≤ length l) where
  abbrev front : List ℕ
  front = field_bytes (header rate (2 * length samples))

  abbrev behind : List ℕ
  behind = coded_all narrow samples

  pub samples_put : sets (sets l 0 front) header_size behind ≡ over (recording_of rate samples) l
  unfolding recording_of
  samples_put =
      let long : header_size ≡ 0 + length front = omega (arith, header_length rate (2 * length samples)) in
      let whole : 0 + length (front ++ behind) ≡ length (front ++ behind) = omega arith in
      let fits : 0 + length (front ++ behind) ≤ length l = omega (arith, recording_length rate samples) in
      ap (λ (k : ℕ). sets (sets l 0 front) k behind) long
      ∙ sym (sets_append front behind l 0)
      ∙ sets-eq (front ++ behind) l 0 fits
      ∙ ap (λ (k : ℕ). (front ++ behind) ++ drop k l) whole
