-- The samples of a sheet against a limit: of all traces at once; and that a narrow sheet has none outside the limits.
use Prim.Native.Nat.{ℕ, ◌*◌}
use mathlib.Core.Path.{◌≡◌, refl, sym, ◌∙◌, ap}
use mathlib.Core.Bool.{false, not}
use mathlib.Core.Option.{none}
use mathlib.Core.List.{List}
use native.Mathlib.Omega.{arith}
use native.Mathlib.Nat.{le_of_eq}
use lib.Dec.{T}
use lib.ListN.{drop}
use Rattle.integer.specs.Words.{every}
use Rattle.integer.proofs.Tests.{test_true}
use Rattle.integer.proofs.Lists.{all_mono}
use Rattle.dstree.specs.Measures.{Trace, sample_limit, are_within}
use Rattle.dstree.specs.Labels.{Label}
use Rattle.dstree.specs.Refusals.{first_of}
use Rattle.dstree.specs.Sheet.{Format, narrow, narrow_limit, are_bytes, pieces, blocks_in, measures_in, sample_blocks_in, label_blocks_in, sample_bytes_in}
use Rattle.dstree.specs.Sheet.{traces_in_blocks, labels_in_blocks, conditions_as, holds, judged_by, library_in, judge_as}
use Rattle.dstree.specs.SheetWidths.{all_narrow, traces_held, range_conditions}
use Rattle.dstree.proofs.Libraries.{library_of}
use Rattle.dstree.proofs.RoundTrips.{is_library_as}
use Rattle.dstree.proofs.SheetFormat.{narrow_sound}
use Rattle.dstree.proofs.SheetPieces.{flatten_all}
use Rattle.dstree.proofs.SheetWidths.{all_within, in_range_lem}
use Rattle.sheet_blocks.specs.Blocks.{InBlocks, block_at, later_blocks}
use Rattle.sheet_blocks.specs.Traces.{size_of, count_of, samples_from}
use Rattle.sheet.specs.Codes.{samples_in}
use Rattle.sheet.proofs.SamplesIn.{samples_length}
use Rattle.sheet.proofs.Within.{within_flatten}
use Rattle.sheet_blocks.proofs.Places.{blocks_are}
use Rattle.sheet_judging.proofs.Samples.{good_as, held_are}

-- ---- trace by trace, and all at once

module _ (limit : ℕ) where
  pub held_within : (f : Format) (bytes : List ℕ) → InBlocks bytes
      → every (are_within limit) (traces_held f (blocks_in bytes)) ≡ are_within limit (samples_from f bytes 0 (count_of bytes * size_of bytes))
  unfolding traces_in_blocks samples_in
  held_within f bytes whole =
      let all : ℕ = count_of bytes * size_of bytes in
      let taken : List ℕ = sample_bytes_in f (sample_blocks_in (later_blocks bytes 1)) in
      let none : 0 * f.sample_bytes ≡ 0 = omega arith in
      ap (every (are_within limit)) (held_are f bytes whole)
      ∙ within_flatten limit (pieces (size_of bytes) (count_of bytes) (samples_in f all taken))
      ∙ ap (are_within limit) (flatten_all (size_of bytes) (count_of bytes) (samples_in f all taken) (le_of_eq (samples_length f all taken)))
      ∙ ap (λ (k : ℕ). are_within limit (samples_in f all (drop k taken))) (sym none)

-- ---- a narrow sheet

module _ (bytes : List ℕ) (known : T (are_bytes bytes)) (e : first_of (conditions_as narrow bytes) ≡ none) where
  abbrev traces : List Trace
  traces = traces_in_blocks narrow (count_of bytes) (size_of bytes) (sample_blocks_in (later_blocks bytes 1))

  abbrev labels : List Label
  labels = labels_in_blocks (count_of bytes) (label_blocks_in (later_blocks bytes 1))

  judged : judge_as narrow bytes ≡ holds (measures_in (block_at bytes 0)) traces labels
  unfolding judge_as judged_by library_in
  judged = rw (e, blocks_are bytes (good_as narrow bytes e).whole) refl

  pub narrow_fits : first_of (range_conditions false (traces_held narrow (blocks_in bytes))) ≡ none
  unfolding all_narrow sample_limit
  narrow_fits =
      let l = library_of narrow_limit (measures_in (block_at bytes 0)) traces
      (is_library_as narrow narrow_limit narrow_sound bytes (measures_in (block_at bytes 0)) traces labels known judged) in
      let fits = test_true (every (are_within narrow_limit) traces) (all_within narrow_limit l.small) in
      ap (λ (xs : List Trace). first_of (range_conditions false xs)) (held_are narrow bytes (good_as narrow bytes e).whole)
      ∙ in_range_lem false traces (ap not fits) (all_within sample_limit (all_mono (λ x s. all_mono (λ z p. omega (arith, p)) s) l.small))
