-- The conditions of number 10, by their tests.
use Prim.Native.Nat.{ℕ, ◌*◌, ◌-◌}
use mathlib.Core.Path.{◌≡◌, refl, ◌∙◌, ap}
use mathlib.Core.Bool.{Bool, true, false, not, ◌&&◌, ◌||◌}
use mathlib.Core.Option.{none, some}
use mathlib.Core.List.{List, [], ◌∷◌}
use native.Mathlib.Omega.{arith}
use lib.ListN.{length, drop}
use lib.Dec.{ltb, eqb}
use borrow.Author.Tests.{eqb-true, ne_eqb, not-false}
use Rattle.integer.specs.Words.{same}
use Rattle.integer.proofs.Tests.{neither}
use Rattle.dstree.specs.Measures.{Measures, in_range}
use Rattle.dstree.specs.Labels.{are_zero_labels}
use Rattle.dstree.specs.Refusals.{bad_sheet, Condition, ◌refuses◌, first_of}
use Rattle.dstree.specs.Sheet.{block_size, part, letters, blocks_in, measures_in, count_in, sample_blocks_in, sample_blocks_needed, label_blocks_needed}
use Rattle.dstree.specs.Sheet.{labels_in_blocks, Format, are_zero, zeros_in, bad_conditions}
use Rattle.dstree.proofs.SheetPieces.{pieces_length}
use Rattle.dstree.proofs.SheetRead.{or_second}
use Rattle.sheet_blocks.specs.Blocks.{block_count, InBlocks, block_at, later_blocks, label_start, RightNumbers}
use Rattle.sheet_blocks.proofs.Places.{blocks_are, start_within, samples_between, labels_between}
use Rattle.sheet_judging.specs.LabelBlocks.{label_blocks, are_bad}
use Rattle.sheet_judging.proofs.Heads.{first_letters}

abbrev pub bad_by : Bool → Bool → Bool → Bool → Bool → Bool → List Condition
bad_by lettered measured above sampled labelled zeros =
    not lettered refuses bad_sheet
    ∷ not measured refuses bad_sheet
    ∷ above refuses bad_sheet
    ∷ not sampled refuses bad_sheet
    ∷ labelled refuses bad_sheet
    ∷ not zeros refuses bad_sheet
    ∷ []

-- two conditions with the same refusal are one
joined : (a b c d e f g : Bool)
    → first_of
    (a refuses bad_sheet ∷ b refuses bad_sheet ∷ c refuses bad_sheet ∷ d refuses bad_sheet ∷ e refuses bad_sheet ∷ f refuses bad_sheet ∷ g refuses bad_sheet ∷ [])
    ≡ first_of
    (a refuses bad_sheet ∷ b refuses bad_sheet ∷ c refuses bad_sheet ∷ d refuses bad_sheet ∷ (e || f) refuses bad_sheet ∷ g refuses bad_sheet ∷ [])
unfolding first_of
joined true b c d e f g = refl
joined false true c d e f g = refl
joined false false true d e f g = refl
joined false false false true e f g = refl
joined false false false false true f g = refl
joined false false false false false f g = refl

module _ (bytes : List ℕ) (whole : InBlocks bytes) where
  abbrev others : List (List ℕ)
  others = later_blocks bytes 1

  pub sample_blocks : length (sample_blocks_in others) ≡ label_start bytes - 1
  sample_blocks =
      ap (λ (l : List (List ℕ)). length l) (samples_between bytes whole)
      ∙ pieces_length block_size (label_start bytes - 1) (drop (1 * block_size) bytes)

  pub label_blocks_lem : length (label_blocks bytes) ≡ block_count bytes - label_start bytes
  label_blocks_lem =
      ap (λ (l : List (List ℕ)). length l) (labels_between bytes whole)
      ∙ pieces_length block_size (block_count bytes - label_start bytes) (drop (label_start bytes * block_size) bytes)

  -- where the numbers are not bad
  pub right_numbers : (f : Format) (count n : ℕ) → label_start bytes - 1 ≡ sample_blocks_needed f count n → are_bad count (label_blocks bytes) ≡ false
      → RightNumbers f bytes count n
  unfolding are_bad
  right_numbers f count n e g =
      let blocks : ℕ = length (label_blocks bytes) in
      let test : Bool = eqb blocks 0 || eqb blocks (label_blocks_needed count) in
      let zeros : Bool = not (eqb blocks 0) && are_zero_labels (labels_in_blocks count (label_blocks bytes)) in
      let either : test ≡ true = not-false test (neither (not test) zeros g).0 in
      let all : eqb blocks 0 ≡ false → blocks ≡ label_blocks_needed count =
      λ none. eqb-true blocks (label_blocks_needed count) (or_second (eqb blocks 0) (eqb blocks (label_blocks_needed count)) either none) in
      record {
        sampled = omega (arith, e);
        labelled = λ some. omega (
          arith,
          label_blocks_lem,
          start_within bytes whole,
          all (ne_eqb blocks 0 (λ z. some (omega (arith, z, label_blocks_lem, start_within bytes whole)))),
        );
      }

  -- each test, as code makes it of the sheet and of what block 0 says
  pub bad_are : (f : Format) (m : Measures) (count : ℕ) → measures_in (block_at bytes 0) ≡ m → count_in (block_at bytes 0) ≡ count
      → first_of (bad_conditions f (blocks_in bytes))
      ≡ first_of
      (bad_by (same (part 4 4 bytes) letters) (in_range m) (ltb m.capacity count)
      (eqb (label_start bytes - 1) (sample_blocks_needed f count m.n)) (are_bad count (label_blocks bytes))
      (are_zero (zeros_in f count m.n (block_at bytes 0) others)))
  unfolding bad_conditions are_bad
  bad_are f m count e g =
      rw (blocks_are bytes whole, e, g, first_letters bytes, sample_blocks)
      (joined (not (same (part 4 4 bytes) letters)) (not (in_range m)) (ltb m.capacity count)
      (not (eqb (label_start bytes - 1) (sample_blocks_needed f count m.n)))
      (not (eqb (length (label_blocks bytes)) 0 || eqb (length (label_blocks bytes)) (label_blocks_needed count)))
      (not (eqb (length (label_blocks bytes)) 0) && are_zero_labels (labels_in_blocks count (label_blocks bytes)))
      (not (are_zero (zeros_in f count m.n (block_at bytes 0) others))))

module _ (lettered measured above sampled labelled zeros : Bool) where
  pub bad_letters : lettered ≡ false → some bad_sheet ≡ first_of (bad_by lettered measured above sampled labelled zeros)
  unfolding first_of
  bad_letters a = rw a

  pub bad_measures : lettered ≡ true → measured ≡ false → some bad_sheet ≡ first_of (bad_by lettered measured above sampled labelled zeros)
  unfolding first_of
  bad_measures a b = rw (a, b)

  pub bad_count : lettered ≡ true → measured ≡ true → above ≡ true
      → some bad_sheet ≡ first_of (bad_by lettered measured above sampled labelled zeros)
  unfolding first_of
  bad_count a b c = rw (a, b, c)

  module _ (a : lettered ≡ true) (b : measured ≡ true) (c : above ≡ false) where
    pub bad_samples : sampled ≡ false → some bad_sheet ≡ first_of (bad_by lettered measured above sampled labelled zeros)
    unfolding first_of
    bad_samples d = rw (a, b, c, d)

    pub bad_labels : sampled ≡ true → labelled ≡ true → some bad_sheet ≡ first_of (bad_by lettered measured above sampled labelled zeros)
    unfolding first_of
    bad_labels d e = rw (a, b, c, d, e)

    pub bad_zeros : sampled ≡ true → labelled ≡ false → zeros ≡ false
        → some bad_sheet ≡ first_of (bad_by lettered measured above sampled labelled zeros)
    unfolding first_of
    bad_zeros d e f = rw (a, b, c, d, e, f)

    pub none_bad : sampled ≡ true → labelled ≡ false → zeros ≡ true → none ≡ first_of (bad_by lettered measured above sampled labelled zeros)
    unfolding first_of
    none_bad d e f = rw (a, b, c, d, e, f)
