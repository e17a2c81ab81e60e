-- `sheet_judging::contents::judge_contents` meets its contract: each return answers for one condition, the ones before it being false.
use mathlib.Core.Path.{◌≡◌, refl, sym, ap, ◌∙◌}
use mathlib.Core.Bool.{Bool, true, false}
use mathlib.Core.List.{List}
use mathlib.Core.Option.{none, some}
use Prim.Native.Nat.{ℕ, ◌*◌, ◌-◌, ◌≤◌, ◌<◌}
use native.Mathlib.Nat.{mul-le-mul}
use native.Mathlib.Omega.{arith}
use lib.Dec.{ltb, eqb}
use borrow.Author.Tests.{lt-ltb, le-ltb, eq-eqb, ne_eqb}
use Rattle.integer.specs.Words.{same}
use Rattle.dstree.specs.Measures.{Measures, measures, in_range}
use Rattle.dstree.specs.Refusals.{bad_sheet, first_of}
use Rattle.dstree.specs.Sheet.{Format, part, letters, blocks_in, measures_in, count_in, sample_blocks_needed, are_zero, zeros_in, bad_conditions}
use Rattle.tables.specs.Answers.{word_of, found_by}
use Rattle.tables.specs.Judge.{InRange}
use Rattle.tables.proofs.Range.{in_range_lem}
use Rattle.sheet.specs.Formats.{format_by}
use Rattle.sheet_blocks.specs.Blocks.{InBlocks, block_at, later_blocks, label_start}
use Rattle.sheet_blocks.proofs.Places.{blocks, first_inside}
use Rattle.sheet_judging.proofs.Bad.{bad_by, bad_are, bad_letters, bad_measures, bad_count, bad_samples, bad_labels, bad_zeros, none_bad, right_numbers}
use Rattle.sheet_judging.specs.HeadBlock.{HeadSays}
use Rattle.sheet_judging.specs.LabelBlocks.{label_blocks, are_bad}
use Rattle.sheet_judging.proofs.contents.judge_contents.Goals as goal

-- the tests of a sheet, by what block 0 says, and what is refused by them
module _ (f : Format) (bytes : List ℕ) (whole : InBlocks bytes) (n capacity leaf_size count : ℕ) (h : HeadSays (block_at bytes 0) n capacity leaf_size count) where
  abbrev m : Measures
  m = measures n capacity leaf_size

  abbrev lettered : Bool
  lettered = same (part 4 4 bytes) letters

  abbrev enough : Bool
  enough = eqb (label_start bytes - 1) (sample_blocks_needed f count n)

  abbrev bad : Bool
  bad = are_bad count (label_blocks bytes)

  abbrev zeroed : Bool
  zeroed = are_zero (zeros_in f count n (block_at bytes 0) (later_blocks bytes 1))

  tests : first_of (bad_by lettered (in_range m) (ltb capacity count) enough bad zeroed) ≡ first_of (bad_conditions f (blocks_in bytes))
  tests = sym (bad_are bytes whole f m count h.measures_are h.count_is)

  letters_wrong : lettered ≡ false → some bad_sheet ≡ first_of (bad_conditions f (blocks_in bytes))
  letters_wrong a = bad_letters lettered (in_range m) (ltb capacity count) enough bad zeroed a ∙ tests

  module _ (a : lettered ≡ true) where
    measures_wrong : in_range m ≡ false → some bad_sheet ≡ first_of (bad_conditions f (blocks_in bytes))
    measures_wrong b = bad_measures lettered (in_range m) (ltb capacity count) enough bad zeroed a b ∙ tests

    module _ (b : in_range m ≡ true) where
      range : InRange m
      range = in_range_lem m b

      count_wrong : capacity < count → some bad_sheet ≡ first_of (bad_conditions f (blocks_in bytes))
      count_wrong c = bad_count lettered (in_range m) (ltb capacity count) enough bad zeroed a b (lt-ltb capacity count c) ∙ tests

      module _ (c : count ≤ capacity) where
        few : count ≤ 4096
        few = omega (arith, c, range.capacity_high)

        samples_few : count * n ≤ 1048576
        samples_few = mul-le-mul {n₁ = count} {m₁ = n} {n₂ = 4096} {m₂ = 256} few range.n_high

        samples_wrong : (label_start bytes - 1 ≡ sample_blocks_needed f count n → ⊥) → some bad_sheet ≡ first_of (bad_conditions f (blocks_in bytes))
        samples_wrong d = bad_samples lettered (in_range m) (ltb capacity count) enough bad zeroed a b (le-ltb capacity count c) (ne_eqb _ _ d) ∙ tests

        module _ (d : label_start bytes - 1 ≡ sample_blocks_needed f count n) where
          labels_wrong : bad ≡ true → some bad_sheet ≡ first_of (bad_conditions f (blocks_in bytes))
          labels_wrong e = bad_labels lettered (in_range m) (ltb capacity count) enough bad zeroed a b (le-ltb capacity count c) (eq-eqb _ _ d) e ∙ tests

          zeros_wrong : bad ≡ false → zeroed ≡ false → some bad_sheet ≡ first_of (bad_conditions f (blocks_in bytes))
          zeros_wrong e g = bad_zeros lettered (in_range m) (ltb capacity count) enough bad zeroed a b (le-ltb capacity count c) (eq-eqb _ _ d) e g ∙ tests

          all_right : bad ≡ false → zeroed ≡ true → none ≡ first_of (bad_conditions f (blocks_in bytes))
          all_right e g = none_bad lettered (in_range m) (ltb capacity count) enough bad zeroed a b (le-ltb capacity count c) (eq-eqb _ _ d) e g ∙ tests

pub letters_fit-requires : goal.letters_fit-requires
letters_fit-requires c = omega (arith, first_inside c.args.sheet.now c.requires)

pub returns-then-not-letters_fit : goal.returns-then-not-letters_fit
unfolding found_by word_of
returns-then-not-letters_fit c =
    let b = block_at c.args.sheet.now 0 in
    let m = measures_in b in
    letters_wrong (format_by c.args.format) c.args.sheet.now c.requires m.n m.capacity m.leaf_size (count_in b)
    (record { measures_are = refl; count_is = refl }) (sym c.letters_fit.ensures ∙ c.if-not-letters_fit.true)

pub head_of-head-requires : goal.head_of-head-requires
head_of-head-requires c = first_inside c.args.sheet.now c.requires

pub returns-then-not-measures_fit : goal.returns-then-not-measures_fit
unfolding found_by word_of
returns-then-not-measures_fit c =
    measures_wrong (format_by c.args.format) c.args.sheet.now c.requires _ _ _ _ c.head_of-head.ensures
    (sym c.letters_fit.ensures ∙ c.if-not-letters_fit.false)
    (sym c.measures_fit.ensures ∙ c.if-not-measures_fit.true)

pub returns-then-capacity-count : goal.returns-then-capacity-count
unfolding found_by word_of
returns-then-capacity-count c =
    count_wrong (format_by c.args.format) c.args.sheet.now c.requires _ _ _ _ c.head_of-head.ensures
    (sym c.letters_fit.ensures ∙ c.if-not-letters_fit.false)
    (sym c.measures_fit.ensures ∙ c.if-not-measures_fit.false) c.if-capacity-count.true

pub label_start-start-requires : goal.label_start-start-requires
label_start-start-requires c = c.requires

pub overflow_mul-samples : goal.overflow_mul-samples
overflow_mul-samples c =
    omega (
      arith,
      samples_few (format_by c.args.format) c.args.sheet.now c.requires _ _ _ _ c.head_of-head.ensures
          (sym c.letters_fit.ensures ∙ c.if-not-letters_fit.false)
          (sym c.measures_fit.ensures ∙ c.if-not-measures_fit.false) c.if-capacity-count.false,
    )

pub overflow_sub-start : goal.overflow_sub-start
overflow_sub-start c = omega (arith, c.label_start-start.ensures, (blocks c.args.sheet.now c.requires).some_block)

pub blocks_for-requires : goal.blocks_for-requires
blocks_for-requires c =
    samples_few (format_by c.args.format) c.args.sheet.now c.requires _ _ _ _ c.head_of-head.ensures
    (sym c.letters_fit.ensures ∙ c.if-not-letters_fit.false)
    (sym c.measures_fit.ensures ∙ c.if-not-measures_fit.false) c.if-capacity-count.false

pub returns-then-start-blocks_for : goal.returns-then-start-blocks_for
unfolding found_by word_of
returns-then-start-blocks_for c =
    samples_wrong (format_by c.args.format) c.args.sheet.now c.requires _ _ _ _ c.head_of-head.ensures
    (sym c.letters_fit.ensures ∙ c.if-not-letters_fit.false)
    (sym c.measures_fit.ensures ∙ c.if-not-measures_fit.false) c.if-capacity-count.false
    (λ p. c.if-start-blocks_for.true (ap (λ (k : ℕ). k - 1) c.label_start-start.ensures ∙ p ∙ sym c.blocks_for.ensures))

pub labels_bad-requires : goal.labels_bad-requires
labels_bad-requires c = (
  c.requires,
  c.label_start-start.ensures,
  few (format_by c.args.format) c.args.sheet.now c.requires _ _ _ _ c.head_of-head.ensures
      (sym c.letters_fit.ensures ∙ c.if-not-letters_fit.false)
      (sym c.measures_fit.ensures ∙ c.if-not-measures_fit.false) c.if-capacity-count.false,
)

pub returns-then-labels_bad : goal.returns-then-labels_bad
unfolding found_by word_of
returns-then-labels_bad c =
    labels_wrong (format_by c.args.format) c.args.sheet.now c.requires _ _ _ _ c.head_of-head.ensures
    (sym c.letters_fit.ensures ∙ c.if-not-letters_fit.false)
    (sym c.measures_fit.ensures ∙ c.if-not-measures_fit.false) c.if-capacity-count.false
    (ap (λ (k : ℕ). k - 1) (sym c.label_start-start.ensures) ∙ c.if-start-blocks_for.false ∙ c.blocks_for.ensures)
    (sym c.labels_bad.ensures ∙ c.if-labels_bad.true)

pub all_zero-requires : goal.all_zero-requires
all_zero-requires c =
    let f = format_by c.args.format in
    let bytes = c.args.sheet.now in
    let a = sym c.letters_fit.ensures ∙ c.if-not-letters_fit.false in
    let b = sym c.measures_fit.ensures ∙ c.if-not-measures_fit.false in
    let needed = ap (λ (k : ℕ). k - 1) (sym c.label_start-start.ensures) ∙ c.if-start-blocks_for.false ∙ c.blocks_for.ensures in (
      c.requires,
      c.label_start-start.ensures,
      few f bytes c.requires _ _ _ _ c.head_of-head.ensures a b c.if-capacity-count.false,
      (range f bytes c.requires _ _ _ _ c.head_of-head.ensures a b).n_high,
      right_numbers bytes c.requires f _ _ needed (sym c.labels_bad.ensures ∙ c.if-labels_bad.false),
    )

pub returns-then-not-all_zero : goal.returns-then-not-all_zero
unfolding found_by word_of
returns-then-not-all_zero c =
    zeros_wrong (format_by c.args.format) c.args.sheet.now c.requires _ _ _ _ c.head_of-head.ensures
    (sym c.letters_fit.ensures ∙ c.if-not-letters_fit.false)
    (sym c.measures_fit.ensures ∙ c.if-not-measures_fit.false) c.if-capacity-count.false
    (ap (λ (k : ℕ). k - 1) (sym c.label_start-start.ensures) ∙ c.if-start-blocks_for.false ∙ c.blocks_for.ensures)
    (sym c.labels_bad.ensures ∙ c.if-labels_bad.false)
    (sym c.all_zero.ensures ∙ c.if-not-all_zero.true)

pub returns : goal.returns
unfolding found_by
returns c =
    all_right (format_by c.args.format) c.args.sheet.now c.requires _ _ _ _ c.head_of-head.ensures
    (sym c.letters_fit.ensures ∙ c.if-not-letters_fit.false)
    (sym c.measures_fit.ensures ∙ c.if-not-measures_fit.false) c.if-capacity-count.false
    (ap (λ (k : ℕ). k - 1) (sym c.label_start-start.ensures) ∙ c.if-start-blocks_for.false ∙ c.blocks_for.ensures)
    (sym c.labels_bad.ensures ∙ c.if-labels_bad.false)
    (sym c.all_zero.ensures ∙ c.if-not-all_zero.false)
