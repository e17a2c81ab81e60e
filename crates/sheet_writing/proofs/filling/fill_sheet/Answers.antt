-- `sheet_writing::filling::fill_sheet` meets its contract: block 0, then the blocks of as many samples as the traces have, then those of
-- their labels.
use mathlib.Core.Path.{◌≡◌, ap, ap₂, ◌∙◌, subst}
use mathlib.Core.List.{List, map}
use Prim.Native.Nat.{ℕ, ◌+◌, ◌*◌, ◌≤◌}
use native.Mathlib.Nat.{mul-le-mul}
use native.Mathlib.Omega.{arith}
use lib.ListN.{length, take}
use Rattle.dstree.specs.Labels.{label_at}
use Rattle.segment.specs.Stored.{samples_of}
use Rattle.dstree.specs.Sheet.{Format, block_size, most_blocks, label_cells, block, head_of, sample_blocks_needed, label_blocks_needed, label_parts}
use Rattle.dstree.specs.Sheet.{blocks_needed_as}
use Rattle.dstree.specs.SheetWidths.{format_by}
use Rattle.tables.specs.Layout.{n_place, trace_count_place}
use Rattle.tables.specs.Tables.{Tables, field, measures_of, trace_count}
use Rattle.tables.specs.View.{labels_in}
use Rattle.dstree.proofs.SheetFormat.{SoundFormat, needed_tight, needed_most, labels_sound, cells_tight}
use Rattle.dstree.proofs.SheetWidths.{half_by, format_sound}
use Rattle.sheet.specs.Formats.{says_wide}
use Rattle.sheet_writing.specs.Filled.{sheet_tables, with_block, with_samples, with_label_blocks}
use Rattle.sheet_writing.proofs.Stored.{filled_is}
use Rattle.sheet_writing.proofs.filling.fill_sheet.Goals as goal

-- the numbers that the control record has
module _ (w : goal.After-wide-k) where
  abbrev start : goal.After-wide-k
  start = w

  abbrev n : ℕ
  n = field start.args.control.now n_place

  abbrev k : ℕ
  k = field start.args.control.now trace_count_place

  n_is : w.wide-n.result ≡ n
  n_is = w.wide-n.ensures ∙ w.field.ensures

  k_is : w.wide-k.result ≡ k
  k_is = w.wide-k.ensures ∙ w.field-2.ensures

-- the numbers that the control record has
module _ (w : goal.After-sample_blocks-count) where
  abbrev start_2 : goal.After-sample_blocks-count
  start_2 = w

  abbrev k_2 : ℕ
  k_2 = field start_2.args.control.now trace_count_place

  k_is_2 : w.wide-k.result ≡ k_2
  k_is_2 = w.wide-k.ensures ∙ w.field-2.ensures

-- the numbers that the control record has
module _ (w : goal.After-fill_head-arg-1) where
  abbrev start_3 : goal.After-fill_head-arg-1
  start_3 = w

  abbrev n_3 : ℕ
  n_3 = field start_3.args.control.now n_place

  abbrev k_3 : ℕ
  k_3 = field start_3.args.control.now trace_count_place

  abbrev f_3 : Format
  f_3 = format_by (says_wide start_3.args.format)

  abbrev stored_3 : Tables
  stored_3 = sheet_tables start_3.args.control.now start_3.args.samples.now start_3.args.labels.now

  n_is_3 : w.wide-n.result ≡ n_3
  n_is_3 = w.wide-n.ensures ∙ w.field.ensures

  k_is_3 : w.wide-k.result ≡ k_3
  k_is_3 = w.wide-k.ensures ∙ w.field-2.ensures

-- the numbers of blocks
module _ (b : goal.After-fill_head-arg-1) where
  abbrev numbers : goal.After-fill_head-arg-1
  numbers = b

  abbrev sampled : ℕ
  sampled = b.sample_blocks-count.result

  abbrev labelled : ℕ
  labelled = b.label_blocks-labelled.result

  sampled_is : sampled ≡ sample_blocks_needed (f_3 numbers) (k_3 numbers) (n_3 numbers)
  sampled_is = b.sample_blocks-count.ensures.0 ∙ ap₂ (sample_blocks_needed (f_3 numbers)) (k_is_3 numbers) (n_is_3 numbers)

  labelled_is : labelled ≡ length (label_parts (labels_in (stored_3 numbers)))
  unfolding labels_in
  labelled_is =
      b.label_blocks-labelled.ensures.0
      ∙ ap (λ (i : ℕ). length (label_parts (map label_at (take i (start_3 numbers).args.labels.now)))) (k_is_3 numbers)

  -- the sheet has room for all
  long : block_size * (1 + sampled + labelled) ≤ length (start_3 numbers).args.sheet.now
  unfolding labels_in blocks_needed_as
  long = omega (arith, sampled_is, labelled_is, (start_3 numbers).requires.sheet_long)

-- the numbers that the control record has
module _ (w : goal.After-fill_blocks-arg-1) where
  abbrev start_4 : goal.After-fill_blocks-arg-1
  start_4 = w

  abbrev n_4 : ℕ
  n_4 = field start_4.args.control.now n_place

  abbrev k_4 : ℕ
  k_4 = field start_4.args.control.now trace_count_place

  abbrev f_4 : Format
  f_4 = format_by (says_wide start_4.args.format)

  sound_4 : SoundFormat f_4 (half_by (says_wide start_4.args.format))
  sound_4 = format_sound (says_wide start_4.args.format)

  abbrev stored_4 : Tables
  stored_4 = sheet_tables start_4.args.control.now start_4.args.samples.now start_4.args.labels.now

  n_is_4 : w.wide-n.result ≡ n_4
  n_is_4 = w.wide-n.ensures ∙ w.field.ensures

  k_is_4 : w.wide-k.result ≡ k_4
  k_is_4 = w.wide-k.ensures ∙ w.field-2.ensures

  total_is_4 : w.wide-k.result * w.wide-n.result ≡ k_4 * n_4
  total_is_4 = ap₂ (λ (x y : ℕ). x * y) k_is_4 n_is_4

  few_4 : k_4 * n_4 ≤ 1048576
  few_4 = mul-le-mul {n₁ = k_4} {m₁ = n_4} {n₂ = 4096} {m₂ = 256} start_4.requires.count_few start_4.requires.n_few

-- the numbers of blocks
module _ (b : goal.After-fill_blocks-arg-1) where
  abbrev numbers_2 : goal.After-fill_blocks-arg-1
  numbers_2 = b

  abbrev sampled_2 : ℕ
  sampled_2 = b.sample_blocks-count.result

  abbrev labelled_2 : ℕ
  labelled_2 = b.label_blocks-labelled.result

  sampled_is_2 : sampled_2 ≡ sample_blocks_needed (f_4 numbers_2) (k_4 numbers_2) (n_4 numbers_2)
  sampled_is_2 = b.sample_blocks-count.ensures.0 ∙ ap₂ (sample_blocks_needed (f_4 numbers_2)) (k_is_4 numbers_2) (n_is_4 numbers_2)

  labelled_is_2 : labelled_2 ≡ length (label_parts (labels_in (stored_4 numbers_2)))
  unfolding labels_in
  labelled_is_2 =
      b.label_blocks-labelled.ensures.0
      ∙ ap (λ (i : ℕ). length (label_parts (map label_at (take i (start_4 numbers_2).args.labels.now)))) (k_is_4 numbers_2)

  -- the sheet has room for all
  long_2 : block_size * (1 + sampled_2 + labelled_2) ≤ length (start_4 numbers_2).args.sheet.now
  unfolding labels_in blocks_needed_as
  long_2 = omega (arith, sampled_is_2, labelled_is_2, (start_4 numbers_2).requires.sheet_long)

-- the numbers that the control record has
module _ (w : goal.After-fill_labels-arg-1) where
  abbrev start_5 : goal.After-fill_labels-arg-1
  start_5 = w

  abbrev n_5 : ℕ
  n_5 = field start_5.args.control.now n_place

  abbrev k_5 : ℕ
  k_5 = field start_5.args.control.now trace_count_place

  abbrev f_5 : Format
  f_5 = format_by (says_wide start_5.args.format)

  sound_5 : SoundFormat f_5 (half_by (says_wide start_5.args.format))
  sound_5 = format_sound (says_wide start_5.args.format)

  abbrev stored_5 : Tables
  stored_5 = sheet_tables start_5.args.control.now start_5.args.samples.now start_5.args.labels.now

  n_is_5 : w.wide-n.result ≡ n_5
  n_is_5 = w.wide-n.ensures ∙ w.field.ensures

  k_is_5 : w.wide-k.result ≡ k_5
  k_is_5 = w.wide-k.ensures ∙ w.field-2.ensures

-- the numbers of blocks
module _ (b : goal.After-fill_labels-arg-1) where
  abbrev numbers_3 : goal.After-fill_labels-arg-1
  numbers_3 = b

  abbrev sampled_3 : ℕ
  sampled_3 = b.sample_blocks-count.result

  abbrev labelled_3 : ℕ
  labelled_3 = b.label_blocks-labelled.result

  sampled_is_3 : sampled_3 ≡ sample_blocks_needed (f_5 numbers_3) (k_5 numbers_3) (n_5 numbers_3)
  sampled_is_3 = b.sample_blocks-count.ensures.0 ∙ ap₂ (sample_blocks_needed (f_5 numbers_3)) (k_is_5 numbers_3) (n_is_5 numbers_3)

  labelled_is_3 : labelled_3 ≡ length (label_parts (labels_in (stored_5 numbers_3)))
  unfolding labels_in
  labelled_is_3 =
      b.label_blocks-labelled.ensures.0
      ∙ ap (λ (i : ℕ). length (label_parts (map label_at (take i (start_5 numbers_3).args.labels.now)))) (k_is_5 numbers_3)

  labelled_few_3 : labelled_3 ≤ label_blocks_needed (k_5 numbers_3)
  labelled_few_3 = subst (λ (i : ℕ). labelled_3 ≤ label_blocks_needed i) (k_is_5 numbers_3) b.label_blocks-labelled.ensures.1

  all_few_3 : 1 + sampled_3 + labelled_3 ≤ most_blocks
  all_few_3 =
      omega (
        arith,
        sampled_is_3,
        labelled_few_3,
        needed_most (f_5 numbers_3) _ (sound_5 numbers_3) (k_5 numbers_3) (n_5 numbers_3) (start_5 numbers_3).requires.count_few (start_5 numbers_3).requires.n_few,
      )

  -- the sheet has room for all
  long_3 : block_size * (1 + sampled_3 + labelled_3) ≤ length (start_5 numbers_3).args.sheet.now
  unfolding labels_in blocks_needed_as
  long_3 = omega (arith, sampled_is_3, labelled_is_3, (start_5 numbers_3).requires.sheet_long)

-- the numbers that the control record has
module _ (w : goal.After-slice_known-4-1) where
  abbrev start_6 : goal.After-slice_known-4-1
  start_6 = w

  abbrev n_6 : ℕ
  n_6 = field start_6.args.control.now n_place

  abbrev k_6 : ℕ
  k_6 = field start_6.args.control.now trace_count_place

  abbrev f_6 : Format
  f_6 = format_by (says_wide start_6.args.format)

  sound_6 : SoundFormat f_6 (half_by (says_wide start_6.args.format))
  sound_6 = format_sound (says_wide start_6.args.format)

  abbrev stored_6 : Tables
  stored_6 = sheet_tables start_6.args.control.now start_6.args.samples.now start_6.args.labels.now

  n_is_6 : w.wide-n.result ≡ n_6
  n_is_6 = w.wide-n.ensures ∙ w.field.ensures

  k_is_6 : w.wide-k.result ≡ k_6
  k_is_6 = w.wide-k.ensures ∙ w.field-2.ensures

  total_is_6 : w.wide-k.result * w.wide-n.result ≡ k_6 * n_6
  total_is_6 = ap₂ (λ (x y : ℕ). x * y) k_is_6 n_is_6

-- the numbers of blocks
module _ (b : goal.After-slice_known-4-1) where
  abbrev numbers_4 : goal.After-slice_known-4-1
  numbers_4 = b

  abbrev sampled_4 : ℕ
  sampled_4 = b.sample_blocks-count.result

  abbrev labelled_4 : ℕ
  labelled_4 = b.label_blocks-labelled.result

  sampled_is_4 : sampled_4 ≡ sample_blocks_needed (f_6 numbers_4) (k_6 numbers_4) (n_6 numbers_4)
  sampled_is_4 = b.sample_blocks-count.ensures.0 ∙ ap₂ (sample_blocks_needed (f_6 numbers_4)) (k_is_6 numbers_4) (n_is_6 numbers_4)

  labelled_is_4 : labelled_4 ≡ length (label_parts (labels_in (stored_6 numbers_4)))
  unfolding labels_in
  labelled_is_4 =
      b.label_blocks-labelled.ensures.0
      ∙ ap (λ (i : ℕ). length (label_parts (map label_at (take i (start_6 numbers_4).args.labels.now)))) (k_is_6 numbers_4)

  labelled_few_4 : labelled_4 ≤ label_blocks_needed (k_6 numbers_4)
  labelled_few_4 = subst (λ (i : ℕ). labelled_4 ≤ label_blocks_needed i) (k_is_6 numbers_4) b.label_blocks-labelled.ensures.1

  all_few_4 : 1 + sampled_4 + labelled_4 ≤ most_blocks
  all_few_4 =
      omega (
        arith,
        sampled_is_4,
        labelled_few_4,
        needed_most (f_6 numbers_4) _ (sound_6 numbers_4) (k_6 numbers_4) (n_6 numbers_4) (start_6 numbers_4).requires.count_few (start_6 numbers_4).requires.n_few,
      )

pub sample_blocks-count-requires : goal.sample_blocks-count-requires
sample_blocks-count-requires c = (omega (arith, k_is c, (start c).requires.count_few), omega (arith, n_is c, (start c).requires.n_few))

pub label_blocks-labelled-requires : goal.label_blocks-labelled-requires
label_blocks-labelled-requires c =
    (omega (arith, k_is_2 c, (start_2 c).requires.labels_long), omega (arith, k_is_2 c, (start_2 c).requires.count_few))

pub fill_head-requires : goal.fill_head-requires
fill_head-requires c = omega (arith, long c)

pub overflow_mul-k : goal.overflow_mul-k
overflow_mul-k c = let w = numbers_2 c in omega (arith, total_is_4 w, few_4 w)

pub fill_blocks-requires : goal.fill_blocks-requires
fill_blocks-requires c =
    let w = numbers_2 c in (
      c.sample_blocks-count.ensures.1,
      omega (arith, ap (λ (i : ℕ). i * (f_4 w).samples_per_block) (sampled_is_2 c), total_is_4 w, needed_tight (f_4 w) _ (sound_4 w) (k_4 w) (n_4 w)),
      omega (arith, total_is_4 w, (start_4 w).requires.samples_long),
      omega (arith, long_2 c),
    )

pub overflow_add-count : goal.overflow_add-count
overflow_add-count c = omega (arith, all_few_3 c)

pub fill_labels-requires : goal.fill_labels-requires
fill_labels-requires c =
    let w = numbers_3 c in (
      all_few_3 c,
      omega (arith, labelled_few_3 c, k_is_5 w, cells_tight label_cells labels_sound (k_5 w)),
      omega (arith, k_is_5 w, (start_5 w).requires.labels_long),
      omega (arith, long_3 c),
    )

pub overflow_add-result : goal.overflow_add-result
overflow_add-result c = omega (arith, all_few_4 c)

pub overflow_add-result-2 : goal.overflow_add-result-2
overflow_add-result-2 c = omega (arith, all_few_4 c)

pub returns : goal.returns
unfolding labels_in blocks_needed_as
returns c =
    let w = numbers_4 c in
    let a = (start_6 w).args in
    let t = stored_6 w in
    let sheet = a.sheet.now in
    let samples = a.samples.now in
    let labels = a.labels.now in
    let g = f_6 w in
    let headed = with_block sheet 0 (block g.head_kind 0 (head_of (measures_of t) (trace_count t))) in (
      omega (arith, sampled_is_4 c, labelled_is_4 c),
      c.fill_labels.ensures
          ∙ ap (λ (x : List ℕ). with_label_blocks x (1 + sampled_4 c) (labelled_4 c) (take w.wide-k.result labels)) c.fill_blocks.ensures
          ∙ ap (λ (x : List ℕ). with_label_blocks (with_samples g x (sampled_4 c) (samples_of (take (w.wide-k.result * w.wide-n.result) samples)))
          (1 + sampled_4 c) (labelled_4 c) (take w.wide-k.result labels))
          c.fill_head.ensures
          ∙ ap₂ (λ (count total : ℕ). with_label_blocks (with_samples g headed count (samples_of (take total samples))) (1 + count) (labelled_4 c) (take w.wide-k.result labels))
          (sampled_is_4 c) (total_is_6 w)
          ∙ ap₂ (λ (count total : ℕ). with_label_blocks (with_samples g headed (sample_blocks_needed g (k_6 w) (n_6 w)) (samples_of (take (k_6 w * n_6 w) samples)))
          (1 + sample_blocks_needed g (k_6 w) (n_6 w)) count (take total labels)) (labelled_is_4 c) (k_is_6 w)
          ∙ filled_is t g _ (sound_6 w) sheet,
    )
