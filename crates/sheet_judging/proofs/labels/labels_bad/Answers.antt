-- `sheet_judging::labels::labels_bad` meets its contract: no blocks, then their number, then the labels.
use mathlib.Core.Path.{◌≡◌, refl, sym, ap, ◌∙◌}
use mathlib.Core.Bool.{false}
use mathlib.Core.List.{List}
use Prim.Native.Nat.{ℕ, ◌-◌, ◌≤◌}
use native.Mathlib.Omega.{arith}
use lib.ListN.{length}
use lib.Dec.{eqb}
use borrow.Author.Tests.{eq-eqb, ne_eqb}
use Rattle.integer.specs.Words.{rounded_up}
use Rattle.dstree.specs.Sheet.{label_cells, label_blocks_needed, cell_blocks_needed}
use Rattle.dstree.proofs.SheetFormat.{labels_sound, cells_room}
use Rattle.sheet_blocks.specs.Blocks.{block_count}
use Rattle.sheet_blocks.proofs.Places.{start_within}
use Rattle.sheet_judging.specs.LabelBlocks.{label_blocks, are_bad}
use Rattle.sheet_judging.proofs.Bad.{label_blocks_lem}
use Rattle.sheet_judging.proofs.labels.labels_bad.Goals as goal

-- how many blocks of labels there are
module _ (s : goal.After-shared_slice_known-1) where
  abbrev bytes : List ℕ
  bytes = s.args.sheet.now

  within : s.args.start ≤ block_count bytes
  within = omega (arith, s.requires.1, start_within bytes s.requires.0)

-- how many blocks of labels there are
module _ (s : goal.Then-blocks-eq0) where
  abbrev bytes_2 : List ℕ
  bytes_2 = s.args.sheet.now

  blocks_are_2 : length (label_blocks bytes_2) ≡ block_count bytes_2 - s.args.start
  blocks_are_2 =
      label_blocks_lem bytes_2 s.requires.0 ∙ ap (λ (k : ℕ). block_count bytes_2 - k) (sym s.requires.1)

-- some
module _ (c : goal.Else-blocks-eq0) where
  abbrev start : goal.Else-blocks-eq0
  start = c

-- how many blocks of labels there are
module _ (s : goal.Then-blocks-count) where
  abbrev bytes_4 : List ℕ
  bytes_4 = s.args.sheet.now

  blocks_are_4 : length (label_blocks bytes_4) ≡ block_count bytes_4 - s.args.start
  blocks_are_4 =
      label_blocks_lem bytes_4 s.requires.0 ∙ ap (λ (k : ℕ). block_count bytes_4 - k) (sym s.requires.1)

-- some
module _ (c : goal.Then-blocks-count) where
  abbrev start_2 : goal.Then-blocks-count
  start_2 = c

  some_2 : eqb (length (label_blocks (bytes_4 start_2))) 0 ≡ false
  some_2 = ne_eqb (length (label_blocks (bytes_4 start_2))) 0 (λ e. c.if-blocks-eq0.false (sym (blocks_are_4 start_2) ∙ e))

-- how many blocks of labels there are
module _ (s : goal.Else-blocks-count) where
  abbrev bytes_5 : List ℕ
  bytes_5 = s.args.sheet.now

-- some
module _ (c : goal.Else-blocks-count) where
  abbrev start_3 : goal.Else-blocks-count
  start_3 = c

-- all of them
all_needed : (c : goal.Else-blocks-count) → let s = start_3 c in block_count (bytes_5 s) - s.args.start ≡ label_blocks_needed s.args.count
unfolding cell_blocks_needed rounded_up
all_needed c = c.if-blocks-count.false

-- how many blocks of labels there are
module _ (s : goal.After-labels_zero) where
  abbrev bytes_6 : List ℕ
  bytes_6 = s.args.sheet.now

  blocks_are_6 : length (label_blocks bytes_6) ≡ block_count bytes_6 - s.args.start
  blocks_are_6 =
      label_blocks_lem bytes_6 s.requires.0 ∙ ap (λ (k : ℕ). block_count bytes_6 - k) (sym s.requires.1)

-- some
module _ (c : goal.After-labels_zero) where
  abbrev start_4 : goal.After-labels_zero
  start_4 = c

  some_4 : eqb (length (label_blocks (bytes_6 start_4))) 0 ≡ false
  some_4 = ne_eqb (length (label_blocks (bytes_6 start_4))) 0 (λ e. c.if-blocks-eq0.false (sym (blocks_are_6 start_4) ∙ e))

-- all of them
all_needed_2 : (c : goal.After-labels_zero) → let s = start_4 c in block_count (bytes_6 s) - s.args.start ≡ label_blocks_needed s.args.count
unfolding cell_blocks_needed rounded_up
all_needed_2 c = c.if-blocks-count.false

pub overflow_sub-blocks : goal.overflow_sub-blocks
overflow_sub-blocks c = omega (arith, within c)

pub returns-then-blocks-eq0 : goal.returns-then-blocks-eq0
unfolding are_bad
returns-then-blocks-eq0 c = rw (eq-eqb (length (label_blocks (bytes_2 c))) 0 (blocks_are_2 c ∙ c.if-blocks-eq0.true)) refl

pub overflow_add-count : goal.overflow_add-count
overflow_add-count c = omega (arith, (start c).requires.2)

pub returns-then-blocks-count : goal.returns-then-blocks-count
unfolding are_bad cell_blocks_needed rounded_up
returns-then-blocks-count c =
    let s = start_2 c in
    rw (
      some_2 c,
      ne_eqb (length (label_blocks (bytes_4 s))) (label_blocks_needed s.args.count) (λ p. c.if-blocks-count.true (sym (blocks_are_4 s) ∙ p)),
    ) refl

pub labels_zero-requires : goal.labels_zero-requires
labels_zero-requires c =
    let s = start_3 c in
    (s.requires.0, s.requires.1, s.requires.2, λ f. omega (arith, all_needed c, s.requires.1, cells_room label_cells labels_sound s.args.count))

pub returns : goal.returns
unfolding are_bad
returns c =
    let s = start_4 c in
    c.labels_zero.ensures ∙ sym (rw (
      some_4 c,
      eq-eqb (length (label_blocks (bytes_6 s))) (label_blocks_needed s.args.count) (blocks_are_6 s ∙ all_needed_2 c),
    ) refl)
