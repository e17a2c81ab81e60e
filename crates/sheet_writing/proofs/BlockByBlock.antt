-- A sheet block by block: what is filled before a block, with the block behind it; and the whole. Samples and labels are cells.
use mathlib.Core.Path.{◌≡◌, sym, ap, ap₂, ◌∙◌}
use mathlib.Core.List.{List, [], ◌∷◌, ◌++◌, flatten, append_assoc, append-nil}
use Prim.Native.Nat.{ℕ, suc, ◌+◌, ◌*◌, ◌≤◌}
use native.Mathlib.Nat.{add-zero, mul_comm}
use native.Mathlib.Numerals.{add-one}
use native.Mathlib.Omega.{arith}
use lib.IntN.{ℤ}
use lib.ListN.{length, take, drop, length-append, take-append-drop}
use lib.Seq.{take_at, drop-append-add, drop-drop, length-take-le}
use Rattle.dstree.specs.Sheet.{part, pieces, block_size, Format, Cells, cells_size, sample_cells, label_cells, coded, coded_all, block, blocks_from}
use Rattle.dstree.specs.Book.{over}
use Rattle.dstree.proofs.SheetPieces.{pieces_length, pieces_more, flatten_length, flatten_append}
use Rattle.dstree.proofs.SheetFields.{coded_length, row_part}
use Rattle.dstree.proofs.SheetFormat.{SoundCells, SoundFormat, samples_sound, labels_sound}
use Rattle.dstree.proofs.SheetBlocks.{blocks_count, blocks_sized}
use Rattle.dstree.proofs.SheetCells.{cells_carried}
use Rattle.sheet.specs.LabelCodes.{label_codes}
use Rattle.sheet.proofs.LabelsCoded.{label_codes_part}
use Rattle.sheet_writing.specs.Filled.{with_block, with_blocks, cell_blocks, sample_block, with_samples, label_block, with_label_blocks}

-- ---- blocks behind blocks

blocks_append : (kind number : ℕ) (cs ds : List (List ℕ))
    → blocks_from kind number (cs ++ ds) ≡ blocks_from kind number cs ++ blocks_from kind (number + length cs) ds
unfolding blocks_from
blocks_append kind number [] ds = ap (λ (k : ℕ). blocks_from kind k ds) (sym (add-zero number))
blocks_append kind number (c ∷ cs) ds =
    let e : suc number + length cs ≡ number + suc (length cs) = omega arith in
    ap (λ (l : List (List ℕ)). block kind number c ∷ l)
    (blocks_append kind (suc number) cs ds ∙ ap (λ (k : ℕ). blocks_from kind (suc number) cs ++ blocks_from kind k ds) e)

one_block : (kind number : ℕ) (c : List ℕ) → flatten (blocks_from kind number (c ∷ [])) ≡ block kind number c
unfolding flatten blocks_from
one_block kind number c = append-nil (block kind number c)

module _ (c : Cells) (sound : SoundCells c) (first : ℕ) (bytes : List ℕ) where
  abbrev size : ℕ
  size = cells_size c

  abbrev parts : ℕ → List (List ℕ)
  parts i = pieces size i bytes

  -- as many blocks of these bytes, and the one behind them
  abbrev blocks : ℕ → List ℕ
  blocks i = cell_blocks c first i bytes

  abbrev next : ℕ → List ℕ
  next i = block c.cell_kind (first + i) (part (i * size) size bytes)

  pub blocks_length : (i : ℕ) → length (blocks i) ≡ block_size * i
  blocks_length i =
      let e : length (blocks i) ≡ length (blocks_from c.cell_kind first (parts i)) * block_size =
      flatten_length block_size (blocks_sized c.cell_kind first (cells_carried c sound i bytes)) in
      omega (arith, e, blocks_count c.cell_kind first (parts i), pieces_length size i bytes)

  blocks_more : (i : ℕ) → blocks (i + 1) ≡ blocks i ++ next i
  blocks_more i =
      let carried = part (i * size) size bytes in
      let kind = c.cell_kind in
      ap (λ (k : ℕ). blocks k) (add-one i)
      ∙ ap (λ (l : List (List ℕ)). flatten (blocks_from kind first l)) (pieces_more size i bytes)
      ∙ ap flatten (blocks_append kind first (parts i) (carried ∷ []))
      ∙ flatten_append (blocks_from kind first (parts i)) (blocks_from kind (first + length (parts i)) (carried ∷ []))
      ∙ ap (λ (k : ℕ). blocks i ++ flatten (blocks_from kind (first + k) (carried ∷ []))) (pieces_length size i bytes)
      ∙ ap (λ (l : List ℕ). blocks i ++ l) (one_block kind (first + i) carried)

  none_yet : (sheet : List ℕ) → sheet ≡ with_blocks sheet first 0 (blocks 0)
  unfolding pieces blocks_from flatten
  none_yet sheet =
      let e : first + 0 ≡ first = omega arith in
      sym (ap₂ (λ (l : List ℕ) (k : ℕ). l ++ drop (block_size * k) sheet) (append-nil (take (block_size * first) sheet)) e
      ∙ take-append-drop (block_size * first) sheet)

  block_more : (sheet : List ℕ) (i : ℕ) → block_size * (first + i) + block_size ≤ length sheet
      → with_block (with_blocks sheet first i (blocks i)) (first + i) (next i) ≡ with_blocks sheet first (i + 1) (blocks (i + 1))
  block_more sheet i room =
      ap₂ (λ (a b : List ℕ). a ++ (next i ++ b)) (take_at front rest (block_size * (first + i)) long) behind
      ∙ sym (append_assoc front (next i) (drop (block_size * (first + (i + 1))) sheet))
      ∙ ap (λ (l : List ℕ). l ++ drop (block_size * (first + (i + 1))) sheet)
      (append_assoc (take (block_size * first) sheet) (blocks i) (next i)
      ∙ ap (λ (l : List ℕ). take (block_size * first) sheet ++ l) (sym (blocks_more i)))
    where
      front : List ℕ
      front = take (block_size * first) sheet ++ blocks i

      rest : List ℕ
      rest = drop (block_size * (first + i)) sheet

      long : length front ≡ block_size * (first + i)
      long =
          length-append (take (block_size * first) sheet) (blocks i)
          ∙ omega (arith, length-take-le (block_size * first) sheet (omega arith), blocks_length i)

      sums : block_size * (first + i) + block_size ≡ block_size * (first + (i + 1))
      sums = omega arith

      behind : drop (block_size * (first + i) + block_size) (front ++ rest) ≡ drop (block_size * (first + (i + 1))) sheet
      behind =
          ap (λ (k : ℕ). drop (k + block_size) (front ++ rest)) (sym long)
          ∙ drop-append-add front rest block_size
          ∙ drop-drop block_size (block_size * (first + i)) sheet
          ∙ ap (λ (k : ℕ). drop k sheet) sums

-- ---- samples, and labels

module _ (f : Format) (half : ℕ) (sound : SoundFormat f half) (samples : List ℤ) where
  abbrev codes : List ℕ
  codes = coded_all f samples

  pub none_sampled : (sheet : List ℕ) → sheet ≡ with_samples f sheet 0 samples
  none_sampled = none_yet (sample_cells f) (samples_sound f half sound) 1 codes

  pub samples_more : (sheet : List ℕ) (i : ℕ) → block_size * (1 + i) + block_size ≤ length sheet
      → with_block (with_samples f sheet i samples) (1 + i) (sample_block f samples i) ≡ with_samples f sheet (i + 1) samples
  samples_more sheet i room =
      let per : ℕ = f.samples_per_block in
      let size : ℕ = cells_size (sample_cells f) in
      let place : i * per * f.sample_bytes ≡ i * size = omega arith in
      let carried : coded_all f (part (i * per) per samples) ≡ part (i * size) size codes =
      sym (row_part (coded f) f.sample_bytes (coded_length f) (i * per) per samples)
      ∙ ap₂ (λ (a b : ℕ). part a b codes) place (mul_comm per f.sample_bytes) in
      ap (λ (l : List ℕ). with_block (with_samples f sheet i samples) (1 + i) (block f.sample_kind (1 + i) l)) carried
      ∙ block_more (sample_cells f) (samples_sound f half sound) 1 codes sheet i room

module _ (places : List ℕ) (first : ℕ) where
  pub none_labelled : (sheet : List ℕ) → sheet ≡ with_label_blocks sheet first 0 places
  none_labelled = none_yet label_cells labels_sound first (label_codes places)

  pub labels_more : (sheet : List ℕ) (i : ℕ) → block_size * (first + i) + block_size ≤ length sheet
      → with_block (with_label_blocks sheet first i places) (first + i) (label_block places first i) ≡ with_label_blocks sheet first (i + 1) places
  labels_more sheet i room =
      let per : ℕ = label_cells.cells_per_block in
      let size : ℕ = cells_size label_cells in
      let place : i * per * label_cells.cell_bytes ≡ i * size = omega arith in
      let carried : label_codes (part (i * per) per places) ≡ part (i * size) size (label_codes places) =
      sym (label_codes_part (i * per) per places) ∙ ap (λ (k : ℕ). part k size (label_codes places)) place in
      ap (λ (l : List ℕ). with_block (with_label_blocks sheet first i places) (first + i) (block label_cells.cell_kind (first + i) l)) carried
      ∙ block_more label_cells labels_sound first (label_codes places) sheet i room

-- ---- the whole

-- block 0 over the beginning
pub head_over : (sheet head : List ℕ) → length head ≡ block_size → with_block sheet 0 head ≡ over head sheet
head_over sheet head e = ap (λ (k : ℕ). head ++ drop k sheet) (sym e)

-- blocks behind what stands over the beginning
pub more_over : (sheet before more : List ℕ) (first count : ℕ) → length before ≡ block_size * first → length more ≡ block_size * count
    → with_blocks (over before sheet) first count more ≡ over (before ++ more) sheet
more_over sheet before more first count e f =
    ap₂ (λ (a b : List ℕ). a ++ more ++ b) (take_at before (drop (length before) sheet) (block_size * first) e) behind
  where
    sums : block_size * (first + count) ≡ length before + length more
    sums = omega (arith, e, f)

    behind : drop (block_size * (first + count)) (over before sheet) ≡ drop (length (before ++ more)) sheet
    behind =
        ap (λ (k : ℕ). drop k (over before sheet)) sums
        ∙ drop-append-add before (drop (length before) sheet) (length more)
        ∙ drop-drop (length more) (length before) sheet
        ∙ ap (λ (k : ℕ). drop k sheet) (sym (length-append before more))
