-- What is left behind the last cell: it lies in the last block.
use Prim.Native.Nat.{ℕ, suc, ◌+◌, ◌*◌, ◌-◌, ◌≤◌, ◌<◌}
use mathlib.Core.Path.{◌≡◌, ◌∙◌, ap}
use mathlib.Core.Bool.{Bool, true, false}
use mathlib.Core.List.{List, ◌++◌, flatten, append-nil}
use native.Mathlib.Omega.{arith}
use native.Mathlib.Decide.{dec_le}
use native.Mathlib.Nat.{suc-mul, lt_of_not-le}
use lib.ListN.{drop}
use lib.Seq.{drop-nil}
use Rattle.integer.specs.Words.{every}
use Rattle.dstree.specs.Sheet.{block_size, carried_size, part, are_zero, Format, narrow, wide, narrow_limit, sample_size, label_cells, cells_size, label_blocks_needed}
use Rattle.dstree.specs.SheetWidths.{format_by}
use Rattle.dstree.proofs.SheetPieces.{drop_part}
use Rattle.dstree.proofs.SheetFormat.{narrow_sound, wide_half, wide_sound, needed_room, needed_tight, labels_sound, cells_room, cells_tight}
use Rattle.sheet_blocks.specs.Blocks.{block_count, InBlocks, label_start, RightNumbers, cells_between, Fills}
use Rattle.sheet_blocks.proofs.Places.{no_block}
use Rattle.sheet_blocks.proofs.Carried.{carried_from, carried_at, carried_on, carried_none}

module _ (size : ℕ) (room : size ≤ carried_size) (bytes : List ℕ) (whole : InBlocks bytes) (first to taken : ℕ) where
  abbrev left : List ℕ
  left = drop taken (cells_between size bytes first to)

  pub left_none : to ≤ first → are_zero left ≡ true
  unfolding flatten are_zero every
  left_none h = rw (no_block bytes to first h, drop-nil {A = ℕ} taken)

  module _ (inside : to ≤ block_count bytes) (h : first < to) (f : Fills size (to - first) taken) where
    -- the last block, and the bytes of cells in it
    abbrev pub last : ℕ
    last = to - 1

    abbrev pub used : ℕ
    used = taken - (last - first) * size

    -- all blocks before the last one are full
    pub before_full : (last - first) * size ≤ taken
    before_full = let e : last - first ≡ to - first - 1 = omega arith in rw e f.above

    pub last_room : used ≤ size
    last_room =
        let e : to - first ≡ suc (last - first) = omega arith in
        let all : taken ≤ suc (last - first) * size = rw (← e) (f.within (λ z. omega (arith, h))) in
        omega (arith, all, suc-mul (last - first) size)

    abbrev from : ℕ → List ℕ
    from = carried_from size room bytes whole to inside

    abbrev at : ℕ → List ℕ
    at = carried_at size room bytes whole

    pub left_last : left ≡ part (last * block_size + 4 + used) (size - used) bytes
    left_last =
        let whole_blocks : taken ≡ (last - first) * size + used = omega (arith, before_full) in
        let number : first + (last - first) ≡ last = omega arith in
        let behind : suc last ≡ to = omega arith in
        ap (λ (k : ℕ). drop k (from first)) whole_blocks
        ∙ carried_on size room bytes whole to inside (last - first) first used (omega arith) last_room
        ∙ ap (λ (k : ℕ). drop used (at k) ++ from (suc k)) number
        ∙ ap (λ (k : ℕ). drop used (at last) ++ from k) behind
        ∙ ap (λ (l : List ℕ). drop used (at last) ++ l) (carried_none size room bytes whole to inside)
        ∙ append-nil (drop used (at last))
        ∙ drop_part used (last * block_size + 4) size bytes

-- ---- as many blocks as are needed

pub samples_fill : (four : Bool) (bytes : List ℕ) (count n : ℕ) → RightNumbers (format_by four) bytes count n
    → Fills (sample_size (format_by four)) (label_start bytes - 1) ((format_by four).sample_bytes * (count * n))
samples_fill true bytes count n right =
    let room = needed_room wide wide_half wide_sound count n in
    let tight = needed_tight wide wide_half wide_sound count n in
    record { above = omega (arith, tight, right.sampled); within = λ f. omega (arith, room, right.sampled) }
samples_fill false bytes count n right =
    let room = needed_room narrow narrow_limit narrow_sound count n in
    let tight = needed_tight narrow narrow_limit narrow_sound count n in
    record { above = omega (arith, tight, right.sampled); within = λ f. omega (arith, room, right.sampled) }

module _ (format : Format) (bytes : List ℕ) (count n : ℕ) (right : RightNumbers format bytes count n) where
  -- the blocks of labels, if there are some
  abbrev labelled : ℕ
  labelled = block_count bytes - label_start bytes

  all_needed : (labelled ≡ 0 → ⊥) → labelled ≡ label_blocks_needed count
  all_needed f = omega (arith, right.labelled (λ e. f (omega (arith, e))))

  pub labels_fill : Fills (cells_size label_cells) labelled (label_cells.cell_bytes * count)
  labels_fill = record {
    above = by (dec_le 1 labelled);
    within = λ f. omega (arith, cells_room label_cells labels_sound count, all_needed f);
  }
    where
      by : Dec (1 ≤ labelled) → (labelled - 1) * cells_size label_cells ≤ label_cells.cell_bytes * count
      by (yes h) = omega (arith, cells_tight label_cells labels_sound count, all_needed (λ e. omega (arith, h, e)))
      by (no f) = let none : labelled - 1 ≡ 0 = omega (arith, lt_of_not-le f) in rw none (omega arith)
