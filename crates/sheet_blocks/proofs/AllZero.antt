-- Bytes that must be 0, one after another and area by area.
use Prim.Native.Nat.{ℕ, suc, ◌+◌, ◌*◌, ◌-◌, ◌≤◌, ◌<◌}
use mathlib.Core.Path.{◌≡◌, refl, sym, ◌∙◌, ap, ap₂}
use mathlib.Core.Bool.{Bool, true, false, ◌&&◌}
use mathlib.Core.List.{List, [], ◌∷◌, ◌++◌, map, flatten}
use native.Mathlib.Omega.{arith}
use native.Mathlib.Nat.{mul_comm}
use lib.ListN.{get_or, drop}
use lib.Dec.{eqb}
use borrow.Author.Tests.{eq-eqb, ne_eqb}
use Rattle.integer.specs.Words.{every}
use Rattle.dstree.specs.Sheet.{block_size, checked_size, carried_size, Format, part, are_zero, thirds_in, blocks_in, carried_in, sample_blocks_in}
use Rattle.dstree.specs.Sheet.{label_blocks_in, sample_cells, label_cells, cells_size, cell_bytes_in, zeros_behind, zeros_in}
use Rattle.sheet_blocks.specs.Blocks.{block_count, InBlocks, block_at, later_blocks, label_start, spare_between, zeros_between}
use Rattle.dstree.proofs.SheetPieces.{part_part, drop_part, part_at}
use Rattle.sheet_blocks.proofs.Places.{all_blocks, next_block, no_block, blocks_are, samples_between, labels_between}

and_assoc : (a b c : Bool) → (a && (b && c)) ≡ ((a && b) && c)
and_assoc true b c = refl
and_assoc false b c = refl

pub zero_append : (a b : List ℕ) → are_zero (a ++ b) ≡ (are_zero a && are_zero b)
unfolding are_zero every
zero_append [] b = refl
zero_append (x ∷ a) b = ap (λ (t : Bool). eqb x 0 && t) (zero_append a b) ∙ and_assoc (eqb x 0) (are_zero a) (are_zero b)

-- ---- byte 3 of each block

module _ (bytes : List ℕ) where
  third_is : (number : ℕ) → get_or (block_at bytes number) 3 0 ≡ get_or bytes (number * block_size + 3) 0
  third_is number = part_at 3 (number * block_size) block_size bytes 0 (omega arith)

  pub thirds_first : are_zero (thirds_in (blocks_in bytes)) ≡ are_zero (thirds_in (later_blocks bytes 0))
  thirds_first = ap (λ (l : List (List ℕ)). are_zero (thirds_in l)) (all_blocks bytes)

  module _ (number : ℕ) where
    pub third_here : number < block_count bytes → (get_or bytes (number * block_size + 3) 0 ≡ 0 → ⊥)
        → are_zero (thirds_in (later_blocks bytes number)) ≡ false
    unfolding are_zero every
    third_here h f = rw (next_block bytes (block_count bytes) number h, third_is number, ne_eqb (get_or bytes (number * block_size + 3) 0) 0 f)

    pub third_later : number < block_count bytes → get_or bytes (number * block_size + 3) 0 ≡ 0
        → are_zero (thirds_in (later_blocks bytes number)) ≡ are_zero (thirds_in (later_blocks bytes (suc number)))
    unfolding are_zero every
    third_later h e = rw (next_block bytes (block_count bytes) number h, third_is number, eq-eqb (get_or bytes (number * block_size + 3) 0) 0 e)

    pub thirds_none : block_count bytes ≤ number → are_zero (thirds_in (later_blocks bytes number)) ≡ true
    unfolding are_zero every
    thirds_none h = rw (no_block bytes (block_count bytes) number h)

-- ---- the bytes behind cells, block by block

module _ (size : ℕ) (room : size ≤ carried_size) (bytes : List ℕ) (to : ℕ) where
  spare_is : (number : ℕ) → drop size (carried_in (block_at bytes number)) ≡ part (number * block_size + 4 + size) (carried_size - size) bytes
  spare_is number =
      ap (drop size) (part_part 4 carried_size (number * block_size) block_size bytes (omega arith))
      ∙ drop_part size (number * block_size + 4) carried_size bytes

  pub spare_next : (number : ℕ) → number < to
      → are_zero (spare_between size bytes number to)
      ≡ (are_zero (part (number * block_size + 4 + size) (carried_size - size) bytes) && are_zero (spare_between size bytes (suc number) to))
  unfolding flatten
  spare_next number h =
      ap (λ (l : List (List ℕ)). are_zero (flatten (map (λ (b : List ℕ). drop size (carried_in b)) l))) (next_block bytes to number h)
      ∙ zero_append (drop size (carried_in (block_at bytes number))) (spare_between size bytes (suc number) to)
      ∙ ap (λ (l : List ℕ). are_zero l && are_zero (spare_between size bytes (suc number) to)) (spare_is number)

  pub spare_none : (number : ℕ) → to ≤ number → are_zero (spare_between size bytes number to) ≡ true
  unfolding flatten are_zero every
  spare_none number h = rw (no_block bytes to number h)

-- ---- all of them

module _ (a b c d : List ℕ) where
  pub four_apart : are_zero (a ++ b ++ c ++ d) ≡ (((are_zero a && are_zero b) && are_zero c) && are_zero d)
  four_apart =
      zero_append (a ++ b ++ c) d
      ∙ ap (λ (t : Bool). t && are_zero d) (zero_append (a ++ b) c ∙ ap (λ (t : Bool). t && are_zero c) (zero_append a b))

module _ (f : Format) (bytes : List ℕ) (whole : InBlocks bytes) (count n : ℕ) where
  abbrev others : List (List ℕ)
  others = later_blocks bytes 1

  -- block 0 behind the count
  abbrev behind : List ℕ
  behind = part 16 (checked_size - 16) bytes

  abbrev pub sample_zeros : List ℕ
  sample_zeros = zeros_between (cells_size (sample_cells f)) (f.sample_bytes * (count * n)) bytes 1 (label_start bytes)

  abbrev pub label_zeros : List ℕ
  label_zeros = zeros_between (cells_size label_cells) (label_cells.cell_bytes * count) bytes (label_start bytes) (block_count bytes)

  head_is : drop 12 (carried_in (block_at bytes 0)) ≡ behind
  head_is = drop_part 12 4 carried_size (block_at bytes 0) ∙ part_part 16 (checked_size - 16) 0 block_size bytes (omega arith)

  samples_are : zeros_behind (sample_cells f) (count * n) (sample_blocks_in others) ≡ sample_zeros
  unfolding zeros_behind cell_bytes_in
  samples_are = let e : count * n * f.sample_bytes ≡ f.sample_bytes * (count * n) = mul_comm (count * n) f.sample_bytes in rw (samples_between bytes whole, e) refl

  labels_are : zeros_behind label_cells count (label_blocks_in others) ≡ label_zeros
  unfolding zeros_behind cell_bytes_in
  labels_are = let e : count * 6 ≡ 6 * count = omega arith in rw (labels_between bytes whole, e) refl

  pub zeros_apart : are_zero (zeros_in f count n (block_at bytes 0) others)
      ≡ (((are_zero (thirds_in (blocks_in bytes)) && are_zero behind) && are_zero sample_zeros) && are_zero label_zeros)
  unfolding zeros_in
  zeros_apart =
      let first = block_at bytes 0 in
      let samples = zeros_behind (sample_cells f) (count * n) (sample_blocks_in others) in
      let labels = zeros_behind label_cells count (label_blocks_in others) in
      four_apart (thirds_in (first ∷ others)) (drop 12 (carried_in first)) samples labels
      ∙ ap₂ (λ (l k : List ℕ). ((are_zero l && are_zero k) && are_zero samples) && are_zero labels) (ap thirds_in (sym (blocks_are bytes whole))) head_is
      ∙ ap₂ (λ (l k : List ℕ). ((are_zero (thirds_in (blocks_in bytes)) && are_zero behind) && are_zero l) && are_zero k) samples_are labels_are
