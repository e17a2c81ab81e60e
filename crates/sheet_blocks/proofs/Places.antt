-- The blocks of a sheet, one after another.
use Prim.Native.Nat.{ℕ, suc, ◌+◌, ◌*◌, ◌-◌, ◌≤◌, ◌<◌}
use mathlib.Core.Path.{◌≡◌, refl, sym, ◌∙◌, ap, ap₂}
use mathlib.Core.Bool.{Bool, true, false}
use mathlib.Core.List.{List, [], ◌∷◌}
use native.Mathlib.Omega.{arith}
use native.Mathlib.Nat.{suc-mul, zero-mul, sub-zero}
use lib.ListN.{length, get_or, take, drop}
use lib.Seq.{drop-drop}
use lib.Dec.{eqb}
use Rattle.dstree.specs.Sheet.{block_size, part, pieces, label_kind, blocks_in, kind_in, before_labels, sample_blocks_in, label_blocks_in}
use Rattle.dstree.specs.SheetWidths.{format_by}
use Rattle.dstree.proofs.SheetPieces.{part_at, part_length, pieces_length, pieces_take, pieces_drop}
use Rattle.dstree.proofs.SheetRead.{Blocks, in_blocks}
use Rattle.sheet_blocks.specs.Blocks.{block_count, InBlocks, block_at, blocks_between, later_blocks, label_start}

-- every block is among those from number 0 on
pub all_blocks : (bytes : List ℕ) → blocks_in bytes ≡ later_blocks bytes 0
unfolding blocks_in
all_blocks bytes = sym (rw (zero-mul block_size, sub-zero (block_count bytes)))

one_more : {A : Type 0} (size count from : ℕ) (l : List A) → from < count
    → pieces size (count - from) (drop (from * size) l)
    ≡ part (from * size) size l ∷ pieces size (count - suc from) (drop (suc from * size) l)
unfolding pieces
one_more {A} size count from l h =
    let e : count - from ≡ suc (count - suc from) = omega arith in
    let k : from * size + size ≡ suc from * size = omega (arith, suc-mul from size) in
    rw e (ap (λ (rest : List A). part (from * size) size l ∷ pieces size (count - suc from) rest) (drop-drop size (from * size) l ∙ ap (λ (i : ℕ). drop i l) k))

module _ (bytes : List ℕ) where
  -- the first of those from a number on
  pub next_block : (to number : ℕ) → number < to → blocks_between bytes number to ≡ block_at bytes number ∷ blocks_between bytes (suc number) to
  next_block to number h = one_more block_size to number bytes h

  pub no_block : (to number : ℕ) → to ≤ number → blocks_between bytes number to ≡ []
  unfolding pieces
  no_block to number h = let e : to - number ≡ 0 = omega arith in rw e refl

  -- byte 2 of a block
  pub kind_at : (number : ℕ) → kind_in (block_at bytes number) ≡ get_or bytes (number * block_size + 2) 0
  kind_at number = part_at 2 (number * block_size) block_size bytes 0 (omega arith)

  module _ (whole : InBlocks bytes) where
    pub blocks : Blocks (length bytes)
    blocks = in_blocks (length bytes) whole

    -- block 0, and the others
    pub blocks_are : blocks_in bytes ≡ block_at bytes 0 ∷ later_blocks bytes 1
    blocks_are = all_blocks bytes ∙ next_block (block_count bytes) 0 blocks.some_block

    -- block 0 is there
    pub first_inside : block_size ≤ length bytes
    first_inside = omega (arith, blocks.some_block, blocks.all_whole)

    -- a block ends inside the sheet
    pub block_inside : (number : ℕ) → number < block_count bytes → number * block_size + block_size ≤ length bytes
    block_inside number h = omega (arith, blocks.all_whole)

    pub block_length : (number : ℕ) → number < block_count bytes → length (block_at bytes number) ≡ block_size
    block_length number h = part_length (number * block_size) block_size bytes (block_inside number h)

-- the part of a sheet that ends a block behind its start
pub part_is : (bytes : List ℕ) (number from : ℕ) → from ≡ number * block_size
    → take (from + block_size - from) (drop from bytes) ≡ block_at bytes number
part_is bytes number from e = let k : from + block_size - from ≡ block_size = omega arith in rw (k, e)

-- ---- where the labels begin

module _ (b : List ℕ) (rest : List (List ℕ)) where
  pub labels_here : eqb (kind_in b) label_kind ≡ true → before_labels (b ∷ rest) ≡ 0
  unfolding before_labels
  labels_here e = rw e refl

  pub labels_later : eqb (kind_in b) label_kind ≡ false → before_labels (b ∷ rest) ≡ suc (before_labels rest)
  unfolding before_labels
  labels_later e = rw e refl

pub labels_none : before_labels [] ≡ 0
unfolding before_labels
labels_none = refl

before_few : (bs : List (List ℕ)) → before_labels bs ≤ length bs
before_few [] = omega (arith, labels_none)
before_few (b ∷ bs) = by (before_few bs) (eqb (kind_in b) label_kind) refl
  where
    by : before_labels bs ≤ length bs → (c : Bool) → eqb (kind_in b) label_kind ≡ c → before_labels (b ∷ bs) ≤ suc (length bs)
    by few true e = omega (arith, labels_here b bs e)
    by few false e = omega (arith, labels_later b bs e, few)

module _ (bytes : List ℕ) (whole : InBlocks bytes) where
  abbrev others : List (List ℕ)
  others = later_blocks bytes 1

  pub start_within : label_start bytes ≤ block_count bytes
  start_within =
      omega (
        arith,
        before_few others,
        pieces_length block_size (block_count bytes - 1) (drop (1 * block_size) bytes),
        (blocks bytes whole).some_block,
      )

  -- the blocks of samples stand between block 0 and the labels
  pub samples_between : sample_blocks_in others ≡ blocks_between bytes 1 (label_start bytes)
  samples_between =
      let e : before_labels others ≡ label_start bytes - 1 = omega arith in
      pieces_take block_size (before_labels others) (block_count bytes - 1) (drop (1 * block_size) bytes) (omega (arith, start_within))
      ∙ ap (λ (k : ℕ). pieces block_size k (drop (1 * block_size) bytes)) e

  pub labels_between : label_blocks_in others ≡ later_blocks bytes (label_start bytes)
  labels_between =
      let s : ℕ = before_labels others in
      let e : block_count bytes - 1 - s ≡ block_count bytes - suc s = omega arith in
      let k : 1 * block_size + s * block_size ≡ suc s * block_size = omega arith in
      pieces_drop block_size s (block_count bytes - 1) (drop (1 * block_size) bytes)
      ∙ ap₂ (λ (a : ℕ) (l : List ℕ). pieces block_size a l) e (drop-drop (s * block_size) (1 * block_size) bytes ∙ ap (λ (i : ℕ). drop i bytes) k)

-- ---- the two formats

pub each_most : (four : Bool) → (126 ≤ (format_by four).samples_per_block) × ((format_by four).samples_per_block ≤ 253)
each_most true = (omega arith, omega arith)
each_most false = (omega arith, omega arith)
