-- The fields of block 0.
use Prim.Native.Nat.{ℕ, ◌+◌, ◌≤◌}
use mathlib.Core.Path.{◌≡◌, sym, ◌∙◌, ap}
use mathlib.Core.List.{List}
use native.Mathlib.Omega.{arith}
use Rattle.dstree.specs.Sheet.{block_size, part, number_in, measures_in, count_in}
use Rattle.sheet_blocks.specs.Blocks.{block_at}
use Rattle.sheet_judging.specs.HeadBlock.{HeadSays}
use Rattle.dstree.proofs.SheetPieces.{part_part}

-- a field of block 0 is the sheet's
module _ (bytes : List ℕ) where
  first_part : (place k : ℕ) → place + k ≤ block_size → part place k (block_at bytes 0) ≡ part place k bytes
  first_part place k h =
      let e : 0 + place ≡ place = omega arith in part_part place k 0 block_size bytes h ∙ ap (λ (at : ℕ). part at k bytes) e

  pub first_letters : part 4 4 (block_at bytes 0) ≡ part 4 4 bytes
  first_letters = first_part 4 4 (omega arith)

  field : (place : ℕ) → place + 2 ≤ block_size → number_in (part place 2 (block_at bytes 0)) ≡ number_in (part place 2 bytes)
  field place h = ap number_in (first_part place 2 h)

  pub says : (n capacity leaf_size count : ℕ) → n ≡ number_in (part 8 2 bytes) → capacity ≡ number_in (part 10 2 bytes)
      → leaf_size ≡ number_in (part 12 2 bytes) → count ≡ number_in (part 14 2 bytes) → HeadSays (block_at bytes 0) n capacity leaf_size count
  unfolding measures_in count_in
  says n capacity leaf_size count a b c d = record {
    measures_are = rw (field 8 (omega arith), field 10 (omega arith), field 12 (omega arith), a, b, c);
    count_is = field 14 (omega arith) ∙ sym d;
  }
