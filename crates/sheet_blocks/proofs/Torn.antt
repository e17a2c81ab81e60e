-- Torn blocks, in the order of their numbers.
use Prim.Native.Nat.{ℕ, suc, ◌≤◌, ◌<◌}
use mathlib.Core.Path.{◌≡◌, ap}
use mathlib.Core.Bool.{true, false}
use mathlib.Core.Option.{none, some}
use mathlib.Core.List.{List}
use Rattle.dstree.specs.Refusals.{torn_block, first_of}
use Rattle.dstree.specs.Sheet.{Format, is_torn, torn_conditions, blocks_in}
use Rattle.sheet_blocks.specs.Blocks.{block_count, block_at, later_blocks, kind_before}
use Rattle.sheet_blocks.proofs.Places.{all_blocks, next_block, no_block}

module _ (f : Format) (bytes : List ℕ) where
  pub torn_first : first_of (torn_conditions f 0 0 (blocks_in bytes)) ≡ first_of (torn_conditions f (kind_before bytes 0) 0 (later_blocks bytes 0))
  unfolding kind_before
  torn_first = ap (λ (l : List (List ℕ)). first_of (torn_conditions f 0 0 l)) (all_blocks bytes)

  pub torn_here : (number : ℕ) → number < block_count bytes → is_torn f (kind_before bytes number) number (block_at bytes number) ≡ true
      → first_of (torn_conditions f (kind_before bytes number) number (later_blocks bytes number)) ≡ some (torn_block number)
  unfolding torn_conditions first_of
  torn_here number h e = rw (next_block bytes (block_count bytes) number h, e)

  pub torn_later : (number : ℕ) → number < block_count bytes → is_torn f (kind_before bytes number) number (block_at bytes number) ≡ false
      → first_of (torn_conditions f (kind_before bytes number) number (later_blocks bytes number))
      ≡ first_of (torn_conditions f (kind_before bytes (suc number)) (suc number) (later_blocks bytes (suc number)))
  unfolding torn_conditions first_of kind_before
  torn_later number h e = rw (next_block bytes (block_count bytes) number h, e)

  pub torn_none : (number : ℕ) → block_count bytes ≤ number → first_of (torn_conditions f (kind_before bytes number) number (later_blocks bytes number)) ≡ none
  unfolding torn_conditions first_of
  torn_none number h = rw (no_block bytes (block_count bytes) number h)
