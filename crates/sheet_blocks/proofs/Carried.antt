-- The bytes that cells take, through some of the blocks. A block carries `size` bytes of cells at most.
use Prim.Native.Nat.{ℕ, zero, suc, ◌+◌, ◌*◌, ◌-◌, ◌≤◌, ◌<◌}
use mathlib.Core.Path.{◌≡◌, ◌∙◌, ap}
use mathlib.Core.List.{List, [], ◌++◌, map, flatten}
use native.Mathlib.Omega.{arith}
use native.Mathlib.Nat.{le_refl}
use lib.ListN.{length, take, drop, length-drop}
use lib.Seq.{take-take, take-append-le, drop-append-le, drop-append-add}
use Rattle.dstree.specs.Sheet.{block_size, carried_size, part, carried_in}
use Rattle.dstree.proofs.SheetPieces.{part_length, part_part, drop_part}
use Rattle.sheet_blocks.specs.Blocks.{block_count, InBlocks, block_at, cells_between}
use Rattle.sheet_blocks.proofs.Places.{next_block, no_block, block_inside}

module _ (size : ℕ) (room : size ≤ carried_size) (bytes : List ℕ) (whole : InBlocks bytes) where
  abbrev pub carried_at : ℕ → List ℕ
  carried_at number = part (number * block_size + 4) size bytes

  carried_length : (number : ℕ) → number < block_count bytes → length (carried_at number) ≡ size
  carried_length number h = part_length (number * block_size + 4) size bytes (omega (arith, block_inside bytes whole number h))

  carried_is : (number : ℕ) → take size (carried_in (block_at bytes number)) ≡ carried_at number
  carried_is number =
      take-take size carried_size (drop 4 (block_at bytes number)) room ∙ part_part 4 size (number * block_size) block_size bytes (omega arith)

  module _ (to : ℕ) (inside : to ≤ block_count bytes) where
    -- what the blocks from a number on carry
    abbrev pub carried_from : ℕ → List ℕ
    carried_from number = cells_between size bytes number to

    one_block : (number : ℕ) → number < to → carried_from number ≡ carried_at number ++ carried_from (suc number)
    unfolding flatten
    one_block number h =
        ap (λ (l : List (List ℕ)). flatten (map (λ (b : List ℕ). take size (carried_in b)) l)) (next_block bytes to number h)
        ∙ ap (λ (l : List ℕ). l ++ carried_from (suc number)) (carried_is number)

    -- from a place of a later block on
    pub carried_on : (later number u : ℕ) → number + later < to → u ≤ size
        → drop (later * size + u) (carried_from number) ≡ drop u (carried_at (number + later)) ++ carried_from (suc (number + later))
    carried_on zero number u h k =
        let e : number + 0 ≡ number = omega arith in
        let z : 0 * size + u ≡ u = omega arith in
        rw (e, z, one_block number (omega arith))
        (drop-append-le u (carried_at number) (carried_from (suc number)) (rw (carried_length number (omega arith)) k))
    carried_on (suc later) number u h k =
        let e : number + suc later ≡ suc number + later = omega arith in
        let p : suc later * size + u ≡ length (carried_at number) + (later * size + u) =
        omega (arith, carried_length number (omega arith)) in
        rw (e, p, one_block number (omega arith))
        (drop-append-add (carried_at number) (carried_from (suc number)) (later * size + u) ∙ carried_on later (suc number) u (omega arith) k)

    -- bytes of cells that lie in one block
    pub carried_part : (later number u k : ℕ) → number + later < to → u + k ≤ size
        → part (later * size + u) k (carried_from number) ≡ part ((number + later) * block_size + 4 + u) k bytes
    carried_part later number u k h r =
        let at : ℕ = number + later in
        ap (take k) (carried_on later number u h (omega arith))
        ∙ take-append-le k (drop u (carried_at at)) (carried_from (suc at))
        (omega (arith, length-drop u (carried_at at), carried_length at (omega arith)))
        ∙ ap (take k) (drop_part u (at * block_size + 4) size bytes)
        ∙ take-take k (size - u) (drop (at * block_size + 4 + u) bytes) (omega arith)

    -- behind the last block there is nothing
    pub carried_none : carried_from to ≡ []
    unfolding flatten
    carried_none =
        ap (λ (l : List (List ℕ)). flatten (map (λ (b : List ℕ). take size (carried_in b)) l)) (no_block bytes to to (le_refl to))
