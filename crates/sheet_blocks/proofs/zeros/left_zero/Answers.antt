-- `sheet_blocks::zeros::left_zero` meets its contract: what is left lies in the last block, behind the cells that the blocks before it do
-- not hold.
use mathlib.Core.Path.{◌≡◌, sym, ap, ◌∙◌}
use mathlib.Core.List.{List}
use Prim.Native.Nat.{ℕ, ◌+◌, ◌*◌, ◌-◌, ◌≤◌, ◌<◌}
use native.Mathlib.Nat.{mul-le-mul}
use native.Mathlib.Omega.{arith}
use lib.ListN.{length}
use Rattle.integer.proofs.Lists.{strict}
use Rattle.dstree.specs.Sheet.{block_size, most_blocks, carried_size, part, are_zero}
use Rattle.sheet_blocks.proofs.Places.{blocks, block_inside}
use Rattle.sheet_blocks.proofs.Left.{left_none, left_last, before_full, last_room}
use Rattle.sheet_blocks.proofs.zeros.left_zero.Goals as goal

-- with some block
module _ (c : goal.Else-from-to) where
  abbrev start : goal.Else-from-to
  start = c

  abbrev bytes : List ℕ
  bytes = start.args.sheet.now

  abbrev from : ℕ
  from = start.args.from

  abbrev to : ℕ
  to = start.args.to

  abbrev size : ℕ
  size = start.args.size

  some : from < to
  some = strict {m = from} {n = to} start.requires.1 c.if-from-to.false

  few : to ≤ most_blocks
  few = omega (arith, start.requires.2, (blocks bytes start.requires.0).few)

  full : (to - 1 - from) * size ≤ start.args.taken
  full = before_full size start.requires.3 bytes start.requires.0 from to start.args.taken start.requires.2 some start.requires.4

  room : start.args.taken - (to - 1 - from) * size ≤ size
  room = last_room size start.requires.3 bytes start.requires.0 from to start.args.taken start.requires.2 some start.requires.4

  product : (to - 1 - from) * size ≤ most_blocks * carried_size
  product = mul-le-mul {n₁ = to - 1 - from} {m₁ = size} {n₂ = most_blocks} {m₂ = carried_size} (omega (arith, few)) start.requires.3

  ends : (to - 1) * block_size + block_size ≤ length bytes
  ends = block_inside bytes start.requires.0 (to - 1) (omega (arith, some, start.requires.2))

-- with some block
module _ (c : goal.After-zeros) where
  abbrev start_2 : goal.After-zeros
  start_2 = c

  abbrev bytes_2 : List ℕ
  bytes_2 = start_2.args.sheet.now

  abbrev from_2 : ℕ
  from_2 = start_2.args.from

  abbrev to_2 : ℕ
  to_2 = start_2.args.to

  abbrev size_2 : ℕ
  size_2 = start_2.args.size

  some_2 : from_2 < to_2
  some_2 = strict {m = from_2} {n = to_2} start_2.requires.1 c.if-from-to.false

  few_2 : to_2 ≤ most_blocks
  few_2 = omega (arith, start_2.requires.2, (blocks bytes_2 start_2.requires.0).few)

  full_2 : (to_2 - 1 - from_2) * size_2 ≤ start_2.args.taken
  full_2 = before_full size_2 start_2.requires.3 bytes_2 start_2.requires.0 from_2 to_2 start_2.args.taken start_2.requires.2 some_2 start_2.requires.4

  room_2 : start_2.args.taken - (to_2 - 1 - from_2) * size_2 ≤ size_2
  room_2 = last_room size_2 start_2.requires.3 bytes_2 start_2.requires.0 from_2 to_2 start_2.args.taken start_2.requires.2 some_2 start_2.requires.4

  product_2 : (to_2 - 1 - from_2) * size_2 ≤ most_blocks * carried_size
  product_2 = mul-le-mul {n₁ = to_2 - 1 - from_2} {m₁ = size_2} {n₂ = most_blocks} {m₂ = carried_size} (omega (arith, few_2)) start_2.requires.3

  ends_2 : (to_2 - 1) * block_size + block_size ≤ length bytes_2
  ends_2 = block_inside bytes_2 start_2.requires.0 (to_2 - 1) (omega (arith, some_2, start_2.requires.2))

pub returns-then-from-to : goal.returns-then-from-to
returns-then-from-to c =
    let a = c.args in
    sym (left_none a.size c.requires.3 a.sheet.now c.requires.0 a.from a.to a.taken (omega (arith, c.if-from-to.true)))

pub overflow_sub-last : goal.overflow_sub-last
overflow_sub-last c = omega (arith, some c)

pub overflow_sub-used : goal.overflow_sub-used
overflow_sub-used c = omega (arith, some c)

pub overflow_mul-used : goal.overflow_mul-used
overflow_mul-used c = omega (arith, product c)

pub overflow_sub-used-2 : goal.overflow_sub-used-2
overflow_sub-used-2 c = omega (arith, full c)

pub overflow_mul-start : goal.overflow_mul-start
overflow_mul-start c = omega (arith, few c)

pub overflow_add-start : goal.overflow_add-start
overflow_add-start c = omega (arith, few c)

pub overflow_add-start-2 : goal.overflow_add-start-2
overflow_add-start-2 c = omega (arith, few c, room c, (start c).requires.3)

pub overflow_add-start-3 : goal.overflow_add-start-3
overflow_add-start-3 c = omega (arith, few c, (start c).requires.3)

pub zeros-requires : goal.zeros-requires
zeros-requires c = (omega (arith, room c), omega (arith, ends c, (start c).requires.3))

pub returns : goal.returns
returns c =
    let s = start_2 c in
    let u : ℕ = s.args.taken - (to_2 c - 1 - from_2 c) * size_2 c in
    let k : (to_2 c - 1) * block_size + 4 + size_2 c - ((to_2 c - 1) * block_size + 4 + u) ≡ size_2 c - u = omega arith in
    c.zeros.ensures
    ∙ ap (λ (n : ℕ). are_zero (part ((to_2 c - 1) * block_size + 4 + u) n (bytes_2 c))) k
    ∙ ap are_zero (sym (left_last (size_2 c) s.requires.3 (bytes_2 c) s.requires.0 (from_2 c) (to_2 c) s.args.taken s.requires.2 (some_2 c) s.requires.4))
