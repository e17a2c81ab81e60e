-- `sheet_blocks::blocks::first_torn` meets its contract. The loop's invariant: what the blocks from the cursor on show is what all blocks
-- show.
use mathlib.Core.Path.{◌≡◌, sym, ap, ap₂, ◌∙◌}
use mathlib.Core.Bool.{Bool}
use mathlib.Core.List.{List}
use Prim.Native.Nat.{ℕ, suc, ◌+◌, ◌*◌, ◌-◌}
use native.Mathlib.Omega.{arith}
use lib.ListN.{length, take, drop}
use Rattle.dstree.specs.Refusals.{first_of}
use Rattle.dstree.specs.Sheet.{Format, block_size, is_torn, blocks_in, torn_conditions}
use Rattle.sheet.specs.Formats.{format_by}
use Rattle.tables.specs.Answers.{word_of, found_by}
use Rattle.sheet_blocks.specs.Blocks.{block_at, later_blocks, kind_before}
use Rattle.sheet_blocks.proofs.Places.{blocks, block_inside, block_length, part_is}
use Rattle.sheet_blocks.proofs.Torn.{torn_first, torn_here, torn_later, torn_none}
use Rattle.sheet_blocks.proofs.blocks.first_torn.Goals as goal

-- what the look at a block showed
judged : (f : Format) (bytes : List ℕ) (number : ℕ) {from before : ℕ} {r : Bool}
    → r ≡ is_torn f before number (take (from + block_size - from) (drop from bytes))
    → from ≡ number * block_size → before ≡ kind_before bytes number → r ≡ is_torn f (kind_before bytes number) number (block_at bytes number)
judged f bytes number {from} e at k = e ∙ ap₂ (λ (kind : ℕ) (l : List ℕ). is_torn f kind number l) k (part_is bytes number from at)

pub loop-cursor-init : goal.loop-cursor-init
loop-cursor-init c = (omega arith, rw c.first-cursor.ensures (torn_first (format_by c.args.format) c.args.sheet.now))

pub start-from-requires : goal.start-from-requires
start-from-requires c = let w = blocks c.args.sheet.now c.requires in omega (arith, c.loop-cursor-test.true, w.few)

pub kind_before-before-requires : goal.kind_before-before-requires
kind_before-before-requires c = (c.requires, omega (arith, c.loop-cursor-test.true))

pub slice_bounds-is_torn-end : goal.slice_bounds-is_torn-end
slice_bounds-is_torn-end c =
    omega (arith, c.start-from.ensures, block_inside c.args.sheet.now c.requires c.loop-cursor.cursor.number c.loop-cursor-test.true)

pub is_torn-requires : goal.is_torn-requires
is_torn-requires c =
    let bytes = c.args.sheet.now in
    let number = c.loop-cursor.cursor.number in
    ap length (part_is bytes number c.start-from.result c.start-from.ensures) ∙ block_length bytes c.requires number c.loop-cursor-test.true

pub returns-then-is_torn : goal.returns-then-is_torn
unfolding found_by word_of
returns-then-is_torn c =
    let f = format_by c.args.format in
    let bytes = c.args.sheet.now in
    let number = c.loop-cursor.cursor.number in
    let seen = judged f bytes number c.is_torn.ensures c.start-from.ensures c.kind_before-before.ensures in
    sym (c.loop-cursor.invariant.1 ∙ torn_here f bytes number c.loop-cursor-test.true (sym seen ∙ c.if-is_torn.true))

pub next-cursor-requires : goal.next-cursor-requires
next-cursor-requires c = let w = blocks c.args.sheet.now c.requires in omega (arith, c.loop-cursor-test.true, w.few)

pub loop-cursor-smaller : goal.loop-cursor-smaller
loop-cursor-smaller c = let e = c.next-cursor.ensures.0 in omega arith

pub loop-cursor-preserved : goal.loop-cursor-preserved
loop-cursor-preserved c =
    let f = format_by c.args.format in
    let bytes = c.args.sheet.now in
    let number = c.loop-cursor.cursor.number in
    let seen = judged f bytes number c.is_torn.ensures c.start-from.ensures c.kind_before-before.ensures in
    let e : c.next-cursor.result.number ≡ suc number = c.next-cursor.ensures.0 in
    let rest : first_of (torn_conditions f 0 0 (blocks_in bytes))
    ≡ first_of (torn_conditions f (kind_before bytes (suc number)) (suc number) (later_blocks bytes (suc number))) =
    c.loop-cursor.invariant.1 ∙ torn_later f bytes number c.loop-cursor-test.true (sym seen ∙ c.if-is_torn.false) in
    (omega arith, rw e rest)

pub returns : goal.returns
unfolding found_by
returns c =
    sym (c.loop-cursor.invariant.1 ∙ torn_none (format_by c.args.format) c.args.sheet.now c.loop-cursor.cursor.number c.loop-cursor-test.false)
