-- `sheet_line::text::put_refusal` meets its contract: item behind item.
use Prim.Native.Nat.{ℕ, ◌≤◌}
use mathlib.Core.Path.{refl}
use mathlib.Core.List.{List, ◌++◌}
use native.Mathlib.Omega.{arith}
use lib.ListN.{length, length-append}
use Rattle.sheet_line.proofs.Texts.{item, item_most, Wrote, join, from_first, refused_text, refusal_text}
use Rattle.sheet_line.proofs.text.put_refusal.Goals as goal

-- two items behind the first word, 21 bytes at most each
two_most : (one two : List ℕ) → length one ≤ 21 → length two ≤ 21 → length (refused_text ++ (one ++ two)) ≤ 84
two_most one two h i = omega (arith, length-append refused_text (one ++ two), length-append one two)

pub put_item-second-requires : goal.put_item-second-requires
put_item-second-requires c = omega (arith, c.requires, item_most c.args.number 32 c.ranges.number.fits, c.put_bytes.auto.bytes)

pub put_item-requires : goal.put_item-requires
put_item-requires c =
    let s = c.ranges in
    omega (
      arith,
      c.requires,
      item_most c.args.number 32 s.number.fits,
      item_most c.args.block 10 s.block.fits,
      c.put_bytes.auto.bytes,
      c.put_item-second.ensures.0,
      c.put_item-second.auto.out,
    )

pub returns : goal.returns
returns c =
    let g = c.args in
    let l : List ℕ = g.out.now in
    let one : List ℕ = item g.number 32 in
    let two : List ℕ = item g.block 10 in
    let a = c.put_bytes in
    let b = c.put_item-second in
    let d = c.put_item in
    let most : length (refused_text ++ (one ++ two)) ≤ 84 =
    two_most one two (item_most g.number 32 c.ranges.number.fits) (item_most g.block 10 c.ranges.block.fits) in
    let later : Wrote a.new.bytes 8 (one ++ two) d.new.out d.result =
    join a.new.bytes 8 one b.new.out b.result two d.new.out d.result b.ensures d.ensures in
    let first : Wrote l 0 refused_text a.new.bytes 8 = (refl, a.ensures) in
    from_first l (refused_text ++ (one ++ two)) d.new.out d.result
    (join l 0 refused_text a.new.bytes 8 (one ++ two) d.new.out d.result first later) (omega (arith, c.requires, most)) _
    (refusal_text g.number g.block)
