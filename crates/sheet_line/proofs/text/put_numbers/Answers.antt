-- `sheet_line::text::put_numbers` meets its contract: item behind item.
use Prim.Native.Nat.{ℕ, ◌≤◌}
use mathlib.Core.List.{List, ◌++◌}
use native.Mathlib.Omega.{arith}
use lib.ListN.{length, length-append}
use Rattle.sheet_line.proofs.Texts.{item, item_most, Wrote, join, from_first, numbers_text}
use Rattle.sheet_line.proofs.text.put_numbers.Goals as goal

-- four items, 21 bytes at most each
four_most : (one two three four : List ℕ) → length one ≤ 21 → length two ≤ 21 → length three ≤ 21 → length four ≤ 21
    → length (one ++ (two ++ (three ++ four))) ≤ 84
four_most one two three four h i j k =
    omega (arith, length-append one (two ++ (three ++ four)), length-append two (three ++ four), length-append three four)

pub put_item-second-requires : goal.put_item-second-requires
put_item-second-requires c = omega (arith, c.requires, item_most c.args.trace 32 c.ranges.trace.fits)

pub put_item-third-requires : goal.put_item-third-requires
put_item-third-requires c =
    let s = c.ranges in
    omega (
      arith,
      c.requires,
      item_most c.args.trace 32 s.trace.fits,
      item_most c.args.distance 32 s.distance.fits,
      c.put_item-second.ensures.0,
      c.put_item-second.auto.out,
    )

pub put_item-fourth-requires : goal.put_item-fourth-requires
put_item-fourth-requires c =
    let s = c.ranges in
    let a = c.put_item-second in
    let b = c.put_item-third in
    omega (
      arith,
      c.requires,
      item_most c.args.trace 32 s.trace.fits,
      item_most c.args.distance 32 s.distance.fits,
      item_most c.args.leaves 32 s.leaves.fits,
      a.ensures.0,
      a.auto.out,
      b.ensures.0,
      b.auto.out,
    )

pub put_item-requires : goal.put_item-requires
put_item-requires c =
    let s = c.ranges in
    let a = c.put_item-second in
    let b = c.put_item-third in
    let d = c.put_item-fourth in
    omega (
      arith,
      c.requires,
      item_most c.args.trace 32 s.trace.fits,
      item_most c.args.distance 32 s.distance.fits,
      item_most c.args.leaves 32 s.leaves.fits,
      item_most c.args.traces 10 s.traces.fits,
      a.ensures.0,
      a.auto.out,
      b.ensures.0,
      b.auto.out,
      d.ensures.0,
      d.auto.out,
    )

pub returns : goal.returns
returns c =
    let g = c.args in
    let s = c.ranges in
    let l : List ℕ = g.out.now in
    let one : List ℕ = item g.trace 32 in
    let two : List ℕ = item g.distance 32 in
    let three : List ℕ = item g.leaves 32 in
    let four : List ℕ = item g.traces 10 in
    let a = c.put_item-second in
    let b = c.put_item-third in
    let d = c.put_item-fourth in
    let e = c.put_item in
    let most : length (one ++ (two ++ (three ++ four))) ≤ 84 =
    four_most one two three four (item_most g.trace 32 s.trace.fits) (item_most g.distance 32 s.distance.fits)
    (item_most g.leaves 32 s.leaves.fits) (item_most g.traces 10 s.traces.fits) in
    let last : Wrote b.new.out b.result (three ++ four) e.new.out e.result =
    join b.new.out b.result three d.new.out d.result four e.new.out e.result d.ensures e.ensures in
    let later : Wrote a.new.out a.result (two ++ (three ++ four)) e.new.out e.result =
    join a.new.out a.result two b.new.out b.result (three ++ four) e.new.out e.result b.ensures last in
    from_first l (one ++ (two ++ (three ++ four))) e.new.out e.result
    (join l 0 one a.new.out a.result (two ++ (three ++ four)) e.new.out e.result a.ensures later) (omega (arith, c.requires, most)) _
    (numbers_text g.trace g.distance g.leaves g.traces)
