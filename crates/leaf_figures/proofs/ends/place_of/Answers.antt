-- `leaf_figures::ends::place_of` meets its contract: the ends passed, and the place among the rest, make the place among all.
use native.Mathlib.Omega.{arith}
use Rattle.leaf_figures.proofs.Placed.{place_here, place_later, place_end}
use Rattle.leaf_figures.proofs.ends.place_of.Goals as goal

pub loop-i-init : goal.loop-i-init
loop-i-init c = (omega arith, omega arith)

pub offset_bounds-at-i : goal.offset_bounds-at-i
offset_bounds-at-i c = omega (arith, c.requires.few)

pub bounds-at-i : goal.bounds-at-i
bounds-at-i c = omega (arith, c.requires.few)

pub returns-then-middle-at : goal.returns-then-middle-at
returns-then-middle-at c =
    let l = c.loop-i in
    let here = place_here c.args.e.at c.args.e.count (omega (arith, c.requires.places, c.requires.few)) c.args.middle l.i c.loop-i-test.true c.if-middle-at.true in record
    { value = omega (arith, l.invariant.1, here); inside = omega arith }

pub loop-i-preserved : goal.loop-i-preserved
loop-i-preserved c =
    let l = c.loop-i in
    let later = place_later c.args.e.at c.args.e.count (omega (arith, c.requires.places, c.requires.few)) c.args.middle l.i c.loop-i-test.true c.if-middle-at.false in
    (omega arith, omega (arith, l.invariant.1, later))

pub returns : goal.returns
returns c =
    let l = c.loop-i in
    let rest = place_end c.args.e.at c.args.e.count (omega (arith, c.requires.places, c.requires.few)) c.args.middle l.i c.loop-i-test.false in record
    { value = omega (arith, l.invariant.1, rest); inside = omega arith }
