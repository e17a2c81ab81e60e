-- `band_counts::edges::reached` meets its contract: those that are counted, and those still to come that are reached, make all.
use Rattle.std.specs.Prelude.{if◌then◌else◌}
use mathlib.Core.Path.{◌≡◌, refl, ap}
use mathlib.Core.Bool.{Bool, true, false}
use Prim.Native.Nat.{ℕ, ◌+◌}
use native.Mathlib.Numerals.{add-one}
use native.Mathlib.Omega.{arith}
use lib.ListN.{get_or, drop}
use lib.Dec.{leb}
use mir.Val.{bool_byte}
use Rattle.band_counts.specs.Reached.{edges_reached}
use Rattle.band_counts.proofs.Reached.{at_most_all, reached_next, reached_end}
use Rattle.band_counts.proofs.edges.reached.Goals as goal

byte : (t : Bool) → bool_byte t ≡ (if t then 1 else 0)
byte true = refl
byte false = refl

-- an edge more: what is counted then
more : (c : goal.After-from-many) →
    let l = c.loop-edge in
    l.many + c.from-many.result + edges_reached (drop (l.edge-index + 1) c.args.edges.now) c.args.figure
    ≡ edges_reached c.args.edges.now c.args.figure
more c =
    let l = c.loop-edge in
    let next = reached_next c.args.edges.now l.edge-index c.args.figure c.loop-edge-test.true in
    let on = ap (λ (i : ℕ). edges_reached (drop i c.args.edges.now) c.args.figure) (add-one l.edge-index) in
    omega (arith, l.invariant.1, next, on, c.from-many.ensures, byte (leb (get_or c.args.edges.now l.edge-index 0) c.args.figure))

pub overflow_add-many : goal.overflow_add-many
overflow_add-many c = omega (arith, more c, at_most_all c.args.edges.now c.args.figure, c.requires)

pub loop-edge-preserved : goal.loop-edge-preserved
loop-edge-preserved c = (omega (arith, c.loop-edge-test.true), more c)

pub returns : goal.returns
returns c =
    let l = c.loop-edge in
    omega (arith, l.invariant.1, reached_end c.args.edges.now l.edge-index c.args.figure c.loop-edge-test.false)
