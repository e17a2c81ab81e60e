-- `heap::sifting::rise` meets its contract: `Rise` is the invariant, and the hole's place the measure.
use mathlib.Core.Path.{◌≡◌}
use Prim.Native.Nat.{◌-◌, ◌/◌, ◌≤◌, ◌<◌}
use native.Mathlib.Omega.{arith}
use lib.ListN.{length-set}
use Rattle.heap.proofs.Rising.{rise_start, rise_step, rise_end}
use Rattle.heap.proofs.sifting.rise.Goals as goal

pub loop-at-init : goal.loop-at-init
loop-at-init c = rise_start c.args.n c.args.key c.args.s.now c.requires.0 c.requires.1

pub shape_of-s-then-k-key : goal.shape_of-s-then-k-key
shape_of-s-then-k-key c = simp length-set c.loop-at.invariant.long

pub returns-then-k-key : goal.returns-then-k-key
returns-then-k-key c =
    let L = c.loop-at in
    let a = c.args in
    let pre = c.requires in
    let t : 0 < L.at = c.loop-at-test.true in
    rise_end a.n a.key a.s.now pre.0 L.at L.s L.invariant
    (λ i p q. let e : i ≡ (L.at - 1) / 2 = omega (arith, p, q, t) in rw e c.if-k-key.true)

pub loop-at-preserved : goal.loop-at-preserved
loop-at-preserved c =
    let L = c.loop-at in
    let a = c.args in
    let pre = c.requires in
    let t : 0 < L.at = c.loop-at-test.true in
    rise_step a.n a.key a.s.now pre.0 L.at L.s L.invariant ((L.at - 1) / 2) (omega arith) (omega arith) c.if-k-key.false

pub shape_of-s : goal.shape_of-s
shape_of-s c = simp length-set c.loop-at.invariant.long

pub returns : goal.returns
returns c =
    let L = c.loop-at in
    let a = c.args in
    let pre = c.requires in
    let t : L.at ≤ 0 = c.loop-at-test.false in
    rise_end a.n a.key a.s.now pre.0 L.at L.s L.invariant (λ i p q. omega (arith, p, t))
