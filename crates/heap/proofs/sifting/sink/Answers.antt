-- `heap::sifting::sink` meets its contract: `Sink` is the invariant, with the place of the first key below the hole.
use mathlib.Core.Path.{◌≡◌}
use Prim.Native.Nat.{◌+◌, ◌*◌}
use native.Mathlib.Omega.{arith}
use lib.ListN.{length-set}
use Rattle.heap.specs.Heap.{Lesser}
use Rattle.heap.proofs.Shape.{lesser_all}
use Rattle.heap.proofs.Sinking.{sink_start, sink_step, sink_end}
use Rattle.heap.proofs.sifting.sink.Goals as goal

pub loop-left-init : goal.loop-left-init
loop-left-init c =
    let a = c.args in
    let pre = c.requires in
    (sink_start a.n a.key a.s.now pre.0 pre.1 pre.2 pre.3, omega arith)

pub shape_of-s-then-key-k : goal.shape_of-s-then-key-k
shape_of-s-then-key-k c = simp length-set c.loop-left.invariant.0.long

pub returns-then-key-k : goal.returns-then-key-k
returns-then-key-k c =
    let L = c.loop-left in
    let a = c.args in
    let pre = c.requires in
    let all = lesser_all a.n L.at L.left L.s c.lesser-c.result L.invariant.1 c.lesser-c.ensures in
    sink_end a.n a.key a.s.now pre.0 pre.1 L.at L.s L.invariant.0
    (λ j p q r. omega (arith, c.if-key-k.true, all j p q r))

pub loop-left-preserved : goal.loop-left-preserved
loop-left-preserved c =
    let L = c.loop-left in
    let a = c.args in
    let pre = c.requires in
    let f = c.lesser-c in
    let k : Lesser a.n L.left L.s f.result = f.ensures in
    let e : L.left ≡ 2 * L.at + 1 = L.invariant.1 in
    let all = lesser_all a.n L.at L.left L.s f.result e k in (
      sink_step a.n a.key a.s.now pre.0 pre.1 L.at L.s L.invariant.0 f.result
          (omega (arith, e, k.low)) (omega (arith, e, k.high)) k.room (omega (arith, c.if-key-k.false)) all,
      omega arith,
    )

pub shape_of-s : goal.shape_of-s
shape_of-s c = simp length-set c.loop-left.invariant.0.long

pub returns : goal.returns
returns c =
    let L = c.loop-left in
    let a = c.args in
    let pre = c.requires in
    sink_end a.n a.key a.s.now pre.0 pre.1 L.at L.s L.invariant.0
    (λ j p q r. omega (arith, p, r, L.invariant.1, c.loop-left-test.false))
