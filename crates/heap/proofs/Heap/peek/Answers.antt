-- `heap::Heap::peek` meets its contract: the key at place 0 is the least.
use Prim.Native.Nat.{◌<◌}
use native.Mathlib.Omega.{arith}
use Rattle.heap.proofs.Popping.{least_first}
use Rattle.heap.proofs.Heap.peek.Goals as goal

pub returns : goal.returns
returns c =
    let some : 0 < c.args.self.now.len = omega (arith, c.if-self-eq0.false) in
    (least_first c.args.self.now.len c.args.self.now.keys.now some c.args.self.now.room c.args.self.now.is_heap, some)
