-- `segment_bound::roots::floor_root` meets its contract: whatever number above the root they start from, the last of the falling estimates is the
-- floor root (`Newton`).
use mathlib.Core.Path.{◌∙◌}
use Prim.Native.Nat.{ℕ}
use native.Mathlib.Omega.{arith}
use Rattle.segment.proofs.Newton.{between, floor_unique, floor_from}
use Rattle.segment_bound.proofs.roots.floor_root.Goals as goal

pub returns-then-v-eq0 : goal.returns-then-v-eq0
returns-then-v-eq0 c = floor_unique (between (omega arith) (omega arith))

pub falling_from-requires : goal.falling_from-requires
falling_from-requires c = (omega arith, c.line.ensures.0, c.line.ensures.1)

pub returns : goal.returns
returns c =
    let v : ℕ = c.args.v in
    c.falling_from.ensures ∙ floor_from v c.line.result (omega arith) c.line.ensures.1
