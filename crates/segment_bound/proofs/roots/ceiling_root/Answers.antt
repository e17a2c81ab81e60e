-- `segment_bound::roots::ceiling_root` meets its contract: the floor root is the ceiling root where its square is v, and one less than it
-- otherwise (`Newton`). The floor root of a 64-bit number is at most 2 ^ 32, so that one more fits.
use Prim.Native.Nat.{ℕ, ◌*◌, ◌^◌, ◌≤◌, ◌<◌}
use native.Mathlib.Omega.{arith}
use Rattle.segment.proofs.Newton.{floor_is, floor_bound, exact, not_exact, ceiling_unique}
use Rattle.segment_bound.proofs.roots.ceiling_root.Goals as goal

at_most : (v : ℕ) → v < 2 ^ 64 → v ≤ 2 ^ 32 * 2 ^ 32
at_most v h = omega arith

pub overflow_mul-r : goal.overflow_mul-r
overflow_mul-r c = omega (arith, (floor_is c.floor_root-r.ensures).square_at_most)

pub overflow_add-result : goal.overflow_add-result
overflow_add-result c = omega (arith, c.floor_root-r.ensures, floor_bound {k = 2 ^ 32} (at_most c.args.v c.ranges.v.fits))

pub returns-then-r-v : goal.returns-then-r-v
returns-then-r-v c = ceiling_unique (exact (floor_is c.floor_root-r.ensures) c.if-r-v.true)

pub returns-else-r-v : goal.returns-else-r-v
returns-else-r-v c = omega (arith, ceiling_unique (not_exact (floor_is c.floor_root-r.ensures) c.if-r-v.false))
