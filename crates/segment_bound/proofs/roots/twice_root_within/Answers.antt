-- `segment_bound::roots::twice_root_within` meets its contract: below zero no root is at most t; else the squares tell (`Newton`), and a square
-- from (2 ^ 32)² on is above every number of 64 bits.
use mathlib.Core.Path.{◌≡◌, refl, sym, ap, ◌∙◌}
use mathlib.Core.Bool.{false}
use Prim.Native.Nat.{ℕ, ◌+◌, ◌*◌, ◌/◌}
use native.Mathlib.Nat.{mul-le-mul}
use native.Mathlib.Omega.{arith}
use lib.Dec.{ltb}
use lib.IntN.{ℤ, pos, negsuc, nat_abs, ◌*ℤ◌}
use lib.Signed.{le_z}
use mir.Syntax.{w64}
use mir.Val.{SFits}
use mir.Facts.{to_z-of_z}
use borrow.Author.Tests.{lt-ltb}
use Rattle.std.specs.Int.{FitsUnsignedBits}
use Rattle.segment.specs.Roots.{floor_root}
use Rattle.segment.proofs.Newton.{twice_floor}
use Rattle.segment_bound.proofs.roots.twice_root_within.Goals as goal

-- ---- t below zero, and not
negative : (a : ℕ) (z : ℤ) → SFits w64 z → (FitsUnsignedBits 64 z → ⊥) → false ≡ le_z (pos a) z
negative a (pos n) h f = absurd (f (omega (arith, h.sfits)))
negative a (negsuc n) h f = refl

not_negative : (z : ℤ) → FitsUnsignedBits 64 z → z ≡ pos (nat_abs z)
not_negative (pos n) f = refl
not_negative (negsuc n) f = absurd f

-- what the squares tell is what is asked
asked : (v t : ℕ) (z : ℤ) → FitsUnsignedBits 64 z × (t ≡ nat_abs z) → ltb v ((t / 2 + 1) * (t / 2 + 1)) ≡ le_z (pos 2 *ℤ pos (floor_root v)) z
asked v t z f = sym (twice_floor v t) ∙ ap (le_z (pos 2 *ℤ pos (floor_root v))) (ap pos f.1 ∙ sym (not_negative z f.0))

pub returns-in_default : goal.returns-in_default
returns-in_default c =
    negative (2 * floor_root c.args.v) c.args.t c.ranges.t (rw (to_z-of_z c.ranges.t) at c.in_default.ensures)

-- a square that no number of 64 bits reaches
pub returns-then-beyond-ge4294967296 : goal.returns-then-beyond-ge4294967296
returns-then-beyond-ge4294967296 c =
    let n = c.in-Ok.t / 2 + 1 in
    let k = c.if-beyond-ge4294967296.true in
    sym (lt-ltb c.args.v (n * n) (omega (arith, mul-le-mul k k))) ∙ asked c.args.v c.in-Ok.t c.args.t (rw (to_z-of_z c.ranges.t) at c.in-Ok.ensures)

pub returns : goal.returns
returns c = asked c.args.v c.in-Ok.t c.args.t (rw (to_z-of_z c.ranges.t) at c.in-Ok.ensures)
