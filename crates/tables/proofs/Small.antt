-- Fields as numbers without a sign, which come back as they were read.
use Rattle.std.specs.Prelude.{if◌then◌else◌}
use mathlib.Core.Path.{◌≡◌, refl}
use mathlib.Core.Bool.{Bool, true, false}
use Prim.Native.Nat.{ℕ, ◌≤◌, ◌^◌}
use native.Mathlib.Omega.{arith}
use lib.Dec.{ltb}
use lib.IntN.{ℤ, pos, negsuc}
use borrow.Author.Tests.{le-ltb}
use Rattle.tables.specs.View.{small_of, scatter_in}

-- a 16-bit number reads as itself
pub small_read : (v : ℕ) → v ≤ 65535 → small_of (pos v) ≡ v
small_read v h = rw (le-ltb 65535 v h)

pub small_back : (z : ℤ) → small_of z ≤ 65535 → pos (small_of z) ≡ z
small_back (pos n) h = by (ltb 65535 n) h
  where
    by : (b : Bool) → (if b then 65536 else n) ≤ 65535 → pos (if b then 65536 else n) ≡ pos n
    by true g = absurd (omega arith)
    by false g = refl
small_back (negsuc n) h = absurd (omega arith)

pub scatter_back : (z : ℤ) → scatter_in z ≤ 2 ^ 54 → pos (scatter_in z) ≡ z
scatter_back (pos n) h = refl
scatter_back (negsuc n) h = absurd (omega arith)
