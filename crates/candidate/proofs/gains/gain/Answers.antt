-- `candidate::gains::gain` meets its contract: both parts have at most 62 bits, so that their difference does not wrap.
use mathlib.Core.Path.{◌≡◌}
use Prim.Native.Nat.{ℕ, ◌+◌, ◌*◌, ◌^◌, ◌≤◌}
use native.Mathlib.Omega.{arith}
use lib.IntN.{pos, ◌-ℤ◌}
use mir.Syntax.{w64}
use mir.Val.{SFits, to_z}
use mir.Facts.{to_z-of_z}
use Rattle.integer.proofs.Order.{nat_abs_diff}
use Rattle.integer.proofs.Width.{small}
use Rattle.candidate.proofs.gains.gain.Goals as goal

-- a number of at most 62 bits, read as one with a sign
back : (m : ℕ) → m ≤ 2 ^ 62 → to_z w64 m ≡ pos m
back m h = to_z-of_z (small {w = w64} {z = pos m} (omega arith))

fits : (m n : ℕ) → m ≤ 2 ^ 62 → n ≤ 2 ^ 62 → SFits w64 (pos m -ℤ pos n)
fits m n h k = small {w = w64} (omega (arith, nat_abs_diff (pos m) (pos n)))

pub overflow_sub-result : goal.overflow_sub-result
overflow_sub-result c =
    let a = c.args in
    rw (back (2 * a.whole) (omega arith), back (a.left + a.right) (omega arith)) (fits (2 * a.whole) (a.left + a.right) (omega arith) (omega arith))

pub returns : goal.returns
returns c =
    let a = c.args in
    rw (back (2 * a.whole) (omega arith), back (a.left + a.right) (omega arith)) (to_z-of_z (fits (2 * a.whole) (a.left + a.right) (omega arith) (omega arith)))
