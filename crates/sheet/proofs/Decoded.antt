-- The number of two bytes, or of four, read as a sample: as the library has it, and as the definition does.
use mathlib.Core.Path.{◌≡◌, refl, ap}
use mathlib.Core.Bool.{Bool, true, false}
use mathlib.Core.List.{List}
use Prim.Native.Nat.{ℕ, ◌*◌, ◌^◌, ◌≤◌, ◌<◌}
use native.Mathlib.Omega.{arith}
use lib.Dec.{ltb}
use lib.IntN.{negsuc}
use mir.Syntax.{Width}
use mir.Val.{bits, hbits, to_z}
use borrow.Author.Tests.{ltb-true, ltb-false, lt-ltb, le-ltb}
use Rattle.dstree.specs.Sheet.{number_in, Format, decoded}

-- `half` is the first number that stands for a sample below 0
module _ (f : Format) (w : Width) (half : ℕ) (signs : 2 ^ hbits w ≡ half) (all : 2 ^ bits w ≡ 2 * half) (bytes_all : 256 ^ f.sample_bytes ≡ 2 * half) where
  low : (v : ℕ) (bytes : List ℕ) → number_in bytes ≡ v → v < half → to_z w v ≡ decoded f bytes
  unfolding decoded
  low v bytes e h = rw (e, signs, bytes_all, lt-ltb v half h, lt-ltb (2 * v) (2 * half) (omega arith)) refl

  high : (v : ℕ) (bytes : List ℕ) → number_in bytes ≡ v → half ≤ v → to_z w v ≡ decoded f bytes
  unfolding decoded
  high v bytes e h = rw (e, signs, all, bytes_all, le-ltb v half h, le-ltb (2 * v) (2 * half) (omega arith)) (ap negsuc (omega arith))

  pub signed_is : (v : ℕ) (bytes : List ℕ) → number_in bytes ≡ v → to_z w v ≡ decoded f bytes
  signed_is v bytes e = by (ltb v half) refl
    where
      by : (b : Bool) → ltb v half ≡ b → to_z w v ≡ decoded f bytes
      by true t = low v bytes e (ltb-true v half t)
      by false t = high v bytes e (ltb-false v half t)
