-- A signed width, as the needs of a proof ask it: `SFits w64 z` is −2⁶³ ≤ z < 2⁶³. One `from` proves both bounds:
--
--     fits-xx : SFits w64 (x *ℤ x)
--     fits-xx = fits (from (x ∷ []) (sq x & mul-diffs low high) (search reading depth 30) (omega arith))
--
--     mul-result c = simp (to_z-of_z, c.fits.x) (fits-xx c.pre)            (`to_z-of_z` of `mir.Facts`: a signed local holds bits)
--
-- Where sizes do, `small` and `size` carry them over, and the laws of `read` take what the machine did back to what is meant.
use mathlib.Core.Path.{◌≡◌, sym, ◌∙◌, ap, ap₂, subst}
use Prim.Native.Nat.{◌+◌, ◌^◌, ◌<◌}
use native.Mathlib.Omega.{arith}
use mir.Syntax.{Width}
use mir.Val.{SFits, hbits, to_z, of_z}
use mir.Facts.{to_z-of_z}
use lib.IntN.{ℤ, nat_abs, ◌-ℤ◌}
use lib.Signed.{mag, lt_z}
use Rattle.integer.proofs.Order.{mag_most, nat_abs_sub}

-- ---- sizes
-- what the read of an element shows, as the width's fact
pub of_mag : {w : Width} (z : ℤ) → mag z < 2 ^ hbits w → SFits w z
of_mag z h = record { sfits = h }

pub small : {w : Width} {z : ℤ} → nat_abs z < 2 ^ hbits w → SFits w z
small {w} {z} h = record { sfits = omega (arith, mag_most z) }

-- ---- a signed local holds bits; this is what an operation reads back from those of z
abbrev pub read : Width → ℤ → ℤ
read w z = to_z w (of_z w z)

-- of two numbers: their test, and their difference
module _ {w : Width} {a b : ℤ} (fa : SFits w a) (fb : SFits w b) where
  pub read_test : lt_z (read w a) (read w b) ≡ lt_z a b
  read_test = ap₂ lt_z (to_z-of_z fa) (to_z-of_z fb)

  module _ (h : nat_abs a + nat_abs b < 2 ^ hbits w) where
    pub fits_difference : SFits w (read w a -ℤ read w b)
    fits_difference = subst (SFits w) (sym (ap₂ ◌-ℤ◌ (to_z-of_z fa) (to_z-of_z fb))) (small (omega (arith, nat_abs_sub a b)))

    pub read_difference : read w (read w a -ℤ read w b) ≡ a -ℤ b
    read_difference = ap (read w) (ap₂ ◌-ℤ◌ (to_z-of_z fa) (to_z-of_z fb)) ∙ to_z-of_z (small (omega (arith, nat_abs_sub a b)))
