-- Ranges one after another: those from a place on are crossed if the first of them is, or one behind it.
use Prim.Native.Nat.{ℕ, zero, suc, ◌≤◌, ◌<◌}
use mathlib.Core.Path.{◌≡◌, refl}
use mathlib.Core.Bool.{false, ◌||◌}
use mathlib.Core.List.{List, [], ◌∷◌}
use native.Mathlib.Omega.{arith}
use lib.IntN.{ℤ, pos}
use lib.ListN.{length, get_or, drop}
use lib.Signed.{lt_z}
use Rattle.segment.specs.Clipped.{is_crossed}

pub crossed_next : (i : ℕ) (lows highs : List ℤ) → i < length lows → length lows ≡ length highs
    → is_crossed (drop i lows) (drop i highs)
    ≡ (lt_z (get_or highs i (pos 0)) (get_or lows i (pos 0)) || is_crossed (drop (suc i) lows) (drop (suc i) highs))
unfolding is_crossed
crossed_next i [] highs h e = absurd (omega arith)
crossed_next i (low ∷ lows) [] h e = absurd (omega (arith, e))
crossed_next zero (low ∷ lows) (high ∷ highs) h e = refl
crossed_next (suc i) (low ∷ lows) (high ∷ highs) h e = crossed_next i lows highs (omega arith) (omega (arith, e))

pub crossed_none : (i : ℕ) (lows highs : List ℤ) → length lows ≤ i → is_crossed (drop i lows) (drop i highs) ≡ false
unfolding is_crossed
crossed_none zero [] highs h = refl
crossed_none zero (low ∷ lows) highs h = absurd (omega arith)
crossed_none (suc i) [] highs h = refl
crossed_none (suc i) (low ∷ lows) [] h = by (drop i lows)
  where
    by : (l : List ℤ) → is_crossed l [] ≡ false
    by [] = refl
    by (a ∷ l) = refl
crossed_none (suc i) (low ∷ lows) (high ∷ highs) h = crossed_none i lows highs (omega arith)
