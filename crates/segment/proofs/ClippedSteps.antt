-- One sample more of a trace and its ranges, as a loop reads them: what the loop adds is what the least, or the greatest, grows by.
use Rattle.std.specs.Prelude.{if◌then◌else◌}
use Prim.Native.Nat.{ℕ, zero, suc, ◌+◌, ◌*◌, ◌-◌, ◌≤◌, ◌<◌}
use mathlib.Core.Path.{◌≡◌, refl}
use mathlib.Core.Bool.{Bool, true, false}
use mathlib.Core.List.{List, [], ◌∷◌}
use native.Mathlib.Omega.{arith}
use native.Mathlib.Numerals.{add-one}
use lib.ListN.{length, get_or, length-map}
use lib.IntN.{ℤ, pos, nat_abs, ◌-ℤ◌}
use lib.Signed.{mag, lt_z}
use mir.Syntax.{w32}
use Rattle.integer.proofs.Width.{read}
use Rattle.segment.specs.Terms.{sum_gap}
use Rattle.segment.specs.Clipped.{summed, summed_to}
use Rattle.segment.specs.Stored.{sample_of, samples_of}
use Rattle.segment.proofs.Limits.{gap_limit}
use Rattle.segment.proofs.Stored.{FitsWord}
use Rattle.segment.proofs.Steps.{read_word, read_plain}

module _ (f : ℤ → ℤ → ℤ → ℕ) where
  summed_more : (i : ℕ) (lows highs ys : List ℤ) → i < length lows → i < length highs → i < length ys
      → summed_to f lows highs ys (suc i) ≡ summed_to f lows highs ys i
      + f (get_or ys i (pos 0)) (get_or lows i (pos 0)) (get_or highs i (pos 0)) * f (get_or ys i (pos 0)) (get_or lows i (pos 0)) (get_or highs i (pos 0))
  unfolding summed
  summed_more i [] highs ys a b c = absurd (omega arith)
  summed_more i (low ∷ lows) [] ys a b c = absurd (omega arith)
  summed_more i (low ∷ lows) (high ∷ highs) [] a b c = absurd (omega arith)
  summed_more zero (low ∷ lows) (high ∷ highs) (y ∷ ys) a b c = omega arith
  summed_more (suc i) (low ∷ lows) (high ∷ highs) (y ∷ ys) a b c =
      omega (arith, summed_more i lows highs ys (omega arith) (omega arith) (omega arith))

  -- a read hands on a number's bits
  pub summed_grows : (lows highs words : List ℤ) (i : ℕ) → i < length lows → i < length highs → i < length words
      → FitsWord (get_or words i (pos 0)) → FitsWord (get_or lows i (pos 0)) → FitsWord (get_or highs i (pos 0))
      → summed_to f lows highs (samples_of words) (i + 1) ≡ summed_to f lows highs (samples_of words) i
      + f (sample_of (read w32 (get_or words i (pos 0)))) (read w32 (get_or lows i (pos 0))) (read w32 (get_or highs i (pos 0)))
      * f (sample_of (read w32 (get_or words i (pos 0)))) (read w32 (get_or lows i (pos 0))) (read w32 (get_or highs i (pos 0)))
  summed_grows lows highs words i a b c m k l =
      rw (add-one, read_word words i m, read_plain lows i k, read_plain highs i l)
      (summed_more i lows highs (samples_of words) a b (rw (length-map words sample_of) c))

  -- no sample yet
  pub summed_none : (lows highs ys : List ℤ) → summed_to f lows highs ys 0 ≡ 0
  unfolding summed
  summed_none lows highs ys = refl

  -- first samples give no more than all
  pub first_no_more : (k : ℕ) (lows highs ys : List ℤ) → summed_to f lows highs ys k ≤ summed f lows highs ys
  unfolding summed
  first_no_more zero lows highs ys = omega arith
  first_no_more (suc k) [] highs ys = omega arith
  first_no_more (suc k) (low ∷ lows) [] ys = omega arith
  first_no_more (suc k) (low ∷ lows) (high ∷ highs) [] = omega arith
  first_no_more (suc k) (low ∷ lows) (high ∷ highs) (y ∷ ys) = omega (arith, first_no_more k lows highs ys)

-- how far a sample is from a range, in order or not
pub gap_most : (limit : ℕ) (y low high : ℤ) → mag y < limit → mag low < limit → mag high < limit → sum_gap y low high ≤ 2 * limit - 1
unfolding sum_gap
gap_most limit y low high h k l = by (lt_z y low) (lt_z high y)
  where
    by : (a b : Bool) → (if a then nat_abs (low -ℤ y) else if b then nat_abs (y -ℤ high) else 0) ≤ 2 * limit - 1
    by true b = gap_limit limit low y k h
    by false true = gap_limit limit y high h l
    by false false = omega arith
