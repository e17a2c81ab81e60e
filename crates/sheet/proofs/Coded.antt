-- Samples as bytes: as many for each as a format says, one sample more at a time; and the number whose bytes a sample's are.
use mathlib.Core.Path.{◌≡◌, refl, sym, ap, ap₂, ◌∙◌}
use mathlib.Core.Bool.{Bool, true, false, cond}
use mathlib.Core.List.{List, [], ◌∷◌, ◌++◌, flatten, append-nil}
use Prim.Native.Nat.{ℕ, suc, ◌+◌, ◌*◌, ◌-◌, ◌/◌, ◌%◌, ◌≤◌, ◌<◌}
use native.Mathlib.Nat.{mul_comm, mul-add-mod_self_left}
use native.Mathlib.Numerals.{add-one}
use native.Mathlib.Omega.{arith}
use lib.Dec.{ltb}
use lib.IntN.{ℤ, pos, negsuc}
use lib.ListN.{length, get_or, take}
use lib.Seq.{sets, take-suc, length-take-le}
use mir.Syntax.{w32}
use mir.Val.{of_z}
use Rattle.std.specs.Int.{to_le_bytes, int_max}
use borrow.Author.Tests.{ltb-true, ltb-false}
use Rattle.dstree.specs.Sheet.{bytes_of, Format, narrow, wide, coded, coded_all}
use Rattle.dstree.proofs.SheetFields.{codes_append, codes_length}
use Rattle.sheet.proofs.Numbers.{first_four}
use Rattle.sheet.proofs.Laid.{sets_append}

module _ (f : Format) where
  codes_one : (z : ℤ) → coded_all f (z ∷ []) ≡ coded f z
  unfolding flatten
  codes_one z = append-nil (coded f z)

  -- the codes of one sample more
  codes_more : (samples : List ℤ) (j : ℕ) → j < length samples
      → coded_all f (take (j + 1) samples) ≡ coded_all f (take j samples) ++ coded f (get_or samples j (pos 0))
  codes_more samples j h =
      ap (coded_all f) (ap (λ (k : ℕ). take k samples) (add-one j) ∙ take-suc samples j (pos 0) h)
      ∙ codes_append f (take j samples) (get_or samples j (pos 0) ∷ [])
      ∙ ap (λ (l : List ℕ). coded_all f (take j samples) ++ l) (codes_one (get_or samples j (pos 0)))

  codes_taken : (samples : List ℤ) (j : ℕ) → j ≤ length samples → length (coded_all f (take j samples)) ≡ f.sample_bytes * j
  codes_taken samples j h =
      codes_length f (take j samples) ∙ ap (λ (k : ℕ). k * f.sample_bytes) (length-take-le j samples h) ∙ mul_comm j f.sample_bytes

  -- and they are put behind those of the samples before it
  pub codes_put : (l : List ℕ) (place : ℕ) (samples : List ℤ) (j : ℕ) → j < length samples
      → sets (sets l place (coded_all f (take j samples))) (place + f.sample_bytes * j) (coded f (get_or samples j (pos 0)))
      ≡ sets l place (coded_all f (take (j + 1) samples))
  codes_put l place samples j h =
      let z = coded f (get_or samples j (pos 0)) in
      let before = coded_all f (take j samples) in
      ap (λ (k : ℕ). sets (sets l place before) (place + k) z) (sym (codes_taken samples j (omega arith)))
      ∙ sym (sets_append before z l place)
      ∙ ap (sets l place) (sym (codes_more samples j h))

-- ---- the bytes that the library makes of a sample

pub wide_bytes : (z : ℤ) → to_le_bytes w32 (of_z w32 z) ≡ coded wide z
unfolding coded
wide_bytes (pos v) = first_four v
wide_bytes (negsuc v) =
    let e : 4294967296 - suc v ≡ 4294967295 - v = omega arith in
    ap (to_le_bytes w32) e ∙ first_four (4294967295 - v)

-- a sample below 0, and whether it is one that two bytes say
below : (v : ℕ) (b : Bool) → ltb v 65535 ≡ b
    → take 2 (to_le_bytes w32 (of_z w32 (cond b (negsuc v) (negsuc 65535)))) ≡ bytes_of 2 (65535 - v)
unfolding bytes_of
below v true e =
    let h = ltb-true v 65535 e in
    let more : (4294967296 - suc v) / 256 ≡ 256 * 65535 + (65535 - v) / 256 = omega arith in
    ap₂ (λ (x y : ℕ). x ∷ y ∷ []) (omega arith) (ap (λ (k : ℕ). k % 256) more ∙ mul-add-mod_self_left 256 65535 ((65535 - v) / 256))
below v false e =
    let h = ltb-false v 65535 e in
    let z : 65535 - v ≡ 0 = omega arith in
    rw z refl

-- far below 0, two bytes are zeros
pub narrow_bytes : (z : ℤ) → take 2 (to_le_bytes w32 (of_z w32 (int_max z (negsuc 65535)))) ≡ coded narrow z
unfolding coded bytes_of
narrow_bytes (pos v) = refl
narrow_bytes (negsuc v) = below v (ltb v 65535) refl
