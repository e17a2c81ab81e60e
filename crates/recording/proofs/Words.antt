-- Letters compared as slices: they are the same exactly if the numbers that they say are.
use Prim.Native.Nat.{ℕ, ◌+◌, ◌*◌, ◌≤◌, ◌<◌}
use mathlib.Core.Path.{◌≡◌, refl, sym, ap, ap₂, subst, ◌∙◌}
use mathlib.Core.Bool.{Bool, true, false, ◌&&◌}
use mathlib.Core.List.{List}
use native.Mathlib.Omega.{arith}
use lib.Dec.{T, eqb}
use lib.ListN.{length, get_or, drop}
use lib.Seq.{get_or-drop}
use lib.Pointwise.{pointwise}
use borrow.Author.Tests.{eqb-true, eqb-false, eq-eqb, ne_eqb}
use Rattle.integer.specs.Words.{every}
use Rattle.integer.proofs.Lists.{all_none, all_more}
use Rattle.dstree.specs.Sheet.{part, number_in, are_bytes}
use Rattle.dstree.specs.Recording.{letters_riff, letters_wave, letters_fmt, letters_data}
use Rattle.dstree.proofs.SheetFields.{Bytes, bytes_of_lem, known_bytes}
use Rattle.dstree.proofs.SheetPieces.{part_length}
use Rattle.sheet.proofs.Columns.{most_taken}

digit : (x y m n : ℕ) → x < 256 → y < 256 → (eqb x y && eqb m n) ≡ eqb (x + 256 * m) (y + 256 * n)
digit x y m n h k = by (eqb x y) (eqb m n) refl refl
  where
    by : (a b : Bool) → eqb x y ≡ a → eqb m n ≡ b → (a && b) ≡ eqb (x + 256 * m) (y + 256 * n)
    by false b e g = sym (ne_eqb _ _ (λ (z : x + 256 * m ≡ y + 256 * n). eqb-false x y e (omega (arith, z, h, k))))
    by true false e g = sym (ne_eqb _ _ (λ (z : x + 256 * m ≡ y + 256 * n). eqb-false m n g (omega (arith, z, h, k))))
    by true true e g = sym (eq-eqb _ _ (ap₂ (λ (a b : ℕ). a + 256 * b) (eqb-true x y e) (eqb-true m n g)))

same_numbers : {xs ys : List ℕ} → Bytes xs → Bytes ys → length xs ≡ length ys → pointwise eqb xs ys ≡ eqb (number_in xs) (number_in ys)
unfolding number_in
same_numbers all_none all_none e = refl
same_numbers all_none (all_more k ks) e = absurd (omega arith)
same_numbers (all_more h hs) all_none e = absurd (omega arith)
same_numbers (all_more {a = x} {rest = xs} h hs) (all_more {a = y} {rest = ys} k ks) e =
    ap (λ (b : Bool). eqb x y && b) (same_numbers hs ks (omega arith)) ∙ digit x y (number_in xs) (number_in ys) h k

module _ (bytes : List ℕ) (known : (i : ℕ) → get_or bytes i 0 ≤ 255) (place : ℕ) (room : place + 4 ≤ length bytes) (letters : List ℕ) (t : T (are_bytes letters))
    (four : length letters ≡ 4) where
  abbrev here : List ℕ
  here = part place 4 bytes

  pub word_is : pointwise eqb here letters ≡ eqb (number_in here) (number_in letters)
  word_is =
      let small = most_taken 255 4 (drop place bytes) (λ i. subst (λ (x : ℕ). x ≤ 255) (sym (get_or-drop place bytes i 0)) (known (place + i))) in
      same_numbers (bytes_of_lem here (known_bytes here (λ i. omega (arith, small i)))) (bytes_of_lem letters t) (part_length place 4 bytes room ∙ sym four)

  pub word_same : pointwise eqb here letters ≡ true → number_in here ≡ number_in letters
  word_same e = eqb-true _ _ (sym word_is ∙ e)

  pub word_differs : pointwise eqb here letters ≡ false → number_in here ≡ number_in letters → ⊥
  word_differs e = eqb-false _ _ (sym word_is ∙ e)

-- the header's own
pub riff_bytes : T (are_bytes letters_riff)
unfolding are_bytes every
riff_bytes = tt

pub wave_bytes : T (are_bytes letters_wave)
unfolding are_bytes every
wave_bytes = tt

pub fmt_bytes : T (are_bytes letters_fmt)
unfolding are_bytes every
fmt_bytes = tt

pub data_bytes : T (are_bytes letters_data)
unfolding are_bytes every
data_bytes = tt
