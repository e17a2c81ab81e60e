-- Which labels are zero, by their places: bits above code and serial do not count.
use mathlib.Core.Path.{◌≡◌, refl, sym, ap, ◌∙◌}
use mathlib.Core.Bool.{Bool, true, false, not, ◌&&◌, ◌||◌}
use mathlib.Core.List.{List, [], ◌∷◌, map}
use Prim.Native.Nat.{ℕ, ◌*◌, ◌/◌, ◌%◌}
use native.Mathlib.Omega.{arith}
use lib.Dec.{eqb}
use borrow.Author.Tests.{eqb-true, eqb-false, eq-eqb, ne_eqb}
use Rattle.std.specs.List.{list_any}
use Rattle.integer.specs.Words.{every}
use Rattle.dstree.specs.Labels.{code_limit, serial_limit, is_zero_label, are_zero_labels, label_at}

abbrev limit : ℕ
limit = code_limit * serial_limit

module _ (place : ℕ) where
  zero_at : place % limit ≡ 0 → is_zero_label (label_at place) ≡ true
  unfolding is_zero_label label_at
  zero_at e = rw (eq-eqb _ 0 (code_is e), eq-eqb _ 0 (serial_is e)) refl
    where
      code_is : place % limit ≡ 0 → place % code_limit ≡ 0
      code_is e = omega (arith, e)

      serial_is : place % limit ≡ 0 → place / code_limit % serial_limit ≡ 0
      serial_is e = omega (arith, e)

  some_at : (place % limit ≡ 0 → ⊥) → is_zero_label (label_at place) ≡ false
  unfolding is_zero_label label_at
  some_at f = by (eqb (place % code_limit) 0) refl
    where
      whole : place % code_limit ≡ 0 → place / code_limit % serial_limit ≡ 0 → place % limit ≡ 0
      whole e z = omega (arith, e, z)

      by : (b : Bool) → eqb (place % code_limit) 0 ≡ b → (b && eqb (place / code_limit % serial_limit) 0) ≡ false
      by false e = refl
      by true e = ne_eqb (place / code_limit % serial_limit) 0 (λ (z : place / code_limit % serial_limit ≡ 0). f (whole (eqb-true (place % code_limit) 0 e) z))

zero_is : (place : ℕ) → eqb (place % limit) 0 ≡ is_zero_label (label_at place)
zero_is place = by (eqb (place % limit) 0) refl
  where
    by : (b : Bool) → eqb (place % limit) 0 ≡ b → eqb (place % limit) 0 ≡ is_zero_label (label_at place)
    by true e = e ∙ sym (zero_at place (eqb-true (place % limit) 0 e))
    by false e = e ∙ sym (some_at place (eqb-false (place % limit) 0 e))

one_more : (zero rest any : Bool) → any ≡ not rest → (not zero || any) ≡ not (zero && rest)
one_more true rest any e = e
one_more false rest any e = refl

-- a label of some is not zero
pub any_is : (places : List ℕ) → list_any (λ (place : ℕ). not (eqb (place % limit) 0)) places ≡ not (are_zero_labels (map label_at places))
unfolding every
any_is [] = refl
any_is (place ∷ places) =
    let zeros = are_zero_labels (map label_at places) in
    one_more (eqb (place % limit) 0) zeros _ (any_is places) ∙ ap (λ (b : Bool). not (b && zeros)) (zero_is place)
