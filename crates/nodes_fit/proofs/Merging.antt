-- Numbers that rise among others that rise, decided by one pass: the fronts are compared, and the front of the one list is passed.
use Prim.Native.Nat.{ℕ, suc, ◌<◌}
use mathlib.Core.Path.{◌≡◌, refl, sym, ◌∙◌}
use mathlib.Core.Bool.{Bool, true, false}
use mathlib.Core.List.{List, [], ◌∷◌}
use native.Mathlib.Omega.{arith}
use lib.ListN.{length}
use lib.Dec.{leb}
use borrow.Author.Tests.{eq-eqb, ne_eqb, leb-true, leb-false}
use Rattle.integer.specs.Words.{every, is_in}
use Rattle.integer.proofs.Lists.{same_or_not, In, first, later, is_in_lem, Up, u_more, up_in}
use Rattle.integer.proofs.Tests.{test_false}

-- every number of the second list is in the first
abbrev pub among : List ℕ → List ℕ → Bool
among xs ys = every (λ y. is_in y xs) ys

pub all_among : (xs : List ℕ) → among xs [] ≡ true
unfolding every
all_among xs = refl

pub none_among : (y : ℕ) (ys : List ℕ) → among [] (y ∷ ys) ≡ false
unfolding every is_in
none_among y ys = refl

-- a number that is none of the others does not bear
skip : (x : ℕ) (xs ys : List ℕ) → ((y : ℕ) → In y ys → y ≡ x → ⊥) → among (x ∷ xs) ys ≡ among xs ys
unfolding every is_in
skip x xs [] f = refl
skip x xs (y ∷ ys) f = rw (ne_eqb y x (f y first), skip x xs ys (λ z i. f z (later i)))

-- equal fronts
pub same_front : (x y : ℕ) (xs ys : List ℕ) → x ≡ y → Up (suc y) ys → among (x ∷ xs) (y ∷ ys) ≡ among xs ys
unfolding every is_in
same_front x y xs ys e u = rw (eq-eqb y x (sym e), skip x xs ys (λ z i q. omega (arith, up_in u i, q, e)))

-- a number below all of a list is not in it
missing : (y : ℕ) (xs : List ℕ) → ((x : ℕ) → In x xs → y < x) → is_in y xs ≡ false
missing y xs h = test_false (is_in y xs) (λ t. omega (arith, h y (is_in_lem y xs t)))

-- other fronts
pub other_front : (x y : ℕ) (xs ys : List ℕ) → (x ≡ y → ⊥) → Up (suc x) xs → Up (suc y) ys → among (x ∷ xs) (y ∷ ys) ≡ among xs (y ∷ ys)
unfolding every is_in
other_front x y xs ys f u v = by (leb x y) refl
  where
    by : (b : Bool) → leb x y ≡ b → among (x ∷ xs) (y ∷ ys) ≡ among xs (y ∷ ys)
    by true e = let h = leb-true x y e in rw (ne_eqb y x (λ e. f (sym e)), skip x xs ys (λ z i q. omega (arith, up_in v i, q, h)))
    by false e = let h = leb-false x y e in rw (ne_eqb y x (λ e. f (sym e)), missing y xs (λ z i. omega (arith, up_in u i, h)))

-- fewer numbers do not have them all
pub short_among : {a b : ℕ} (xs ys : List ℕ) → Up a xs → Up b ys → length xs < length ys → among xs ys ≡ false
short_among xs [] u v h = absurd (omega arith)
short_among [] (y ∷ ys) u v h = none_among y ys
short_among (x ∷ xs) (y ∷ ys) (u_more f u) (u_more g v) h = by (same_or_not x y) (short_among xs ys u v) (short_among xs (y ∷ ys) u (u_more {k = y} {a = y} (omega arith) v))
  where
    by : Dec (x ≡ y) → (length xs < length ys → among xs ys ≡ false) → (length xs < suc (length ys) → among xs (y ∷ ys) ≡ false) → among (x ∷ xs) (y ∷ ys) ≡ false
    by (yes e) ih more = same_front x y xs ys e v ∙ ih (omega arith)
    by (no f) ih more = other_front x y xs ys f u v ∙ more (omega arith)
