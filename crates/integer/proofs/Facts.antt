-- Orders and equations of ℤ and ℕ from others. Each is made a polynomial as `ring` does it; the monomials are `omega`'s unknowns, and it
-- finds the multiples.
--
--     linear ρ (search reading depth 30) (omega arith)                        a goal with its hypotheses not yet bound: x ≤ℤ y → y <ℤ z → x <ℤ z
--     from ρ (h & k) (search reading depth 30) (omega arith)                  a goal from facts in hand
--     from ρ (sq (x -ℤ y) & mul-diffs h k) (search reading depth 30) (omega arith)      what is not linear: from squares, and from products of facts
--     by-certificate ρ (sq (x -ℤ y) ⊕ h ⊗ k) (search reading depth 30) tt     b − a is this sum: past `omega`'s bounds, 32 monomials and 38 digits
--
-- ρ lists the unknowns, as for `ring`. A fact is `≤ℤ`, `<ℤ`, `≡`, on ℕ `≤`, `<`, `≡`, or `⊥`, and `×`, `→`, `¬` of these.
use mathlib.Core.Path.{◌≡◌, refl, sym, ◌∙◌, ap, ap₂, subst}
use mathlib.Core.List.{List, [], ◌∷◌}
use mathlib.Core.Logic.{◌↔◌}
use Prim.Native.Nat.{ℕ, zero, suc, ◌+◌, ◌*◌, ◌≤◌}
use native.Mathlib.Nat.{mul-zero}
use native.Mathlib.Omega.{arith}
use lib.IntN.{ℤ, pos, negsuc, neg_ℤ, ◌+ℤ◌, ◌-ℤ◌, ◌*ℤ◌}
use Rattle.integer.proofs.Order.{◌≤ℤ◌, ◌<ℤ◌, of_diff_nonneg, <ℤ→, →<ℤ, up, down, ≤ℤ→, →≤ℤ, →≡ℤ, ≡ℤ→, sum_parts, diff_parts, *ℤ_pos_one, neg_ℤ_is}
use Rattle.integer.proofs.Ring.{Poly, nil, term, at, mono, val, norm, norm_sound, Sides, sides, Same, ring, reading as Ring·reading, plus, scale, val_plus, val_scale}

-- a monomial as it is written: x, x *ℤ (y *ℤ z)
abbrev pub factors : ℤ → List ℕ → List ℤ → ℤ
factors x [] ρ = x
factors x (i ∷ m) ρ = x *ℤ factors (at ρ i) m ρ

abbrev pub product : List ℕ → List ℤ → ℤ
product [] ρ = pos 1
product (i ∷ m) ρ = factors (at ρ i) m ρ

factors_is : (x : ℤ) (m : List ℕ) (ρ : List ℤ) → factors x m ρ ≡ x *ℤ mono m ρ
factors_is x [] ρ = sym (*ℤ_pos_one x)
factors_is x (i ∷ m) ρ = ap (λ t. x *ℤ t) (factors_is (at ρ i) m ρ)

product_is : (m : List ℕ) (ρ : List ℤ) → product m ρ ≡ mono m ρ
product_is [] ρ = refl
product_is (i ∷ m) ρ = factors_is (at ρ i) m ρ

-- a polynomial's value is `more` less `less`
abbrev pub more : Poly → List ℤ → ℕ
more nil ρ = 0
more (term (pos k) m p) ρ = k * up (product m ρ) + more p ρ
more (term (negsuc k) m p) ρ = suc k * down (product m ρ) + more p ρ

abbrev pub less : Poly → List ℤ → ℕ
less nil ρ = 0
less (term (pos k) m p) ρ = k * down (product m ρ) + less p ρ
less (term (negsuc k) m p) ρ = suc k * up (product m ρ) + less p ρ

up_neg : (n : ℕ) → (up (neg_ℤ (pos n)) ≡ 0) × (down (neg_ℤ (pos n)) ≡ n)
up_neg zero = (refl, refl)
up_neg (suc n) = (refl, refl)

scale_pos : (k : ℕ) (z : ℤ) → (up (pos k *ℤ z) ≡ k * up z) × (down (pos k *ℤ z) ≡ k * down z)
scale_pos k (pos n) = (refl, sym (mul-zero k))
scale_pos k (negsuc n) = ((up_neg (k * suc n)).0 ∙ sym (mul-zero k), (up_neg (k * suc n)).1)

scale_neg : (k : ℕ) (z : ℤ) → (up (negsuc k *ℤ z) ≡ suc k * down z) × (down (negsuc k *ℤ z) ≡ suc k * up z)
scale_neg k (pos n) = ((up_neg (suc k * n)).0 ∙ sym (mul-zero (suc k)), (up_neg (suc k * n)).1)
scale_neg k (negsuc n) = (refl, sym (mul-zero (suc k)))

parts : (p : Poly) (ρ : List ℤ) → up (val p ρ) + less p ρ ≡ down (val p ρ) + more p ρ
parts nil ρ = refl
parts (term (pos k) m p) ρ = omega (arith, sum_parts (pos k *ℤ mono m ρ) (val p ρ), scale_pos k (mono m ρ), parts p ρ, ap (λ z. k * up z) (product_is m ρ), ap (λ z. k * down z) (product_is m ρ))
parts (term (negsuc k) m p) ρ = omega
    (arith, sum_parts (negsuc k *ℤ mono m ρ) (val p ρ), scale_neg k (mono m ρ), parts p ρ, ap (λ z. suc k * up z) (product_is m ρ), ap (λ z. suc k * down z) (product_is m ρ))

-- ---- the difference of the two sides, b − a
abbrev pub diff : {ρ : List ℤ} {a b : ℤ} → Sides ρ a b → Poly
diff (sides r s) = plus (norm s) (scale (negsuc 0) [] (norm r))

diff_sound : {ρ : List ℤ} {a b : ℤ} (r : Sides ρ a b) → val (diff r) ρ ≡ b -ℤ a
diff_sound {ρ} {a} {b} (sides r s) = val_plus ρ (norm s) (scale (negsuc 0) [] (norm r)) ∙ ap₂ ◌+ℤ◌ (norm_sound s)
    (val_scale ρ (negsuc 0) [] (norm r) ∙ ap₂ ◌*ℤ◌ (*ℤ_pos_one (negsuc 0)) (norm_sound r) ∙ neg_ℤ_is a)

-- what `omega` has to know of the two sides
gap : {ρ : List ℤ} {a b : ℤ} (r : Sides ρ a b) → up b + down a + less (diff r) ρ ≡ down b + up a + more (diff r) ρ
gap {ρ} {a} {b} r = omega (arith, parts (diff r) ρ, ap up (diff_sound r), ap down (diff_sound r), diff_parts b a)

-- ---- facts in hand, one after another: `h & k & sq x`. (A record, and not `A × B`, which has B under a binder: `search` reads that only in a late search with a small bound)
pub record Also (A B : Type 0) : Type 0 where
  pub one : A
  pub two : B

infixr 3 ◌&◌
pub ◌&◌ : {A B : Type 0} → A → B → Also A B
a & b = record { one = a; two = b }

-- ---- a statement, read: an order or an equation of ℤ or ℕ, several of them, or one that others imply
pub data Fact (ρ : List ℤ) : Type 0 → Type 1 where
  le : {a b : ℤ} → Sides ρ a b → Fact ρ (a ≤ℤ b)
  lt : {a b : ℤ} → Sides ρ a b → Fact ρ (a <ℤ b)
  eq : {a b : ℤ} → Sides ρ a b → Fact ρ (◌≡◌ {A = ℤ} a b)
  le_nat : {a b : ℕ} → Sides ρ (pos a) (pos b) → Fact ρ (a ≤ b)
  lt_nat : {a b : ℕ} → Sides ρ (pos a) (pos b) → Fact ρ (suc a ≤ b)
  eq_nat : {a b : ℕ} → Sides ρ (pos a) (pos b) → Fact ρ (◌≡◌ {A = ℕ} a b)
  and : {A B : Type 0} → Fact ρ A → Fact ρ B → Fact ρ (Also A B)
  pair : {A B : Type 0} → Fact ρ A → Fact ρ B → Fact ρ (A × B)
  imp : {A B : Type 0} → Fact ρ A → Fact ρ B → Fact ρ (A → B)
  never : Fact ρ ⊥

-- the same statement over ℕ, linear in the monomials: what `omega` is asked
abbrev pub Linear : {ρ : List ℤ} {A : Type 0} → Fact ρ A → Type 0
Linear {ρ} (le r) = less (diff r) ρ ≤ more (diff r) ρ
Linear {ρ} (lt r) = suc (less (diff r) ρ) ≤ more (diff r) ρ
Linear {ρ} (eq r) = less (diff r) ρ ≡ more (diff r) ρ
Linear {ρ} (le_nat r) = less (diff r) ρ ≤ more (diff r) ρ
Linear {ρ} (lt_nat r) = suc (less (diff r) ρ) ≤ more (diff r) ρ
Linear {ρ} (eq_nat r) = less (diff r) ρ ≡ more (diff r) ρ
Linear (and p q) = Linear p × Linear q
Linear (pair p q) = Linear p × Linear q
Linear (imp p q) = Linear p → Linear q
Linear never = ⊥

pub exact : {ρ : List ℤ} {A : Type 0} (p : Fact ρ A) → A ↔ Linear p
exact (le r) = (λ h. omega (arith, gap r, ≤ℤ→ h), λ h. →≤ℤ (omega (arith, gap r)))
exact (lt r) = (λ h. omega (arith, gap r, <ℤ→ h), λ h. →<ℤ (omega (arith, gap r)))
exact (eq r) = (λ h. omega (arith, gap r, ≡ℤ→ h), λ h. →≡ℤ (omega (arith, gap r)))
exact (le_nat r) = (λ h. omega (arith, gap r), λ h. omega (arith, gap r))
exact (lt_nat r) = (λ h. omega (arith, gap r), λ h. omega (arith, gap r))
exact (eq_nat r) = (λ h. omega (arith, gap r), λ h. omega (arith, gap r))
exact (and p q) = (λ h. ((exact p).0 h.one, (exact q).0 h.two), λ h. record { one = (exact p).1 h.0; two = (exact q).1 h.1 })
exact (pair p q) = (λ h. ((exact p).0 h.0, (exact q).0 h.1), λ h. ((exact p).1 h.0, (exact q).1 h.1))
exact (imp p q) = (λ f h. (exact q).0 (f ((exact p).1 h)), λ f h. (exact q).1 (f ((exact p).0 h)))
exact never = (λ h. h, λ h. h)

-- ---- the theorems
-- what a goal says, read and proved: `linear ρ (search reading depth 30) (omega arith)`
pub linear : (ρ : List ℤ) {A : Type 0} (p : Fact ρ A) → Linear p → A
linear ρ p h = (exact p).1 h

-- the same from facts in hand: `from ρ (h & k & sq (x -ℤ y)) (search reading depth 30) (omega arith)`
pub data Claim (ρ : List ℤ) (H A : Type 0) : Type 1 where
  claim : Fact ρ H → Fact ρ A → Claim ρ H A

abbrev pub LinearFollows : {ρ : List ℤ} {H A : Type 0} → Claim ρ H A → Type 0
LinearFollows (claim p q) = Linear p → Linear q

pub from : (ρ : List ℤ) {H A : Type 0} → H → (c : Claim ρ H A) → LinearFollows c → A
from ρ h (claim p q) k = (exact q).1 (k ((exact p).0 h))

-- ---- an order by a certificate that is written out: b − a is a sum of products that are not negative. It is checked as `ring` is, whatever its size
pub by_certificate : (ρ : List ℤ) {a b z : ℤ} → pos 0 ≤ℤ z → (r : Sides ρ (b -ℤ a) z) → Same r → a ≤ℤ b
by_certificate ρ h r t = of_diff_nonneg (subst (λ z. pos 0 ≤ℤ z) (sym (ring ρ r t)) h)

-- ---- what `search reading` applies
pub ruleset reading = (claim, le, lt, eq, lt_nat, le_nat, eq_nat, and, pair, imp, never, Ring·reading)
