-- The integers of the machine's signed types (ℤ of `lib.IntN`) as an ordered commutative ring: the laws that the kit lacks.
-- Prove an equation by `ring` and an order by `from` or `linear` (the modules Ring and Facts) before you look for a law here.
-- The way to ℕ: z is `up z` less `down z`, and one of the two is 0. `≤ℤ→`, `→≤ℤ`, `→≡ℤ` carry an order or an equation over, and `omega`
-- does the rest.
use mathlib.Core.Path.{◌≡◌, refl, sym, ◌∙◌, ap, ap₂, subst}
use mathlib.Core.Bool.{Bool, true, false, not, cond}
use mathlib.Core.Logic.{◌⊎◌, inl, inr}
use Prim.Native.Nat.{ℕ, zero, suc, ◌+◌, ◌*◌, ◌-◌, ◌≤◌, ◌<◌}
use native.Mathlib.Nat as NatL
use native.Mathlib.Decide.{dec_le}
use native.Mathlib.Omega.{arith}
use lib.Dec.{T, ltb, leb→le, le→leb, ltb→lt, lt→ltb, nltb→le}
use lib.IntN.{ℤ, pos, negsuc, suc_ℤ, pred_ℤ, neg_ℤ, ◌+ℤ◌, ◌-ℤ◌, ◌*ℤ◌, nat_abs, sub_ℕ, neg_ℤ-neg_ℤ, +ℤ_idl, +ℤ_one, -ℤ_one, +ℤ_assoc, +ℤ_comm, suc_ℤ-+ℤ, pred_ℤ-+ℤ, suc_ℤ-*ℤ, pred_ℤ-*ℤ, *ℤ_comm, zero-*ℤ, ℤ_ind}
use lib.Signed as Signed
use lib.Signed.{le_z, lt_z, mag}

-- the kit's two orders under a fixity that lets a sum stand on either side: the kit has `infix 50`, by which `a +ℤ b ≤ℤ c` is `a +ℤ (b ≤ℤ
-- c)`
infix 5 ◌≤ℤ◌ ◌<ℤ◌
abbrev pub ◌≤ℤ◌ : ℤ → ℤ → Type 0
a ≤ℤ b = Signed.◌≤ℤ◌ a b

abbrev pub ◌<ℤ◌ : ℤ → ℤ → Type 0
a <ℤ b = Signed.◌<ℤ◌ a b

-- ---- the ring laws that `lib.IntN` lacks
pub +ℤ_swap : (a b c : ℤ) → a +ℤ (b +ℤ c) ≡ b +ℤ (a +ℤ c)
+ℤ_swap a b c = sym (+ℤ_assoc a b c) ∙ ap (λ x. x +ℤ c) (+ℤ_comm a b) ∙ +ℤ_assoc b a c

pub +ℤ_swap4 : (a b c d : ℤ) → (a +ℤ b) +ℤ (c +ℤ d) ≡ (a +ℤ c) +ℤ (b +ℤ d)
+ℤ_swap4 a b c d = +ℤ_assoc a b (c +ℤ d) ∙ ap (λ x. a +ℤ x) (+ℤ_swap b c d) ∙ sym (+ℤ_assoc a c (b +ℤ d))

pub +ℤ_*ℤ : (m k c : ℤ) → (m +ℤ k) *ℤ c ≡ m *ℤ c +ℤ k *ℤ c
+ℤ_*ℤ m k c = ℤ_ind (λ m. (m +ℤ k) *ℤ c ≡ m *ℤ c +ℤ k *ℤ c) base up down m
  where
    base : (pos 0 +ℤ k) *ℤ c ≡ pos 0 *ℤ c +ℤ k *ℤ c
    base = ap (λ x. x *ℤ c) (+ℤ_idl k) ∙ sym (ap (λ x. x +ℤ k *ℤ c) (zero-*ℤ c) ∙ +ℤ_idl (k *ℤ c))

    more : (m : ℤ) → (m +ℤ k) *ℤ c ≡ m *ℤ c +ℤ k *ℤ c → (suc_ℤ m +ℤ k) *ℤ c ≡ suc_ℤ m *ℤ c +ℤ k *ℤ c
    more m h = ap (λ x. x *ℤ c) (suc_ℤ-+ℤ m k) ∙ suc_ℤ-*ℤ (m +ℤ k) c ∙ ap (λ x. x +ℤ c) h ∙ +ℤ_assoc (m *ℤ c) (k *ℤ c) c ∙ ap
        (λ x. m *ℤ c +ℤ x) (+ℤ_comm (k *ℤ c) c) ∙ sym (+ℤ_assoc (m *ℤ c) c (k *ℤ c)) ∙ ap (λ x. x +ℤ k *ℤ c) (sym (suc_ℤ-*ℤ m c))

    less : (m : ℤ) → (m +ℤ k) *ℤ c ≡ m *ℤ c +ℤ k *ℤ c → (pred_ℤ m +ℤ k) *ℤ c ≡ pred_ℤ m *ℤ c +ℤ k *ℤ c
    less m h = ap (λ x. x *ℤ c) (pred_ℤ-+ℤ m k) ∙ pred_ℤ-*ℤ (m +ℤ k) c ∙ ap (λ x. x -ℤ c) h ∙ +ℤ_assoc (m *ℤ c) (k *ℤ c) (neg_ℤ c) ∙ ap
        (λ x. m *ℤ c +ℤ x) (+ℤ_comm (k *ℤ c) (neg_ℤ c)) ∙ sym (+ℤ_assoc (m *ℤ c) (neg_ℤ c) (k *ℤ c)) ∙ ap (λ x. x +ℤ k *ℤ c) (sym (pred_ℤ-*ℤ m c))

    up : (n : ℕ) → (pos n +ℤ k) *ℤ c ≡ pos n *ℤ c +ℤ k *ℤ c → (pos n +ℤ pos 1 +ℤ k) *ℤ c ≡ (pos n +ℤ pos 1) *ℤ c +ℤ k *ℤ c
    up n h = subst (λ z. (z +ℤ k) *ℤ c ≡ z *ℤ c +ℤ k *ℤ c) (sym (+ℤ_one (pos n))) (more (pos n) h)

    down : (n : ℕ) → (neg_ℤ (pos n) +ℤ k) *ℤ c ≡ neg_ℤ (pos n) *ℤ c +ℤ k *ℤ c → (neg_ℤ (pos n) +ℤ neg_ℤ (pos 1) +ℤ k) *ℤ c ≡ (neg_ℤ (pos n) +ℤ neg_ℤ (pos 1)) *ℤ c +ℤ k *ℤ c
    down n h = subst (λ z. (z +ℤ k) *ℤ c ≡ z *ℤ c +ℤ k *ℤ c) (sym (-ℤ_one (neg_ℤ (pos n)))) (less (neg_ℤ (pos n)) h)

pub *ℤ_+ℤ : (c m k : ℤ) → c *ℤ (m +ℤ k) ≡ c *ℤ m +ℤ c *ℤ k
*ℤ_+ℤ c m k = *ℤ_comm c (m +ℤ k) ∙ +ℤ_*ℤ m k c ∙ ap₂ ◌+ℤ◌ (*ℤ_comm m c) (*ℤ_comm k c)

pub neg_ℤ_*ℤ : (m k : ℤ) → neg_ℤ m *ℤ k ≡ neg_ℤ (m *ℤ k)
neg_ℤ_*ℤ (pos zero) k = zero-*ℤ k ∙ sym (ap neg_ℤ (zero-*ℤ k))
neg_ℤ_*ℤ (pos (suc a)) (pos b) = refl
neg_ℤ_*ℤ (pos (suc a)) (negsuc b) = sym (neg_ℤ-neg_ℤ (pos (suc a * suc b)))
neg_ℤ_*ℤ (negsuc a) (pos b) = sym (neg_ℤ-neg_ℤ (pos (suc a * b)))
neg_ℤ_*ℤ (negsuc a) (negsuc b) = refl

pub *ℤ_neg_ℤ : (m k : ℤ) → m *ℤ neg_ℤ k ≡ neg_ℤ (m *ℤ k)
*ℤ_neg_ℤ m k = *ℤ_comm m (neg_ℤ k) ∙ neg_ℤ_*ℤ k m ∙ ap neg_ℤ (*ℤ_comm k m)

pub one_*ℤ : (m : ℤ) → pos 1 *ℤ m ≡ m
one_*ℤ (pos n) = ap pos (NatL.one-mul n)
one_*ℤ (negsuc n) = ap (λ n. neg_ℤ (pos n)) (NatL.one-mul (suc n))

pub *ℤ_pos_one : (m : ℤ) → m *ℤ pos 1 ≡ m
*ℤ_pos_one m = *ℤ_comm m (pos 1) ∙ one_*ℤ m

-- associativity: at natural factors, then with the sign of each factor moved out
assoc_nat : (a b : ℕ) (c : ℤ) → pos (a * b) *ℤ c ≡ pos a *ℤ (pos b *ℤ c)
assoc_nat a b (pos c) = ap pos (NatL.mul_assoc a b c)
assoc_nat a b (negsuc c) = ap (λ n. neg_ℤ (pos n)) (NatL.mul_assoc a b (suc c)) ∙ sym (*ℤ_neg_ℤ (pos a) (pos (b * suc c)))

assoc_pos : (a : ℕ) (k c : ℤ) → (pos a *ℤ k) *ℤ c ≡ pos a *ℤ (k *ℤ c)
assoc_pos a (pos b) c = assoc_nat a b c
assoc_pos a (negsuc b) c = neg_ℤ_*ℤ (pos (a * suc b)) c ∙ ap neg_ℤ (assoc_nat a (suc b) c) ∙ sym (*ℤ_neg_ℤ (pos a) (pos (suc b) *ℤ c)) ∙ ap (λ z. pos a *ℤ z) (sym (neg_ℤ_*ℤ (pos (suc b)) c))

pub *ℤ_assoc : (m k c : ℤ) → (m *ℤ k) *ℤ c ≡ m *ℤ (k *ℤ c)
*ℤ_assoc (pos a) k c = assoc_pos a k c
*ℤ_assoc (negsuc a) k c = ap (λ z. z *ℤ c) (neg_ℤ_*ℤ (pos (suc a)) k) ∙ neg_ℤ_*ℤ (pos (suc a) *ℤ k) c ∙ ap neg_ℤ (assoc_pos (suc a) k c) ∙ sym (neg_ℤ_*ℤ (pos (suc a)) (k *ℤ c))

pub *ℤ_swap : (a b c : ℤ) → a *ℤ (b *ℤ c) ≡ b *ℤ (a *ℤ c)
*ℤ_swap a b c = sym (*ℤ_assoc a b c) ∙ ap (λ x. x *ℤ c) (*ℤ_comm a b) ∙ *ℤ_assoc b a c

pub *ℤ_swap4 : (a b c d : ℤ) → (a *ℤ b) *ℤ (c *ℤ d) ≡ (a *ℤ c) *ℤ (b *ℤ d)
*ℤ_swap4 a b c d = *ℤ_assoc a b (c *ℤ d) ∙ ap (λ x. a *ℤ x) (*ℤ_swap b c d) ∙ sym (*ℤ_assoc a c (b *ℤ d))

-- a negation is a product, so that the negation laws follow from those of the product
pub neg_ℤ_is : (m : ℤ) → negsuc 0 *ℤ m ≡ neg_ℤ m
neg_ℤ_is m = neg_ℤ_*ℤ (pos 1) m ∙ ap neg_ℤ (one_*ℤ m)

-- ---- the two parts of an integer: z is `up z` − `down z`, and one of the two is 0. They carry an order or an equation of ℤ to ℕ, where `omega` reads it
abbrev pub up : ℤ → ℕ
up (pos n) = n
up (negsuc n) = 0

abbrev pub down : ℤ → ℕ
down (pos n) = 0
down (negsuc n) = suc n

pub ≤ℤ→ : {a b : ℤ} → a ≤ℤ b → up a + down b ≤ up b + down a
≤ℤ→ {a = pos a} {b = pos b} h = omega (arith, leb→le a b h.le)
≤ℤ→ {a = pos a} {b = negsuc b} h = absurd h.le
≤ℤ→ {a = negsuc a} {b = pos b} h = omega arith
≤ℤ→ {a = negsuc a} {b = negsuc b} h = omega (arith, leb→le b a h.le)

pub →≤ℤ : {a b : ℤ} → up a + down b ≤ up b + down a → a ≤ℤ b
→≤ℤ {a} {b} h = record { le = go a b h }
  where
    go : (a b : ℤ) → up a + down b ≤ up b + down a → T (le_z a b)
    go (pos a) (pos b) h = le→leb a b (omega arith)
    go (pos a) (negsuc b) h = omega arith
    go (negsuc a) (pos b) h = tt
    go (negsuc a) (negsuc b) h = le→leb b a (omega arith)

pub →≡ℤ : {a b : ℤ} → up a + down b ≡ up b + down a → a ≡ b
→≡ℤ {a = pos a} {b = pos b} h = ap pos (omega arith)
→≡ℤ {a = pos a} {b = negsuc b} h = absurd (omega arith)
→≡ℤ {a = negsuc a} {b = pos b} h = absurd (omega arith)
→≡ℤ {a = negsuc a} {b = negsuc b} h = ap negsuc (omega arith)

-- the parts of a sum, a negation and a difference, as far as `omega` has to know them: list these where a sum stands in a goal
cond_parts : (c : Bool) (x y : ℤ) (P : ℤ → Type 0) → (T c → P x) → (T (not c) → P y) → P (cond c x y)
cond_parts true x y P f g = f tt
cond_parts false x y P f g = g tt

sub_ℕ_parts : (a b : ℕ) → up (sub_ℕ a b) + b ≡ a + down (sub_ℕ a b)
sub_ℕ_parts a b = cond_parts (ltb a b) (negsuc (b - suc a)) (pos (a - b)) (λ z. up z + b ≡ a + down z) (λ t. below (ltb→lt a b t)) (λ t. above (nltb→le a b t))
  where
    below : a < b → 0 + b ≡ a + suc (b - suc a)
    below h = omega arith

    above : b ≤ a → (a - b) + b ≡ a + 0
    above h = omega arith

pub sum_parts : (a b : ℤ) → up (a +ℤ b) + (down a + down b) ≡ down (a +ℤ b) + (up a + up b)
sum_parts (pos a) (pos b) = omega arith
sum_parts (pos a) (negsuc b) = omega (arith, sub_ℕ_parts a (suc b))
sum_parts (negsuc a) (pos b) = omega (arith, sub_ℕ_parts b (suc a))
sum_parts (negsuc a) (negsuc b) = omega arith

pub neg_parts : (a : ℤ) → (up (neg_ℤ a) ≡ down a) × (down (neg_ℤ a) ≡ up a)
neg_parts (pos zero) = (refl, refl)
neg_parts (pos (suc n)) = (refl, refl)
neg_parts (negsuc n) = (refl, refl)

pub diff_parts : (a b : ℤ) → up (a -ℤ b) + (down a + up b) ≡ down (a -ℤ b) + (up a + down b)
diff_parts a b = omega (arith, sum_parts a (neg_ℤ b), neg_parts b)

pub ≡ℤ→ : {a b : ℤ} → a ≡ b → (up a ≡ up b) × (down a ≡ down b)
≡ℤ→ e = (ap up e, ap down e)

-- ---- the order: decided, and that of an ordered ring
pub ≤ℤ_trans : {a b c : ℤ} → a ≤ℤ b → b ≤ℤ c → a ≤ℤ c
≤ℤ_trans h k = →≤ℤ (omega (arith, ≤ℤ→ h, ≤ℤ→ k))

pub ≤ℤ_antisym : {a b : ℤ} → a ≤ℤ b → b ≤ℤ a → a ≡ b
≤ℤ_antisym h k = →≡ℤ (omega (arith, ≤ℤ→ h, ≤ℤ→ k))

pub pos_mono : {a b : ℕ} → a ≤ b → pos a ≤ℤ pos b
pos_mono h = →≤ℤ (omega arith)

-- a strict order is an order after a step
pub <ℤ→ : {a b : ℤ} → a <ℤ b → up a + down b < up b + down a
<ℤ→ {a = pos a} {b = pos b} h = omega (arith, ltb→lt a b h.lt)
<ℤ→ {a = pos a} {b = negsuc b} h = absurd h.lt
<ℤ→ {a = negsuc a} {b = pos b} h = omega arith
<ℤ→ {a = negsuc a} {b = negsuc b} h = omega (arith, ltb→lt b a h.lt)

pub →<ℤ : {a b : ℤ} → up a + down b < up b + down a → a <ℤ b
→<ℤ {a} {b} h = record { lt = go a b h }
  where
    go : (a b : ℤ) → up a + down b < up b + down a → T (lt_z a b)
    go (pos a) (pos b) h = lt→ltb a b (omega arith)
    go (pos a) (negsuc b) h = omega arith
    go (negsuc a) (pos b) h = tt
    go (negsuc a) (negsuc b) h = lt→ltb b a (omega arith)

pub ≤ℤ_or_<ℤ : (a b : ℤ) → (a ≤ℤ b) ⊎ (b <ℤ a)
≤ℤ_or_<ℤ a b = by (dec_le (up a + down b) (up b + down a))
  where
    by : Dec (up a + down b ≤ up b + down a) → (a ≤ℤ b) ⊎ (b <ℤ a)
    by (yes h) = inl (→≤ℤ h)
    by (no h) = inr (→<ℤ (omega arith))

pub <ℤ_≤ℤ : {a b : ℤ} → a <ℤ b → a ≤ℤ b
<ℤ_≤ℤ h = →≤ℤ (omega (arith, <ℤ→ h))

pub <ℤ→≤ℤ : {a b : ℤ} → a <ℤ b → a +ℤ pos 1 ≤ℤ b
<ℤ→≤ℤ {a} {b} h = →≤ℤ (omega (arith, sum_parts a (pos 1), <ℤ→ h))

-- a ≤ b, and 0 ≤ b − a
pub diff_nonneg : {a b : ℤ} → a ≤ℤ b → pos 0 ≤ℤ b -ℤ a
diff_nonneg {a} {b} h = →≤ℤ (omega (arith, ≤ℤ→ h, diff_parts b a))

pub of_diff_nonneg : {a b : ℤ} → pos 0 ≤ℤ b -ℤ a → a ≤ℤ b
of_diff_nonneg {a} {b} h = →≤ℤ (omega (arith, ≤ℤ→ h, diff_parts b a))

-- ---- what is not negative: the terms of a certificate, `nat 2 ⊗ sq (a -ℤ b) ⊕ h ⊗ k`
pub nat : (n : ℕ) → pos 0 ≤ℤ pos n
nat n = →≤ℤ (omega arith)

pub sq : (a : ℤ) → pos 0 ≤ℤ a *ℤ a
sq (pos a) = nat (a * a)
sq (negsuc a) = nat (suc a * suc a)

infixr 6 ◌⊕◌
pub ◌⊕◌ : {a b : ℤ} → pos 0 ≤ℤ a → pos 0 ≤ℤ b → pos 0 ≤ℤ a +ℤ b
◌⊕◌ {a} {b} h k = →≤ℤ (omega (arith, ≤ℤ→ h, ≤ℤ→ k, sum_parts a b))

infixr 7 ◌⊗◌
pub ◌⊗◌ : {a b : ℤ} → pos 0 ≤ℤ a → pos 0 ≤ℤ b → pos 0 ≤ℤ a *ℤ b
◌⊗◌ {a = pos a} {b = pos b} h k = nat (a * b)
◌⊗◌ {a = pos a} {b = negsuc b} h k = absurd k.le
◌⊗◌ {a = negsuc a} {b} h k = absurd h.le

-- the product of two facts, a ≤ b and c ≤ d: 0 ≤ (b − a)·(d − c)
pub mul_diffs : {a b c d : ℤ} → a ≤ℤ b → c ≤ℤ d → pos 0 ≤ℤ (b -ℤ a) *ℤ (d -ℤ c)
mul_diffs h k = diff_nonneg h ⊗ diff_nonneg k

-- a positive factor is cancelled
pub cancel : (k : ℕ) {a : ℤ} → pos 0 ≤ℤ pos (suc k) *ℤ a → pos 0 ≤ℤ a
cancel k {a = pos n} h = nat n
cancel k {a = negsuc n} h = absurd (no (suc k * suc n) (omega arith) h)
  where
    no : (m : ℕ) → 0 < m → pos 0 ≤ℤ neg_ℤ (pos m) → ⊥
    no zero p h = omega arith
    no (suc m) p h = h.le

-- both sides of an equation times k: where a square stands under a factor, `from` is handed the law of the square times that factor
pub times : (k : ℤ) {a b : ℤ} → a ≡ b → k *ℤ a ≡ k *ℤ b
times k e = ap (λ z. k *ℤ z) e

-- ---- ℕ in ℤ (the sum and the product of `pos` compute: `pos a +ℤ pos b` is `pos (a + b)`)
pub of_pos_mono : {a b : ℕ} → pos a ≤ℤ pos b → a ≤ b
of_pos_mono h = omega (arith, ≤ℤ→ h)

-- ---- the absolute value
pub nat_abs_parts : (a : ℤ) → nat_abs a ≡ up a + down a
nat_abs_parts (pos n) = omega arith
nat_abs_parts (negsuc n) = omega arith

-- the size of a number that is m − n, and of a difference, by the parts: `omega` compares such sizes
nat_abs_of : (a : ℤ) (m n : ℕ) → up a + n ≡ down a + m → nat_abs a ≡ (m - n) + (n - m)
nat_abs_of (pos k) m n e = omega arith
nat_abs_of (negsuc k) m n e = omega arith

pub nat_abs_diff : (a b : ℤ) → nat_abs (a -ℤ b) ≡ (up a + down b - (up b + down a)) + (up b + down a - (up a + down b))
nat_abs_diff a b = nat_abs_of (a -ℤ b) (up a + down b) (up b + down a) (omega (arith, diff_parts a b))

pub nat_abs_square : (a : ℤ) → pos (nat_abs a * nat_abs a) ≡ a *ℤ a
nat_abs_square (pos n) = refl
nat_abs_square (negsuc n) = refl

pub nat_abs_neg : (a : ℤ) → nat_abs (neg_ℤ a) ≡ nat_abs a
nat_abs_neg (pos zero) = refl
nat_abs_neg (pos (suc n)) = refl
nat_abs_neg (negsuc n) = refl

pub nat_abs_mul : (a b : ℤ) → nat_abs (a *ℤ b) ≡ nat_abs a * nat_abs b
nat_abs_mul (pos a) (pos b) = refl
nat_abs_mul (pos a) (negsuc b) = nat_abs_neg (pos (a * suc b))
nat_abs_mul (negsuc a) (pos b) = nat_abs_neg (pos (suc a * b))
nat_abs_mul (negsuc a) (negsuc b) = refl

pub nat_abs_add : (a b : ℤ) → nat_abs (a +ℤ b) ≤ nat_abs a + nat_abs b
nat_abs_add a b = omega (arith, nat_abs_of (a +ℤ b) (up a + up b) (down a + down b) (sum_parts a b), nat_abs_parts a, nat_abs_parts b)

pub nat_abs_sub : (a b : ℤ) → nat_abs (a -ℤ b) ≤ nat_abs a + nat_abs b
nat_abs_sub a b = omega (arith, nat_abs_diff a b, nat_abs_parts a, nat_abs_parts b)

-- |a| ≤ n exactly where −n ≤ a ≤ n
pub nat_abs_le : {a : ℤ} {n : ℕ} → nat_abs a ≤ n → (neg_ℤ (pos n) ≤ℤ a) × (a ≤ℤ pos n)
nat_abs_le {a} {n} h = (→≤ℤ (omega (arith, nat_abs_parts a, neg_parts (pos n))), →≤ℤ (omega (arith, nat_abs_parts a)))

pub le_nat_abs : {a : ℤ} {n : ℕ} → neg_ℤ (pos n) ≤ℤ a → a ≤ℤ pos n → nat_abs a ≤ n
le_nat_abs {a = pos a} {n} h k = of_pos_mono k
le_nat_abs {a = negsuc a} {n} h k = omega (arith, ≤ℤ→ h, neg_parts (pos n))

-- ---- what a signed width asks, `mag z < 2 ^ 63`: −H ≤ z < H
-- the parts of a number in a width, and its size. (The other way, `mag z < H → nat_abs z ≤ H`, is `nat_abs_le` of `lib.Signed`)
pub width_parts : (z : ℤ) {H : ℕ} → mag z < H → (up z < H) × (down z ≤ H)
width_parts (pos n) h = (h, omega arith)
width_parts (negsuc n) h = (omega arith, h)

pub mag_most : (z : ℤ) → mag z ≤ nat_abs z
mag_most (pos n) = omega arith
mag_most (negsuc n) = omega arith
