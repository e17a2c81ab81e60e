-- Worked examples of `ring`, `linear`, `from` and `by_certificate`.
use mathlib.Core.Path.{◌≡◌}
use mathlib.Core.List.{[], ◌∷◌}
use Prim.Native.Nat.{ℕ, suc, ◌+◌, ◌*◌, ◌-◌, ◌≤◌}
use native.Mathlib.Omega.{arith}
use lib.IntN.{ℤ, pos, negsuc, ◌+ℤ◌, ◌-ℤ◌, ◌*ℤ◌}
use Rattle.integer.proofs.Order.{◌≤ℤ◌, ◌<ℤ◌, sq, ◌⊕◌, mul_diffs}
use Rattle.integer.proofs.Ring.{ring}
use Rattle.integer.proofs.Facts.{reading, linear, from, by_certificate, ◌&◌}

-- ---- equations: `ring`, with the unknowns listed
square : (a b : ℤ) → (a +ℤ b) *ℤ (a +ℤ b) ≡ a *ℤ a +ℤ pos 2 *ℤ a *ℤ b +ℤ b *ℤ b
square a b = ring (a ∷ b ∷ []) (search reading depth 30) tt

lagrange : (a b c x y z : ℤ)
    → (a *ℤ a +ℤ b *ℤ b +ℤ c *ℤ c) *ℤ (x *ℤ x +ℤ y *ℤ y +ℤ z *ℤ z) -ℤ (a *ℤ x +ℤ b *ℤ y +ℤ c *ℤ z) *ℤ (a *ℤ x +ℤ b *ℤ y +ℤ c *ℤ z) ≡
    (a *ℤ y -ℤ b *ℤ x) *ℤ (a *ℤ y -ℤ b *ℤ x) +ℤ (a *ℤ z -ℤ c *ℤ x) *ℤ (a *ℤ z -ℤ c *ℤ x) +ℤ (b *ℤ z -ℤ c *ℤ y) *ℤ (b *ℤ z -ℤ c *ℤ y)
lagrange a b c x y z = ring (a ∷ b ∷ c ∷ x ∷ y ∷ z ∷ []) (search reading depth 30) tt

-- (one more sample in a weighted variance, w·q − s²)
one_more : (w q s x : ℤ) → (w +ℤ pos 1) *ℤ (q +ℤ x *ℤ x) -ℤ (s +ℤ x) *ℤ (s +ℤ x) ≡ (w *ℤ q -ℤ s *ℤ s) +ℤ (q +ℤ w *ℤ x *ℤ x -ℤ pos 2 *ℤ s *ℤ x)
one_more w q s x = ring (w ∷ q ∷ s ∷ x ∷ []) (search reading depth 30) tt

-- an unknown is any term; a natural number n stands in the list as `pos n`
calls : (f : ℕ → ℤ) (n : ℕ) → (f n +ℤ f (suc n)) *ℤ f n ≡ f n *ℤ f n +ℤ f n *ℤ f (suc n)
calls f n = ring (f n ∷ f (suc n) ∷ []) (search reading depth 30) tt

casts : (a b : ℕ) → (pos (suc a) -ℤ pos (suc b)) *ℤ (pos a +ℤ pos b) ≡ pos (a * a) -ℤ pos (b * b)
casts a b = ring (pos a ∷ pos b ∷ []) (search reading depth 30) tt

-- ---- linear facts: the goal with its hypotheses, unbound, is read at once
twice_below : (x y z : ℤ) → x ≤ℤ y → y <ℤ z → pos 2 *ℤ x +ℤ pos 1 ≤ℤ y +ℤ z
twice_below x y z = linear (x ∷ y ∷ z ∷ []) (search reading depth 30) (omega arith)

thirds : (a b : ℤ) → pos 3 *ℤ a ≤ℤ pos 3 *ℤ b +ℤ pos 2 → a ≤ℤ b
thirds a b = linear (a ∷ b ∷ []) (search reading depth 30) (omega arith)

-- or the facts in hand are handed over
two_steps : (x y z : ℤ) → x <ℤ y → y <ℤ z → x +ℤ pos 2 ≤ℤ z
two_steps x y z h k = from (x ∷ y ∷ z ∷ []) (h & k) (search reading depth 30) (omega arith)

-- ---- what is not linear: hand over squares and products of facts; `omega` finds how often each is taken
mean : (x y : ℤ) → pos 4 *ℤ x *ℤ y ≤ℤ (x +ℤ y) *ℤ (x +ℤ y)
mean x y = from (x ∷ y ∷ []) (sq (x -ℤ y)) (search reading depth 30) (omega arith)

monotone : (a b c : ℤ) → pos 0 ≤ℤ c → a ≤ℤ b → a *ℤ c ≤ℤ b *ℤ c
monotone a b c h k = from (a ∷ b ∷ c ∷ []) (mul_diffs h k) (search reading depth 30) (omega arith)

three_squares : (a b c : ℤ) → a *ℤ b +ℤ b *ℤ c +ℤ c *ℤ a ≤ℤ a *ℤ a +ℤ b *ℤ b +ℤ c *ℤ c
three_squares a b c = from (a ∷ b ∷ c ∷ []) (sq (a -ℤ b) & sq (b -ℤ c) & sq (c -ℤ a)) (search reading depth 30) (omega arith)

bounded : (x y : ℤ) → negsuc 99 ≤ℤ x → x ≤ℤ pos 100 → negsuc 99 ≤ℤ y → y ≤ℤ pos 100 → x *ℤ y ≤ℤ pos 10000
bounded x y a b c d = from (x ∷ y ∷ []) (mul_diffs a d & mul_diffs b c) (search reading depth 30) (omega arith)

-- ---- or write the certificate: b − a is this sum of what is not negative
cauchy : (a b c x y z : ℤ) → (a *ℤ x +ℤ b *ℤ y +ℤ c *ℤ z) *ℤ (a *ℤ x +ℤ b *ℤ y +ℤ c *ℤ z) ≤ℤ (a *ℤ a +ℤ b *ℤ b +ℤ c *ℤ c) *ℤ (x *ℤ x +ℤ y *ℤ y +ℤ z *ℤ z)
cauchy a b c x y z = by_certificate (a ∷ b ∷ c ∷ x ∷ y ∷ z ∷ []) (sq (a *ℤ y -ℤ b *ℤ x) ⊕ sq (a *ℤ z -ℤ c *ℤ x) ⊕ sq (b *ℤ z -ℤ c *ℤ y)) (search reading depth 30) tt

-- ---- natural numbers, through ℤ
mean_nat : (a b : ℕ) → 4 * a * b ≤ (a + b) * (a + b)
mean_nat a b = from (pos a ∷ pos b ∷ []) (sq (pos a -ℤ pos b)) (search reading depth 30) (omega arith)

difference : (a b : ℕ) → b ≤ a → pos (a - b) ≡ pos a -ℤ pos b
difference a b h = linear (pos (a - b) ∷ pos a ∷ pos b ∷ []) (search reading depth 30) (omega arith)

-- ---- the step of an induction: the form p·y² + q·x² − 2·s·x·y stays above 0 as (a, b) joins the sums p = Σa², q = Σb², s = Σab
form_step : (p q s a b x y : ℤ) → pos 0 ≤ℤ p *ℤ (y *ℤ y) +ℤ q *ℤ (x *ℤ x) -ℤ pos 2 *ℤ s *ℤ x *ℤ y → pos 0 ≤ℤ (p +ℤ a *ℤ a) *ℤ (y *ℤ y) +ℤ (q +ℤ b *ℤ b) *ℤ (x *ℤ x) -ℤ pos 2 *ℤ (s +ℤ a *ℤ b) *ℤ x *ℤ y
form_step p q s a b x y h = from (p ∷ q ∷ s ∷ a ∷ b ∷ x ∷ y ∷ []) (h & sq (a *ℤ y -ℤ b *ℤ x)) (search reading depth 30) (omega arith)

-- Cauchy and Schwarz: the step, from the form at (x, y) = (a, b)
cauchy_step : (p q s a b : ℤ) → s *ℤ s ≤ℤ p *ℤ q → pos 0 ≤ℤ p *ℤ (b *ℤ b) +ℤ q *ℤ (a *ℤ a) -ℤ pos 2 *ℤ s *ℤ a *ℤ b → (s +ℤ a *ℤ b) *ℤ (s +ℤ a *ℤ b) ≤ℤ (p +ℤ a *ℤ a) *ℤ (q +ℤ b *ℤ b)
cauchy_step p q s a b = linear (p ∷ q ∷ s ∷ a ∷ b ∷ []) (search reading depth 30) (omega arith)
