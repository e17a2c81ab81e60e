-- `ring`: an equation of ℤ that holds in every commutative ring, proved by computation.
--
--     square : (a b : ℤ) → (a +ℤ b) *ℤ (a +ℤ b) ≡ a *ℤ a +ℤ pos 2 *ℤ a *ℤ b +ℤ b *ℤ b
--     square a b = ring (a ∷ b ∷ []) (search reading depth 30) tt
--
-- The list holds the unknowns: any terms of ℤ, and `pos n` for a natural number n. `search reading` reads the two sides over that list:
-- it writes a term of `IntReading`, whose index is the integer that it reads. `norm` makes a polynomial of it, and `tt` proves that the two
-- polynomials are the same, by computation. Read are `+ℤ`, `-ℤ`, `*ℤ`, `neg_ℤ`, numerals `pos 2` and `negsuc 2`, and under `pos` also `+`,
-- `*` and `suc`.
use mathlib.Core.Path.{◌≡◌, refl, sym, ◌∙◌, ap, ap₂, subst}
use mathlib.Core.Bool.{Bool, true, false}
use mathlib.Core.List.{List, [], ◌∷◌}
use Prim.Native.Nat.{ℕ, zero, suc, ◌+◌, ◌*◌, compare, Ordering}
use native.Mathlib.Nat as NatL
use native.Mathlib.Numerals.{add-one}
use lib.Dec.{eqb, eqb→eq, T, compare_is_eq}
use lib.IntN.{ℤ, pos, negsuc, neg_ℤ, ◌+ℤ◌, ◌*ℤ◌, +ℤ_idl, +ℤ_idr, +ℤ_assoc, zero-*ℤ, *ℤ-zero}
use Rattle.integer.specs.Words.{same_ℤ}
use Rattle.integer.proofs.Order.{+ℤ_swap, +ℤ_swap4, +ℤ_*ℤ, *ℤ_+ℤ, one_*ℤ, *ℤ_pos_one, *ℤ_assoc, *ℤ_swap, *ℤ_swap4, neg_ℤ_is}

-- ---- polynomials: a sum of terms, each a coefficient and the places of the monomial's factors, in order
pub data Poly : Type 0 where
  nil : Poly
  term : ℤ → List ℕ → Poly → Poly

abbrev pub at : List ℤ → ℕ → ℤ
at [] i = pos 0
at (x ∷ ρ) zero = x
at (x ∷ ρ) (suc i) = at ρ i

abbrev pub mono : List ℕ → List ℤ → ℤ
mono [] ρ = pos 1
mono (i ∷ m) ρ = at ρ i *ℤ mono m ρ

abbrev pub val : Poly → List ℤ → ℤ
val nil ρ = pos 0
val (term c m p) ρ = c *ℤ mono m ρ +ℤ val p ρ

-- ---- monomials are compared place by place, and the end of one counts as the largest place: so a product keeps the order
abbrev pub cmp : List ℕ → List ℕ → Ordering
cmp [] [] = Ordering.eq
cmp [] (j ∷ n) = Ordering.gt
cmp (i ∷ m) [] = Ordering.lt
cmp (i ∷ m) (j ∷ n) = elim (compare i j) [ Ordering.lt ↦ Ordering.lt | Ordering.eq ↦ cmp m n | Ordering.gt ↦ Ordering.gt ]

-- a choice between computations that wait (a call's arguments do not)
abbrev pub choose {ℓ} : {A : Type ℓ} → Ordering → (Unit {0} → A) → (Unit {0} → A) → (Unit {0} → A) → A
choose Ordering.lt f g h = f tt
choose Ordering.eq f g h = g tt
choose Ordering.gt f g h = h tt

choose_ind {ℓ} : {A : Type ℓ} (P : A → Type 0) (o : Ordering) (f g h : Unit {0} → A) → P (f tt) → (o ≡ Ordering.eq → P (g tt)) → P (h tt) → P (choose o f g h)
choose_ind P Ordering.lt f g h x y z = x
choose_ind P Ordering.eq f g h x y z = y refl
choose_ind P Ordering.gt f g h x y z = z

abbrev pub ins : ℕ → List ℕ → List ℕ
ins i [] = i ∷ []
ins i (j ∷ m) = choose (compare i j) (λ _. i ∷ j ∷ m) (λ _. i ∷ j ∷ m) (λ _. j ∷ ins i m)

abbrev pub join_monomials : List ℕ → List ℕ → List ℕ
join_monomials [] n = n
join_monomials (i ∷ m) n = ins i (join_monomials m n)

-- ---- the operations
abbrev pub is_zero : ℤ → Bool
is_zero (pos zero) = true
is_zero (pos (suc n)) = false
is_zero (negsuc n) = false

abbrev pub cons : ℤ → List ℕ → Poly → Poly
cons c m p = elim (is_zero c) [ true ↦ p | false ↦ term c m p ]

abbrev pub add_term : ℤ → List ℕ → (Poly → Poly) → Poly → Poly
add_term c m rest nil = term c m (rest nil)
add_term c m rest (term d n q) = choose (cmp m n) (λ _. term c m (rest (term d n q))) (λ _. cons (c +ℤ d) m (rest q)) (λ _. term d n (add_term c m rest q))

abbrev pub plus : Poly → Poly → Poly
plus nil q = q
plus (term c m p) q = add_term c m (plus p) q

abbrev pub scale : ℤ → List ℕ → Poly → Poly
scale c m nil = nil
scale c m (term d n p) = term (c *ℤ d) (join_monomials m n) (scale c m p)

abbrev pub times : Poly → Poly → Poly
times nil q = nil
times (term c m p) q = plus (scale c m q) (times p q)

-- ---- they are sound
cmp_eq : (m n : List ℕ) → cmp m n ≡ Ordering.eq → m ≡ n
cmp_eq [] [] e = refl
cmp_eq [] (j ∷ n) e = cc
cmp_eq (i ∷ m) [] e = cc
cmp_eq (i ∷ m) (j ∷ n) e = go (compare i j) refl (cmp_eq m n) e
  where
    go : (o : Ordering) → compare i j ≡ o → (cmp m n ≡ Ordering.eq → m ≡ n) → elim o [ Ordering.lt ↦ Ordering.lt | Ordering.eq ↦ cmp m n | Ordering.gt ↦ Ordering.gt ] ≡ Ordering.eq → i ∷ m ≡ j ∷ n
    go Ordering.lt f k e = cc
    go Ordering.eq f k e = ap₂ ◌∷◌ (eqb→eq i j (subst (λ o. T (compare_is_eq o)) (sym f) tt)) (k e)
    go Ordering.gt f k e = cc

module _ (ρ : List ℤ) where
  mono_ins : (i : ℕ) (m : List ℕ) → mono (ins i m) ρ ≡ at ρ i *ℤ mono m ρ
  mono_ins i [] = refl
  mono_ins i (j ∷ m) = choose_ind (λ l. mono l ρ ≡ at ρ i *ℤ (at ρ j *ℤ mono m ρ)) (compare i j) (λ _. i ∷ j ∷ m) (λ _. i ∷ j ∷ m) (λ _. j ∷ ins i m)
      refl (λ _. refl) (ap (λ t. at ρ j *ℤ t) (mono_ins i m) ∙ *ℤ_swap (at ρ j) (at ρ i) (mono m ρ))

  mono_join : (m n : List ℕ) → mono (join_monomials m n) ρ ≡ mono m ρ *ℤ mono n ρ
  mono_join [] n = sym (one_*ℤ (mono n ρ))
  mono_join (i ∷ m) n = mono_ins i (join_monomials m n) ∙ ap (λ t. at ρ i *ℤ t) (mono_join m n)
      ∙ sym (*ℤ_assoc (at ρ i) (mono m ρ) (mono n ρ))

  val_cons : (c : ℤ) (m : List ℕ) (p : Poly) → val (cons c m p) ρ ≡ c *ℤ mono m ρ +ℤ val p ρ
  val_cons (pos zero) m p = sym (ap (λ t. t +ℤ val p ρ) (zero-*ℤ (mono m ρ)) ∙ +ℤ_idl (val p ρ))
  val_cons (pos (suc n)) m p = refl
  val_cons (negsuc n) m p = refl

  val_add_term : (c : ℤ) (m : List ℕ) (rest : Poly → Poly) (v : ℤ) → ((q : Poly) → val (rest q) ρ ≡ v +ℤ val q ρ) → (q : Poly) → val (add_term c m rest q) ρ ≡ (c *ℤ mono m ρ +ℤ v) +ℤ val q ρ
  val_add_term c m rest v h nil = ap (λ t. c *ℤ mono m ρ +ℤ t) (h nil) ∙ sym (+ℤ_assoc (c *ℤ mono m ρ) v (pos 0))
  val_add_term c m rest v h (term d n q) = choose_ind (λ p. val p ρ ≡ (c *ℤ mono m ρ +ℤ v) +ℤ (d *ℤ mono n ρ +ℤ val q ρ)) (cmp m n)
      (λ _. term c m (rest (term d n q))) (λ _. cons (c +ℤ d) m (rest q)) (λ _. term d n (add_term c m rest q))
      (ap (λ t. c *ℤ mono m ρ +ℤ t) (h (term d n q)) ∙ sym (+ℤ_assoc (c *ℤ mono m ρ) v (d *ℤ mono n ρ +ℤ val q ρ)))
      (λ e. val_cons (c +ℤ d) m (rest q) ∙ ap₂ ◌+ℤ◌ (+ℤ_*ℤ c d (mono m ρ) ∙ ap (λ l. c *ℤ mono m ρ +ℤ d *ℤ mono l ρ) (cmp_eq m n e)) (h q) ∙ +ℤ_swap4 (c *ℤ mono m ρ) (d *ℤ mono n ρ) v (val q ρ))
      (ap (λ t. d *ℤ mono n ρ +ℤ t) (val_add_term c m rest v h q) ∙ +ℤ_swap (d *ℤ mono n ρ) (c *ℤ mono m ρ +ℤ v) (val q ρ))

  pub val_plus : (p q : Poly) → val (plus p q) ρ ≡ val p ρ +ℤ val q ρ
  val_plus nil q = sym (+ℤ_idl (val q ρ))
  val_plus (term c m p) q = val_add_term c m (plus p) (val p ρ) (val_plus p) q

  pub val_scale : (c : ℤ) (m : List ℕ) (p : Poly) → val (scale c m p) ρ ≡ (c *ℤ mono m ρ) *ℤ val p ρ
  val_scale c m nil = sym (*ℤ-zero (c *ℤ mono m ρ))
  val_scale c m (term d n p) = ap₂ ◌+ℤ◌ (ap (λ t. (c *ℤ d) *ℤ t) (mono_join m n) ∙ *ℤ_swap4 c d (mono m ρ) (mono n ρ)) (val_scale c m p) ∙ sym (*ℤ_+ℤ (c *ℤ mono m ρ) (d *ℤ mono n ρ) (val p ρ))

  val_times : (p q : Poly) → val (times p q) ρ ≡ val p ρ *ℤ val q ρ
  val_times nil q = sym (zero-*ℤ (val q ρ))
  val_times (term c m p) q = val_plus (scale c m q) (times p q) ∙ ap₂ ◌+ℤ◌ (val_scale c m q) (val_times p q) ∙ sym (+ℤ_*ℤ (c *ℤ mono m ρ) (val p ρ) (val q ρ))

-- ---- a reading of an integer: how it is made of the entries of ρ. Its index is the integer, so that `search reading` writes it
pub data IntReading (ρ : List ℤ) : ℤ → Type 0 where
  lit : (n : ℕ) → IntReading ρ (pos n)
  litn : (n : ℕ) → IntReading ρ (negsuc n)
  var : (i : ℕ) → IntReading ρ (at ρ i)
  add : {a b : ℤ} → IntReading ρ a → IntReading ρ b → IntReading ρ (a +ℤ b)
  mul : {a b : ℤ} → IntReading ρ a → IntReading ρ b → IntReading ρ (a *ℤ b)
  neg : {a : ℤ} → IntReading ρ a → IntReading ρ (neg_ℤ a)
  nxt : {n : ℕ} → IntReading ρ (pos n) → IntReading ρ (pos (suc n))

abbrev pub norm : {ρ : List ℤ} {z : ℤ} → IntReading ρ z → Poly
norm (lit n) = cons (pos n) [] nil
norm (litn n) = term (negsuc n) [] nil
norm (var i) = term (pos 1) (i ∷ []) nil
norm (add r s) = plus (norm r) (norm s)
norm (mul r s) = times (norm r) (norm s)
norm (neg r) = scale (negsuc 0) [] (norm r)
norm (nxt r) = plus (term (pos 1) [] nil) (norm r)

pub norm_sound : {ρ : List ℤ} {z : ℤ} (r : IntReading ρ z) → val (norm r) ρ ≡ z
norm_sound {ρ} (lit n) = val_cons ρ (pos n) [] nil ∙ +ℤ_idr (pos n *ℤ pos 1) ∙ *ℤ_pos_one (pos n)
norm_sound {ρ} (litn n) = +ℤ_idr (negsuc n *ℤ pos 1) ∙ *ℤ_pos_one (negsuc n)
norm_sound {ρ} (var i) = +ℤ_idr (pos 1 *ℤ (at ρ i *ℤ pos 1)) ∙ one_*ℤ (at ρ i *ℤ pos 1) ∙ *ℤ_pos_one (at ρ i)
norm_sound {ρ} (add r s) = val_plus ρ (norm r) (norm s) ∙ ap₂ ◌+ℤ◌ (norm_sound r) (norm_sound s)
norm_sound {ρ} (mul r s) = val_times ρ (norm r) (norm s) ∙ ap₂ ◌*ℤ◌ (norm_sound r) (norm_sound s)
norm_sound {ρ} (neg {a = a} r) = val_scale ρ (negsuc 0) [] (norm r) ∙ ap₂ ◌*ℤ◌ (*ℤ_pos_one (negsuc 0)) (norm_sound r) ∙ neg_ℤ_is a
norm_sound {ρ} (nxt {n = n} r) = val_plus ρ (term (pos 1) [] nil) (norm r) ∙ ap (λ z. pos 1 +ℤ z) (norm_sound r) ∙ ap pos (NatL.add_comm 1 n ∙ add-one n)

-- ---- two polynomials are the same: a test, whose proof is `tt`. (`norm r ≡ norm s` by `refl` is slower as they grow: 8 to 9 s against 0.4 to 0.8 s at 330 monomials)
abbrev pub both : Bool → Bool → Bool
both true b = b
both false b = false

abbrev pub same_poly : Poly → Poly → Bool
same_poly nil nil = true
same_poly nil (term d n q) = false
same_poly (term c m p) nil = false
same_poly (term c m p) (term d n q) = both (same_ℤ c d) (both (compare_is_eq (cmp m n)) (same_poly p q))

pub same_ℤ_eq : (c d : ℤ) → T (same_ℤ c d) → c ≡ d
same_ℤ_eq (pos a) (pos b) t = ap pos (eqb→eq a b t)
same_ℤ_eq (pos a) (negsuc b) t = absurd t
same_ℤ_eq (negsuc a) (pos b) t = absurd t
same_ℤ_eq (negsuc a) (negsuc b) t = ap negsuc (eqb→eq a b t)

both_parts : (a b : Bool) → T (both a b) → T a × T b
both_parts true b t = (tt, t)
both_parts false b t = absurd t

is_eq : (o : Ordering) → T (compare_is_eq o) → o ≡ Ordering.eq
is_eq Ordering.lt t = absurd t
is_eq Ordering.eq t = refl
is_eq Ordering.gt t = absurd t

same_eq : (p q : Poly) → T (same_poly p q) → p ≡ q
same_eq nil nil t = refl
same_eq nil (term d n q) t = absurd t
same_eq (term c m p) nil t = absurd t
same_eq (term c m p) (term d n q) t =
    let t₁ = both_parts (same_ℤ c d) (both (compare_is_eq (cmp m n)) (same_poly p q)) t in
    let t₂ = both_parts (compare_is_eq (cmp m n)) (same_poly p q) t₁.1 in
    λ i. term (same_ℤ_eq c d t₁.0 i) (cmp_eq m n (is_eq (cmp m n) t₂.0) i) (same_eq p q t₂.1 i)

-- ---- the theorem
pub data Sides (ρ : List ℤ) (a b : ℤ) : Type 0 where
  sides : IntReading ρ a → IntReading ρ b → Sides ρ a b

abbrev pub Same : {ρ : List ℤ} {a b : ℤ} → Sides ρ a b → Type 0
Same (sides r s) = T (same_poly (norm r) (norm s))

pub ring : (ρ : List ℤ) {a b : ℤ} (r : Sides ρ a b) → Same r → a ≡ b
ring ρ (sides r s) t = sym (norm_sound r) ∙ ap (λ p. val p ρ) (same_eq (norm r) (norm s) t) ∙ norm_sound s

-- ---- what `search reading` applies: the entries of ρ, the operations, and numerals
-- (one rule for each place: rules `here` and `there` would meet `search`'s bound of 1,000 fits at six unknowns. Sixteen places; for one
-- more, `let w : IntReading ρ (f 16) = var 16 in` before the call: `search` takes a variable in scope too)
abbrev pub v0 : {x0 : ℤ} {ρ : List ℤ} → IntReading (x0 ∷ ρ) x0
v0 = var 0

abbrev pub v1 : {x0 x1 : ℤ} {ρ : List ℤ} → IntReading (x0 ∷ x1 ∷ ρ) x1
v1 = var 1

abbrev pub v2 : {x0 x1 x2 : ℤ} {ρ : List ℤ} → IntReading (x0 ∷ x1 ∷ x2 ∷ ρ) x2
v2 = var 2

abbrev pub v3 : {x0 x1 x2 x3 : ℤ} {ρ : List ℤ} → IntReading (x0 ∷ x1 ∷ x2 ∷ x3 ∷ ρ) x3
v3 = var 3

abbrev pub v4 : {x0 x1 x2 x3 x4 : ℤ} {ρ : List ℤ} → IntReading (x0 ∷ x1 ∷ x2 ∷ x3 ∷ x4 ∷ ρ) x4
v4 = var 4

abbrev pub v5 : {x0 x1 x2 x3 x4 x5 : ℤ} {ρ : List ℤ} → IntReading (x0 ∷ x1 ∷ x2 ∷ x3 ∷ x4 ∷ x5 ∷ ρ) x5
v5 = var 5

abbrev pub v6 : {x0 x1 x2 x3 x4 x5 x6 : ℤ} {ρ : List ℤ} → IntReading (x0 ∷ x1 ∷ x2 ∷ x3 ∷ x4 ∷ x5 ∷ x6 ∷ ρ) x6
v6 = var 6

abbrev pub v7 : {x0 x1 x2 x3 x4 x5 x6 x7 : ℤ} {ρ : List ℤ} → IntReading (x0 ∷ x1 ∷ x2 ∷ x3 ∷ x4 ∷ x5 ∷ x6 ∷ x7 ∷ ρ) x7
v7 = var 7

abbrev pub v8 : {x0 x1 x2 x3 x4 x5 x6 x7 x8 : ℤ} {ρ : List ℤ} → IntReading (x0 ∷ x1 ∷ x2 ∷ x3 ∷ x4 ∷ x5 ∷ x6 ∷ x7 ∷ x8 ∷ ρ) x8
v8 = var 8

abbrev pub v9 : {x0 x1 x2 x3 x4 x5 x6 x7 x8 x9 : ℤ} {ρ : List ℤ} → IntReading (x0 ∷ x1 ∷ x2 ∷ x3 ∷ x4 ∷ x5 ∷ x6 ∷ x7 ∷ x8 ∷ x9 ∷ ρ) x9
v9 = var 9

abbrev pub v10 : {x0 x1 x2 x3 x4 x5 x6 x7 x8 x9 x10 : ℤ} {ρ : List ℤ} → IntReading (x0 ∷ x1 ∷ x2 ∷ x3 ∷ x4 ∷ x5 ∷ x6 ∷ x7 ∷ x8 ∷ x9 ∷ x10 ∷ ρ) x10
v10 = var 10

abbrev pub v11 : {x0 x1 x2 x3 x4 x5 x6 x7 x8 x9 x10 x11 : ℤ} {ρ : List ℤ} → IntReading (x0 ∷ x1 ∷ x2 ∷ x3 ∷ x4 ∷ x5 ∷ x6 ∷ x7 ∷ x8 ∷ x9 ∷ x10 ∷ x11 ∷ ρ) x11
v11 = var 11

abbrev pub v12 : {x0 x1 x2 x3 x4 x5 x6 x7 x8 x9 x10 x11 x12 : ℤ} {ρ : List ℤ} → IntReading (x0 ∷ x1 ∷ x2 ∷ x3 ∷ x4 ∷ x5 ∷ x6 ∷ x7 ∷ x8 ∷ x9 ∷ x10 ∷ x11 ∷ x12 ∷ ρ) x12
v12 = var 12

abbrev pub v13 : {x0 x1 x2 x3 x4 x5 x6 x7 x8 x9 x10 x11 x12 x13 : ℤ} {ρ : List ℤ} → IntReading (x0 ∷ x1 ∷ x2 ∷ x3 ∷ x4 ∷ x5 ∷ x6 ∷ x7 ∷ x8 ∷ x9 ∷ x10 ∷ x11 ∷ x12 ∷ x13 ∷ ρ) x13
v13 = var 13

abbrev pub v14 : {x0 x1 x2 x3 x4 x5 x6 x7 x8 x9 x10 x11 x12 x13 x14 : ℤ} {ρ : List ℤ} → IntReading (x0 ∷ x1 ∷ x2 ∷ x3 ∷ x4 ∷ x5 ∷ x6 ∷ x7 ∷ x8 ∷ x9 ∷ x10 ∷ x11 ∷ x12 ∷ x13 ∷ x14 ∷ ρ) x14
v14 = var 14

abbrev pub v15 : {x0 x1 x2 x3 x4 x5 x6 x7 x8 x9 x10 x11 x12 x13 x14 x15 : ℤ} {ρ : List ℤ} → IntReading (x0 ∷ x1 ∷ x2 ∷ x3 ∷ x4 ∷ x5 ∷ x6 ∷ x7 ∷ x8 ∷ x9 ∷ x10 ∷ x11 ∷ x12 ∷ x13 ∷ x14 ∷ x15 ∷ ρ) x15
v15 = var 15

-- (a natural number's sum and product in ℤ: `pos (a + b)` is `pos a +ℤ pos b` by computation)
abbrev pub add_nat : {ρ : List ℤ} {a b : ℕ} → IntReading ρ (pos a) → IntReading ρ (pos b) → IntReading ρ (pos (a + b))
add_nat r s = add r s

abbrev pub mul_nat : {ρ : List ℤ} {a b : ℕ} → IntReading ρ (pos a) → IntReading ρ (pos b) → IntReading ρ (pos (a * b))
mul_nat r s = mul r s

-- (a numeral: the test computes at a numeral and at nothing else, so that a natural number that ρ lacks is not taken for one)
abbrev pub numeral : {ρ : List ℤ} {n : ℕ} → eqb n n ≡ true → IntReading ρ (pos n)
numeral {n} e = lit n

abbrev pub numeral⁻ : {ρ : List ℤ} {n : ℕ} → eqb n n ≡ true → IntReading ρ (negsuc n)
numeral⁻ {n} e = litn n

-- (−(n + 1), which is how `neg_ℤ (pos (suc n))` computes)
abbrev pub negsuc_nat : {ρ : List ℤ} {n : ℕ} → IntReading ρ (pos n) → IntReading ρ (negsuc n)
negsuc_nat r = neg (nxt r)

pub ruleset reading = (sides, v0, v1, v2, v3, v4, v5, v6, v7, v8, v9, v10, v11, v12, v13, v14, v15, add_nat, mul_nat, add, mul, neg, nxt, negsuc_nat, numeral, numeral⁻)
