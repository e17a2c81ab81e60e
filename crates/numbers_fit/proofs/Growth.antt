-- Marks that grow: by one number, by the numbers of one node after another, and what it means that a number is met again.
use Prim.Native.Nat.{ℕ, zero, suc, ◌+◌, ◌-◌, ◌≤◌, ◌<◌}
use mathlib.Core.Path.{◌≡◌, refl, sym, ◌∙◌, ap, subst}
use mathlib.Core.Bool.{Bool, true, false}
use mathlib.Core.List.{List, [], ◌∷◌, ◌++◌, map, flatten, append_assoc, append-nil}
use native.Mathlib.Omega.{arith}
use native.Mathlib.Nat.{add-zero}
use native.Mathlib.Numerals.{add-one}
use lib.ListN.{length, length-set, get_or, set, replicate}
use lib.Seq.{get_or-set_same, get_or-set_other}
use borrow.Author.Count.{below_more}
use Rattle.integer.specs.Words.{counting, times_in}
use Rattle.integer.proofs.Lists.{same_or_not}
use Rattle.integer.proofs.Times.{times_nil, times_same, times_other, times_append}
use Rattle.integer.proofs.Tests.{clash}
use Rattle.numbers_fit.specs.Marks.{MarksGrown, Twice, MarkedOrTwice}

-- ---- no number, one number, more numbers

pub grown_none : (marks : List ℕ) → MarksGrown marks marks []
grown_none marks = record { size = refl; at = λ x g. omega (arith, times_nil x); single = λ h. h }

module _ (marks : List ℕ) (number : ℕ) (h : number < length marks) where
  pub grown_one : get_or marks number 0 ≤ 0 → MarksGrown marks (set marks number 1) (number ∷ [])
  grown_one e = record { size = length-set marks number 1; at = λ x g. by x (same_or_not x number); single = λ one x. most one x (same_or_not x number) }
    where
      by : (x : ℕ) → Dec (x ≡ number) → get_or (set marks number 1) x 0 ≡ get_or marks x 0 + times_in x (number ∷ [])
      by x (yes p) =
          subst (λ (y : ℕ). get_or (set marks number 1) y 0 ≡ get_or marks y 0 + times_in y (number ∷ [])) (sym p)
          (omega (arith, get_or-set_same marks number 1 0 h, e, times_same number [], times_nil number))
      by x (no f) = omega (arith, get_or-set_other marks number x 1 0 f, times_other x number [] f, times_nil x)

      most : ((x : ℕ) → get_or marks x 0 ≤ 1) → (x : ℕ) → Dec (x ≡ number) → get_or (set marks number 1) x 0 ≤ 1
      most one x (yes p) = subst (λ (y : ℕ). get_or (set marks number 1) y 0 ≤ 1) (sym p) (omega (arith, get_or-set_same marks number 1 0 h))
      most one x (no f) = omega (arith, get_or-set_other marks number x 1 0 f, one x)

  pub met_again : 0 < get_or marks number 0 → Twice marks (number ∷ [])
  met_again f = record { number = number; inside = h; again = omega (arith, f, times_same number [], times_nil number) }

module _ {a b : List ℕ} {xs : List ℕ} (g : MarksGrown a b xs) where
  pub grown_then : {c : List ℕ} {ys : List ℕ} → MarksGrown b c ys → MarksGrown a c (xs ++ ys)
  grown_then {c} {ys} k = record {
    size = k.size ∙ g.size;
    at = λ x h. omega (arith, k.at x (omega (arith, h, g.size)), g.at x h, times_append x xs ys);
    single = λ h. k.single (g.single h);
  }

  pub twice_then : {ys : List ℕ} → Twice b ys → Twice a (xs ++ ys)
  twice_then {ys} t =
      let h : t.number < length a = omega (arith, t.inside, g.size) in
      record { number = t.number; inside = h; again = omega (arith, t.again, g.at t.number h, times_append t.number xs ys) }

pub twice_more : {a xs : List ℕ} (ys : List ℕ) → Twice a xs → Twice a (xs ++ ys)
twice_more {a} {xs} ys t = record { number = t.number; inside = t.inside; again = omega (arith, t.again, times_append t.number xs ys) }

-- ---- from no marks on

pub none_at : (size x : ℕ) → get_or (replicate {A = ℕ} size 0) x 0 ≡ 0
none_at zero x = refl
none_at (suc size) zero = refl
none_at (suc size) (suc x) = none_at size x

-- ---- the numbers of one node after another

module _ (f : ℕ → List ℕ) where
  abbrev firsts : ℕ → List ℕ
  firsts m = flatten (map f (counting m 0))

  one_more : (j a : ℕ) → flatten (map f (counting (suc j) a)) ≡ flatten (map f (counting j a)) ++ f (a + j)
  unfolding counting flatten
  one_more zero a = append-nil (f a) ∙ ap f (sym (add-zero a))
  one_more (suc j) a =
      let e : suc a + j ≡ a + suc j = omega arith in
      ap (λ (l : List ℕ). f a ++ l) (one_more j (suc a) ∙ ap (λ (x : ℕ). flatten (map f (counting j (suc a))) ++ f x) e)
      ∙ sym (append_assoc (f a) (flatten (map f (counting j (suc a)))) (f (a + suc j)))

  pub firsts_more : (j : ℕ) → firsts (j + 1) ≡ firsts j ++ f j
  firsts_more j = let e : 0 + j ≡ j = omega arith in ap (λ (x : ℕ). firsts x) (add-one j) ∙ (one_more j 0 ∙ ap (λ (x : ℕ). firsts j ++ f x) e)

  times_firsts : (x j d : ℕ) → times_in x (firsts j) ≤ times_in x (firsts (j + d))
  times_firsts x j zero = let e : j + 0 ≡ j = add-zero j in rw e (omega arith)
  times_firsts x j (suc d) =
      let e : j + suc d ≡ (j + d) + 1 = omega arith in
      let q : times_in x (firsts ((j + d) + 1)) ≡ times_in x (firsts (j + d)) + times_in x (f (j + d)) = ap (times_in x) (firsts_more (j + d)) ∙ times_append x (firsts (j + d)) (f (j + d)) in
      rw e (omega (arith, q, times_firsts x j d))

  -- a number that is met again among the first j is so among the first m
  pub twice_firsts : {a : List ℕ} (j m : ℕ) → j ≤ m → Twice a (firsts j) → Twice a (firsts m)
  twice_firsts j m h t =
      let e : j + (m - j) ≡ m = omega arith in
      record {
        number = t.number;
        inside = t.inside;
        again =
            omega (arith, t.again, subst (λ (y : ℕ). times_in t.number (firsts j) ≤ times_in t.number (firsts y)) e (times_firsts t.number j (m - j)));
      }

  module _ {a b : List ℕ} {j : ℕ} (g : MarksGrown a b (firsts j)) where
    pub grown_firsts : {c : List ℕ} → MarksGrown b c (f j) → MarksGrown a c (firsts (j + 1))
    grown_firsts {c} k = subst (MarksGrown a c) (sym (firsts_more j)) (grown_then g k)

    pub again_firsts : (m : ℕ) → j < m → Twice b (f j) → Twice a (firsts m)
    again_firsts m h t = twice_firsts (j + 1) m (omega arith) (subst (Twice a) (sym (firsts_more j)) (twice_then g t))

-- ---- two numbers, one after the other

pub took_none : (marks : List ℕ) → MarkedOrTwice marks marks [] true
took_none marks = record { new = λ _. grown_none marks; old = λ e. clash e }

module _ {a b : List ℕ} {x : ℕ} (y : ℕ) {r : Bool} (t : MarkedOrTwice a b (x ∷ []) r) where
  pub took_first : r ≡ false → {after : List ℕ} → MarkedOrTwice a after (x ∷ (y ∷ [])) false
  took_first e = record { new = λ z. clash (sym z); old = λ _. twice_more (y ∷ []) (t.old e) }

  pub took_both : r ≡ true → {c : List ℕ} {q : Bool} → MarkedOrTwice b c (y ∷ []) q → MarkedOrTwice a c (x ∷ (y ∷ [])) q
  took_both e u = record { new = λ z. grown_then (t.new e) (u.new z); old = λ z. twice_then (t.new e) (u.old z) }

-- numbers that all were marked, and numbers of which one was met again
pub took_new : {a b xs : List ℕ} → MarksGrown a b xs → MarkedOrTwice a b xs true
took_new g = record { new = λ _. g; old = λ e. clash e }

pub took_old : {a b xs : List ℕ} → Twice a xs → MarkedOrTwice a b xs false
took_old t = record { new = λ e. clash (sym e); old = λ _. t }

pub firsts_none : (f : ℕ → List ℕ) (marks : List ℕ) → MarksGrown marks marks (flatten (map f (counting 0 0)))
unfolding counting flatten
firsts_none f marks = grown_none marks

-- the same numbers
pub took_as : {a b xs ys : List ℕ} {r : Bool} → xs ≡ ys → MarkedOrTwice a b ys r → MarkedOrTwice a b xs r
took_as {a} {b} {r} e t = subst (λ (l : List ℕ). MarkedOrTwice a b l r) (sym e) t

-- ---- of the first i numbers so many pass, all of them exactly if that is i

pub record Tallied (P : ℕ → Type 0) (passed i : ℕ) : Type 0 where
  pub most : passed ≤ i
  pub each : passed ≡ i → (x : ℕ) → x < i → P x
  pub all : ((x : ℕ) → x < i → P x) → passed ≡ i

module _ (P : ℕ → Type 0) where
  pub tallied_none : Tallied P 0 0
  tallied_none = record { most = omega arith; each = λ _ x h. absurd (omega arith); all = λ _. refl }

  pub tallied_more : {passed i r : ℕ} → Tallied P passed i → r ≤ 1 → (r ≡ 1 → P i) → (P i → r ≡ 1) → Tallied P (passed + r) (i + 1)
  tallied_more {passed} {i} {r} w h yields shows = record {
    most = omega (arith, w.most, h);
    each = λ e. below_more P i (w.each (omega (arith, e, w.most, h))) (yields (omega (arith, e, w.most, h)));
    all = λ f. omega (arith, w.all (λ x g. f x (omega (arith, g))), shows (f i (omega arith)));
  }
