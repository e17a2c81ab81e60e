-- Two lists with each key equally often have the same keys in order: key by key, one is taken out of both.
use Rattle.std.specs.Prelude.{if◌then◌else◌}
use mathlib.Core.Path.{◌≡◌, refl, sym, ap, subst, ◌∙◌}
use mathlib.Core.Logic.{⊎_elim}
use mathlib.Core.List.{List, [], ◌∷◌}
use Prim.Native.Nat.{ℕ, suc, ◌<◌}
use native.Mathlib.Omega.{arith}
use lib.Dec.{eqb}
use borrow.Author.Tests.{eq-eqb, ne_eqb}
use Rattle.integer.specs.Words.{times_in}
use Rattle.integer.proofs.Times.{times_nil, times_same, times_other}
use Rattle.heap.specs.Keys.{insert_key, pour, sorted_of}
use Rattle.heap.proofs.Sorting.{equal_or_not, insert_comm, pour_cons}

times_is : (k x : ℕ) (l : List ℕ) → k ≡ x → times_in k (x ∷ l) ≡ suc (times_in k l)
times_is k x l e = subst (λ (y : ℕ). times_in k (y ∷ l) ≡ suc (times_in k l)) e (times_same k l)

-- a list without the first place at which a key is
without : ℕ → List ℕ → List ℕ
without a [] = []
without a (x ∷ xs) = let more = without a xs in if eqb a x then xs else x ∷ more

without_is : (a x : ℕ) (l : List ℕ) → a ≡ x → without a (x ∷ l) ≡ l
unfolding without
without_is a x l e = rw (eq-eqb a x e)

without_not : (a x : ℕ) (l : List ℕ) → (a ≡ x → ⊥) → without a (x ∷ l) ≡ x ∷ without a l
unfolding without
without_not a x l e = rw (ne_eqb a x e)

-- it is the list again with the key put in
pour_without : (a : ℕ) (l r : List ℕ) → 0 < times_in a l → pour l r ≡ insert_key a (pour (without a l) r)
pour_without a [] r h = absurd (omega (arith, times_nil a))
pour_without a (x ∷ xs) r h =
    let ih : 0 < times_in a xs → pour xs r ≡ insert_key a (pour (without a xs) r) = pour_without a xs r in
    ⊎_elim
    (λ (e : a ≡ x). rw (without_is a x xs e, pour_cons x xs r, e))
    (λ (ne : a ≡ x → ⊥).
    rw (without_not a x xs ne, pour_cons x xs r, pour_cons x (without a xs) r, ih (rw (times_other a x xs ne) at h))
    (insert_comm x a (pour (without a xs) r)))
    (equal_or_not a x)

times_without : (a : ℕ) (l : List ℕ) (j : ℕ) → 0 < times_in a l → times_in j l ≡ times_in j (a ∷ without a l)
times_without a [] j h = absurd (omega (arith, times_nil a))
times_without a (x ∷ xs) j h =
    let ih : 0 < times_in a xs → times_in j xs ≡ times_in j (a ∷ without a xs) = times_without a xs j in
    ⊎_elim
    (λ (e : a ≡ x). rw (without_is a x xs e, e))
    (λ (ne : a ≡ x → ⊥).
    let k = ih (rw (times_other a x xs ne) at h) in
    rw (without_not a x xs ne)
    (⊎_elim
    (λ (p : j ≡ x).
    let q : j ≡ a → ⊥ = λ y. ne (sym y ∙ p) in
    omega (arith, times_is j x xs p, times_other j a (x ∷ without a xs) q, times_is j x (without a xs) p, k, times_other j a (without a xs) q))
    (λ (p : j ≡ x → ⊥).
    ⊎_elim
    (λ (q : j ≡ a). omega (arith, times_other j x xs p, times_is j a (x ∷ without a xs) q, times_other j x (without a xs) p, k, times_is j a (without a xs) q))
    (λ (q : j ≡ a → ⊥). omega (arith, times_other j x xs p, times_other j a (x ∷ without a xs) q, times_other j x (without a xs) p, k, times_other j a (without a xs) q))
    (equal_or_not j a))
    (equal_or_not j x)))
    (equal_or_not a x)

times_cancel : (a j : ℕ) (l m : List ℕ) → times_in j (a ∷ l) ≡ times_in j (a ∷ m) → times_in j l ≡ times_in j m
times_cancel a j l m e =
    ⊎_elim
    (λ (p : j ≡ a). omega (arith, times_is j a l p, times_is j a m p, e))
    (λ (p : j ≡ a → ⊥). omega (arith, times_other j a l p, times_other j a m p, e))
    (equal_or_not j a)

none_left : (l : List ℕ) → ((j : ℕ) → times_in j l ≡ times_in j []) → l ≡ []
none_left [] f = refl
none_left (x ∷ xs) f = absurd (omega (arith, f x, times_nil x, times_same x xs))

pub same_bag : (l m : List ℕ) → ((j : ℕ) → times_in j l ≡ times_in j m) → sorted_of l ≡ sorted_of m
same_bag l [] f = ap sorted_of (none_left l f)
same_bag l (y ∷ m) f =
    let h : 0 < times_in y l = omega (arith, f y, times_same y m) in
    let ih = same_bag (without y l) m (λ j. times_cancel y j (without y l) m (sym (times_without y l j h) ∙ f j)) in
    pour_without y l [] h ∙ ap (insert_key y) ih ∙ sym (pour_cons y m [])
