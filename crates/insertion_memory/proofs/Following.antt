-- Lists by links, after a number joined a list and after a list was laid anew: what is not in a list does not bear on it.
use Prim.Native.Nat.{ℕ, suc, ◌≤◌, ◌<◌}
use mathlib.Core.Path.{◌≡◌, refl, ◌∙◌, subst}
use mathlib.Core.List.{List, [], ◌∷◌, ◌++◌, foldl}
use native.Mathlib.Omega.{arith}
use lib.ListN.{length, get_or, set, length-set, drop}
use lib.Seq.{get_or-set_same, get_or-set_other, drop-set-lt}
use Rattle.integer.specs.Words.{last_of}
use Rattle.integer.proofs.Lists.{In, first, later, Up, u_more, up_in, last_in}
use Rattle.tables.proofs.Linked.{Linked, l_end, l_on}
use Rattle.insertion_memory.specs.Links.{joined, linked}

-- ---- a number joins

-- the list with a new number behind its last, in links that differ at the two only
extended : {links : List ℕ} {b x new : ℕ} {l : List ℕ} (links' : List ℕ) → Linked links (x ∷ l) → Up b (x ∷ l) → 0 < new
    → ((s : ℕ) → In s (x ∷ l) → (s ≡ foldl (λ before now. now) x l → ⊥) → get_or links' s 0 ≡ get_or links s 0)
    → get_or links' (foldl (λ before now. now) x l) 0 ≡ new → get_or links' new 0 ≡ 0 → Linked links' (x ∷ l ++ (new ∷ []))
extended links' (l_end e) u p same last end = l_on last p (l_end end)
extended {x} links' (l_on {y} {l} e q w) (u_more g u) p same last end =
    let above : (s : ℕ) → In s (y ∷ l) → suc x ≤ s = λ s i. up_in u i in
    l_on (same x first (λ z. omega (arith, z, above _ (last_in y l))) ∙ e) q (extended links' w u p (λ s i ne. same s (later i) ne) last end)

module _ (links : List ℕ) (x : ℕ) (l : List ℕ) (new : ℕ) (room : new < length links) where
  abbrev final : ℕ
  final = foldl (λ before now. now) x l

  join_at_new : get_or (joined links (x ∷ l) new) new 0 ≡ 0
  unfolding joined
  join_at_new = let h : new < length (set links final new) = simp length-set room in get_or-set_same (set links final new) new 0 0 h

  module _ (low : (t : ℕ) → In t (x ∷ l) → t < new) where
    join_at_last : get_or (joined links (x ∷ l) new) final 0 ≡ new
    unfolding joined
    join_at_last =
        let h : final < new = low final (last_in x l) in
        get_or-set_other (set links final new) new final 0 0 (λ e. omega (arith, e)) ∙ get_or-set_same links final new 0 (omega arith)

  pub join_at_other : (s : ℕ) → (s ≡ new → ⊥) → (s ≡ final → ⊥) → get_or (joined links (x ∷ l) new) s 0 ≡ get_or links s 0
  unfolding joined
  join_at_other s f g = get_or-set_other (set links final new) new s 0 0 f ∙ get_or-set_other links final s new 0 g

  -- the joined leaf's list has the new number at its end
  pub joined_linked : {b : ℕ} → Linked links (x ∷ l) → Up b (x ∷ l) → ((t : ℕ) → In t (x ∷ l) → t < new) → Linked (joined links (x ∷ l) new) (x ∷ l ++ (new ∷ []))
  joined_linked w u low = extended (joined links (x ∷ l) new) w u (omega (arith, low x first)) (λ s i ne. join_at_other s (λ e. omega (arith, e, low s i)) ne) (join_at_last low) join_at_new

pub joined_length : (links numbers : List ℕ) (new : ℕ) → length (joined links numbers new) ≡ length links
unfolding joined
joined_length links numbers new = simp length-set

pub joined_behind : (links numbers : List ℕ) (new c : ℕ) → new < c → last_of numbers < c → drop c (joined links numbers new) ≡ drop c links
unfolding joined
joined_behind links numbers new c h g = drop-set-lt c (set links (last_of numbers) new) new 0 h ∙ drop-set-lt c links (last_of numbers) new g

-- ---- a list laid anew

pub laid_length : (l links : List ℕ) → length (linked l links) ≡ length links
unfolding linked
laid_length [] links = refl
laid_length (x ∷ []) links = length-set links x 0
laid_length (x ∷ (y ∷ l)) links = laid_length (y ∷ l) (set links x y) ∙ length-set links x y

pub laid_other : (l links : List ℕ) (s : ℕ) → (In s l → ⊥) → get_or (linked l links) s 0 ≡ get_or links s 0
unfolding linked
laid_other [] links s f = refl
laid_other (x ∷ []) links s f = get_or-set_other links x s 0 0 (λ e. f (subst (λ (y : ℕ). In s (y ∷ [])) e first))
laid_other (x ∷ (y ∷ l)) links s f = laid_other (y ∷ l) (set links x y) s (λ i. f (later i)) ∙ get_or-set_other links x s y 0 (λ e. f (subst (λ (z : ℕ). In s (z ∷ y ∷ l)) e first))

pub laid_behind : (l links : List ℕ) (c : ℕ) → ((t : ℕ) → In t l → t < c) → drop c (linked l links) ≡ drop c links
unfolding linked
laid_behind [] links c low = refl
laid_behind (x ∷ []) links c low = drop-set-lt c links x 0 (low x first)
laid_behind (x ∷ (y ∷ l)) links c low = laid_behind (y ∷ l) (set links x y) c (λ t i. low t (later i)) ∙ drop-set-lt c links x y (low x first)

-- `linked` lays exactly the list
pub laid_linked : {b : ℕ} (x : ℕ) (l links : List ℕ) → Up b (x ∷ l) → ((t : ℕ) → In t (x ∷ l) → t < length links) → Linked (linked (x ∷ l) links) (x ∷ l)
unfolding linked
laid_linked x [] links u low = l_end (get_or-set_same links x 0 0 (low x first))
laid_linked x (y ∷ l) links (u_more g u) low =
    let above : (s : ℕ) → In s (y ∷ l) → suc x ≤ s = λ s i. up_in u i in
    l_on (laid_other (y ∷ l) (set links x y) x (λ i. omega (arith, above x i)) ∙ get_or-set_same links x y 0 (low x first)) (omega (arith, above y first))
    (laid_linked y l (set links x y) u (λ t i. simp length-set (low t (later i))))
