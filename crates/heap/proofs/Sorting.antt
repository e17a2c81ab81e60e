-- Laws of keys in order. `pour` forgets the order in which keys come (`insert_comm`), and a key that was put in can be taken out of both
-- sides of an equation (`insert_cancel`), for every list, in order or not: so lists of keys are reckoned with as if they were bags.
use Rattle.std.specs.Prelude.{if◌then◌else◌}
use mathlib.Core.Path.{◌≡◌, refl, sym, ap, ◌∙◌}
use mathlib.Core.Bool.{Bool, true, false}
use mathlib.Core.Logic.{◌⊎◌, inl, inr, ⊎_elim}
use mathlib.Core.List.{List, [], ◌∷◌, ◌++◌}
use Prim.Native.Nat.{ℕ, zero, suc, ◌+◌, ◌<◌, ◌≤◌}
use native.Mathlib.Nat.{not-suc-le-zero, le_of_suc-le-suc}
use native.Mathlib.Omega.{arith}
use lib.Dec.{leb, eqb}
use lib.ListN.{length, get_or, set}
use borrow.Author.Tests.{le-leb, lt-leb, leb-true, leb-false, eqb-true, eqb-false}
use Rattle.integer.specs.Sorting.{sorted_with, poured_by}
use Rattle.heap.specs.Keys.{insert_key, pour, sorted_of}

-- no key of a list is below m
abbrev pub Above : ℕ → List ℕ → Type 0
Above m [] = Unit {0}
Above m (x ∷ xs) = (m ≤ x) × Above m xs

-- a list is in order
abbrev pub SortedKeys : List ℕ → Type 0
SortedKeys [] = Unit {0}
SortedKeys (x ∷ xs) = Above x xs × SortedKeys xs

pub le_or_lt : (a b : ℕ) → (a ≤ b) ⊎ (b < a)
le_or_lt a b = go (leb a b) refl where
  go : (t : Bool) → leb a b ≡ t → (a ≤ b) ⊎ (b < a)
  go true e = inl (leb-true a b e)
  go false e = inr (leb-false a b e)

pub equal_or_not : (a b : ℕ) → (a ≡ b) ⊎ (a ≡ b → ⊥)
equal_or_not a b = go (eqb a b) refl where
  go : (t : Bool) → eqb a b ≡ t → (a ≡ b) ⊎ (a ≡ b → ⊥)
  go true e = inl (eqb-true a b e)
  go false e = inr (eqb-false a b e)

-- ---- one key put in

pub insert_nil : (a : ℕ) → insert_key a [] ≡ a ∷ []
unfolding sorted_with
insert_nil a = refl

pub insert_here : (a x : ℕ) (xs : List ℕ) → a ≤ x → insert_key a (x ∷ xs) ≡ a ∷ x ∷ xs
unfolding sorted_with
insert_here a x xs h = rw (le-leb a x h)

pub insert_past : (a x : ℕ) (xs : List ℕ) → x < a → insert_key a (x ∷ xs) ≡ x ∷ insert_key a xs
unfolding sorted_with
insert_past a x xs h = rw (lt-leb a x h)

insert_comm_lt : (a b : ℕ) → a < b → (l : List ℕ) → insert_key a (insert_key b l) ≡ insert_key b (insert_key a l)
insert_comm_lt a b h [] =
    let p : a ≤ b = omega arith in
    rw (insert_nil b, insert_nil a, insert_here a b [] p, insert_past b a [] h, insert_nil b)
insert_comm_lt a b h (x ∷ xs) =
    let ih = insert_comm_lt a b h xs in
    ⊎_elim
    (λ (p : b ≤ x).
    let q : a ≤ x = omega arith in
    let r : a ≤ b = omega arith in
    rw (insert_here b x xs p, insert_here a x xs q, insert_here a b (x ∷ xs) r, insert_past b a (x ∷ xs) h, insert_here b x xs p))
    (λ (p : x < b).
    ⊎_elim
    (λ (q : a ≤ x). rw (insert_past b x xs p, insert_here a x xs q, insert_here a x (insert_key b xs) q, insert_past b a (x ∷ xs) h, insert_past b x xs p))
    (λ (q : x < a). rw (insert_past b x xs p, insert_past a x xs q, insert_past a x (insert_key b xs) q, insert_past b x (insert_key a xs) p, ih))
    (le_or_lt a x))
    (le_or_lt b x)

pub insert_comm : (a b : ℕ) (l : List ℕ) → insert_key a (insert_key b l) ≡ insert_key b (insert_key a l)
insert_comm a b l =
    ⊎_elim
    (λ (p : a ≤ b). ⊎_elim
    (λ (q : b ≤ a). let e : a ≡ b = omega arith in rw e)
    (λ (q : a < b). insert_comm_lt a b q l)
    (le_or_lt b a))
    (λ (p : b < a). sym (insert_comm_lt b a p l))
    (le_or_lt a b)

-- a key taken out again
take_out : ℕ → List ℕ → List ℕ
take_out a [] = []
take_out a (x ∷ xs) = let past = take_out a xs in if leb a x then xs else x ∷ past

out_in : (a : ℕ) (l : List ℕ) → take_out a (insert_key a l) ≡ l
unfolding take_out
out_in a [] = let h : a ≤ a = omega arith in rw (insert_nil a, le-leb a a h)
out_in a (x ∷ xs) =
    let ih = out_in a xs in
    let h : a ≤ a = omega arith in
    ⊎_elim
    (λ (p : a ≤ x). rw (insert_here a x xs p, le-leb a a h))
    (λ (p : x < a). rw (insert_past a x xs p, lt-leb a x p, ih))
    (le_or_lt a x)

pub insert_cancel : (a : ℕ) (p q : List ℕ) → insert_key a p ≡ insert_key a q → p ≡ q
insert_cancel a p q e = sym (out_in a p) ∙ ap (take_out a) e ∙ out_in a q

pub length_insert : (a : ℕ) (l : List ℕ) → length (insert_key a l) ≡ suc (length l)
length_insert a [] = rw (insert_nil a)
length_insert a (x ∷ xs) =
    let ih = length_insert a xs in
    ⊎_elim (λ (p : a ≤ x). rw (insert_here a x xs p)) (λ (p : x < a). rw (insert_past a x xs p) (ap suc ih)) (le_or_lt a x)

-- ---- what is in order stays in order

pub above_less : (m k : ℕ) (l : List ℕ) → m ≤ k → Above k l → Above m l
above_less m k [] h a = tt
above_less m k (x ∷ xs) h a = (omega (arith, a.0), above_less m k xs h a.1)

pub insert_first : (a : ℕ) (l : List ℕ) → Above a l → insert_key a l ≡ a ∷ l
insert_first a [] h = insert_nil a
insert_first a (x ∷ xs) h = insert_here a x xs h.0

pub above_insert : (m a : ℕ) (l : List ℕ) → m ≤ a → Above m l → Above m (insert_key a l)
above_insert m a [] h k = rw (insert_nil a) (h, tt)
above_insert m a (x ∷ xs) h k =
    let ih = above_insert m a xs h k.1 in
    ⊎_elim (λ (p : a ≤ x). rw (insert_here a x xs p) (h, k)) (λ (p : x < a). rw (insert_past a x xs p) (k.0, ih)) (le_or_lt a x)

pub sorted_insert : (a : ℕ) (l : List ℕ) → SortedKeys l → SortedKeys (insert_key a l)
sorted_insert a [] s = rw (insert_nil a) (tt, tt)
sorted_insert a (x ∷ xs) s =
    let ih = sorted_insert a xs s.1 in
    ⊎_elim
    (λ (p : a ≤ x). rw (insert_here a x xs p) ((p, above_less a x xs p s.0), s))
    (λ (p : x < a). rw (insert_past a x xs p) (above_insert x a xs (omega arith) s.0, ih))
    (le_or_lt a x)

-- ---- keys put in one by one

pub pour_nil : (l : List ℕ) → pour [] l ≡ l
unfolding poured_by
pour_nil l = refl

pub pour_cons : (x : ℕ) (xs l : List ℕ) → pour (x ∷ xs) l ≡ insert_key x (pour xs l)
unfolding poured_by
pour_cons x xs l = refl

pub pour_insert : (xs : List ℕ) (a : ℕ) (l : List ℕ) → pour xs (insert_key a l) ≡ insert_key a (pour xs l)
unfolding poured_by
pour_insert [] a l = refl
pour_insert (x ∷ xs) a l = rw (pour_insert xs a l) (insert_comm x a (pour xs l))

pub pour_pour : (xs ys l : List ℕ) → pour xs (pour ys l) ≡ pour ys (pour xs l)
unfolding poured_by
pour_pour [] ys l = refl
pour_pour (x ∷ xs) ys l = rw (pour_pour xs ys l) (sym (pour_insert ys x (pour xs l)))

pub pour_append : (xs ys l : List ℕ) → pour (xs ++ ys) l ≡ pour xs (pour ys l)
unfolding poured_by
pour_append [] ys l = refl
pour_append (x ∷ xs) ys l = ap (insert_key x) (pour_append xs ys l)

pub pour_cancel : (xs p q : List ℕ) → pour xs p ≡ pour xs q → p ≡ q
unfolding poured_by
pour_cancel [] p q e = e
pour_cancel (x ∷ xs) p q e = pour_cancel xs p q (insert_cancel x (pour xs p) (pour xs q) e)

pub above_pour : (m : ℕ) (xs l : List ℕ) → Above m xs → Above m l → Above m (pour xs l)
unfolding poured_by
above_pour m [] l h k = k
above_pour m (x ∷ xs) l h k = above_insert m x (pour xs l) h.0 (above_pour m xs l h.1 k)

pub sorted_pour : (xs l : List ℕ) → SortedKeys l → SortedKeys (pour xs l)
unfolding poured_by
sorted_pour [] l s = s
sorted_pour (x ∷ xs) l s = sorted_insert x (pour xs l) (sorted_pour xs l s)

pub length_pour : (xs l : List ℕ) → length (pour xs l) ≡ length xs + length l
unfolding poured_by
length_pour [] l = omega arith
length_pour (x ∷ xs) l = omega (arith, length_insert x (pour xs l), length_pour xs l)

-- what is in order is its own order
pub sorted_same : (l : List ℕ) → SortedKeys l → sorted_of l ≡ l
sorted_same [] s = pour_nil []
sorted_same (x ∷ xs) s = rw (pour_cons x xs [], sorted_same xs s.1) (insert_first x xs s.0)

-- ---- a place of a list written anew: the old key went and the new one came

pub set_pour : (l : List ℕ) (i a : ℕ) (r : List ℕ) → i < length l → insert_key (get_or l i 0) (pour (set l i a) r) ≡ insert_key a (pour l r)
unfolding poured_by
set_pour [] i a r h = absurd (not-suc-le-zero h)
set_pour (x ∷ xs) zero a r h = insert_comm x a (pour xs r)
set_pour (x ∷ xs) (suc i) a r h =
    insert_comm (get_or xs i 0) x (pour (set xs i a) r)
    ∙ ap (insert_key x) (set_pour xs i a r (le_of_suc-le-suc h))
    ∙ insert_comm x a (pour xs r)

-- A hole at a place of l: with `key` for what stands there, the keys would be c. Another key k put there moves the hole to where k came
-- from,
pub hole_move : (l : List ℕ) (i key k : ℕ) (c : List ℕ) → i < length l
    → insert_key key (sorted_of l) ≡ insert_key (get_or l i 0) c → insert_key key (sorted_of (set l i k)) ≡ insert_key k c
hole_move l i key k c h e =
    let g = get_or l i 0 in
    let n = sorted_of (set l i k) in
    insert_cancel g (insert_key key n) (insert_key k c)
    (insert_comm g key n ∙ ap (insert_key key) (set_pour l i k [] h) ∙ insert_comm key k (sorted_of l) ∙ ap (insert_key k) e ∙ insert_comm k g c)

-- .. and the key itself fills it
pub hole_fill : (l : List ℕ) (i key : ℕ) (c : List ℕ) → i < length l
    → insert_key key (sorted_of l) ≡ insert_key (get_or l i 0) c → sorted_of (set l i key) ≡ c
hole_fill l i key c h e = insert_cancel key (sorted_of (set l i key)) c (hole_move l i key key c h e)
