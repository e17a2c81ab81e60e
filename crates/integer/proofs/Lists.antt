-- Lists of anything: what is in the lists that the definitions' words make (those, counting, chosen, flatten ..), and how many there are.
-- Membership is `In`, a place in a list.
use Rattle.std.specs.Prelude.{if◌then◌else◌}
use Prim.Native.Nat.{ℕ, zero, suc, ◌+◌, ◌-◌, ◌≤◌, ◌<◌, min, max}
use mathlib.Core.Path.{◌≡◌, refl, sym, ◌∙◌, ap, subst}
use mathlib.Core.Logic.{◌⊎◌, inl, inr}
use mathlib.Core.Bool.{Bool, true, false, not}
use mathlib.Core.List.{List, [], ◌∷◌, ◌++◌, map, foldl, flatten, append_assoc}
use native.Mathlib.Omega.{arith}
use native.Mathlib.Decide.{dec_le}
use native.Mathlib.Nat.{lt_of_not-le}
use lib.ListN.{length, get_or, set, take, drop, replicate}
use lib.Seq.{drop-drop, take-nil}
use lib.IntN.{ℤ, pos}
use lib.Signed.{lt_z, ≤ℤ_refl, lt_z_yes, lt_z_no}
use lib.Dec.{T, ltb, eqb, eqb_refl}
use mir.Facts.{and_yes, yes_and}
use borrow.Author.Tests.{ltb-true, ltb-false, eqb-true, eqb-false}
use Rattle.integer.specs.Words.{lesser, greater, those, every, counting, chosen, is_empty, is_in, least, greatest, least_ℤ, greatest_ℤ, last_of}
pub use Rattle.integer.specs.Lists.{In, first, later, All, all_none, all_more, Up, u_none, u_more}
use Rattle.integer.proofs.Tests.{is_true, is_false}
use Rattle.integer.proofs.Order.{◌≤ℤ◌, ≤ℤ_trans, <ℤ_≤ℤ}

-- two numbers are the same or not
pub same_or_not : (a b : ℕ) → Dec (a ≡ b)
same_or_not a b = by (eqb a b) refl
  where
    by : (t : Bool) → eqb a b ≡ t → Dec (a ≡ b)
    by true e = yes (eqb-true a b e)
    by false e = no (eqb-false a b e)

pub strict : {m n : ℕ} → m ≤ n → (m ≡ n → ⊥) → m < n
strict {m} {n} h f = by (dec_le n m)
  where
    by : Dec (n ≤ m) → m < n
    by (yes g) = absurd (f (omega arith))
    by (no g) = lt_of_not-le g

-- ---- membership

pub in_nil : {A : Type 0} {a : A} → In a [] → ⊥
in_nil i = elim i [ ]

pub in_cons : {A : Type 0} {a b : A} {l : List A} → In a (b ∷ l) → (a ≡ b) ⊎ In a l
in_cons first = inl refl
in_cons (later i) = inr i

-- what is equal to the first is in a list
pub in_front : {A : Type 0} {a b : A} {l : List A} → a ≡ b → In a (b ∷ l)
in_front {A} {a} {b} {l} e = subst (λ (x : A). In a (x ∷ l)) e first

pub some_in : {A : Type 0} {a : A} {l : List A} → In a l → 0 < length l
some_in first = omega arith
some_in (later i) = omega arith

pub not_empty : {A : Type 0} (l : List A) → T (not (is_empty l)) → 0 < length l
unfolding is_empty
not_empty [] t = absurd t
not_empty (a ∷ l) t = omega arith

pub in_get_or : {A : Type 0} (l : List A) (k : ℕ) (d : A) → k < length l → In (get_or l k d) l
in_get_or [] k d h = absurd (omega arith)
in_get_or (x ∷ l) zero d h = first
in_get_or (x ∷ l) (suc k) d h = later (in_get_or l k d (omega arith))

-- the test `is_in` says it
pub is_in_lem : (k : ℕ) (l : List ℕ) → T (is_in k l) → In k l
unfolding is_in
is_in_lem k [] t = absurd t
is_in_lem k (x ∷ xs) t = by (eqb k x) refl t (is_in_lem k xs)
  where
    by : (b : Bool) → eqb k x ≡ b → T (if b then true else is_in k xs) → (T (is_in k xs) → In k xs) → In k (x ∷ xs)
    by true e t ih = in_front (eqb-true k x e)
    by false e t ih = later (ih t)

pub in_is : {k : ℕ} {l : List ℕ} → In k l → T (is_in k l)
unfolding is_in
in_is {k} (first {rest}) = by (eqb k k) (eqb_refl k)
  where
    by : (b : Bool) → T b → T (if b then true else is_in k rest)
    by true t = tt
    by false t = absurd t
in_is {k} (later {b} {rest} i) = by (eqb k b) (in_is i)
  where
    by : (c : Bool) → T (is_in k rest) → T (if c then true else is_in k rest)
    by true t = tt
    by false t = t

-- ---- append

pub in_append_left : {A : Type 0} {a : A} {l : List A} (r : List A) → In a l → In a (l ++ r)
in_append_left r first = first
in_append_left r (later i) = later (in_append_left r i)

pub in_append_right : {A : Type 0} {a : A} (l : List A) {r : List A} → In a r → In a (l ++ r)
in_append_right [] i = i
in_append_right (b ∷ l) i = later (in_append_right l i)

pub in_append : {A : Type 0} {a : A} (l : List A) {r : List A} → In a (l ++ r) → In a l ⊎ In a r
in_append [] i = inr i
in_append {A} {a} (b ∷ l) {r} i = by (in_cons i) (λ (j : In a (l ++ r)). in_append l j)
  where
    on : In a l ⊎ In a r → In a (b ∷ l) ⊎ In a r
    on (inl j) = inl (later j)
    on (inr j) = inr j

    by : (a ≡ b) ⊎ In a (l ++ r) → (In a (l ++ r) → In a l ⊎ In a r) → In a (b ∷ l) ⊎ In a r
    by (inl e) ih = inl (in_front e)
    by (inr j) ih = on (ih j)

-- one more at the end
pub in_snoc : {A : Type 0} {a b : A} (l : List A) → In a (l ++ (b ∷ [])) → In a l ⊎ (a ≡ b)
in_snoc {A} {a} {b} l i = by (in_append l i)
  where
    only : (a ≡ b) ⊎ In a [] → In a l ⊎ (a ≡ b)
    only (inl e) = inr e
    only (inr j) = absurd (in_nil j)

    by : In a l ⊎ In a (b ∷ []) → In a l ⊎ (a ≡ b)
    by (inl j) = inl j
    by (inr j) = only (in_cons j)

last_from : {A : Type 0} (a : A) (l : List A) → In (foldl (λ before now. now) a l) (a ∷ l)
last_from a [] = first
last_from a (b ∷ l) = later (last_from b l)

pub last_in : (a : ℕ) (l : List ℕ) → In (last_of (a ∷ l)) (a ∷ l)
last_in a l = last_from a l

-- ---- map

pub in_map : {A B : Type 0} (f : A → B) {a : A} {l : List A} → In a l → In (f a) (map f l)
in_map f first = first
in_map f (later i) = later (in_map f i)

pub data InMap {A B : Type 0} (f : A → B) (b : B) (l : List A) : Type 0 where
  of : (a : A) → In a l → b ≡ f a → InMap f b l

pub from_map : {A B : Type 0} (f : A → B) {b : B} (l : List A) → In b (map f l) → InMap f b l
from_map f [] i = absurd (in_nil i)
from_map {A} {B} f {b} (a ∷ l) i = by (in_cons i) (from_map f l)
  where
    on : InMap f b l → InMap f b (a ∷ l)
    on (of c j e) = of c (later j) e

    by : (b ≡ f a) ⊎ In b (map f l) → (In b (map f l) → InMap f b l) → InMap f b (a ∷ l)
    by (inl e) ih = of a first e
    by (inr j) ih = on (ih j)

-- two maps that agree on all elements
pub map_agree : {A B : Type 0} (f g : A → B) (l : List A) → ((a : A) → In a l → f a ≡ g a) → map f l ≡ map g l
map_agree f g [] h = refl
map_agree f g (a ∷ l) h = rw (h a first, map_agree f g l (λ b i. h b (later i)))

-- ---- lists of lists

pub data InFlat {A B : Type 0} (f : A → List B) (b : B) (l : List A) : Type 0 where
  flat : (a : A) → In a l → In b (f a) → InFlat f b l

pub from_flat : {A B : Type 0} (f : A → List B) {b : B} (l : List A) → In b (flatten (map f l)) → InFlat f b l
unfolding flatten
from_flat f [] i = absurd (in_nil i)
from_flat f {b} (a ∷ l) i = by (in_append (f a) i) (from_flat f l)
  where
    on : InFlat f b l → InFlat f b (a ∷ l)
    on (flat c j k) = flat c (later j) k

    by : In b (f a) ⊎ In b (flatten (map f l)) → (In b (flatten (map f l)) → InFlat f b l) → InFlat f b (a ∷ l)
    by (inl j) ih = flat a first j
    by (inr j) ih = on (ih j)

pub in_flat : {A B : Type 0} (f : A → List B) {a : A} {b : B} {l : List A} → In a l → In b (f a) → In b (flatten (map f l))
unfolding flatten
in_flat f {a} (first {rest}) i = in_append_left (flatten (map f rest)) i
in_flat f (later {b = c} j) i = in_append_right (f c) (in_flat f j i)

cons_tail : {A : Type 0} (a b : A) (l m : List A) → a ∷ l ≡ b ∷ m → l ≡ m
cons_tail a b l m e = cc

cons_head : {A : Type 0} (a b : A) (l m : List A) → a ∷ l ≡ b ∷ m → a ≡ b
cons_head a b l m e = cc

pub flat_append : {A B : Type 0} (f : A → List B) (x y : List A) → flatten (map f (x ++ y)) ≡ flatten (map f x) ++ flatten (map f y)
unfolding flatten
flat_append f [] y = refl
flat_append f (a ∷ x) y = ap (λ l. f a ++ l) (flat_append f x y) ∙ sym (append_assoc (f a) (flatten (map f x)) (flatten (map f y)))

pub map_take : {A B : Type 0} (f : A → B) (k : ℕ) (l : List A) → map f (take k l) ≡ take k (map f l)
map_take f zero l = refl
map_take f (suc k) [] = refl
map_take {A} {B} f (suc k) (a ∷ l) = ap (λ (m : List B). f a ∷ m) (map_take f k l)

-- lists that agree from a place on agree from every later one on
pub drop_more : {A : Type 0} (k n : ℕ) (l m : List A) → n ≤ k → drop n l ≡ drop n m → drop k l ≡ drop k m
drop_more k n l m h e =
    let q : n + (k - n) ≡ k = omega arith in
    let p : drop (n + (k - n)) l ≡ drop (n + (k - n)) m = sym (drop-drop (k - n) n l) ∙ ap (drop (k - n)) e ∙ drop-drop (k - n) n m in
    rw q at p

-- two maps that agree on a list agree on each element, and on each of the lists that it was made of
-- a part of a beginning
pub drop_take : {A : Type 0} (p m : ℕ) (l : List A) → drop p (take m l) ≡ take (m - p) (drop p l)
drop_take zero m l = let e : m - 0 ≡ m = omega arith in rw e
drop_take (suc p) zero l = let e : 0 - suc p ≡ 0 = omega arith in rw e
drop_take (suc p) (suc m) [] = sym (take-nil (suc m - suc p))
drop_take (suc p) (suc m) (x ∷ l) = let e : suc m - suc p ≡ m - p = omega arith in rw e (drop_take p m l)

module _ {A B : Type 0} (f g : A → B) where
  pub agree_in : {a : A} {l : List A} → map f l ≡ map g l → In a l → f a ≡ g a
  agree_in {a} e (first {rest}) = cons_head (f a) (g a) (map f rest) (map g rest) e
  agree_in e (later {b} {rest} i) = agree_in (cons_tail (f b) (g b) (map f rest) (map g rest) e) i

-- ---- those that pass a test

module _ {A : Type 0} (passes : A → Bool) where
  pub from_those : {a : A} (l : List A) → In a (those passes l) → In a l × T (passes a)
  unfolding those
  from_those [] i = absurd (in_nil i)
  from_those {a} (b ∷ l) i = by (passes b) refl i (from_those l)
    where
      on : In a l × T (passes a) → In a (b ∷ l) × T (passes a)
      on (j, t) = (later j, t)

      at : passes b ≡ true → (a ≡ b) ⊎ In a (those passes l) → (In a (those passes l) → In a l × T (passes a)) → In a (b ∷ l) × T (passes a)
      at e (inl p) ih = (in_front p, subst (λ (x : A). T (passes x)) (sym p) (is_true e))
      at e (inr j) ih = on (ih j)

      by : (c : Bool) → passes b ≡ c → In a (if c then b ∷ those passes l else those passes l) → (In a (those passes l) → In a l × T (passes a)) → In a (b ∷ l) × T (passes a)
      by true e j ih = at e (in_cons j) ih
      by false e j ih = on (ih j)

  pub in_those : {a : A} {l : List A} → In a l → T (passes a) → In a (those passes l)
  unfolding those
  in_those {a} (first {rest}) t = by (passes a) t
    where
      by : (c : Bool) → T c → In a (if c then a ∷ those passes rest else those passes rest)
      by true t = first
      by false t = absurd t
  in_those {a} (later {b} {rest} i) t = by (passes b) (in_those i t)
    where
      by : (c : Bool) → In a (those passes rest) → In a (if c then b ∷ those passes rest else those passes rest)
      by true j = later j
      by false j = j

  pub those_lengths : (l : List A) → length (those passes l) + length (those (λ k. not (passes k)) l) ≡ length l
  unfolding those
  those_lengths [] = refl
  those_lengths (k ∷ l) = by (passes k) (those_lengths l)
    where
      by : (b : Bool) → length (those passes l) + length (those (λ k. not (passes k)) l) ≡ length l
          → length (if b then k ∷ those passes l else those passes l) + length (if not b then k ∷ those (λ k. not (passes k)) l else those (λ k. not (passes k)) l) ≡ suc (length l)
      by true e = omega arith
      by false e = omega arith

  pub every_of : (l : List A) → ((a : A) → In a l → T (passes a)) → T (every passes l)
  unfolding every
  every_of [] h = tt
  every_of (a ∷ l) h = yes_and (passes a) (every passes l) (h a first) (every_of l (λ b i. h b (later i)))

  pub from_every : {a : A} (l : List A) → T (every passes l) → In a l → T (passes a)
  unfolding every
  from_every [] t i = absurd (in_nil i)
  from_every {a} (b ∷ l) t i = by (in_cons i) (from_every l)
    where
      by : (a ≡ b) ⊎ In a l → (T (every passes l) → In a l → T (passes a)) → T (passes a)
      by (inl p) ih = subst (λ (x : A). T (passes x)) (sym p) (and_yes (passes b) (every passes l) t).0
      by (inr j) ih = ih (and_yes (passes b) (every passes l) t).1 j

-- two tests that agree on all elements
pub those_agree : {A : Type 0} (f g : A → Bool) (l : List A) → ((a : A) → In a l → f a ≡ g a) → those f l ≡ those g l
unfolding those
those_agree f g [] h = refl
those_agree f g (a ∷ l) h = rw (h a first, those_agree f g l (λ b i. h b (later i)))

-- a test that no element passes
pub those_none : {A : Type 0} (f : A → Bool) (l : List A) → ((a : A) → In a l → f a ≡ false) → those f l ≡ []
unfolding those
those_none f [] h = refl
those_none f (a ∷ l) h = rw (h a first, those_none f l (λ b i. h b (later i)))

-- what is in a list passes a test or the opposite one
pub in_either : {A : Type 0} (passes : A → Bool) {a : A} {l : List A} → In a l → In a (those passes l) ⊎ In a (those (λ b. not (passes b)) l)
in_either {A} passes {a} {l} i = by (passes a) refl
  where
    by : (b : Bool) → passes a ≡ b → In a (those passes l) ⊎ In a (those (λ b. not (passes b)) l)
    by true e = inl (in_those passes i (is_true e))
    by false e = inr (in_those (λ b. not (passes b)) i (is_false e))

-- ---- counting

pub in_counting : (m a k : ℕ) → a ≤ k → k < a + m → In k (counting m a)
unfolding counting
in_counting zero a k h g = absurd (omega arith)
in_counting (suc m) a k h g = by (same_or_not k a) (in_counting m (suc a) k)
  where
    by : Dec (k ≡ a) → (suc a ≤ k → k < suc a + m → In k (counting m (suc a))) → In k (a ∷ counting m (suc a))
    by (yes e) ih = in_front e
    by (no f) ih = later (ih (strict h (λ e. f (sym e))) (omega arith))

pub from_counting : (m a : ℕ) {k : ℕ} → In k (counting m a) → (a ≤ k) × (k < a + m)
unfolding counting
from_counting zero a i = absurd (in_nil i)
from_counting (suc m) a {k} i = by (in_cons i) (from_counting m (suc a))
  where
    by : (k ≡ a) ⊎ In k (counting m (suc a)) → (In k (counting m (suc a)) → (suc a ≤ k) × (k < suc a + m)) → (a ≤ k) × (k < a + suc m)
    by (inl e) ih = (omega arith, omega arith)
    by (inr j) ih = let h : (suc a ≤ k) × (k < suc a + m) = ih j in (omega (arith, h.0), omega (arith, h.1))

-- ---- all and some

pub data Some {A : Type 0} (P : A → Type 0) : List A → Type 0 where
  some_here : {a : A} {rest : List A} → P a → Some P (a ∷ rest)
  some_later : {a : A} {rest : List A} → Some P rest → Some P (a ∷ rest)

pub all_in : {A : Type 0} {P : A → Type 0} (l : List A) → ((a : A) → In a l → P a) → All P l
all_in [] h = all_none
all_in (a ∷ l) h = all_more (h a first) (all_in l (λ b i. h b (later i)))

pub all_at : {A : Type 0} {P : A → Type 0} {a : A} {l : List A} → All P l → In a l → P a
all_at (all_more p ps) first = p
all_at (all_more p ps) (later i) = all_at ps i
all_at all_none i = elim i [ ]

pub some_of : {A : Type 0} {P : A → Type 0} {a : A} {l : List A} → In a l → P a → Some P l
some_of first p = some_here p
some_of (later i) p = some_later (some_of i p)

pub all_mono : {A : Type 0} {P Q : A → Type 0} {l : List A} → ((a : A) → P a → Q a) → All P l → All Q l
all_mono h all_none = all_none
all_mono h (all_more {a} p ps) = all_more (h a p) (all_mono h ps)

pub all_append : {A : Type 0} {P : A → Type 0} {a b : List A} → All P a → All P b → All P (a ++ b)
all_append all_none q = q
all_append (all_more p ps) q = all_more p (all_append ps q)

-- all of two lists, one behind the other, are all of each
pub all_parts : {A : Type 0} {P : A → Type 0} (a : List A) {b : List A} → All P (a ++ b) → All P a × All P b
all_parts [] q = (all_none, q)
all_parts (x ∷ a) (all_more p ps) = let rest = all_parts a ps in (all_more p rest.0, rest.1)

module _ {A : Type 0} {P : A → Type 0} where
  pub all_take : (k : ℕ) {l : List A} → All P l → All P (take k l)
  all_take zero q = all_none
  all_take (suc k) all_none = all_none
  all_take (suc k) (all_more p ps) = all_more p (all_take k ps)

  pub all_drop : (k : ℕ) {l : List A} → All P l → All P (drop k l)
  all_drop zero q = q
  all_drop (suc k) all_none = all_none
  all_drop (suc k) (all_more p ps) = all_drop k ps

  pub all_replicate : (k : ℕ) (a : A) → P a → All P (replicate k a)
  all_replicate zero a p = all_none
  all_replicate (suc k) a p = all_more p (all_replicate k a p)

  pub all_get_d : {l : List A} (i : ℕ) (d : A) → P d → All P l → P (get_or l i d)
  all_get_d i d p all_none = p
  all_get_d zero d p (all_more q qs) = q
  all_get_d (suc i) d p (all_more q qs) = all_get_d i d p qs

  pub all_flatten : {l : List (List A)} → All (All P) l → All P (flatten l)
  unfolding flatten
  all_flatten all_none = all_none
  all_flatten (all_more p ps) = all_append p (all_flatten ps)

-- the test `every` says it
module _ {A : Type 0} (passes : A → Bool) where
  pub every_all : (l : List A) → T (every passes l) → All (λ a. T (passes a)) l
  every_all l t = all_in l (λ a i. from_every passes l t i)

  pub all_every : {l : List A} → All (λ a. T (passes a)) l → T (every passes l)
  unfolding every
  all_every all_none = tt
  all_every (all_more {a} {rest} p ps) = yes_and (passes a) (every passes rest) p (all_every ps)

  pub every_take : (k : ℕ) (l : List A) → T (every passes l) → T (every passes (take k l))
  every_take k l t = all_every (all_take k (every_all l t))

  pub every_drop : (k : ℕ) (l : List A) → T (every passes l) → T (every passes (drop k l))
  every_drop k l t = all_every (all_drop k (every_all l t))

module _ {A B : Type 0} {P : A → Type 0} {Q : B → Type 0} (f : A → B) (step : (a : A) → P a → Q (f a)) where
  pub all_map : {l : List A} → All P l → All Q (map f l)
  all_map all_none = all_none
  all_map (all_more {a} p ps) = all_more (step a p) (all_map ps)

pub all_those : {A : Type 0} {P : A → Type 0} (passes : A → Bool) {l : List A} → All P l → All (λ a. P a × T (passes a)) (those passes l)
unfolding those
all_those passes all_none = all_none
all_those {A} {P} passes (all_more {a} {rest} p ps) = by (passes a) refl (all_those passes ps)
  where
    by : (b : Bool) → passes a ≡ b → All (λ a. P a × T (passes a)) (those passes rest) → All (λ a. P a × T (passes a)) (if b then a ∷ those passes rest else those passes rest)
    by true e q = all_more (p, is_true e) q
    by false e q = q

-- ---- what is chosen from the left on

-- it stands in a relation to all, if what is chosen of two does to both
module _ {A : Type 0} (R : A → A → Type 0) (trans : (a b c : A) → R a b → R b c → R a c) (same : (a : A) → R a a) (choice : A → A → A)
    (left : (a b : A) → R (choice a b) a) (right : (a b : A) → R (choice a b) b) where
  pub fold_first : (a : A) (l : List A) → R (foldl choice a l) a
  fold_first a [] = same a
  fold_first a (b ∷ l) = trans (foldl choice (choice a b) l) (choice a b) a (fold_first (choice a b) l) (left a b)

  pub fold_all : {b : A} (a : A) {l : List A} → In b l → R (foldl choice a l) b
  fold_all {b} a (first {rest}) = trans (foldl choice (choice a b) rest) (choice a b) b (fold_first (choice a b) rest) (right a b)
  fold_all {b} a (later {b = c} i) = fold_all {b = b} (choice a c) i

  pub chosen_all : (other : A) {b : A} {l : List A} → In b l → R (chosen choice other l) b
  unfolding chosen
  chosen_all other {b} (first {rest}) = fold_first b rest
  chosen_all other (later {b = c} i) = fold_all c i

-- it is one of them, if what is chosen of two is
module _ {A : Type 0} (choice : A → A → A) (either : (a b : A) → (choice a b ≡ a) ⊎ (choice a b ≡ b)) where
  pub fold_in : (a : A) (l : List A) → In (foldl choice a l) (a ∷ l)
  fold_in a [] = first
  fold_in a (b ∷ l) = by (foldl choice (choice a b) l) (either a b) (in_cons (fold_in (choice a b) l))
    where
      by : (r : A) → (choice a b ≡ a) ⊎ (choice a b ≡ b) → (r ≡ choice a b) ⊎ In r l → In r (a ∷ b ∷ l)
      by r (inl e) (inl p) = in_front (p ∙ e)
      by r (inr e) (inl p) = later (in_front (p ∙ e))
      by r q (inr j) = later (later j)

  pub chosen_in : (other : A) (l : List A) → 0 < length l → In (chosen choice other l) l
  unfolding chosen
  chosen_in other [] h = absurd (omega arith)
  chosen_in other (a ∷ l) h = fold_in a l

-- the lesser and the greater of two
pub lesser_left : (a b : ℤ) → lesser a b ≤ℤ a
lesser_left a b = by (lt_z b a) refl
  where
    by : (t : Bool) → lt_z b a ≡ t → (if t then b else a) ≤ℤ a
    by true e = <ℤ_≤ℤ {a = b} {b = a} (lt_z_yes (is_true e))
    by false e = ≤ℤ_refl a

pub lesser_right : (a b : ℤ) → lesser a b ≤ℤ b
lesser_right a b = by (lt_z b a) refl
  where
    by : (t : Bool) → lt_z b a ≡ t → (if t then b else a) ≤ℤ b
    by true e = ≤ℤ_refl b
    by false e = lt_z_no (is_false e)

pub greater_left : (a b : ℤ) → a ≤ℤ greater a b
greater_left a b = by (lt_z a b) refl
  where
    by : (t : Bool) → lt_z a b ≡ t → a ≤ℤ (if t then b else a)
    by true e = <ℤ_≤ℤ {a = a} {b = b} (lt_z_yes (is_true e))
    by false e = ≤ℤ_refl a

pub greater_right : (a b : ℤ) → b ≤ℤ greater a b
greater_right a b = by (lt_z a b) refl
  where
    by : (t : Bool) → lt_z a b ≡ t → b ≤ℤ (if t then b else a)
    by true e = ≤ℤ_refl b
    by false e = lt_z_no (is_false e)

either_of : {A : Type 0} (t : Bool) (a b : A) → ((if t then b else a) ≡ a) ⊎ ((if t then b else a) ≡ b)
either_of true a b = inr refl
either_of false a b = inl refl

pub lesser_either : (a b : ℤ) → (lesser a b ≡ a) ⊎ (lesser a b ≡ b)
lesser_either a b = either_of (lt_z b a) a b

pub greater_either : (a b : ℤ) → (greater a b ≡ a) ⊎ (greater a b ≡ b)
greater_either a b = either_of (lt_z a b) a b

pub min_either : (a b : ℕ) → (min a b ≡ a) ⊎ (min a b ≡ b)
min_either a b = by (dec_le a b)
  where
    by : Dec (a ≤ b) → (min a b ≡ a) ⊎ (min a b ≡ b)
    by (yes h) = inl (omega arith)
    by (no f) = inr (omega (arith, lt_of_not-le f))

pub max_either : (a b : ℕ) → (max a b ≡ a) ⊎ (max a b ≡ b)
max_either a b = by (dec_le a b)
  where
    by : Dec (a ≤ b) → (max a b ≡ a) ⊎ (max a b ≡ b)
    by (yes h) = inr (omega arith)
    by (no f) = inl (omega (arith, lt_of_not-le f))

-- .. of two that are not below zero
pub lesser_pos : (a b : ℕ) → lesser (pos a) (pos b) ≡ pos (min a b)
lesser_pos a b = by (ltb b a) refl
  where
    by : (t : Bool) → ltb b a ≡ t → (if t then pos b else pos a) ≡ pos (min a b)
    by true e = ap pos (omega (arith, ltb-true b a e))
    by false e = ap pos (omega (arith, ltb-false b a e))

pub greater_pos : (a b : ℕ) → greater (pos a) (pos b) ≡ pos (max a b)
greater_pos a b = by (ltb a b) refl
  where
    by : (t : Bool) → ltb a b ≡ t → (if t then pos b else pos a) ≡ pos (max a b)
    by true e = ap pos (omega (arith, ltb-true a b e))
    by false e = ap pos (omega (arith, ltb-false a b e))

-- the least and the greatest: no element is beyond
pub least_ℤ_low : {b : ℤ} {l : List ℤ} → In b l → least_ℤ l ≤ℤ b
least_ℤ_low = chosen_all (λ a b. a ≤ℤ b) (λ a b c h k. ≤ℤ_trans h k) ≤ℤ_refl lesser lesser_left lesser_right (pos 0)

pub greatest_ℤ_high : {b : ℤ} {l : List ℤ} → In b l → b ≤ℤ greatest_ℤ l
greatest_ℤ_high = chosen_all (λ a b. b ≤ℤ a) (λ a b c h k. ≤ℤ_trans k h) ≤ℤ_refl greater greater_left greater_right (pos 0)

pub least_low : {b : ℕ} {l : List ℕ} → In b l → least l ≤ b
least_low = chosen_all (λ a b. a ≤ b) (λ a b c h k. omega arith) (λ a. omega arith) min (λ a b. omega arith) (λ a b. omega arith) 0

pub greatest_high : {b : ℕ} {l : List ℕ} → In b l → b ≤ greatest l
greatest_high = chosen_all (λ a b. b ≤ a) (λ a b c h k. omega arith) (λ a. omega arith) max (λ a b. omega arith) (λ a b. omega arith) 0

-- .. and one element is it
pub least_ℤ_in : (l : List ℤ) → 0 < length l → In (least_ℤ l) l
least_ℤ_in = chosen_in lesser lesser_either (pos 0)

pub greatest_ℤ_in : (l : List ℤ) → 0 < length l → In (greatest_ℤ l) l
greatest_ℤ_in = chosen_in greater greater_either (pos 0)

pub least_in : (l : List ℕ) → 0 < length l → In (least l) l
least_in = chosen_in min min_either 0

-- ---- numbers that rise, from k on

up_weaken : {j k : ℕ} {l : List ℕ} → j ≤ k → Up k l → Up j l
up_weaken h u_none = u_none
up_weaken {j} {k} h (u_more {a} g u) = u_more {k = j} {a = a} (omega arith) u

pub up_in : {k a : ℕ} {l : List ℕ} → Up k l → In a l → k ≤ a
up_in (u_more h u) first = h
up_in (u_more h u) (later i) = omega (arith, up_in u i)
up_in u_none i = elim i [ ]

-- numbers that rise from b on, below k, are at most k − b
pub up_length : {b : ℕ} {l : List ℕ} (k : ℕ) → b ≤ k → Up b l → ((t : ℕ) → In t l → t < k) → b + length l ≤ k
up_length k g u_none h = omega arith
up_length {b} k g (u_more {a} q u) h = omega (arith, up_length k (h a first) u (λ t i. h t (later i)))

pub up_append : {k : ℕ} {l : List ℕ} (number : ℕ) → k ≤ number → Up k l → ((t : ℕ) → In t l → t < number) → Up k (l ++ (number ∷ []))
up_append {k} number h u_none low = u_more {k = k} {a = number} h u_none
up_append {k} number h (u_more {a} g u) low = u_more {k = k} {a = a} g (up_append number (low a first) u (λ t i. low t (later i)))

pub up_those : (passes : ℕ → Bool) {k : ℕ} {l : List ℕ} → Up k l → Up k (those passes l)
unfolding those
up_those passes u_none = u_none
up_those passes {k} (u_more {a} {l} g u) = by (passes a) (up_those passes u)
  where
    by : (t : Bool) → Up (suc a) (those passes l) → Up k (if t then a ∷ those passes l else those passes l)
    by true v = u_more {k = k} {a = a} g v
    by false v = up_weaken (omega arith) v

pub counting_up : (m a : ℕ) → Up a (counting m a)
unfolding counting
counting_up zero a = u_none
counting_up (suc m) a = u_more {k = a} {a = a} (omega arith) (counting_up m (suc a))

-- ---- no fewer places than different numbers

-- elements whose keys differ
pub data Apart {A : Type 0} (key : A → ℕ) : List A → Type 0 where
  apart_none : Apart key []
  apart_more : {a : A} {l : List A} → ((b : A) → In b l → key b ≡ key a → ⊥) → Apart key l → Apart key (a ∷ l)

module _ {A : Type 0} (key : A → ℕ) where
  pub those_apart : (passes : A → Bool) {l : List A} → Apart key l → Apart key (those passes l)
  unfolding those
  those_apart passes apart_none = apart_none
  those_apart passes (apart_more {a} {l} h p) = by (passes a) (those_apart passes p)
    where
      by : (t : Bool) → Apart key (those passes l) → Apart key (if t then a ∷ those passes l else those passes l)
      by true ih = apart_more (λ b i. h b (from_those passes l i).0) ih
      by false ih = ih

  -- numbers that rise, each made into an element with that key
  pub up_apart : (make : ℕ → A) → ((k : ℕ) → key (make k) ≡ k) → {k : ℕ} {l : List ℕ} → Up k l → Apart key (map make l)
  up_apart make is u_none = apart_none
  up_apart make is (u_more {a} {l} h u) = apart_more (λ b i. apart b (from_map make l i)) (up_apart make is u)
    where
      apart : (b : A) → InMap make b l → key b ≡ key (make a) → ⊥
      apart b (of c j e) q = omega (arith, up_in u j, ap key e, is c, is a)

pub apart_append : {A : Type 0} (key : A → ℕ) {l m : List A} → Apart key l → Apart key m → ((a b : A) → In a l → In b m → key b ≡ key a → ⊥)
    → Apart key (l ++ m)
apart_append key apart_none q h = q
apart_append {A} key {m} (apart_more {a} {l} g p) q h =
    apart_more (λ b i. by b (in_append l i)) (apart_append key p q (λ c b i j. h c b (later i) j))
  where
    by : (b : A) → In b l ⊎ In b m → key b ≡ key a → ⊥
    by b (inl i) = g b i
    by b (inr j) = h a b first j

pub map_apart : {A : Type 0} (key : A → ℕ) {l : List A} → Apart key l → Apart (λ (j : ℕ). j) (map key l)
map_apart key apart_none = apart_none
map_apart {A} key (apart_more {a} {l} h p) = apart_more (λ j i. by j (from_map key l i)) (map_apart key p)
  where
    by : (j : ℕ) → InMap key j l → j ≡ key a → ⊥
    by j (of b i e) q = h b i (sym e ∙ q)

pub apart_front : {A : Type 0} (key : A → ℕ) (l m : List A) → Apart key (l ++ m) → Apart key l
apart_front key [] m p = apart_none
apart_front key (a ∷ l) m (apart_more h p) = apart_more (λ b i. h b (in_append_left m i)) (apart_front key l m p)

-- numbers that rise differ
pub up_same : {k : ℕ} {l : List ℕ} → Up k l → Apart (λ (j : ℕ). j) l
up_same u_none = apart_none
up_same (u_more {a} {l} h u) = apart_more (λ (j : ℕ) (i : In j l) (e : j ≡ a). omega (arith, up_in u i)) (up_same u)

without : {k : ℕ} {l : List ℕ} → In k l → List ℕ
without (first {rest}) = rest
without (later {b} i) = b ∷ without i

without_length : {k : ℕ} {l : List ℕ} (i : In k l) → length l ≡ suc (length (without i))
unfolding without
without_length first = refl
without_length (later i) = ap suc (without_length i)

without_in : {k j : ℕ} {l : List ℕ} (i : In k l) → In j l → (j ≡ k → ⊥) → In j (without i)
unfolding without
without_in {k} {j} (first {rest}) p f = by (in_cons p)
  where
    by : (j ≡ k) ⊎ In j rest → In j rest
    by (inl e) = absurd (f e)
    by (inr q) = q
without_in {k} {j} (later {b} {rest} i) p f = by (in_cons p) (λ (q : In j rest). without_in i q f)
  where
    by : (j ≡ b) ⊎ In j rest → (In j rest → In j (without i)) → In j (b ∷ without i)
    by (inl e) ih = in_front e
    by (inr q) ih = later (ih q)

-- elements with different keys, all in a set: the set has no fewer places
pub no_fewer : {A : Type 0} (key : A → ℕ) {l : List A} (set : List ℕ) → Apart key l → ((a : A) → In a l → In (key a) set) → length l ≤ length set
no_fewer key set apart_none h = omega arith
no_fewer key set (apart_more {a} {l} g p) h =
    omega (arith, without_length (h a first), no_fewer key (without (h a first)) p (λ b i. without_in (h a first) (h b (later i)) (g b i)))

-- ---- an element of a list that was changed, by cases. (P is what is said of it, d what stands past the end)

module _ {A : Type 0} (d : A) (P : A → Type 0) where
  past_cases : (l : List A) (k : ℕ) → (k < length l → P (get_or l k d)) → (length l ≤ k → P d) → P (get_or l k d)
  past_cases [] k h o = o (omega arith)
  past_cases (a ∷ l) zero h o = h (omega arith)
  past_cases (a ∷ l) (suc k) h o = past_cases l k (λ g. h (omega arith)) (λ g. o (omega arith))

  -- one place set
  pub set_cases : (l : List A) (at : ℕ) (new : A) (k : ℕ) → (k ≡ at → k < length l → P new) → ((k ≡ at → ⊥) → k < length l → P (get_or l k d)) → (length l ≤ k → P d) → P (get_or (set l at new) k d)
  set_cases [] at new k here other out = out (omega arith)
  set_cases (a ∷ l) zero new zero here other out = here refl (omega arith)
  set_cases (a ∷ l) zero new (suc k) here other out = past_cases l k (λ h. other (λ e. omega arith) (omega arith)) (λ h. out (omega arith))
  set_cases (a ∷ l) (suc at) new zero here other out = other (λ e. omega arith) (omega arith)
  set_cases (a ∷ l) (suc at) new (suc k) here other out = set_cases l at new k (λ e h. here (ap suc e) (omega arith)) (λ f h. other (λ e. f (omega arith)) (omega arith)) (λ h. out (omega arith))

  -- two more at the end
  pub two_cases : (l : List A) (a b : A) (k : ℕ) → (k < length l → P (get_or l k d)) → (k ≡ length l → P a) → (k ≡ suc (length l) → P b)
      → (suc (suc (length l)) ≤ k → P d) → P (get_or (l ++ (a ∷ b ∷ [])) k d)
  two_cases [] a b zero old l r out = l refl
  two_cases [] a b (suc zero) old l r out = r refl
  two_cases [] a b (suc (suc k)) old l r out = out (omega arith)
  two_cases (c ∷ rest) a b zero old l r out = old (omega arith)
  two_cases (c ∷ rest) a b (suc k) old l r out = two_cases rest a b k (λ h. old (omega arith)) (λ e. l (ap suc e)) (λ e. r (ap suc e)) (λ h. out (omega arith))
