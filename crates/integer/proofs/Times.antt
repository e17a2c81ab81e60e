-- How often a number is in a list: over parts joined, and over the parts that the elements of a list give.
use Rattle.std.specs.Prelude.{if◌then◌else◌}
use Prim.Native.Nat.{ℕ, zero, suc, ◌+◌, ◌≤◌, ◌<◌}
use mathlib.Core.Path.{◌≡◌, refl, sym, ◌∙◌, ap, subst}
use mathlib.Core.Bool.{Bool, true, false}
use mathlib.Core.List.{List, [], ◌∷◌, ◌++◌, map, flatten}
use native.Mathlib.Omega.{arith}
use lib.ListN.{length, get_or}
use lib.Dec.{T, eqb, eqb→eq, eqb_refl}
use Rattle.integer.specs.Words.{those, counting, times_in}
use Rattle.integer.proofs.Lists.{same_or_not, In, first, later, Up, u_none, u_more, up_in, up_those, counting_up, in_those, from_those, in_counting, from_counting}
use Rattle.integer.proofs.Tests.{eq→eqb}

-- ---- one more element

pub times_same : (k : ℕ) (l : List ℕ) → times_in k (k ∷ l) ≡ suc (times_in k l)
unfolding times_in
times_same k l = by (eqb k k) (eqb_refl k)
  where
    by : (b : Bool) → T b → (if b then suc (times_in k l) else times_in k l) ≡ suc (times_in k l)
    by true t = refl
    by false t = absurd t

pub times_other : (k a : ℕ) (l : List ℕ) → (k ≡ a → ⊥) → times_in k (a ∷ l) ≡ times_in k l
unfolding times_in
times_other k a l f = by (eqb k a) refl
  where
    by : (b : Bool) → eqb k a ≡ b → (if b then suc (times_in k l) else times_in k l) ≡ times_in k l
    by true e = absurd (f (eqb→eq k a (subst T (sym e) tt)))
    by false e = refl

pub times_nil : (k : ℕ) → times_in k [] ≡ 0
unfolding times_in
times_nil k = refl

-- ---- parts joined

pub times_append : (k : ℕ) (a b : List ℕ) → times_in k (a ++ b) ≡ times_in k a + times_in k b
times_append k [] b = omega (arith, times_nil k)
times_append k (x ∷ a) b = by (same_or_not k x) (times_append k a b)
  where
    by : Dec (k ≡ x) → times_in k (a ++ b) ≡ times_in k a + times_in k b → times_in k (x ∷ a ++ b) ≡ times_in k (x ∷ a) + times_in k b
    by (yes e) ih = subst (λ (y : ℕ). times_in k (y ∷ a ++ b) ≡ times_in k (y ∷ a) + times_in k b) e (omega (arith, times_same k (a ++ b), times_same k a))
    by (no f) ih = omega (arith, times_other k x (a ++ b) f, times_other k x a f)

-- ---- at least once is in

pub in_times : {k : ℕ} {l : List ℕ} → In k l → 0 < times_in k l
in_times {k} (first {rest}) = omega (arith, times_same k rest)
in_times {k} (later {b} {rest} i) = by (same_or_not k b) (in_times i)
  where
    by : Dec (k ≡ b) → 0 < times_in k rest → 0 < times_in k (b ∷ rest)
    by (yes e) ih = subst (λ (y : ℕ). 0 < times_in k (y ∷ rest)) e (omega (arith, times_same k rest))
    by (no f) ih = omega (arith, times_other k b rest f)

pub times_in_lem : (k : ℕ) (l : List ℕ) → 0 < times_in k l → In k l
times_in_lem k [] h = absurd (omega (arith, times_nil k))
times_in_lem k (b ∷ l) h = by (same_or_not k b) (times_in_lem k l)
  where
    by : Dec (k ≡ b) → (0 < times_in k l → In k l) → In k (b ∷ l)
    by (yes e) ih = subst (λ (y : ℕ). In k (y ∷ l)) e first
    by (no f) ih = later (ih (omega (arith, times_other k b l f)))

pub times_none : (k : ℕ) (l : List ℕ) → (In k l → ⊥) → times_in k l ≡ 0
times_none k l f = by (times_in k l) refl
  where
    by : (t : ℕ) → times_in k l ≡ t → t ≡ 0
    by zero e = refl
    by (suc t) e = absurd (f (times_in_lem k l (omega arith)))

-- numbers that rise differ
pub up_once : {from k : ℕ} {l : List ℕ} → Up from l → In k l → times_in k l ≡ 1
up_once {from} {k} (u_more {l} h u) first = omega (arith, times_same k l, times_none k l (λ i. omega (arith, up_in u i)))
up_once {from} {k} (u_more {a} {l} h u) (later i) = omega (arith, times_other k a l (λ e. omega (arith, up_in u i)), up_once u i)
up_once u_none i = elim i [ ]

-- a test that one number more passes: as many more pass it as the list has of that number
module _ (f g : ℕ → Bool) (k : ℕ) (fails : f k ≡ false) (passes : g k ≡ true) (others : (a : ℕ) → (a ≡ k → ⊥) → g a ≡ f a) where
  pub those_more : (l : List ℕ) → length (those g l) ≡ length (those f l) + times_in k l
  unfolding those
  those_more [] = omega (arith, times_nil k)
  those_more (a ∷ l) = by (same_or_not a k) (those_more l)
    where
      alike : (a ≡ k → ⊥) → length (those g l) ≡ length (those f l) + times_in k l → (b : Bool)
          → length (if b then a ∷ those g l else those g l) ≡ length (if b then a ∷ those f l else those f l) + times_in k (a ∷ l)
      alike h ih true = omega (arith, times_other k a l (λ e. h (sym e)))
      alike h ih false = omega (arith, times_other k a l (λ e. h (sym e)))

      by : Dec (a ≡ k) → length (those g l) ≡ length (those f l) + times_in k l
          → length (if g a then a ∷ those g l else those g l) ≡ length (if f a then a ∷ those f l else those f l) + times_in k (a ∷ l)
      by (yes e) ih = rw (e, fails, passes) (omega (arith, times_same k l))
      by (no h) ih = rw (others a h) (alike h ih (f a))

-- ---- the parts f a of the elements a of a list: a number is in them once exactly if one place's part has it once and no other place's has it

pub record OnceAt {A : Type 0} (f : A → List ℕ) (d : A) (l : List A) (k : ℕ) : Type 0 where
  pub place : ℕ
  pub inside : place < length l
  pub once : times_in k (f (get_or l place d)) ≡ 1
  pub only : (j : ℕ) → j < length l → In k (f (get_or l j d)) → j ≡ place

module _ {A : Type 0} (f : A → List ℕ) (d : A) (k : ℕ) where
  -- in no part
  times_nowhere : (l : List A) → ((j : ℕ) → j < length l → In k (f (get_or l j d)) → ⊥) → times_in k (flatten (map f l)) ≡ 0
  unfolding flatten
  times_nowhere [] h = times_nil k
  times_nowhere (a ∷ l) h = omega (arith, times_append k (f a) (flatten (map f l)), times_none k (f a) (h 0 (omega arith)), times_nowhere l (λ j g. h (suc j) (omega arith)))

  nowhere : (l : List A) → times_in k (flatten (map f l)) ≡ 0 → (j : ℕ) → j < length l → In k (f (get_or l j d)) → ⊥
  unfolding flatten
  nowhere [] e j h i = omega arith
  nowhere (a ∷ l) e zero h i = omega (arith, times_append k (f a) (flatten (map f l)), in_times i)
  nowhere (a ∷ l) e (suc j) h i = nowhere l (omega (arith, times_append k (f a) (flatten (map f l)))) j (omega arith) i

  pub once_at : (l : List A) → times_in k (flatten (map f l)) ≡ 1 → OnceAt f d l k
  unfolding flatten
  once_at [] e = absurd (omega (arith, times_nil k))
  once_at (a ∷ l) e = by (times_in k (f a)) refl (once_at l)
    where
      both : times_in k (f a) + times_in k (flatten (map f l)) ≡ 1
      both = sym (times_append k (f a) (flatten (map f l))) ∙ e

      here : times_in k (f a) ≡ 1 → OnceAt f d (a ∷ l) k
      here t = record { place = 0; inside = omega arith; once = t; only = only }
        where
          only : (j : ℕ) → j < suc (length l) → In k (f (get_or (a ∷ l) j d)) → j ≡ 0
          only zero h i = refl
          only (suc j) h i = absurd (nowhere l (omega (arith, both)) j (omega arith) i)

      there : times_in k (f a) ≡ 0 → OnceAt f d l k → OnceAt f d (a ∷ l) k
      there t o = record { place = suc o.place; inside = omega (arith, o.inside); once = o.once; only = only }
        where
          only : (j : ℕ) → j < suc (length l) → In k (f (get_or (a ∷ l) j d)) → j ≡ suc o.place
          only zero h i = absurd (omega (arith, in_times i))
          only (suc j) h i = ap suc (o.only j (omega arith) i)

      by : (t : ℕ) → times_in k (f a) ≡ t → (times_in k (flatten (map f l)) ≡ 1 → OnceAt f d l k) → OnceAt f d (a ∷ l) k
      by zero t ih = there t (ih (omega (arith, both)))
      by (suc t) e ih = here (omega (arith, both))

  at_once : (l : List A) (place : ℕ) → place < length l → times_in k (f (get_or l place d)) ≡ 1 → ((j : ℕ) → j < length l → In k (f (get_or l j d)) → j ≡ place) → times_in k (flatten (map f l)) ≡ 1
  unfolding flatten
  at_once [] place h t only = absurd (omega arith)
  at_once (a ∷ l) zero h t only =
      omega (arith, times_append k (f a) (flatten (map f l)), times_nowhere l (λ j g i. omega (arith, only (suc j) (omega arith) i)))
  at_once (a ∷ l) (suc place) h t only =
      omega (
        arith,
        times_append k (f a) (flatten (map f l)),
        times_none k (f a)
            (λ i. omega (arith, only 0 (omega arith) i)),
        at_once l place (omega arith) t (λ j g i. omega (arith, only (suc j) (omega arith) i)),
      )

  pub times_once : (l : List A) → OnceAt f d l k → times_in k (flatten (map f l)) ≡ 1
  times_once l o = at_once l o.place o.inside o.once o.only

-- ---- what is in a list stands at a place of it

pub record PlaceOf {A : Type 0} (a d : A) (l : List A) : Type 0 where
  pub place : ℕ
  pub inside : place < length l
  pub is_it : get_or l place d ≡ a

pub place_of : {A : Type 0} {a : A} (d : A) {l : List A} → In a l → PlaceOf a d l
place_of d first = record { place = 0; inside = omega arith; is_it = refl }
place_of d (later i) = let p = place_of d i in record { place = suc p.place; inside = omega (arith, p.inside); is_it = p.is_it }

-- ---- numbers that are each in a list once are as many as the list is long

-- how often the numbers of one list are in another, totalled
tally : List ℕ → List ℕ → ℕ
tally [] l = 0
tally (x ∷ xs) l = times_in x l + tally xs l

tally_none : (xs : List ℕ) → tally xs [] ≡ 0
unfolding tally
tally_none [] = refl
tally_none (x ∷ xs) = omega (arith, times_nil x, tally_none xs)

-- it can be counted from either side
tally_more : (xs : List ℕ) (b : ℕ) (l : List ℕ) → tally xs (b ∷ l) ≡ times_in b xs + tally xs l
unfolding tally
tally_more [] b l = omega (arith, times_nil b)
tally_more (x ∷ xs) b l = by (same_or_not x b) (tally_more xs b l)
  where
    by : Dec (x ≡ b) → tally xs (b ∷ l) ≡ times_in b xs + tally xs l → times_in x (b ∷ l) + tally xs (b ∷ l) ≡ times_in b (x ∷ xs) + (times_in x l + tally xs l)
    by (yes e) ih = subst (λ (y : ℕ). times_in x (y ∷ l) + tally xs (b ∷ l) ≡ times_in b (x ∷ xs) + (times_in x l + tally xs l)) e
        (omega (arith, times_same x l, times_same b xs, subst (λ (y : ℕ). times_in b (y ∷ xs) ≡ suc (times_in b xs)) (sym e) (times_same b xs)))
    by (no f) ih = omega (arith, times_other x b l f, times_other b x xs (λ e. f (sym e)))

tally_length : (xs l : List ℕ) → ((b : ℕ) → In b l → times_in b xs ≡ 1) → tally xs l ≡ length l
tally_length xs [] h = tally_none xs
tally_length xs (b ∷ l) h = omega (arith, tally_more xs b l, h b first, tally_length xs l (λ c i. h c (later i)))

tally_once : (xs l : List ℕ) → ((x : ℕ) → In x xs → times_in x l ≡ 1) → tally xs l ≡ length xs
unfolding tally
tally_once [] l h = refl
tally_once (x ∷ xs) l h = omega (arith, h x first, tally_once xs l (λ c i. h c (later i)))

pub counting_length : (m a : ℕ) → length (counting m a) ≡ m
unfolding counting
counting_length zero a = refl
counting_length (suc m) a = ap suc (counting_length m (suc a))

-- the m numbers from a on, each once and no other
pub once_length : (m a : ℕ) (l : List ℕ) → ((x : ℕ) → a ≤ x → x < a + m → times_in x l ≡ 1) → ((x : ℕ) → In x l → (a ≤ x) × (x < a + m)) → length l ≡ m
once_length m a l once inside =
    sym (tally_length (counting m a) l (λ b i. up_once (counting_up m a) (in_counting m a b (inside b i).0 (inside b i).1)))
    ∙ tally_once (counting m a) l (λ x i. once x (from_counting m a i).0 (from_counting m a i).1)
    ∙ counting_length m a

-- .. and as many as that, each at least once and no other, are each in it once

tally_least : (xs l : List ℕ) → ((x : ℕ) → In x xs → 0 < times_in x l) → length xs ≤ tally xs l
unfolding tally
tally_least [] l h = omega arith
tally_least (x ∷ xs) l h = omega (arith, h x first, tally_least xs l (λ y i. h y (later i)))

tally_full : (xs l : List ℕ) → ((x : ℕ) → In x xs → 0 < times_in x l) → tally xs l ≡ length xs → {x : ℕ} → In x xs → times_in x l ≡ 1
unfolding tally
tally_full (x ∷ xs) l h e first = omega (arith, h x first, tally_least xs l (λ y i. h y (later i)), e)
tally_full (x ∷ xs) l h e (later i) = tally_full xs l (λ y j. h y (later j)) (omega (arith, h x first, tally_least xs l (λ y j. h y (later j)), e)) i
tally_full [] l h e i = elim i [ ]

pub all_once : (m a : ℕ) (l : List ℕ) → length l ≡ m → ((x : ℕ) → a ≤ x → x < a + m → 0 < times_in x l) → ((x : ℕ) → In x l → (a ≤ x) × (x < a + m)) → (x : ℕ) → a ≤ x → x < a + m → times_in x l ≡ 1
all_once m a l e least inside x g h =
    tally_full (counting m a) l (λ y i. least y (from_counting m a i).0 (from_counting m a i).1)
    (tally_length (counting m a) l (λ b i. up_once (counting_up m a) (in_counting m a b (inside b i).0 (inside b i).1)) ∙ e ∙ sym (counting_length m a))
    (in_counting m a x g h)

-- ---- parts of the numbers below k: a list of such numbers that has each number once whose part has x, has x as often as all parts have it

module _ (f : ℕ → List ℕ) (k x : ℕ) (most : (y : ℕ) → times_in x (f y) ≤ 1) where
  -- the numbers whose parts have x
  holders : List ℕ
  holders = those (λ y. eqb (times_in x (f y)) 1) (counting k 0)

  times_holders : (b : ℕ) → b < k → times_in b holders ≡ times_in x (f b)
  unfolding holders
  times_holders b h = by (same_or_not (times_in x (f b)) 1)
    where
      by : Dec (times_in x (f b) ≡ 1) → times_in b (those (λ y. eqb (times_in x (f y)) 1) (counting k 0)) ≡ times_in x (f b)
      by (yes e) = up_once (up_those (λ y. eqb (times_in x (f y)) 1) (counting_up k 0)) (in_those (λ y. eqb (times_in x (f y)) 1) (in_counting k 0 b (omega arith) (omega arith)) (eq→eqb e)) ∙ sym e
      by (no g) = omega (
        arith,
        times_none b (those (λ y. eqb (times_in x (f y)) 1) (counting k 0)) (λ i. g (eqb→eq (times_in x (f b)) 1 (from_those (λ y. eqb (times_in x (f y)) 1) (counting k 0) i).1)),
        most b,
        g,
      )

  parts_tally : (l : List ℕ) → ((b : ℕ) → In b l → b < k) → times_in x (flatten (map f l)) ≡ tally holders l
  unfolding flatten
  parts_tally [] low = times_nil x ∙ sym (tally_none holders)
  parts_tally (b ∷ l) low =
      omega (
        arith,
        times_append x (f b) (flatten (map f l)),
        tally_more holders b l,
        times_holders b (low b first),
        parts_tally l (λ c i. low c (later i)),
      )

  -- each of them once
  parts_once : (l : List ℕ) → ((b : ℕ) → In b l → b < k) → ((y : ℕ) → y < k → In x (f y) → times_in y l ≡ 1) → times_in x (flatten (map f l)) ≡ length holders
  unfolding holders
  parts_once l low once = parts_tally l low ∙ tally_once holders l (λ y i. each y (from_those (λ y. eqb (times_in x (f y)) 1) (counting k 0) i))
    where
      each : (y : ℕ) → In y (counting k 0) × T (eqb (times_in x (f y)) 1) → times_in y l ≡ 1
      each y (i, t) = once y (omega (arith, (from_counting k 0 i).1)) (times_in_lem x (f y) (omega (arith, eqb→eq (times_in x (f y)) 1 t)))

  pub parts_same : (l : List ℕ) → ((b : ℕ) → In b l → b < k) → ((y : ℕ) → y < k → In x (f y) → times_in y l ≡ 1) → times_in x (flatten (map f l)) ≡ times_in x (flatten (map f (counting k 0)))
  parts_same l low once =
      parts_once l low once
      ∙ sym (parts_once (counting k 0) (λ b i. omega (arith, (from_counting k 0 i).1)) (λ y h i. up_once (counting_up k 0) (in_counting k 0 y (omega arith) (omega arith))))
