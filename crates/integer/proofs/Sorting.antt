-- Lists in the order of a test: what sorting keeps, that it forgets the order in which elements come, and what stands first.
-- Two laws carry the rest. `first_same`: of two lists in order, one of which has all elements of the other and whose first k the other
-- has, the first k
-- are the same. `place_low`: what stands at a place of fewer elements does not stand before what is at that place of all.
use Rattle.std.specs.Prelude.{if◌then◌else◌}
use Prim.Native.Nat.{ℕ, zero, suc, ◌≤◌, ◌<◌, min}
use mathlib.Core.Path.{◌≡◌, refl, ◌∙◌, ap, subst, sym}
use mathlib.Core.Logic.{◌⊎◌, inl, inr}
use mathlib.Core.Bool.{Bool, true, false}
use mathlib.Core.Option.{none, some}
use mathlib.Core.List.{List, [], ◌∷◌, ◌++◌, foldl}
use native.Mathlib.Omega.{arith}
use lib.ListN.{length, get_or, take, drop, length-take}
use Rattle.integer.specs.Sorting.{sorted_with, poured_by, sorted_by, at_place, Ordered, ordered_none, ordered_more}
use Rattle.integer.proofs.Tests.{never_both}
use Rattle.integer.proofs.Lists.{In, first, later, in_nil, in_cons, in_front, in_get_or, All, all_none, all_more, all_at, all_in}
use Rattle.integer.proofs.Lists.{all_mono, all_take, Apart, apart_none, apart_more}

-- ---- a place

module _ {A : Type 0} where
  pub place_taken : (i : ℕ) (l : List A) → at_place i (take (suc i) l) ≡ at_place i l
  unfolding at_place
  place_taken i [] = refl
  place_taken zero (a ∷ l) = refl
  place_taken (suc i) (a ∷ l) = place_taken i l

  pub place_in : (i : ℕ) {a : A} (l : List A) → at_place i l ≡ some a → In a l
  unfolding at_place
  place_in i {a} [] e = let z : ◌≡◌ {A = ℕ} 0 1 = cc in absurd (omega arith)
  place_in zero {a} (b ∷ l) e = in_front (cc)
  place_in (suc i) (b ∷ l) e = later (place_in i l e)

  -- it is among as many first ones
  pub place_among : (i m : ℕ) → i ≤ m → {a : A} (l : List A) → at_place i l ≡ some a → In a (take (suc m) l)
  unfolding at_place
  place_among i m h [] e = let z : ◌≡◌ {A = ℕ} 0 1 = cc in absurd (omega arith)
  place_among zero m h (b ∷ l) e = in_front (cc)
  place_among (suc i) zero h (b ∷ l) e = absurd (omega arith)
  place_among (suc i) (suc m) h (b ∷ l) e = later (place_among i m (omega arith) l e)

  -- there is one exactly if the list is long enough
  pub place_inside : (i : ℕ) {a : A} (l : List A) → at_place i l ≡ some a → i < length l
  unfolding at_place
  place_inside i [] e = let z : ◌≡◌ {A = ℕ} 0 1 = cc in absurd (omega arith)
  place_inside zero (b ∷ l) e = omega arith
  place_inside (suc i) (b ∷ l) e = omega (arith, place_inside i l e)

  pub place_past : (i : ℕ) (l : List A) → at_place i l ≡ none → length l ≤ i
  unfolding at_place
  place_past i [] e = omega arith
  place_past zero (b ∷ l) e = let z : ◌≡◌ {A = ℕ} 0 1 = cc in absurd (omega arith)
  place_past (suc i) (b ∷ l) e = omega (arith, place_past i l e)

  pub from_take : (k : ℕ) {a : A} (l : List A) → In a (take k l) → In a l
  from_take zero l i = absurd (in_nil i)
  from_take (suc k) [] i = i
  from_take (suc k) {a} (b ∷ l) i = by (in_cons i) (from_take k l)
    where
      by : (a ≡ b) ⊎ In a (take k l) → (In a (take k l) → In a l) → In a (b ∷ l)
      by (inl e) ih = in_front e
      by (inr j) ih = later (ih j)

  take_less : (k : ℕ) (a : A) (l : List A) → take k (a ∷ take k l) ≡ take k (a ∷ l)
  take_less zero a l = refl
  take_less (suc k) a l = ap (λ (r : List A). a ∷ r) (by k l)
    where
      by : (k : ℕ) (l : List A) → take k (take (suc k) l) ≡ take k l
      by zero l = refl
      by (suc k) [] = refl
      by (suc k) (b ∷ l) = ap (λ (r : List A). b ∷ r) (by k l)

-- ---- the same elements

module _ {A : Type 0} (before : A → A → Bool) where
  pub from_inserted : (a : A) {b : A} (l : List A) → In b (sorted_with before a l) → (b ≡ a) ⊎ In b l
  unfolding sorted_with
  from_inserted a [] i = in_cons i
  from_inserted a {b} (c ∷ l) i = by (before a c) i (from_inserted a l)
    where
      on : (b ≡ a) ⊎ In b l → (b ≡ a) ⊎ In b (c ∷ l)
      on (inl e) = inl e
      on (inr j) = inr (later j)

      at : (b ≡ c) ⊎ In b (sorted_with before a l) → (In b (sorted_with before a l) → (b ≡ a) ⊎ In b l) → (b ≡ a) ⊎ In b (c ∷ l)
      at (inl e) ih = inr (in_front e)
      at (inr j) ih = on (ih j)

      by : (t : Bool) → In b (if t then a ∷ c ∷ l else c ∷ sorted_with before a l) → (In b (sorted_with before a l) → (b ≡ a) ⊎ In b l)
          → (b ≡ a) ⊎ In b (c ∷ l)
      by true j ih = in_cons j
      by false j ih = at (in_cons j) ih

  inserted_here : (a : A) (l : List A) → In a (sorted_with before a l)
  unfolding sorted_with
  inserted_here a [] = first
  inserted_here a (c ∷ l) = by (before a c) (inserted_here a l)
    where
      by : (t : Bool) → In a (sorted_with before a l) → In a (if t then a ∷ c ∷ l else c ∷ sorted_with before a l)
      by true ih = first
      by false ih = later ih

  inserted_other : (a : A) {b : A} {l : List A} → In b l → In b (sorted_with before a l)
  unfolding sorted_with
  inserted_other a {b} (first {rest}) = by (before a b)
    where
      by : (t : Bool) → In b (if t then a ∷ b ∷ rest else b ∷ sorted_with before a rest)
      by true = later first
      by false = first
  inserted_other a {b} (later {b = c} {rest} i) = by (before a c) (inserted_other a i)
    where
      by : (t : Bool) → In b (sorted_with before a rest) → In b (if t then a ∷ c ∷ rest else c ∷ sorted_with before a rest)
      by true ih = later (later i)
      by false ih = later ih

  pub from_sorted : {b : A} (l : List A) → In b (sorted_by before l) → In b l
  unfolding poured_by
  from_sorted [] i = i
  from_sorted {b} (a ∷ l) i = by (from_inserted a (sorted_by before l) i) (from_sorted l)
    where
      by : (b ≡ a) ⊎ In b (sorted_by before l) → (In b (sorted_by before l) → In b l) → In b (a ∷ l)
      by (inl e) ih = in_front e
      by (inr j) ih = later (ih j)

  pub in_sorted : {b : A} {l : List A} → In b l → In b (sorted_by before l)
  unfolding poured_by
  in_sorted {b} (first {rest}) = inserted_here b (sorted_by before rest)
  in_sorted (later {b = a} i) = inserted_other a (in_sorted i)

  pub inserted_length : (a : A) (l : List A) → length (sorted_with before a l) ≡ suc (length l)
  unfolding sorted_with
  inserted_length a [] = refl
  inserted_length a (b ∷ rest) = by (before a b) (inserted_length a rest)
    where
      by : (c : Bool) → length (sorted_with before a rest) ≡ suc (length rest)
          → length (if c then a ∷ b ∷ rest else b ∷ sorted_with before a rest) ≡ suc (suc (length rest))
      by true e = refl
      by false e = ap suc e

  pub sorted_length : (l : List A) → length (sorted_by before l) ≡ length l
  unfolding poured_by
  sorted_length [] = refl
  sorted_length (a ∷ l) = inserted_length a (sorted_by before l) ∙ ap suc (sorted_length l)

  -- of a list of which only the first k are kept, no more bears on the first k
  take_inserted : (k : ℕ) (a : A) (l : List A) → take k (sorted_with before a (take k l)) ≡ take k (sorted_with before a l)
  unfolding sorted_with
  take_inserted zero a l = refl
  take_inserted (suc k) a [] = refl
  take_inserted (suc k) a (b ∷ l) = by (before a b) (take_inserted k a l)
    where
      by : (c : Bool) → take k (sorted_with before a (take k l)) ≡ take k (sorted_with before a l)
          → take (suc k) (if c then a ∷ b ∷ take k l else b ∷ sorted_with before a (take k l)) ≡ take (suc k)
          (if c then a ∷ b ∷ l else b ∷ sorted_with before a l)
      by true ih = ap (λ (r : List A). a ∷ r) (take_less k b l)
      by false ih = ap (λ (r : List A). b ∷ r) ih

-- ---- an order

-- each of two different elements stands before the other or behind it
pub record LinearOrder {A : Type 0} (before : A → A → Bool) : Type 0 where
  pub irreflexive : (a : A) → before a a ≡ false
  pub transitive : (a b c : A) → before a b ≡ true → before b c ≡ true → before a c ≡ true
  pub total : (a b : A) → before a b ≡ false → before b a ≡ false → a ≡ b

-- each element stands before all behind it, so that none is there twice
pub data Sorted {A : Type 0} (before : A → A → Bool) : List A → Type 0 where
  sorted_none : Sorted before []
  sorted_more : {a : A} {rest : List A} → All (λ b. before a b ≡ true) rest → Sorted before rest → Sorted before (a ∷ rest)

module _ {A : Type 0} {before : A → A → Bool} (linear : LinearOrder before) where
  -- not both before each other
  pub asymmetric : (a b : A) → before a b ≡ true → before b a ≡ false
  asymmetric a b p = by (before b a) refl
    where
      by : (t : Bool) → before b a ≡ t → t ≡ false
      by true q = never_both (linear.transitive a b a p q) (linear.irreflexive a)
      by false q = refl

  -- ---- the order in which elements come does not bear

  module _ (a b : A) where
    -- both stand before x, or both go past it, or one does
    front_two : (x : A) (l : List A) (u v s t : Bool) → before a x ≡ u → before b x ≡ v → before a b ≡ s → before b a ≡ t
        → sorted_with before a (sorted_with before b l) ≡ sorted_with before b (sorted_with before a l)
        → sorted_with before a (if v then b ∷ x ∷ l else x ∷ sorted_with before b l) ≡ sorted_with before b
        (if u then a ∷ x ∷ l else x ∷ sorted_with before a l)
    unfolding sorted_with
    front_two x l true true true true r w p q ih = never_both (linear.transitive a b a p q) (linear.irreflexive a)
    front_two x l true true true false r w p q ih = rw (p, q, w)
    front_two x l true true false true r w p q ih = rw (p, q, r)
    front_two x l true true false false r w p q ih =
        subst (λ (c : A). sorted_with before c (b ∷ x ∷ l) ≡ sorted_with before b (c ∷ x ∷ l)) (sym (linear.total a b p q)) refl
    front_two x l true false s true r w p q ih = never_both (linear.transitive b a x q r) w
    front_two x l true false s false r w p q ih = rw (r, q, w)
    front_two x l false true true t r w p q ih = never_both (linear.transitive a b x p w) r
    front_two x l false true false t r w p q ih = rw (w, p, r)
    front_two x l false false s t r w p q ih = rw (r, w) (ap (λ (m : List A). x ∷ m) ih)

    inserted_two : (l : List A) → sorted_with before a (sorted_with before b l) ≡ sorted_with before b (sorted_with before a l)
    unfolding sorted_with
    inserted_two [] = by (before a b) (before b a) refl refl
      where
        by : (s t : Bool) → before a b ≡ s → before b a ≡ t
            → (if s then a ∷ b ∷ [] else b ∷ a ∷ []) ≡ (if t then b ∷ a ∷ [] else a ∷ b ∷ [])
        by true true p q = never_both (linear.transitive a b a p q) (linear.irreflexive a)
        by true false p q = refl
        by false true p q = refl
        by false false p q = rw (linear.total a b p q)
    inserted_two (x ∷ l) = front_two x l (before a x) (before b x) (before a b) (before b a) refl refl refl refl (inserted_two l)

  -- elements put in one by one, from the left on, of which the first k are kept
  abbrev pub keep : ℕ → List A → A → List A
  keep k l a = take k (sorted_with before a l)

  poured_past : (a : A) (more l : List A) → poured_by before more (sorted_with before a l) ≡ sorted_with before a (poured_by before more l)
  unfolding poured_by
  poured_past a [] l = refl
  poured_past a (b ∷ more) l = ap (sorted_with before b) (poured_past a more l) ∙ inserted_two b a (poured_by before more l)

  keep_poured : (k : ℕ) (more l : List A) → foldl (keep k) (take k l) more ≡ take k (poured_by before more l)
  unfolding poured_by
  keep_poured k [] l = refl
  keep_poured k (a ∷ more) l =
      ap (λ (m : List A). foldl (keep k) m more) (take_inserted before k a l) ∙ keep_poured k more (sorted_with before a l)
      ∙ ap (take k) (poured_past a more l)

  pub keep_sorted : (k : ℕ) (more : List A) → foldl (keep k) [] more ≡ take k (sorted_by before more)
  keep_sorted k more = by k ∙ keep_poured k more []
    where
      by : (k : ℕ) → foldl (keep k) [] more ≡ foldl (keep k) (take k []) more
      by zero = refl
      by (suc k) = refl

  -- ---- what sorting gives

  inserted_sorted : (a : A) {l : List A} → Sorted before l → (In a l → ⊥) → Sorted before (sorted_with before a l)
  unfolding sorted_with
  inserted_sorted a sorted_none out = sorted_more all_none sorted_none
  inserted_sorted a (sorted_more {a = b} {rest} o os) out = by (before a b) refl (inserted_sorted a os (λ i. out (later i)))
    where
      behind : before a b ≡ false → All (λ c. before b c ≡ true) (sorted_with before a rest)
      behind p = all_of (sorted_with before a rest) (λ c i. at c (from_inserted before a rest i))
        where
          ahead : before b a ≡ true
          ahead = to (before b a) refl
            where
              to : (t : Bool) → before b a ≡ t → t ≡ true
              to true q = refl
              to false q = absurd (out (in_front (linear.total a b p q)))

          at : (c : A) → (c ≡ a) ⊎ In c rest → before b c ≡ true
          at c (inl e) = rw e ahead
          at c (inr j) = all_at o j

          all_of : (l : List A) → ((c : A) → In c l → before b c ≡ true) → All (λ c. before b c ≡ true) l
          all_of [] h = all_none
          all_of (c ∷ l) h = all_more (h c first) (all_of l (λ d i. h d (later i)))

      by : (t : Bool) → before a b ≡ t → Sorted before (sorted_with before a rest)
          → Sorted before (if t then a ∷ b ∷ rest else b ∷ sorted_with before a rest)
      by true p ih = sorted_more (all_more p (all_mono (λ c q. linear.transitive a b c p q) o)) (sorted_more o os)
      by false p ih = sorted_more (behind p) ih

  -- of elements that differ in a key
  pub sorted_sorted : (key : A → ℕ) {l : List A} → Apart key l → Sorted before (sorted_by before l)
  unfolding poured_by
  sorted_sorted key apart_none = sorted_none
  sorted_sorted key (apart_more {a} {l} h p) = inserted_sorted a (sorted_sorted key p) (λ i. h a (from_sorted before l i) refl)

  -- what stands in a list behind its first, and what does not
  behind_first : {a b : A} {l : List A} → All (λ c. before a c ≡ true) l → In b (a ∷ l) → before a b ≡ true → In b l
  behind_first {a} {b} {l} o i p = by (in_cons i)
    where
      by : (b ≡ a) ⊎ In b l → In b l
      by (inl e) = never_both p (rw e (linear.irreflexive a))
      by (inr j) = j

  first_least : {a b : A} {l : List A} → All (λ c. before a c ≡ true) l → In b (a ∷ l) → before b a ≡ false
  first_least {a} {b} {l} o i = by (in_cons i)
    where
      by : (b ≡ a) ⊎ In b l → before b a ≡ false
      by (inl e) = rw e (linear.irreflexive a)
      by (inr j) = asymmetric a b (all_at o j)

  -- m has none but elements of l, and the first k of l: they are the first k of m
  pub first_same : (k : ℕ) {l m : List A} → Sorted before l → Sorted before m → ((b : A) → In b m → In b l)
      → ((b : A) → In b (take k l) → In b m) → take k l ≡ take k m
  first_same zero p q sub has = refl
  first_same (suc k) sorted_none sorted_none sub has = refl
  first_same (suc k) sorted_none (sorted_more {a = b} o os) sub has = absurd (in_nil (sub b first))
  first_same (suc k) (sorted_more {a} o os) sorted_none sub has = absurd (in_nil (has a first))
  first_same (suc k) (sorted_more {a} {rest = l} o os) (sorted_more {a = b} {rest = m} r rs) sub has =
      let e : a ≡ b = linear.total a b (first_least r (has a first)) (first_least o (sub b first)) in
      let t : take k l ≡ take k m = first_same k os rs
      (λ c i. behind_first o (sub c (later i)) (rw e (all_at r i)))
      (λ c i. behind_first r (has c (later i)) (rw (← e) (all_at o (from_take k l i)))) in
      rw (e, t)

  -- what is at a place of all, if a place of some of them has an element
  pub record Lower (i : ℕ) (l : List A) (a : A) : Type 0 where
    pub element : A
    pub at : at_place i l ≡ some element
    pub low : before a element ≡ false

  pub place_low : (i : ℕ) {l m : List A} {a : A} → Sorted before l → Sorted before m → ((b : A) → In b m → In b l) → at_place i m ≡ some a
      → Lower i l a
  unfolding at_place
  place_low i p sorted_none sub e = let z : ◌≡◌ {A = ℕ} 0 1 = cc in absurd (omega arith)
  place_low i sorted_none (sorted_more {a = b} o os) sub e = absurd (in_nil (sub b first))
  place_low zero {a} (sorted_more {a = x} o os) (sorted_more {a = b} r rs) sub e =
      record { element = x; at = refl; low = let q : b ≡ a = cc in rw (← q) (first_least o (sub b first)) }
  place_low (suc i) {a} (sorted_more {a = x} {rest = l} o os) (sorted_more {a = b} {rest = m} r rs) sub e =
      on (place_low i os rs (λ c j. behind_first o (sub c (later j)) (ahead c j (before x b) refl)) e)
    where
      on : Lower i l a → Lower (suc i) (x ∷ l) a
      on r = record { element = r.element; at = r.at; low = r.low }

      -- b is x or behind it, and c is behind b
      ahead : (c : A) → In c m → (t : Bool) → before x b ≡ t → before x c ≡ true
      ahead c j true p = linear.transitive x b c p (all_at r j)
      ahead c j false p = let q : x ≡ b = linear.total x b p (first_least o (sub b first)) in rw q (all_at r j)

  -- nothing among the first stands behind what is at the last of their places
  pub upto_place : (i : ℕ) {l : List A} {a b : A} → Sorted before l → at_place i l ≡ some a → In b (take (suc i) l) → before a b ≡ false
  unfolding at_place
  upto_place i sorted_none e j = absurd (in_nil j)
  upto_place zero {a} {b} (sorted_more {a = x} o os) e first = let q : x ≡ a = cc in rw q (linear.irreflexive a)
  upto_place zero (sorted_more o os) e (later j) = absurd (in_nil j)
  upto_place (suc i) {a} {b} (sorted_more {a = x} {rest} o os) e j =
      by (in_cons j) (λ (k : In b (take (suc i) rest)). upto_place i os e k)
    where
      by : (b ≡ x) ⊎ In b (take (suc i) rest) → (In b (take (suc i) rest) → before a b ≡ false) → before a b ≡ false
      by (inl p) ih = rw p (asymmetric x a (all_at o (place_in i rest e)))
      by (inr k) ih = ih k

  -- what is not among the first stands behind each of them
  pub past_first : (k : ℕ) {l : List A} {a b : A} → Sorted before l → In a (take k l) → In b l → (In b (take k l) → ⊥) → before a b ≡ true
  past_first zero p i j out = absurd (in_nil i)
  past_first (suc k) sorted_none i j out = absurd (in_nil i)
  past_first (suc k) {a} {b} (sorted_more {a = x} {rest} o os) i j out =
      by (in_cons i) (in_cons j) (λ (p : In a (take k rest)) (q : In b rest). past_first k os p q (λ r. out (later r)))
    where
      by : (a ≡ x) ⊎ In a (take k rest) → (b ≡ x) ⊎ In b rest → (In a (take k rest) → In b rest → before a b ≡ true) → before a b ≡ true
      by p (inl q) ih = absurd (out (in_front q))
      by (inl p) (inr q) ih = rw p (all_at o q)
      by (inr p) (inr q) ih = ih p q

  pub take_sorted : (k : ℕ) {l : List A} → Sorted before l → Sorted before (take k l)
  take_sorted zero p = sorted_none
  take_sorted (suc k) sorted_none = sorted_none
  take_sorted (suc k) (sorted_more {a} {rest} o os) = sorted_more (taken k o) (take_sorted k os)
    where
      taken : (k : ℕ) {m : List A} → All (λ c. before a c ≡ true) m → All (λ c. before a c ≡ true) (take k m)
      taken zero q = all_none
      taken (suc k) all_none = all_none
      taken (suc k) (all_more q qs) = all_more q (taken k qs)

  -- ---- elements put into a list in order

  -- what is not before an element is not before those that are not behind it
  not_before : (a b c : A) → before a c ≡ false → before c b ≡ false → before a b ≡ false
  not_before a b c p q = by (before a b) (before b c) refl refl
    where
      by : (s t : Bool) → before a b ≡ s → before b c ≡ t → s ≡ false
      by false t r w = refl
      by true true r w = never_both (linear.transitive a b c r w) p
      by true false r w = never_both (rw (linear.total b c w q) at r) p

  pub inserted_ordered : (a : A) {l : List A} → Ordered before l → Ordered before (sorted_with before a l)
  unfolding sorted_with
  inserted_ordered a ordered_none = ordered_more all_none ordered_none
  inserted_ordered a (ordered_more {a = b} {rest} o os) = by (before a b) refl (inserted_ordered a os)
    where
      behind : before a b ≡ false → All (λ c. before c b ≡ false) (sorted_with before a rest)
      behind p = all_in (sorted_with before a rest) (λ c i. at c (from_inserted before a rest i))
        where
          at : (c : A) → (c ≡ a) ⊎ In c rest → before c b ≡ false
          at c (inl e) = rw e p
          at c (inr j) = all_at o j

      by : (t : Bool) → before a b ≡ t → Ordered before (sorted_with before a rest)
          → Ordered before (if t then a ∷ b ∷ rest else b ∷ sorted_with before a rest)
      by true p ih =
          let q : before b a ≡ false = asymmetric a b p in
          ordered_more (all_more q (all_mono (λ c r. not_before c a b r q) o)) (ordered_more o os)
      by false p ih = ordered_more (behind p) ih

  pub take_ordered : (k : ℕ) {l : List A} → Ordered before l → Ordered before (take k l)
  take_ordered zero o = ordered_none
  take_ordered (suc k) ordered_none = ordered_none
  take_ordered (suc k) (ordered_more o os) = ordered_more (all_take k o) (take_ordered k os)

  -- the first k, with more put in one by one
  pub kept_ordered : (k : ℕ) {l : List A} (more : List A) → Ordered before l → Ordered before (foldl (keep k) l more)
  kept_ordered k [] o = o
  kept_ordered k {l} (a ∷ more) o = kept_ordered k {l = take k (sorted_with before a l)} more (take_ordered k (inserted_ordered a o))

  -- what is not before the element at a place is before none up to there
  pub up_to : (a : A) (i : ℕ) {l : List A} (d : A) → Ordered before l → i < length l → before a (get_or l i d) ≡ false
      → All (λ b. before a b ≡ false) (take (suc i) l)
  up_to a i d ordered_none h p = absurd (omega arith)
  up_to a zero d (ordered_more o os) h p = all_more p all_none
  up_to a (suc i) d (ordered_more {a = b} {rest} o os) h p =
      let g : i < length rest = omega arith in
      all_more (not_before a b (get_or rest i d) p (all_at o (in_get_or rest i d g))) (up_to a i d os g p)

-- an element goes behind those that it is not before, and ahead of what it is before
pub inserted_at : {A : Type 0} (before : A → A → Bool) (a : A) (p : ℕ) (l : List A)
    → All (λ b. before a b ≡ false) (take p l) → All (λ b. before a b ≡ true) (drop p l)
    → sorted_with before a l ≡ take p l ++ (a ∷ drop p l)
unfolding sorted_with
inserted_at before a zero [] ahead behind = refl
inserted_at before a (suc p) [] ahead behind = refl
inserted_at before a zero (b ∷ l) ahead (all_more h hs) = rw h
inserted_at {A} before a (suc p) (b ∷ l) (all_more h hs) behind = rw h (ap (λ (m : List A). b ∷ m) (inserted_at before a p l hs behind))

-- of an element that comes before the one at a place, the first ones up to there are those ahead of that place with it
pub inserted_ahead : {A : Type 0} (before : A → A → Bool) (a : A) (j : ℕ) (l : List A) (d : A) → j < length l
    → before a (get_or l j d) ≡ true → take (suc j) (sorted_with before a l) ≡ sorted_with before a (take j l)
unfolding sorted_with
inserted_ahead before a j [] d h p = absurd (omega arith)
inserted_ahead before a zero (b ∷ l) d h p = rw p
inserted_ahead {A} before a (suc j) (b ∷ l) d h p = by (before a b) (inserted_ahead before a j l d (omega arith) p)
  where
    by : (t : Bool) → take (suc j) (sorted_with before a l) ≡ sorted_with before a (take j l)
        → take (suc (suc j)) (if t then a ∷ b ∷ l else b ∷ sorted_with before a l)
        ≡ (if t then a ∷ b ∷ take j l else b ∷ sorted_with before a (take j l))
    by true ih = refl
    by false ih = ap (λ (m : List A). b ∷ m) ih

-- the list of those that stay has no more than there were and one, nor more than k
pub kept_length : {A : Type 0} (before : A → A → Bool) (k : ℕ) (a : A) (l : List A) → length l ≤ k
    → (length l ≤ length (take k (sorted_with before a l))) × (length (take k (sorted_with before a l)) ≤ k)
kept_length before k a l h =
    let e : length (take k (sorted_with before a l)) ≡ min k (suc (length l)) =
    length-take k (sorted_with before a l) ∙ ap (min k) (inserted_length before a l) in
    (omega arith, omega arith)

pub kept_more : {A : Type 0} (before : A → A → Bool) (k : ℕ) (l more : List A) → length l ≤ k
    → length l ≤ length (foldl (λ (m : List A) (a : A). take k (sorted_with before a m)) l more)
kept_more before k l [] h = omega arith
kept_more before k l (a ∷ more) h =
    let one = kept_length before k a l h in
    omega (arith, one.0, kept_more before k (take k (sorted_with before a l)) more one.1)

-- what is at a place, and what is past the end
pub place_get_or : {A : Type 0} (i : ℕ) (l : List A) (d : A) → i < length l → at_place i l ≡ some (get_or l i d)
unfolding at_place
place_get_or i [] d h = absurd (omega arith)
place_get_or zero (a ∷ l) d h = refl
place_get_or (suc i) (a ∷ l) d h = place_get_or i l d (omega arith)

pub place_none : {A : Type 0} (i : ℕ) (l : List A) → length l ≤ i → at_place i l ≡ none
unfolding at_place
place_none i [] h = refl
place_none zero (a ∷ l) h = absurd (omega arith)
place_none (suc i) (a ∷ l) h = place_none i l (omega arith)
