-- Traces by distance, then number: the order of `specs/KNearest`, and the list of the k nearest.
use Prim.Native.Nat.{ℕ, zero, suc, ◌≤◌, ◌<◌, min}
use mathlib.Core.Path.{◌≡◌, refl, sym, ◌∙◌, ap, subst}
use mathlib.Core.Logic.{◌⊎◌, inl, inr}
use mathlib.Core.Bool.{Bool, true, false, not, ◌&&◌, ◌||◌}
use mathlib.Core.Option.{Option, none, some}
use mathlib.Core.List.{List, ◌∷◌}
use native.Mathlib.Omega.{arith}
use lib.ListN.{length, length-map, length-take}
use lib.Seq.{take-take}
use lib.Dec.{T, T_not, ltb, eqb}
use mir.Facts.{yes_and}
use borrow.Author.Tests.{ltb-true, ltb-false, lt-ltb, le-ltb, eqb-true, eq-eqb}
use Rattle.integer.specs.Words.{counting, is_in}
use Rattle.integer.specs.Sorting.{at_place}
use Rattle.integer.proofs.Tests.{is_true}
use Rattle.integer.proofs.Lists.{In, in_is, in_map, InMap, of, from_map, in_counting, from_counting, counting_up, all_none, all_more}
use Rattle.integer.proofs.Lists.{Apart, up_apart}
use Rattle.integer.proofs.Times.{counting_length}
use Rattle.integer.proofs.Sorting.{place_in, place_past, from_take, from_sorted, in_sorted, sorted_length, LinearOrder, Sorted, sorted_none}
use Rattle.integer.proofs.Sorting.{sorted_more, sorted_sorted, past_first, take_sorted}
use Rattle.segment.specs.Figures.{distance}
use Rattle.dstree.specs.Measures.{Trace}
use Rattle.dstree.specs.Matching.{Near, near_at, is_nearer}
use Rattle.dstree.specs.KNearest.{ranking, nears, nearest_list, kth, in_rank, trace_numbers, ListClaims, Kth}

-- ---- the order

-- nearer, or as near with a lower number
abbrev pub Nearer : Near → Near → Type 0
Nearer a b = (a.distance < b.distance) ⊎ ((a.distance ≡ b.distance) × (a.trace < b.trace))

pub nearer_yes : (a b : Near) → is_nearer a b ≡ true → Nearer a b
unfolding is_nearer
nearer_yes a b e = by (ltb a.distance b.distance) (eqb a.distance b.distance) (ltb a.trace b.trace) refl refl refl e
  where
    by : (x y z : Bool) → ltb a.distance b.distance ≡ x → eqb a.distance b.distance ≡ y → ltb a.trace b.trace ≡ z
        → (x || y && z) ≡ true → Nearer a b
    by true y z p q r e = inl (ltb-true a.distance b.distance p)
    by false true true p q r e = inr (eqb-true a.distance b.distance q, ltb-true a.trace b.trace r)
    by false true false p q r e = absurd (is_true e)
    by false false z p q r e = absurd (is_true e)

pub is_nearer_lem : (a b : Near) → Nearer a b → is_nearer a b ≡ true
unfolding is_nearer
is_nearer_lem a b (inl h) = rw (lt-ltb a.distance b.distance h)
is_nearer_lem a b (inr (e, h)) =
    rw (le-ltb a.distance b.distance (omega arith), eq-eqb a.distance b.distance e, lt-ltb a.trace b.trace h)

-- not nearer: as near or farther
pub nearer_no : (a b : Near) → is_nearer a b ≡ false → b.distance ≤ a.distance
unfolding is_nearer
nearer_no a b e = by (ltb a.distance b.distance) (eqb a.distance b.distance && ltb a.trace b.trace) refl e
  where
    by : (x y : Bool) → ltb a.distance b.distance ≡ x → (x || y) ≡ false → b.distance ≤ a.distance
    by true y p e = absurd (subst T e tt)
    by false y p e = ltb-false a.distance b.distance p

-- .. and, if as near, with no lower number
no_lower : (a b : Near) → is_nearer a b ≡ false → a.distance ≡ b.distance → b.trace ≤ a.trace
unfolding is_nearer
no_lower a b e q =
    by (ltb a.trace b.trace) refl (rw (le-ltb a.distance b.distance (omega arith), eq-eqb a.distance b.distance q) at e)
  where
    by : (z : Bool) → ltb a.trace b.trace ≡ z → z ≡ false → b.trace ≤ a.trace
    by true r e = absurd (subst T e tt)
    by false r e = ltb-false a.trace b.trace r

nearer_trans : (a b c : Near) → Nearer a b → Nearer b c → Nearer a c
nearer_trans a b c (inl h) (inl k) = inl (omega arith)
nearer_trans a b c (inl h) (inr (e, k)) = inl (omega arith)
nearer_trans a b c (inr (e, h)) (inl k) = inl (omega arith)
nearer_trans a b c (inr (e, h)) (inr (f, k)) = inr (e ∙ f, omega arith)

not_nearer : (a : Near) → Nearer a a → ⊥
not_nearer a (inl h) = omega arith
not_nearer a (inr (e, h)) = omega arith

abbrev near : ℕ → ℕ → Near
near trace distance = record { trace = trace; distance = distance }

pub linear : LinearOrder is_nearer
linear = record {
  irreflexive = λ a. by a (is_nearer a a) refl;
  transitive = λ a b c p q. is_nearer_lem a c (nearer_trans a b c (nearer_yes a b p) (nearer_yes b c q));
  total = λ a b p q.
      let d : a.distance ≡ b.distance = omega (arith, nearer_no a b p, nearer_no b a q) in
      let t : a.trace ≡ b.trace = omega (arith, no_lower a b p d, no_lower b a q (sym d)) in
      same a b d t;
}
  where
    by : (a : Near) (t : Bool) → is_nearer a a ≡ t → t ≡ false
    by a true e = absurd (not_nearer a (nearer_yes a a e))
    by a false e = refl

    same : (a b : Near) → a.distance ≡ b.distance → a.trace ≡ b.trace → a ≡ b
    same a b d t =
        let p : near a.trace a.distance ≡ near b.trace a.distance = ap (λ (k : ℕ). near k a.distance) t in
        let q : near b.trace a.distance ≡ near b.trace b.distance = ap (λ (k : ℕ). near b.trace k) d in
        p ∙ q

-- ---- all stored traces

module _ (stored : List Trace) (query : Trace) where
  pub in_nears : (t : ℕ) → t < length stored → In (near_at stored query t) (nears stored query)
  unfolding nears
  in_nears t h = in_map (near_at stored query) (in_counting (length stored) 0 t (omega arith) (omega arith))

  pub from_nears : {a : Near} → In a (nears stored query) → (a.trace < length stored) × (a ≡ near_at stored query a.trace)
  unfolding nears
  from_nears {a} i = by (from_map (near_at stored query) (counting (length stored) 0) i)
    where
      by : InMap (near_at stored query) a (counting (length stored) 0) → (a.trace < length stored) × (a ≡ near_at stored query a.trace)
      by (of t j e) = (rw e (omega (arith, from_counting (length stored) 0 j)), rw e refl)

  nears_apart : Apart (λ (a : Near). a.trace) (nears stored query)
  unfolding nears
  nears_apart = up_apart (λ (a : Near). a.trace) (near_at stored query) (λ t. refl) (counting_up (length stored) 0)

  pub nears_length : length (nears stored query) ≡ length stored
  unfolding nears
  nears_length = length-map (counting (length stored) 0) (near_at stored query) ∙ counting_length (length stored) 0

  pub all_ranked : Sorted is_nearer (ranking (nears stored query))
  all_ranked = sorted_sorted linear (λ (a : Near). a.trace) nears_apart

-- ---- the k-th

-- of k or more there is a k-th
pub kth_of : (k : ℕ) (l : List Near) → 0 < k → k ≤ length l → Kth k l
unfolding kth
kth_of zero l h g = absurd (omega arith)
kth_of (suc k) l h g = by (at_place k l) refl
  where
    by : (o : Option Near) → at_place k l ≡ o → Kth (suc k) l
    by none e = absurd (omega (arith, place_past k l e))
    by (some a) e = record { last = a; is = e }

-- ---- the list

sorted_rank : {l : List Near} → Sorted is_nearer l → T (in_rank l)
unfolding in_rank
sorted_rank sorted_none = tt
sorted_rank (sorted_more all_none sorted_none) = tt
sorted_rank (sorted_more {a} (all_more {a = b} {rest} p ps) (sorted_more o os)) =
    yes_and (is_nearer a b) (in_rank (b ∷ rest)) (is_true p) (sorted_rank (sorted_more o os))

module _ (k : ℕ) (stored : List Trace) (query : Trace) where
  listed_stored : {a : Near} → In a (nearest_list k stored query) → In a (nears stored query)
  unfolding nearest_list
  listed_stored i = from_sorted is_nearer (nears stored query) (from_take k (ranking (nears stored query)) i)

  nearest : (place : ℕ) (a : Near) (trace : ℕ) → at_place place (nearest_list k stored query) ≡ some a → trace < length stored
      → T (not (is_in trace (trace_numbers (nearest_list k stored query)))) → T (is_nearer a (near_at stored query trace))
  unfolding nearest_list
  nearest place a trace e h out =
      is_true (past_first linear k (all_ranked stored query) (place_in place (nearest_list k stored query) e)
      (in_sorted is_nearer (in_nears stored query trace h))
      (λ i. T_not (is_in trace (trace_numbers (nearest_list k stored query))) out (in_is (in_map (λ (b : Near). b.trace) i))))

  pub list_claims : ListClaims k stored query
  unfolding nearest_list
  list_claims = record {
    long = length-take k (ranking (nears stored query))
        ∙ ap (min k) (sorted_length is_nearer (nears stored query) ∙ nears_length stored query);
    in_order = sorted_rank (take_sorted linear k (all_ranked stored query));
    of_stored = λ place a e. from_nears stored query (listed_stored (place_in place (nearest_list k stored query) e));
    nearest = nearest;
    shorter = λ j h. sym (take-take j k (ranking (nears stored query)) h);
  }
