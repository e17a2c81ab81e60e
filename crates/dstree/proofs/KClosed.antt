-- The k nearest in closed form: the steps give it, and what they read is the leaves with a bound at most the k-th distance.
-- `all` are the distances of all stored traces and `last` is the k-th of them, if there are k. What has been read is some of `all`, so
-- that its k-th is no
-- nearer than `last` (`place_low`): no leaf with a bound at most `last` is left out. Once those leaves are read, the first k of `all` are
-- read, for a bound
-- is never above a distance; so they are the first k of what has been read (`first_same`), and any greater bound stops the search.
use Rattle.std.specs.Prelude.{if◌then◌else◌}
use Prim.Native.Nat.{ℕ, zero, suc, ◌≤◌, ◌<◌}
use mathlib.Core.Path.{◌≡◌, refl, sym, ◌∙◌, ap, subst}
use mathlib.Core.Logic.{◌⊎◌, inl, inr}
use mathlib.Core.Bool.{Bool, true, false, not}
use mathlib.Core.Option.{Option, none, some, some-injective}
use mathlib.Core.List.{List, [], ◌∷◌, ◌++◌, map, foldl, flatten, append_assoc, append-nil}
use native.Mathlib.Omega.{arith}
use native.Mathlib.Decide.{dec_le}
use native.Mathlib.Nat.{lt_of_not-le}
use lib.ListN.{length, get_or, take, length-map, length-append}
use lib.Seq.{take-take}
use lib.Dec.{T, T_not, leb}
use borrow.Author.Tests.{ltb-true, ltb-false, lt-ltb, le-ltb, le-leb, lt-leb}
use Rattle.integer.specs.Words.{those, total, is_in}
use Rattle.integer.specs.Sorting.{at_place}
use Rattle.integer.proofs.Tests.{is_true, is_false, test_false}
use Rattle.integer.proofs.Lists.{In, first, later, in_nil, in_cons, in_is, is_in_lem, in_append, in_map, InMap, of, from_map}
use Rattle.integer.proofs.Lists.{InFlat, flat, from_flat, in_flat, from_those, in_those, those_agree, All, all_none, all_more, Up}
use Rattle.integer.proofs.Lists.{all_at, map_take, Apart, apart_none, apart_more, those_apart, up_apart, apart_append, map_apart}
use Rattle.integer.proofs.Lists.{apart_front, up_same, no_fewer, counting_up}
use Rattle.integer.proofs.Rows.{map_append}
use Rattle.integer.proofs.Sorting.{place_taken, place_among, place_inside, place_past, from_take, from_sorted, in_sorted, sorted_length}
use Rattle.integer.proofs.Sorting.{Sorted, sorted_sorted, first_same, Lower, place_low, upto_place}
use Rattle.dstree.specs.Measures.{Trace}
use Rattle.dstree.specs.Node.{Kind, leaf, inner, Tree, node_at}
use Rattle.dstree.specs.Matching.{bound, LeafBound, is_leaf_kind, numbers_in, leaves, reading_order, read_on, Near, Search, distances_in}
use Rattle.dstree.specs.Matching.{near_at, is_nearer, is_above, searched, match_from, match_by_steps, leaves_r, match_of}
use Rattle.dstree.specs.Adding.{traces_of}
use Rattle.dstree.specs.Claims.{of_leaf, numbers_among}
use Rattle.dstree.specs.KNearest.{ranking, nears, nearest_list, kth, Listing, read_into, stops_at_kth, list_on, listed}
use Rattle.dstree.specs.KNearest.{KNearest, k_nearest_by_steps, leaves_rk, k_nearest_of, list_of_match, distances_among, leaves_in}
use Rattle.dstree.specs.KNearest.{HoldsK, LeavesOutAbove, LeftOut, KNearestClaims, OneIsMatch}
use Rattle.dstree.proofs.Formed.{Kept}
use Rattle.dstree.proofs.Containing.{Containing}
use Rattle.dstree.proofs.Bounds.{bound_at_most}
use Rattle.dstree.proofs.Reading.{kept_leaf, InOrder, order_none, order_more, with_bound, reading_of, in_reading, reading_in_order}
use Rattle.dstree.proofs.Reading.{reading_apart, reading_length}
use Rattle.dstree.proofs.Closed.{claims_of}
use Rattle.dstree.proofs.Ranks.{nearer_no, linear, in_nears, from_nears, nears_length, all_ranked}
use Rattle.dstree.proofs.KSteps.{kept_nearest, ByTrail, by_trail_more, by_trail_start, step_claims, list_of, one_searched}

-- ---- at most a limit

-- the leaf's bound is at most the distance; any is where there is none
abbrev within : Option Near → LeafBound → Bool
within o a = not (is_above a.bound o)

not_above : (k d : ℕ) (o : Near) → k ≤ d → d ≤ o.distance → is_above k (some o) ≡ false
unfolding is_above
not_above k d o h g = le-ltb o.distance k (omega arith)

is_above_lem : (k : ℕ) (o : Near) → o.distance < k → is_above k (some o) ≡ true
unfolding is_above
is_above_lem k o h = lt-ltb o.distance k h

from_above : (k : ℕ) (o : Near) → is_above k (some o) ≡ true → o.distance < k
unfolding is_above
from_above k o e = ltb-true o.distance k e

from_not_above : (k : ℕ) (o : Near) → is_above k (some o) ≡ false → k ≤ o.distance
unfolding is_above
from_not_above k o e = ltb-false o.distance k e

none_above : (k : ℕ) → is_above k none ≡ false
unfolding is_above
none_above k = refl

-- greater bounds are above too
above_more : (j k : ℕ) (o : Option Near) → j ≤ k → is_above j o ≡ true → is_above k o ≡ true
above_more j k none h e = absurd (is_true (sym (none_above j) ∙ e))
above_more j k (some a) h e = is_above_lem k a (omega (arith, from_above j a e))

-- the closed form's leaves, in one way
within_is : (tree : Tree) (query : Trace) (o : Option Near) → leaves_rk tree query o ≡ those (within o) (reading_order tree query)
unfolding leaves_rk leaves_r those is_above
within_is tree query none = every_one (reading_order tree query)
  where
    every_one : (l : List LeafBound) → l ≡ those (within none) l
    every_one [] = refl
    every_one (a ∷ l) = ap (λ (m : List LeafBound). a ∷ m) (every_one l)
within_is tree query (some d) =
    those_agree (λ a. leb a.bound d.distance) (within (some d)) (reading_order tree query)
    (λ a i. by a (is_above a.bound (some d)) refl)
  where
    by : (a : LeafBound) (t : Bool) → is_above a.bound (some d) ≡ t → leb a.bound d.distance ≡ not t
    by a true e = lt-leb a.bound d.distance (from_above a.bound d e)
    by a false e = le-leb a.bound d.distance (from_not_above a.bound d e)

-- behind a bound that is above, all are
all_above : (o : Option Near) (k : ℕ) {l : List LeafBound} → is_above k o ≡ true → All (λ b. k ≤ b.bound) l → those (within o) l ≡ []
unfolding those
all_above o k e all_none = refl
all_above o k e (all_more {a = b} g gs) = rw (above_more k b.bound o g e) (all_above o k e gs)

-- leaves in order: those within a limit are the first ones
those_first : (o : Option Near) {l : List LeafBound} → InOrder l → those (within o) l ≡ take (length (those (within o) l)) l
unfolding those
those_first o order_none = refl
those_first o (order_more {a} {rest} h hs) = by (is_above a.bound o) refl (those_first o hs)
  where
    by : (t : Bool) → is_above a.bound o ≡ t → those (within o) rest ≡ take (length (those (within o) rest)) rest
        → (if not t then a ∷ those (within o) rest else those (within o) rest) ≡ take
        (length (if not t then a ∷ those (within o) rest else those (within o) rest)) (a ∷ rest)
    by true e ih = rw (all_above o a.bound e h)
    by false e ih = ap (λ (m : List LeafBound). a ∷ m) ih

-- a nearer limit leaves fewer
those_fewer : (o p : Option Near) → ((k : ℕ) → is_above k p ≡ true → is_above k o ≡ true) → (l : List LeafBound)
    → length (those (within o) l) ≤ length (those (within p) l)
unfolding those
those_fewer o p h [] = omega arith
those_fewer o p h (a ∷ l) = by (is_above a.bound o) (is_above a.bound p) refl refl (those_fewer o p h l)
  where
    by : (s t : Bool) → is_above a.bound o ≡ s → is_above a.bound p ≡ t → length (those (within o) l) ≤ length (those (within p) l)
        → length (if not s then a ∷ those (within o) l else those (within o) l) ≤ length
        (if not t then a ∷ those (within p) l else those (within p) l)
    by true true e f ih = ih
    by true false e f ih = omega arith
    by false false e f ih = omega arith
    by false true e f ih = absurd (is_true (sym (sym (h a.bound f) ∙ e)))

-- ---- the k-th

kth_taken : (k : ℕ) (l : List Near) → kth k (take k l) ≡ kth k l
unfolding kth
kth_taken zero l = refl
kth_taken (suc k) l = place_taken k l

-- ---- a tree whose records contain the traces below

module _ (n : ℕ) (stored : List Trace) (tree : Tree) (c : Containing n stored tree)
    (all_n : (t : ℕ) → t < length stored → length (get_or stored t []) ≡ n) (query : Trace) (lq : length query ≡ n) where
  abbrev order : List LeafBound
  order = reading_order tree query

  abbrev all : List Near
  all = ranking (nears stored query)

  -- what is read in some leaves
  abbrev among : List ℕ → List Near
  among set = distances_among stored tree query set

  -- ---- a leaf's traces

  from_leaf : (k : ℕ) {b : Near} → In b (distances_in stored tree query k)
      → T (is_in b.trace (numbers_in (node_at tree k).kind)) × (b ≡ near_at stored query b.trace)
  unfolding distances_in
  from_leaf k {b} i = by (from_map (near_at stored query) (numbers_in (node_at tree k).kind) i)
    where
      by : InMap (near_at stored query) b (numbers_in (node_at tree k).kind)
          → T (is_in b.trace (numbers_in (node_at tree k).kind)) × (b ≡ near_at stored query b.trace)
      by (of t j e) = (rw e (in_is j), rw e refl)

  from_among : (set : List ℕ) {b : Near} → In b (among set) → In b all
  unfolding distances_among
  from_among set {b} i = by (from_flat (distances_in stored tree query) set i)
    where
      by : InFlat (distances_in stored tree query) b set → In b all
      by (flat k j g) =
          let h : T (is_in b.trace (numbers_in (node_at tree k).kind)) × (b ≡ near_at stored query b.trace) = from_leaf k g in
          in_sorted is_nearer (rw h.1 (in_nears stored query b.trace (c.shape.numbers b.trace k h.0)))

  among_length : (set : List ℕ) → length (among set) ≡ total (map (λ number. length (numbers_in (node_at tree number).kind)) set)
  unfolding distances_among flatten distances_in total
  among_length [] = refl
  among_length (k ∷ set) =
      length-append (map (near_at stored query) (numbers_in (node_at tree k).kind)) (among set)
      ∙ (let e = among_length set in let f = length-map (numbers_in (node_at tree k).kind) (near_at stored query) in rw (e, f))

  leaf_apart : (k : ℕ) → Apart (λ (b : Near). b.trace) (distances_in stored tree query k)
  unfolding distances_in numbers_in
  leaf_apart k = by (node_at tree k).kind (c.shape.rises k)
    where
      by : (a : Kind) → ((ns : List ℕ) → a ≡ leaf ns → Up 0 ns) → Apart (λ (b : Near). b.trace) (map (near_at stored query) (numbers_in a))
      by (leaf ns) u = up_apart (λ (b : Near). b.trace) (near_at stored query) (λ t. refl) (u ns refl)
      by (inner test l r) u = apart_none

  -- leaves that differ have no trace in common
  among_apart : {set : List ℕ} → Apart (λ (k : ℕ). k) set → Apart (λ (b : Near). b.trace) (among set)
  unfolding distances_among flatten
  among_apart apart_none = apart_none
  among_apart (apart_more {a = k} {l = set} h p) =
      apart_append (λ (b : Near). b.trace) (leaf_apart k) (among_apart p)
      (λ a b i j. by a b (from_leaf k i).0 (from_flat (distances_in stored tree query) set j))
    where
      by : (a b : Near) → T (is_in a.trace (numbers_in (node_at tree k).kind)) → InFlat (distances_in stored tree query) b set
          → b.trace ≡ a.trace → ⊥
      by a b i (flat m j g) e =
          h m j (c.shape.one_leaf a.trace m k
          (subst (λ (t : ℕ). T (is_in t (numbers_in (node_at tree m).kind))) e (from_leaf m g).0) i)

  among_ranked : {set : List ℕ} → Apart (λ (k : ℕ). k) set → Sorted is_nearer (ranking (among set))
  among_ranked p = sorted_sorted linear (λ (b : Near). b.trace) (among_apart p)

  -- a stored trace is in a leaf with a bound at most its distance
  record LeafOf (b : Near) : Type 0 where
    at : ℕ
    is_leaf : In at (leaves tree)
    holds : In b (distances_in stored tree query at)
    low : bound tree query at ≤ b.distance

  leaf_of : {b : Near} → In b all → LeafOf b
  unfolding distances_in
  leaf_of {b} i = let h : (b.trace < length stored) × (b ≡ near_at stored query b.trace) =
      from_nears stored query (from_sorted is_nearer (nears stored query) i) in by h.1 (c.shape.kept b.trace h.0)
    where
      by : b ≡ near_at stored query b.trace → Kept tree b.trace → LeafOf b
      by e k = record {
        at = k.at;
        is_leaf = kept_leaf k;
        holds = subst (λ (a : Near). In a (distances_in stored tree query k.at)) (sym e)
            (in_map (near_at stored query) (is_in_lem b.trace (numbers_in (node_at tree k.at).kind) k.holds));
        low = subst (λ (d : ℕ). bound tree query k.at ≤ d) (sym (ap (λ (a : Near). a.distance) e))
            (bound_at_most n stored tree c query all_n lq k.at b.trace (of_leaf k.holds));
      }

  module _ (k : ℕ) where
    abbrev last : Option Near
    last = kth k (nearest_list k stored query)

    last_is : last ≡ kth k all
    unfolding nearest_list
    last_is = kth_taken k all

    -- some read: its k-th is no nearer than the k-th of all
    kth_low : {set : List ℕ} → Apart (λ (j : ℕ). j) set → (bound : ℕ) → is_above bound last ≡ false
        → is_above bound (kth k (ranking (among set))) ≡ false
    unfolding kth
    kth_low {set} p = by k refl
      where
        at : (i bound : ℕ) → (o : Option Near) → at_place i (ranking (among set)) ≡ o → is_above bound (at_place i all) ≡ false
            → is_above bound o ≡ false
        at i bound none e h = none_above bound
        at i bound (some a) e h =
            let w : Lower linear i all a =
            place_low linear i (all_ranked stored query) (among_ranked p)
            (λ b j. from_among set (from_sorted is_nearer (among set) j)) e in
            let g : is_above bound (some w.element) ≡ false = rw w.at at h in
            not_above bound w.element.distance a (from_not_above bound w.element g) (nearer_no a w.element w.low)

        by : (j : ℕ) → k ≡ j → (bound : ℕ) → is_above bound last ≡ false → is_above bound (kth j (ranking (among set))) ≡ false
        by zero e bound h = none_above bound
        by (suc i) e bound h = at i bound (at_place i (ranking (among set))) refl (rw (last_is, e) at h)

    -- the first k of all: their leaves are within the limit
    first_low : {b : Near} → In b (take k all) → (a : ℕ) → a ≤ b.distance → is_above a last ≡ false
    unfolding kth
    first_low {b} i a h = rw last_is (by k i)
      where
        at : (m : ℕ) (o : Option Near) → at_place m all ≡ o → In b (take (suc m) all) → is_above a o ≡ false
        at m none e i = none_above a
        at m (some d) e i = not_above a b.distance d h (nearer_no d b (upto_place linear m (all_ranked stored query) e i))

        by : (j : ℕ) → In b (take j all) → is_above a (kth j all) ≡ false
        by zero i = none_above a
        by (suc m) i = at m (at_place m all) refl i

    -- leaves, all within the limit among them: the first k of all are the first k of theirs
    has_first : (set : List ℕ) → Apart (λ (j : ℕ). j) set
        → ((j : ℕ) → In j (leaves tree) → is_above (bound tree query j) last ≡ false → In j set)
        → take k all ≡ take k (ranking (among set))
    unfolding distances_among
    has_first set p has =
        first_same linear k (all_ranked stored query) (among_ranked p) (λ b i. from_among set (from_sorted is_nearer (among set) i))
        (λ b i. by b i (leaf_of (from_take k all i)))
      where
        by : (b : Near) → In b (take k all) → LeafOf b → In b (ranking (among set))
        by b i o =
            in_sorted is_nearer
            (in_flat (distances_in stored tree query) (has o.at o.is_leaf (first_low i (bound tree query o.at) o.low))
            o.holds)

    -- ---- the steps

    abbrev read_all : Listing → List LeafBound → Listing
    read_all = foldl (λ (s : Listing) (a : LeafBound). read_into k stored tree query s a.number)

    -- the leaves `done` are read, those of `rest` are not
    record Halfway (s : Listing) (rest : List LeafBound) : Type 0 where
      done : List LeafBound
      split : order ≡ done ++ rest
      trail_is : s.trail ≡ map (λ (a : LeafBound). a.number) done
      by_trail : ByTrail k stored tree query s

    halfway_more : (s : Listing) (a : LeafBound) (rest : List LeafBound) → Halfway s (a ∷ rest)
        → Halfway (read_into k stored tree query s a.number) rest
    unfolding read_into
    halfway_more s a rest h = record {
      done = h.done ++ (a ∷ []);
      split = h.split ∙ sym (append_assoc h.done (a ∷ []) rest);
      trail_is =
          ap (λ (l : List ℕ). l ++ (a.number ∷ [])) h.trail_is ∙ sym (map_append (λ (b : LeafBound). b.number) h.done (a ∷ []));
      by_trail = by_trail_more k stored tree query s a.number h.by_trail;
    }

    module _ (s : Listing) (rest : List LeafBound) (h : Halfway s rest) where
      trail_apart : Apart (λ (j : ℕ). j) s.trail
      trail_apart =
          rw h.trail_is
          (map_apart (λ (a : LeafBound). a.number)
          (apart_front (λ (a : LeafBound). a.number) h.done rest
          (subst (Apart (λ (a : LeafBound). a.number)) h.split (reading_apart tree query))))

      list_is : s.list ≡ take k (ranking (among s.trail))
      list_is = h.by_trail.list ∙ kept_nearest k (among s.trail)

      -- a bound at most the limit does not stop it
      goes_on : (a : ℕ) → is_above a last ≡ false → is_above a (kth k s.list) ≡ false
      goes_on a e = rw (list_is, kth_taken k (ranking (among s.trail))) (kth_low trail_apart a e)

      -- with all leaves within the limit read, any other stops it
      stops : (a : ℕ) → All (λ b. a ≤ b.bound) rest → is_above a last ≡ true → is_above a (kth k s.list) ≡ true
      unfolding nearest_list
      stops a o e = rw (list_is, ← has_first s.trail trail_apart has) e
        where
          to : (j : ℕ) → is_above (bound tree query j) last ≡ false
              → In (with_bound tree query j) h.done ⊎ In (with_bound tree query j) rest → In j s.trail
          to j g (inl i) = rw h.trail_is (in_map (λ (b : LeafBound). b.number) i)
          to j g (inr i) = absurd (is_true (sym (sym (above_more a (bound tree query j) last (all_at o i) e) ∙ g)))

          has : (j : ℕ) → In j (leaves tree) → is_above (bound tree query j) last ≡ false → In j s.trail
          has j i g = to j g (in_append h.done (subst (In (with_bound tree query j)) h.split (in_reading tree query i)))

    reads : (s : Listing) {rest : List LeafBound} → InOrder rest → Halfway s rest
        → list_on k stored tree query s rest ≡ read_all s (those (within last) rest)
    unfolding read_on stops_at_kth those
    reads s order_none h = refl
    reads s (order_more {a} {rest} o os) h =
        by (is_above a.bound last) refl (reads (read_into k stored tree query s a.number) os (halfway_more s a rest h))
      where
        by : (t : Bool) → is_above a.bound last ≡ t
            → list_on k stored tree query (read_into k stored tree query s a.number) rest ≡ read_all
            (read_into k stored tree query s a.number) (those (within last) rest)
            → (if is_above a.bound (kth k s.list) then s else list_on k stored tree query
            (read_into k stored tree query s a.number) rest) ≡ read_all s
            (if not t then a ∷ those (within last) rest else those (within last) rest)
        by true e ih = rw (stops s (a ∷ rest) h a.bound (all_more (omega arith) o) e, all_above last a.bound e o)
        by false e ih = rw (goes_on s (a ∷ rest) h a.bound e) ih

    abbrev R : List LeafBound
    R = leaves_rk tree query last

    abbrev trail : List ℕ
    trail = map (λ (a : LeafBound). a.number) R

    start : Listing
    start = record { list = []; traces = 0; trail = [] }

    halfway_all : (s : Listing) (l : List LeafBound) → ByTrail k stored tree query s
        → ByTrail k stored tree query (read_all s l) × ((read_all s l).trail ≡ s.trail ++ map (λ (a : LeafBound). a.number) l)
    unfolding read_into
    halfway_all s [] t = (t, sym (append-nil s.trail))
    halfway_all s (a ∷ l) t =
        let r = halfway_all (read_into k stored tree query s a.number) l (by_trail_more k stored tree query s a.number t) in
        (r.0, r.1 ∙ append_assoc s.trail (a.number ∷ []) (map (λ (b : LeafBound). b.number) l))

    searched_is : listed k stored tree query ≡ read_all start R
    unfolding listed start
    searched_is =
        reads start (reading_in_order tree query)
        (record { done = []; split = refl; trail_is = refl; by_trail = by_trail_start k stored tree query })
        ∙ ap (read_all start) (sym (within_is tree query last))

    searched_by_trail : ByTrail k stored tree query (read_all start R) × ((read_all start R).trail ≡ trail)
    unfolding start
    searched_by_trail = halfway_all start R (by_trail_start k stored tree query)

    R_apart : Apart (λ (a : LeafBound). a.number) R
    R_apart = rw (within_is tree query last) (those_apart (λ (a : LeafBound). a.number) (within last) (reading_apart tree query))

    in_R : (j : ℕ) → In j (leaves tree) → is_above (bound tree query j) last ≡ false → In j trail
    in_R j i g =
        in_map (λ (a : LeafBound). a.number)
        (subst (In (with_bound tree query j)) (sym (within_is tree query last))
        (in_those (within last) (in_reading tree query i) (is_false g)))

    from_R : {j : ℕ} → In j trail → In j (leaves tree) × (is_above (bound tree query j) last ≡ false)
    from_R {j} i = by (from_map (λ (a : LeafBound). a.number) R i)
      where
        by : InMap (λ (a : LeafBound). a.number) j R → In j (leaves tree) × (is_above (bound tree query j) last ≡ false)
        by (of a g e) =
            let h : In a order × T (within last a) = from_those (within last) order (rw (within_is tree query last) at g) in
            let q : a.bound ≡ bound tree query a.number = (reading_of tree query h.0).1 in
            (rw e (reading_of tree query h.0).0, rw (e, ← q) (test_false (is_above a.bound last) (T_not (is_above a.bound last) h.1)))

    list_found : (read_all start R).list ≡ nearest_list k stored query
    unfolding nearest_list
    list_found =
        searched_by_trail.0.list ∙ kept_nearest k (among (read_all start R).trail)
        ∙ ap (λ (l : List ℕ). take k (ranking (among l))) searched_by_trail.1
        ∙ sym (has_first trail (map_apart (λ (a : LeafBound). a.number) R_apart) in_R)

    traces_found : (read_all start R).traces ≡ total (map (λ number. length (numbers_in (node_at tree number).kind)) trail)
    traces_found = searched_by_trail.0.traces ∙ ap (λ (l : List ℕ). length (among l)) searched_by_trail.1 ∙ among_length trail

    steps_give_it : k_nearest_by_steps k stored tree query ≡ k_nearest_of k stored tree query
    unfolding k_nearest_by_steps k_nearest_of
    steps_give_it = rw (searched_is, list_found, traces_found, searched_by_trail.1)

    others : (other : List Trace)
        → traces_of other (numbers_among tree (k_nearest_of k stored tree query).trail) ≡ traces_of stored
        (numbers_among tree (k_nearest_of k stored tree query).trail) → k_nearest_by_steps k other tree query ≡ k_nearest_of k stored tree query
    unfolding k_nearest_by_steps
    others other e =
        let t : (k_nearest_of k stored tree query).trail ≡ (listed k stored tree query).trail =
        ap (λ (a : KNearest). a.trail) (sym steps_give_it) in
        rw ((step_claims k stored tree query).off_trail other (rw t at e)) steps_give_it

    -- ---- the leaves read

    -- "every leaf when fewer than k traces are stored"
    none_last : length stored < k → last ≡ none
    unfolding kth
    none_last h = last_is ∙ by k (kth k all) refl h
      where
        at : (j : ℕ) (o : Option Near) → at_place j all ≡ o → length stored ≤ j → at_place j all ≡ none
        at j none e g = e
        at j (some a) e g =
            absurd (omega (arith, place_inside j all e, sorted_length is_nearer (nears stored query), nears_length stored query))

        by : (j : ℕ) (o : Option Near) → kth j all ≡ o → length stored < j → kth j all ≡ none
        by zero o e g = refl
        by (suc j) o e g = at j (at_place j all) refl (omega arith)

    all_read : length stored < k → (k_nearest_of k stored tree query).leaves ≡ length (leaves tree)
    unfolding k_nearest_of leaves_rk
    all_read h = rw (none_last h) (length-map order (λ (a : LeafBound). a.number) ∙ reading_length tree query)

    out_is_above : (number : ℕ) → T (is_in number (leaves tree)) → T (not (is_in number trail))
        → is_above (bound tree query number) last ≡ true
    out_is_above number i out = by (is_above (bound tree query number) last) refl
      where
        by : (t : Bool) → is_above (bound tree query number) last ≡ t → t ≡ true
        by true e = refl
        by false e = absurd (T_not (is_in number trail) out (in_is (in_R number (is_in_lem number (leaves tree) i) e)))

    -- the leaves read are themselves a set that holds k traces and leaves out only bounds above the k-th distance there
    abbrev own : ℕ → Bool
    own number = is_in number trail

    own_apart : Apart (λ (j : ℕ). j) (leaves_in tree own)
    unfolding leaves
    own_apart =
        those_apart (λ (j : ℕ). j) own
        (those_apart (λ (j : ℕ). j) (λ number. is_leaf_kind (node_at tree number).kind) (up_same (counting_up (length tree) 0)))

    own_kth : kth k (ranking (among (leaves_in tree own))) ≡ last
    own_kth =
        sym (kth_taken k (ranking (among (leaves_in tree own))))
        ∙ ap (kth k) (sym (has_first (leaves_in tree own) own_apart (λ j i g. in_those own i (in_is (in_R j i g)))))
        ∙ kth_taken k all ∙ sym last_is

    own_out : (d : Near) → last ≡ some d → LeavesOutAbove tree query own d.distance
    own_out d e number i out = from_above (bound tree query number) d (rw e at (out_is_above number i out))

    Rk_itself : (d : Near) → last ≡ some d → HoldsK k stored tree query own d × LeavesOutAbove tree query own d.distance
    Rk_itself d e = (own_kth ∙ e, own_out d e)

    -- ---- fewest

    module _ (set : ℕ → Bool) (d : Near) (holds : HoldsK k stored tree query set d) where
      set_apart : Apart (λ (j : ℕ). j) (leaves_in tree set)
      unfolding leaves
      set_apart =
          those_apart (λ (j : ℕ). j) set
          (those_apart (λ (j : ℕ). j) (λ number. is_leaf_kind (node_at tree number).kind) (up_same (counting_up (length tree) 0)))

      -- the bounds of the leaves read are at most the k-th distance in the set
      read_low : {j : ℕ} → In j trail → bound tree query j ≤ d.distance
      read_low {j} i = from_not_above (bound tree query j) d (rw (← holds) (kth_low set_apart (bound tree query j) (from_R i).1))

      contains_Rk : LeavesOutAbove tree query set d.distance
          → (number : ℕ) → T (is_in number trail) → T (set number)
      contains_Rk out number i = by (set number) refl
        where
          by : (t : Bool) → set number ≡ t → T t
          by true e = tt
          by false e =
              let j : In number trail = is_in_lem number trail i in
              omega (arith, read_low j, out number (in_is (from_R j).0) (is_false e))

      -- all of some leaves are in the set, or one is left out
      all_or_out : (l : List ℕ) → ((j : ℕ) → In j l → In j trail) → ((j : ℕ) → In j l → T (set j)) ⊎ LeftOut tree query set d
      all_or_out [] sub = inl (λ j i. absurd (in_nil i))
      all_or_out (k ∷ l) sub = by (set k) refl (all_or_out l (λ j i. sub j (later i)))
        where
          in_both : T (set k) → ((j : ℕ) → In j l → T (set j)) → (j : ℕ) → In j (k ∷ l) → T (set j)
          in_both t h j i = at (in_cons i)
            where
              at : (j ≡ k) ⊎ In j l → T (set j)
              at (inl e) = subst (λ (m : ℕ). T (set m)) (sym e) t
              at (inr g) = h j g

          on : T (set k) → ((j : ℕ) → In j l → T (set j)) ⊎ LeftOut tree query set d
              → ((j : ℕ) → In j (k ∷ l) → T (set j)) ⊎ LeftOut tree query set d
          on t (inl h) = inl (in_both t h)
          on t (inr o) = inr o

          by : (t : Bool) → set k ≡ t → ((j : ℕ) → In j l → T (set j)) ⊎ LeftOut tree query set d
              → ((j : ℕ) → In j (k ∷ l) → T (set j)) ⊎ LeftOut tree query set d
          by true e ih = on (is_true e) ih
          by false e ih =
              inr (record {
                number = k;
                is_leaf = in_is (from_R (sub k first)).0;
                is_out = is_false e;
                no_greater =
                    read_low (sub k first);
              })

      fewest : length (leaves_in tree set) < (k_nearest_of k stored tree query).leaves → LeftOut tree query set d
      unfolding k_nearest_of
      fewest less = by (all_or_out trail (λ j i. i))
        where
          by : ((j : ℕ) → In j trail → T (set j)) ⊎ LeftOut tree query set d → LeftOut tree query set d
          by (inr o) = o
          by (inl h) =
              let g : length trail ≤ length (leaves_in tree set) =
              no_fewer (λ (j : ℕ). j) (leaves_in tree set) (map_apart (λ (a : LeafBound). a.number) R_apart)
              (λ j i. in_those set (from_R i).0 (h j i)) in
              absurd (omega arith)

      no_fewer_leaves : LeavesOutAbove tree query set d.distance
          → (k_nearest_of k stored tree query).leaves ≤ length (leaves_in tree set)
      no_fewer_leaves out = by (dec_le (k_nearest_of k stored tree query).leaves (length (leaves_in tree set)))
        where
          never : LeftOut tree query set d → ⊥
          never o = omega (arith, o.no_greater, out o.number o.is_leaf o.is_out)

          by : Dec ((k_nearest_of k stored tree query).leaves ≤ length (leaves_in tree set))
              → (k_nearest_of k stored tree query).leaves ≤ length (leaves_in tree set)
          by (yes h) = h
          by (no f) = absurd (never (fewest (lt_of_not-le f)))

  -- ---- a shorter list

  last_lower : (j k : ℕ) → 0 < j → j ≤ k → (a : ℕ) → is_above a (last k) ≡ true → is_above a (last j) ≡ true
  unfolding kth
  last_lower j k one h a e = rw (last_is j) (by j k one h (rw (last_is k) at e))
    where
      at : (i m : ℕ) → i ≤ m → (o p : Option Near) → at_place i all ≡ o → at_place m all ≡ p → is_above a p ≡ true → is_above a o ≡ true
      at i m g o none q r t = absurd (is_true (sym (none_above a) ∙ t))
      at i m g none (some y) q r t = absurd (omega (arith, place_inside m all r, place_past i all q))
      at i m g (some x) (some y) q r t =
          is_above_lem a x
          (omega (arith, from_above a y t, nearer_no y x (upto_place linear m (all_ranked stored query) r (place_among i m g all q))))

      by : (i m : ℕ) → 0 < i → i ≤ m → is_above a (kth m all) ≡ true → is_above a (kth i all) ≡ true
      by zero m g f t = absurd (omega arith)
      by (suc i) zero g f t = absurd (omega arith)
      by (suc i) (suc m) g f t = at i m (omega arith) (at_place i all) (at_place m all) refl refl t

  shorter_trail : (j k : ℕ) → 0 < j → j ≤ k → trail j ≡ take (length (trail j)) (trail k)
  shorter_trail j k one h =
      let N : LeafBound → ℕ = λ a. a.number in
      let A : List LeafBound = those (within (last j)) order in
      let B : List LeafBound = those (within (last k)) order in
      let less : length A ≤ length B = those_fewer (last j) (last k) (last_lower j k one h) order in
      let f : A ≡ take (length A) B =
      those_first (last j) (reading_in_order tree query) ∙ sym (take-take (length A) (length B) order less)
      ∙ ap (take (length A)) (sym (those_first (last k) (reading_in_order tree query))) in
      rw (within_is tree query (last j), within_is tree query (last k), length-map A N) (ap (map N) f ∙ map_take N (length A) B)

  -- ---- all that is claimed

  pub k_nearest_claims : (k : ℕ) → KNearestClaims k stored tree query
  unfolding k_nearest_of
  k_nearest_claims k = record {
    steps_give_it = steps_give_it k;
    others_do_not_bear = others k;
    all_read = all_read k;
    out_is_above = out_is_above k;
    contains_Rk = contains_Rk k;
    no_fewer = no_fewer_leaves k;
    fewest = fewest k;
    Rk_itself = Rk_itself k;
    shorter_trail = λ j one h. shorter_trail j k one h;
  }

  -- the match is the one nearest
  pub one_is_match : 0 < length stored → OneIsMatch stored tree query
  unfolding k_nearest_by_steps match_by_steps match_from list_of_match
  one_is_match one =
      sym (steps_give_it 1)
      ∙ rw (one_searched stored tree query)
      (by (searched stored tree query) (searched stored tree query).best refl
      (claims_of n stored tree c all_n query lq one).steps_give_it)
    where
      by : (s : Search) (o : Option Near) → s.best ≡ o → match_from s s.best ≡ some (match_of stored tree query)
          → record { list = list_of s.best; leaves = length s.trail; traces = s.traces; trail = s.trail } ≡ list_of_match
          (match_of stored tree query)
      by s none e q = let r : none ≡ some (match_of stored tree query) = rw e at q in let z : ◌≡◌ {A = ℕ} 0 1 = cc in absurd (omega arith)
      by s (some w) e q = rw e (ap list_of_match (some-injective _ (match_of stored tree query) (rw e at q)))
