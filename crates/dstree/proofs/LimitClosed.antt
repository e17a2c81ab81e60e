-- A match with a limit on leaves, of well-formed tables with exact ranges: the full trail is R, so that an answer that is settled is the
-- match, and the bound of a leaf that is left is at most the true distance.
use Rattle.std.specs.Prelude.{if◌then◌else◌}
use Prim.Native.Nat.{ℕ, zero, suc, ◌≤◌, ◌<◌, min}
use mathlib.Core.Path.{◌≡◌, refl, sym, ◌∙◌, ap, subst}
use mathlib.Core.Logic.{◌⊎◌, inl, inr}
use mathlib.Core.Bool.{Bool, true, false}
use mathlib.Core.Option.{Option, none, some, some-injective}
use mathlib.Core.List.{List, [], ◌∷◌}
use native.Mathlib.Omega.{arith}
use lib.ListN.{length, get_or, take, drop, length-map}
use lib.Seq.{take-take}
use lib.Dec.{T, T_not, leb, leb→le}
use borrow.Author.Tests.{leb-false}
use Rattle.integer.specs.Words.{those, is_in}
use Rattle.integer.specs.Sorting.{at_place}
use Rattle.integer.proofs.Lists.{In, first, later, in_cons, is_in_lem, in_is, in_map, from_those, all_at}
use Rattle.integer.proofs.Lists.{InFlat, flat, from_flat}
use Rattle.integer.proofs.Sorting.{place_in}
use Rattle.dstree.specs.Measures.{Trace}
use Rattle.dstree.specs.Node.{Tree}
use Rattle.dstree.specs.Matching.{bound, LeafBound, leaves, reading_order, Near, Search, distances_in, searched, match_from, match_by_steps}
use Rattle.dstree.specs.Matching.{least_distance, leaves_r, Match, match_of}
use Rattle.dstree.specs.KNearest.{distances_among}
use Rattle.dstree.specs.Batch.{best_among, near_or_zero}
use Rattle.dstree.specs.LeafLimit.{LimitedMatch, settled, unsettled, match_so_far, full_trail, leaf_numbers, limited_by, limited_match}
use Rattle.dstree.specs.LeafLimit.{best_in, LimitSteps, UnsettledClaims, LimitClaims, LimitOfExact}
use Rattle.dstree.proofs.Formed.{formed}
use Rattle.dstree.proofs.Containing.{Containing, of_exact}
use Rattle.dstree.proofs.Reading.{InOrder, order_none, order_more, with_bound, in_reading, reading_in_order}
use Rattle.dstree.proofs.Search.{none_in_R}
use Rattle.dstree.proofs.Closed.{claims_of, from_distances, near_least}
use Rattle.dstree.proofs.LimitSteps.{seen_by, full_numbers, limit_steps, nearest, answer_is}

-- ---- leaves in order

-- those with a bound at most d are the first ones
those_first : (stored : List Trace) (tree : Tree) (query : Trace) (d : ℕ) {l : List LeafBound} → InOrder l
    → those (λ a. leb a.bound d) l ≡ take (length (those (λ a. leb a.bound d) l)) l
unfolding those
those_first stored tree query d order_none = refl
those_first stored tree query d (order_more {a} {rest} o os) = by (leb a.bound d) refl (those_first stored tree query d os)
  where
    R : List LeafBound
    R = those (λ b. leb b.bound d) rest

    by : (t : Bool) → leb a.bound d ≡ t → R ≡ take (length R) rest → (if t then a ∷ R else R) ≡ take (length (if t then a ∷ R else R))
        (a ∷ rest)
    by true e ih = ap (λ (m : List LeafBound). a ∷ m) ih
    by false e ih = rw (none_in_R stored tree query d a.bound (leb-false a.bound d e) o)

-- what stands behind the first k: none of it has a lesser bound than the first of it
behind : (k : ℕ) {l : List LeafBound} → InOrder l → (next : LeafBound) → at_place k l ≡ some next → {b : LeafBound} → In b l
    → In b (take k l) ⊎ (next.bound ≤ b.bound)
unfolding at_place
behind k order_none next e i = let z : ◌≡◌ {A = ℕ} 0 1 = cc in absurd (omega arith)
behind zero (order_more {a} {rest} o os) next e {b} i = by (in_cons i)
  where
    q : a ≡ next
    q = some-injective a next e

    by : (b ≡ a) ⊎ In b rest → In b [] ⊎ (next.bound ≤ b.bound)
    by (inl p) = inr (rw (p, q) (omega arith))
    by (inr j) = inr (rw (← q) (all_at o j))
behind (suc k) (order_more {a} {rest} o os) next e {b} i = by (λ j. behind k os next e j) (in_cons i)
  where
    on : In b (take k rest) ⊎ (next.bound ≤ b.bound) → In b (a ∷ take k rest) ⊎ (next.bound ≤ b.bound)
    on (inl j) = inl (later j)
    on (inr h) = inr h

    by : (In b rest → In b (take k rest) ⊎ (next.bound ≤ b.bound)) → (b ≡ a) ⊎ In b rest
        → In b (a ∷ take k rest) ⊎ (next.bound ≤ b.bound)
    by ih (inl p) = inl (rw p first)
    by ih (inr j) = on (ih j)

-- what stands at a place of the first k stands there
place_of_first : {A : Type 0} (i k : ℕ) (l : List A) {a : A} → at_place i (take k l) ≡ some a → at_place i l ≡ some a
unfolding at_place
place_of_first i zero l e = let z : ◌≡◌ {A = ℕ} 0 1 = cc in absurd (omega arith)
place_of_first i (suc k) [] e = e
place_of_first zero (suc k) (b ∷ l) e = e
place_of_first (suc i) (suc k) (b ∷ l) e = place_of_first i k l e

-- ---- which answer it is

-- of some leaves at place k or none: the answer tells which
data Left (m : Match) (k : ℕ) (l : List LeafBound) : LimitedMatch → Type 0 where
  none_left : length l ≤ k → Left m k l (settled m)
  one_left : (next : LeafBound) → at_place k l ≡ some next → k < length l → Left m k l (unsettled next.bound m)

left_of : (m : Match) (k : ℕ) (l : List LeafBound) → Left m k l (limited_by m (drop k l))
unfolding limited_by at_place
left_of m zero [] = none_left (omega arith)
left_of m zero (a ∷ l) = one_left a refl (omega arith)
left_of m (suc k) [] = none_left (omega arith)
left_of m (suc k) (a ∷ l) = by (limited_by m (drop k l)) (left_of m k l)
  where
    by : (o : LimitedMatch) → Left m k l o → Left m (suc k) (a ∷ l) o
    by o (none_left h) = none_left (omega arith)
    by o (one_left next e h) = one_left next e (omega arith)

-- the bound that an answer carries
next_of : LimitedMatch → ℕ
next_of (settled m) = 0
next_of (unsettled next m) = next

settled_injective : (m w : Match) → settled m ≡ settled w → m ≡ w
settled_injective m w e = ap match_so_far e

-- ---- exact ranges

module _ (n : ℕ) (stored : List Trace) (tree : Tree) (c : Containing n stored tree)
    (all_n : (t : ℕ) → t < length stored → length (get_or stored t []) ≡ n) (query : Trace) (lq : length query ≡ n) (one : 0 < length stored)
    (most : ℕ) (at_least : 0 < most) where
  abbrev d : ℕ
  d = least_distance stored query

  abbrev R : List LeafBound
  R = leaves_r tree query d

  abbrev full : List LeafBound
  full = full_trail stored tree query

  abbrev order : List LeafBound
  order = reading_order tree query

  -- what the match's search has found is the match
  found_match : seen_by (searched stored tree query) ≡ match_of stored tree query
  unfolding match_by_steps match_from near_or_zero
  found_match = by (searched stored tree query) (searched stored tree query).best refl
      (claims_of n stored tree c all_n query lq one).steps_give_it
    where
      by : (s : Search) (o : Option Near) → s.best ≡ o → match_from s s.best ≡ some (match_of stored tree query) → seen_by s
          ≡ match_of stored tree query
      by s none e q = let r : none ≡ some (match_of stored tree query) = rw e at q in let z : ◌≡◌ {A = ℕ} 0 1 = cc in absurd (omega arith)
      by s (some w) e q = rw e (some-injective _ (match_of stored tree query) (rw e at q))

  trail_is : (searched stored tree query).trail ≡ (match_of stored tree query).trail
  trail_is = ap (λ (m : Match). m.trail) found_match

  leaves_are : length full ≡ (match_of stored tree query).leaves
  leaves_are =
      sym (length-map full (λ (a : LeafBound). a.number)) ∙ ap length (full_numbers stored tree query)
      ∙ ap (λ (m : Match). m.leaves) found_match

  trail_leaves : length (searched stored tree query).trail ≡ (match_of stored tree query).leaves
  trail_leaves = ap (λ (m : Match). m.leaves) found_match

  full_is_R : full ≡ R
  unfolding full_trail match_of leaves_r
  full_is_R =
      ap (λ (l : List ℕ). take (length l) order) trail_is ∙ ap (λ (k : ℕ). take k order) (length-map R (λ (a : LeafBound). a.number))
      ∙ sym (those_first stored tree query d (reading_in_order tree query))

  abbrev m₀ : Match
  m₀ = best_in stored tree query (leaf_numbers (take most full))

  which : Left m₀ most full (limited_match most stored tree query)
  unfolding limited_match
  which = left_of m₀ most full

  steps : LimitSteps most stored tree query
  steps = limit_steps stored tree query most

  whole_settled : (match_of stored tree query).leaves ≤ most → limited_match most stored tree query ≡ settled (match_of stored tree query)
  whole_settled h =
      steps.whole_settled
      (omega (arith, leaves_are, length-map full (λ (a : LeafBound). a.number), ap length (full_numbers stored tree query)))
      ∙ ap settled found_match

  settled_is_match : (m : Match) → limited_match most stored tree query ≡ settled m
      → (m ≡ match_of stored tree query) × ((match_of stored tree query).leaves ≤ most)
  settled_is_match m e = by (limited_match most stored tree query) refl e which
    where
      by : (o : LimitedMatch) → limited_match most stored tree query ≡ o → o ≡ settled m → Left m₀ most full o
          → (m ≡ match_of stored tree query) × ((match_of stored tree query).leaves ≤ most)
      by o p q (none_left h) =
          let k : (match_of stored tree query).leaves ≤ most = omega (arith, leaves_are) in
          (settled_injective m (match_of stored tree query) (sym q ∙ sym p ∙ whole_settled k), k)
      by o p q (one_left next i h) = let z : ◌≡◌ {A = ℕ} 0 1 = cc in absurd (omega arith)

  -- the distance given is that of a stored trace
  at_most : d ≤ (match_so_far (limited_match most stored tree query)).distance
  unfolding distances_among
  at_most =
      let a : Near = near_or_zero (best_among stored tree query (take most (searched stored tree query).trail)) in
      let e : (match_so_far (limited_match most stored tree query)).distance ≡ a.distance =
      ap (λ (b : Near). b.distance) (answer_is n stored tree c.shape one query most at_least) in
      rw e (by a (from_flat (distances_in stored tree query) (take most (searched stored tree query).trail)
      (nearest n stored tree c.shape one query most at_least).among))
    where
      by : (a : Near) → InFlat (distances_in stored tree query) a (take most (searched stored tree query).trail) → d ≤ a.distance
      by a (flat k j g) = near_least stored tree query (from_distances n stored tree c all_n query lq one k g)

  -- the first unread leaf
  module _ (a : LeafBound) (e : at_place most full ≡ some a) (h : most < length full) where
    low : a.bound ≤ d
    unfolding leaves_r
    low =
        let i : In a order × T (leb a.bound d) = from_those (λ b. leb b.bound d) order (rw full_is_R at (place_in most full e)) in
        leb→le a.bound d i.1

    first_are : take most full ≡ take most order
    unfolding full_trail
    first_are =
        take-take most (length (searched stored tree query).trail) order
        (omega (arith, length-map full (λ (b : LeafBound). b.number), ap length (full_numbers stored tree query)))

    -- no leaf that is not read has a lesser bound
    lowest : (number : ℕ) → In number (leaves tree) → (In number (leaf_numbers (take most full)) → ⊥) → a.bound ≤ bound tree query number
    unfolding full_trail
    lowest number i out = by
        (behind most (reading_in_order tree query) a (place_of_first most (length (searched stored tree query).trail) order e)
        (in_reading tree query i))
      where
        by : In (with_bound tree query number) (take most order) ⊎ (a.bound ≤ bound tree query number) → a.bound ≤ bound tree query number
        by (inl j) = absurd (out (in_map (λ (b : LeafBound). b.number) (subst (In (with_bound tree query number)) (sym first_are) j)))
        by (inr k) = k

  else_between : (next : ℕ) (m : Match) → limited_match most stored tree query ≡ unsettled next m
      → UnsettledClaims stored tree query next m × (most < (match_of stored tree query).leaves)
  unfolding next_of best_in
  else_between next m e = by (limited_match most stored tree query) e which
    where
      by : (o : LimitedMatch) → o ≡ unsettled next m → Left m₀ most full o
          → UnsettledClaims stored tree query next m × (most < (match_of stored tree query).leaves)
      by o q (none_left h) = let z : ◌≡◌ {A = ℕ} 0 1 = cc in absurd (omega arith)
      by o q (one_left a i h) =
          let p : next ≡ a.bound = sym (ap next_of q) in
          let r : m ≡ m₀ = sym (ap match_so_far q) in (
            record {
              at_least = rw p (low a i h);
              at_most = rw (ap match_so_far e) at at_most;
              lowest_unread = λ number j out. rw p (lowest a i h number (is_in_lem number (leaves tree) j)
                  (λ g. T_not (is_in number m.trail) out (rw r (in_is g))));
            },
            omega (arith, leaves_are),
          )

  pub limit_claims : LimitClaims most stored tree query
  limit_claims = record {
    full_is_R = full_is_R;
    first_of_trail = steps.first_of_trail ∙ ap (take most) trail_is;
    leaf_count = steps.leaf_count ∙ ap (λ (l : List ℕ). length (take most l)) trail_is;
    no_more = steps.no_more ∙ ap (λ (k : ℕ). min most k) trail_leaves;
    whole_settled = whole_settled;
    settled_is_match = settled_is_match;
    else_between = else_between;
  }

-- of any well-formed tree with exact ranges, whoever made it
pub limit_of_exact : LimitOfExact
limit_of_exact limit m stored tree e one query lq most at_least =
    limit_claims m.n stored tree (of_exact stored tree (formed limit m (length stored) tree e.well_formed_lem) e.ranges) e.of_n
    query lq one most at_least
