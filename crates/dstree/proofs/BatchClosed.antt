-- A batch in closed form: with exact ranges the steps read the leaves of the union, and each query is answered as its match is. For one
-- query: no distance is below d, its distance alone, so that a bound at most d never stops it; and when the next bound is above d, every
-- leaf with a bound at most d was read, by this query or by one before it, and a nearest trace with it, so that it stops there. So it
-- reads the leaves of its match, each unless it was read before, and no other.
use Rattle.std.specs.Prelude.{if◌then◌else◌}
use Prim.Native.Nat.{ℕ, ◌≤◌, ◌<◌}
use mathlib.Core.Path.{◌≡◌, refl, sym, ◌∙◌, ap, subst}
use mathlib.Core.Logic.{◌⊎◌, inl, inr}
use mathlib.Core.Bool.{Bool, true, false}
use mathlib.Core.Option.{none, some}
use mathlib.Core.List.{List, [], ◌∷◌, ◌++◌, map, foldl, flatten, append-nil, foldl-append}
use native.Mathlib.Omega.{arith}
use native.Mathlib.Nat.{le_antisymm}
use lib.ListN.{length, get_or}
use lib.Dec.{T, leb}
use borrow.Author.Tests.{leb-true, leb-false}
use Rattle.integer.specs.Words.{those, is_in}
use Rattle.integer.proofs.Lists.{In, first, later, in_nil, in_cons, is_in_lem, in_is, InFlat, flat, from_flat, in_flat, map_agree, those_agree}
use Rattle.integer.proofs.Lists.{All, all_in, all_at, up_same, those_apart, map_apart, no_fewer}
use Rattle.segment.specs.Figures.{distance}
use Rattle.dstree.specs.Measures.{Trace}
use Rattle.dstree.specs.Node.{Tree}
use Rattle.dstree.specs.Matching.{bound, LeafBound, leaves, read_on, Near, near_at, distances_in, is_above, least_distance}
use Rattle.dstree.specs.Matching.{leaves_r, match_of}
use Rattle.dstree.specs.KNearest.{distances_among}
use Rattle.dstree.specs.Batch.{answer_in, wanted, batch_of, best_among, read_once, read_for, batch_read, near_or_zero, batch_by_steps}
use Rattle.dstree.specs.Batch.{WantedBy, BatchClaims, BatchOfExact, OneClaims}
use Rattle.dstree.proofs.Formed.{formed}
use Rattle.dstree.proofs.Containing.{Containing, of_exact}
use Rattle.dstree.proofs.Reading.{InOrder, order_none, order_more, with_bound, in_reading, reading_in_order, reading_apart}
use Rattle.dstree.proofs.Search.{AtLeast, fold_least, not_above, is_above_lem, none_in_R, IsNear, winner}
use Rattle.dstree.proofs.Closed.{trail_has, least_at_most, near_least, nearest, LeafOf, leaf_of, in_distances, from_distances}
use Rattle.dstree.proofs.Closed as closed
use Rattle.dstree.proofs.BatchSteps.{same_in, once_has, all_keeps, all_has, all_from, trail_up}
use Rattle.dstree.proofs.BatchSteps as steps

module _ (n : ℕ) (stored : List Trace) (tree : Tree) (c : Containing n stored tree)
    (all_n : (t : ℕ) → t < length stored → length (get_or stored t []) ≡ n) (one : 0 < length stored) where
  -- ---- one query

  module _ (query : Trace) (lq : length query ≡ n) where
    abbrev d : ℕ
    d = least_distance stored query

    abbrev R : List ℕ
    R = (match_of stored tree query).trail

    from_among : (read : List ℕ) {b : Near} → In b (distances_among stored tree query read) → IsNear stored query b
    unfolding distances_among
    from_among read {b} i = by (from_flat (distances_in stored tree query) read i)
      where
        by : InFlat (distances_in stored tree query) b read → IsNear stored query b
        by (flat k j g) = from_distances n stored tree c all_n query lq one k g

    -- no best is below d
    best_least : (read : List ℕ) → AtLeast d (best_among stored tree query read)
    unfolding best_among
    best_least read = fold_least d none tt (all_in (distances_among stored tree query read)
        (λ b i. near_least stored tree query (from_among read i)))

    -- with the leaves of R read, the best is the match's
    pub best_found : (read : List ℕ) → ((k : ℕ) → In k R → In k read) → best_among stored tree query read ≡ some
        (answer_in (match_of stored tree query))
    unfolding best_among match_of distances_among
    best_found read h =
        winner stored query d (nearest n stored tree c all_n query lq one) (least_at_most stored tree query)
        (distances_among stored tree query read)
        (λ b i. from_among read i) has
      where
        has : (t : ℕ) → t < length stored → distance query (get_or stored t []) ≡ d → In (near_at stored query t)
            (distances_among stored tree query read)
        has t g e =
            let o : LeafOf n stored tree c all_n query lq one t = leaf_of n stored tree c all_n query lq one t g in
            in_flat (distances_in stored tree query) (h o.at (trail_has stored tree query o.is_leaf (omega (arith, o.low))))
            (in_distances n stored tree c all_n query lq one t o.at o.holds)

    abbrev stop : List ℕ → ℕ → Bool
    stop so_far bound = is_above bound (best_among stored tree query so_far)

    -- the leaves of R are read or still to come
    abbrev Coming : List LeafBound → List ℕ → Type 0
    Coming l read = (k : ℕ) → In k R → In k read ⊎ In (with_bound tree query k) l

    abbrev in_r : List LeafBound → List LeafBound
    in_r = those (λ a. leb a.bound d)

    coming_on : (a : LeafBound) (rest : List LeafBound) (read : List ℕ) → Coming (a ∷ rest) read → Coming rest (read_once read a.number)
    coming_on a rest read h k i = by (h k i)
      where
        at : (with_bound tree query k ≡ a) ⊎ In (with_bound tree query k) rest → In k (read_once read a.number) ⊎ In
            (with_bound tree query k) rest
        at (inl e) = inl (subst (λ (j : ℕ). In j (read_once read a.number)) (sym (ap (λ (b : LeafBound). b.number) e))
            (once_has read a.number))
        at (inr j) = inr j

        by : In k read ⊎ In (with_bound tree query k) (a ∷ rest) → In k (read_once read a.number) ⊎ In (with_bound tree query k) rest
        by (inl j) = inl (all_keeps read (a.number ∷ []) j)
        by (inr j) = at (in_cons j)

    -- behind R all of it is read
    all_read : (a : LeafBound) (rest : List LeafBound) (read : List ℕ) → d < a.bound → All (λ b. a.bound ≤ b.bound) rest → Coming
        (a ∷ rest) read
        → (k : ℕ) → In k R → In k read
    all_read a rest read high o h k i = by (h k i)
      where
        low : bound tree query k ≤ d
        low = (closed.from_trail stored tree query i).1

        at : (with_bound tree query k ≡ a) ⊎ In (with_bound tree query k) rest → In k read
        at (inl e) = absurd (omega (arith, low, ap (λ (b : LeafBound). b.bound) e))
        at (inr j) = absurd (omega (arith, low, all_at o j))

        by : In k read ⊎ In (with_bound tree query k) (a ∷ rest) → In k read
        by (inl j) = j
        by (inr j) = at (in_cons j)

    at_most : (match_of stored tree query).distance ≤ d
    unfolding match_of
    at_most = omega arith

    reads : (read : List ℕ) {l : List LeafBound} → InOrder l → Coming l read
        → read_on stop read_once read l ≡ foldl read_once read (map (λ (a : LeafBound). a.number) (in_r l))
    unfolding read_on those
    reads read order_none h = refl
    reads read (order_more {a} {rest} o os) h = by (reads (read_once read a.number) os (coming_on a rest read h)) (leb a.bound d) refl
      where
        by : read_on stop read_once (read_once read a.number) rest ≡ foldl read_once (read_once read a.number)
            (map (λ (b : LeafBound). b.number) (in_r rest))
            → (t : Bool) → leb a.bound d ≡ t
            → (if stop read a.bound then read else read_on stop read_once (read_once read a.number) rest)
            ≡ foldl read_once read (map (λ (b : LeafBound). b.number) (if t then a ∷ in_r rest else in_r rest))
        by ih true e = rw (not_above d a.bound (best_among stored tree query read) (leb-true a.bound d e) (best_least read)) ih
        by ih false e =
            let high : d < a.bound = leb-false a.bound d e in
            let found = best_found read (all_read a rest read high o h) in
            let up : is_above a.bound (some (answer_in (match_of stored tree query))) ≡ true = is_above_lem d a.bound
            (some (answer_in (match_of stored tree query))) high at_most in
            rw (found, up, none_in_R stored tree query d a.bound high o)

    -- a query reads the leaves of its match that were not read before
    pub reads_match : (read : List ℕ) → read_for stored tree read query ≡ foldl read_once read R
    unfolding read_for match_of leaves_r
    reads_match read = reads read (reading_in_order tree query)
        (λ k i. inr (in_reading tree query (closed.from_trail stored tree query i).0))

  -- ---- query after query

  abbrev OfN : List Trace → Type 0
  OfN queries = (query : Trace) → In query queries → length query ≡ n

  reads_all : (read : List ℕ) (queries : List Trace) → OfN queries
      → foldl (read_for stored tree) read queries ≡ foldl read_once read (wanted stored tree queries)
  unfolding wanted flatten
  reads_all read [] h = refl
  reads_all read (q ∷ rest) h =
      let R = (match_of stored tree q).trail in
      ap (λ (l : List ℕ). foldl (read_for stored tree) l rest) (reads_match q (h q first) read)
      ∙ reads_all (foldl read_once read R) rest (λ p i. h p (later i))
      ∙ sym (foldl-append read_once read R (wanted stored tree rest))

  module _ (queries : List Trace) (of_n : OfN queries) where
    abbrev all : List ℕ
    all = wanted stored tree queries

    read_is : batch_read stored tree queries ≡ foldl read_once [] all
    unfolding batch_read
    read_is = reads_all [] queries of_n

    same_read : (k : ℕ) → is_in k (batch_read stored tree queries) ≡ is_in k all
    same_read k = rw read_is (same_in k (foldl read_once [] all) all (λ i. by (all_from [] all i)) (λ i. all_has [] i))
      where
        by : In k [] ⊎ In k all → In k all
        by (inl i) = absurd (in_nil i)
        by (inr i) = i

    -- a query's leaves are among those wanted
    in_wanted : {query : Trace} → In query queries → {k : ℕ} → In k (match_of stored tree query).trail → In k all
    unfolding wanted
    in_wanted i j = in_flat (λ (query : Trace). (match_of stored tree query).trail) i j

    answers_are : map (λ query. near_or_zero (best_among stored tree query (batch_read stored tree queries))) queries
        ≡ map (λ query. answer_in (match_of stored tree query)) queries
    unfolding near_or_zero
    answers_are =
        map_agree (λ query. near_or_zero (best_among stored tree query (batch_read stored tree queries)))
        (λ query. answer_in (match_of stored tree query)) queries
        (λ query i. ap near_or_zero (best_found query (of_n query i) (batch_read stored tree queries)
        (λ k j. rw read_is (all_has [] (in_wanted i j)))))

    steps_give_it : batch_by_steps stored tree queries ≡ batch_of stored tree queries
    unfolding batch_by_steps batch_of
    steps_give_it =
        let trails = those_agree (λ number. is_in number (batch_read stored tree queries)) (λ number. is_in number all) (leaves tree)
        (λ k i. same_read k) in
        rw (trails, answers_are)

    no_fewer_leaves : (query : Trace) → In query queries → (number : ℕ) → T (is_in number (match_of stored tree query).trail)
        → T (is_in number (batch_of stored tree queries).trail)
    unfolding batch_of
    no_fewer_leaves query i number t =
        let j : In number (match_of stored tree query).trail = is_in_lem number (match_of stored tree query).trail t in
        in_is (steps.in_trail tree all (closed.from_trail stored tree query j).0 (in_wanted i j))

    no_more_leaves : (number : ℕ) → T (is_in number (batch_of stored tree queries).trail) → WantedBy stored tree queries number
    unfolding batch_of wanted
    no_more_leaves number t =
        by (from_flat (λ (query : Trace). (match_of stored tree query).trail) queries
        (steps.from_trail tree all (is_in_lem number (batch_of stored tree queries).trail t)))
      where
        by : InFlat (λ (query : Trace). (match_of stored tree query).trail) number queries → WantedBy stored tree queries number
        by (flat query i j) = record { query = query; one_of = i; reads = in_is j }

    pub batch_claims : BatchClaims stored tree queries
    batch_claims = record { steps_give_it = steps_give_it; no_fewer = no_fewer_leaves; no_more = no_more_leaves }

pub batch_of_exact : BatchOfExact
batch_of_exact limit m stored tree e one queries of_n =
    batch_claims m.n stored tree (of_exact stored tree (formed limit m (length stored) tree e.well_formed_lem) e.ranges)
    e.of_n one queries of_n

-- ---- a batch of one

module _ (stored : List Trace) (tree : Tree) (query : Trace) where
  abbrev alone : List ℕ
  alone = (match_of stored tree query).trail

  abbrev trail : List ℕ
  trail = (batch_of stored tree (query ∷ [])).trail

  one_from : {k : ℕ} → In k trail → In k alone
  unfolding batch_of wanted flatten
  one_from {k} i = subst (In k) (append-nil alone) (steps.from_trail tree (alone ++ []) i)

  one_in : {k : ℕ} → In k alone → In k trail
  unfolding batch_of wanted flatten
  one_in {k} i = steps.in_trail tree (alone ++ []) (closed.from_trail stored tree query i).0 (subst (In k) (sym (append-nil alone)) i)

  pub one_claims : OneClaims stored tree query
  unfolding batch_of match_of leaves_r
  one_claims = record {
    same_leaves = λ k. same_in k trail alone one_from one_in;
    as_many =
        le_antisymm (no_fewer (λ (j : ℕ). j) alone (up_same (trail_up tree (wanted stored tree (query ∷ [])))) (λ k i. one_from i))
        (no_fewer (λ (j : ℕ). j) trail
        (map_apart (λ (a : LeafBound). a.number)
        (those_apart (λ (a : LeafBound). a.number) (λ a. leb a.bound (least_distance stored query)) (reading_apart tree query)))
        (λ k i. one_in i));
  }
