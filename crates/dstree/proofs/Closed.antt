-- The match in closed form: the steps of the search give it, and R, the leaves with a bound at most the least distance d, is what they
-- read. The search law of `Search` at d: no distance is below d, and the leaf of a nearest trace has a bound at most d, for a bound is
-- never above the distance.
use Prim.Native.Nat.{ℕ, ◌≤◌, ◌<◌}
use mathlib.Core.Path.{◌≡◌, refl, ◌∙◌, ap}
use mathlib.Core.Logic.{inr}
use mathlib.Core.Bool.{Bool, true, false, not}
use mathlib.Core.Option.{none, some}
use mathlib.Core.List.{List, [], ◌∷◌, map}
use native.Mathlib.Omega.{arith}
use native.Mathlib.Decide.{dec_le}
use native.Mathlib.Nat.{lt_of_not-le}
use lib.ListN.{length, get_or, length-map}
use lib.Dec.{T, T_not, leb, leb→le, le→leb}
use Rattle.integer.specs.Words.{every, is_in, is_empty, total}
use Rattle.integer.proofs.Lists.{In, first, in_is, is_in_lem, some_in, in_get_or, in_map, InMap, of, from_map, map_agree, InFlat, flat}
use Rattle.integer.proofs.Lists.{from_flat, in_flat, agree_in, from_those, in_those, every_of, from_every, All, all_in, Some, some_of}
use Rattle.integer.proofs.Lists.{least_low, least_in, those_apart, no_fewer}
use Rattle.segment.specs.Figures.{distance}
use Rattle.dstree.specs.Measures.{Trace}
use Rattle.dstree.specs.Node.{Kind, leaf, inner, Tree, node_at}
use Rattle.dstree.specs.Adding.{traces_of}
use Rattle.dstree.specs.Matching.{bound, LeafBound, is_leaf_kind, numbers_in, leaves, reading_order, Near, near_at, Search, distances_in, search_on}
use Rattle.dstree.specs.Matching.{searched, match_from, match_by_steps, least_distance, lowest_at, leaves_r, match_of}
use Rattle.dstree.specs.Claims.{of_leaf, numbers_among, LeavesOutOnlyAbove, ClaimsOf, ClaimsOfExact}
use Rattle.dstree.proofs.Formed.{Kept, formed}
use Rattle.dstree.proofs.Containing.{Containing, of_exact}
use Rattle.dstree.proofs.Bounds.{bound_at_most}
use Rattle.dstree.proofs.Reading.{kept_leaf, from_leaves, reading_of, in_reading, reading_in_order, reading_apart}
use Rattle.dstree.proofs.Search.{Far, Hit, SameDistances, read_all, reads_R, nears_read, read_trail, read_traces, read_best, LowestAt, lowest, IsNear, is_near, winner}

-- ---- R

module _ (stored : List Trace) (tree : Tree) (query : Trace) where
  abbrev pub trail : List ℕ
  trail = (match_of stored tree query).trail

  pub trail_has : {k : ℕ} → In k (leaves tree) → bound tree query k ≤ least_distance stored query → In k trail
  unfolding match_of leaves_r
  trail_has {k} i h = in_map (λ (a : LeafBound). a.number)
      (in_those (λ a. leb a.bound (least_distance stored query)) (in_reading tree query i) (le→leb (bound tree query k) (least_distance stored query) h))

  pub from_trail : {k : ℕ} → In k trail → In k (leaves tree) × (bound tree query k ≤ least_distance stored query)
  unfolding match_of leaves_r
  from_trail {k} i = by (from_map (λ (a : LeafBound). a.number) (leaves_r tree query (least_distance stored query)) i)
    where
      by : InMap (λ (a : LeafBound). a.number) k (leaves_r tree query (least_distance stored query)) → In k (leaves tree) × (bound tree query k ≤ least_distance stored query)
      by (of a j e) =
          let h : In a (reading_order tree query) × T (leb a.bound (least_distance stored query)) = from_those (λ a. leb a.bound (least_distance stored query)) (reading_order tree query) j in
          (rw e (reading_of tree query h.0).0, rw e (omega (arith, (reading_of tree query h.0).1, leb→le a.bound (least_distance stored query) h.1)))

  -- "R leaves out only bounds above d"
  pub out_of_R : (number : ℕ) → T (is_in number (leaves tree)) → T (not (is_in number trail)) → least_distance stored query < bound tree query number
  out_of_R number i out = by (dec_le (bound tree query number) (least_distance stored query))
    where
      by : Dec (bound tree query number ≤ least_distance stored query) → least_distance stored query < bound tree query number
      by (yes h) = absurd (T_not (is_in number trail) out (in_is (trail_has (is_in_lem number (leaves tree) i) h)))
      by (no f) = lt_of_not-le f

  -- d is at most each distance
  pub least_at_most : (t : ℕ) → t < length stored → least_distance stored query ≤ distance query (get_or stored t [])
  unfolding least_distance
  least_at_most t h = least_low (in_map (distance query) (in_get_or stored t [] h))

  pub near_least : {b : Near} → IsNear stored query b → least_distance stored query ≤ b.distance
  near_least (is_near t h e) = rw e (least_at_most t h)

  module _ (n : ℕ) (c : Containing n stored tree) where
    of_numbers : (numbers : List ℕ) (t : ℕ) → In t numbers → ((u : ℕ) → In u numbers → u < length stored) → least_distance stored query ≤ least_distance (traces_of stored numbers) query
    unfolding least_distance
    of_numbers numbers t i h =
        at (least_distance (traces_of stored numbers) query)
        (from_map (distance query) (traces_of stored numbers)
        (least_in (map (distance query) (traces_of stored numbers)) (some_in (in_map (distance query) (in_map (λ (k : ℕ). get_or stored k []) i)))))
      where
        to : (x : Trace) → InMap (λ (k : ℕ). get_or stored k []) x numbers → least_distance stored query ≤ distance query x
        to x (of u j e) = rw e (least_at_most u (h u j))

        at : (v : ℕ) → InMap (distance query) v (traces_of stored numbers) → least_distance stored query ≤ v
        at v (of x j e) = rw e (to x (from_map (λ (k : ℕ). get_or stored k []) numbers j))

    among_stored : (set : List ℕ) (u : ℕ) → In u (numbers_among tree set) → u < length stored
    unfolding numbers_among
    among_stored set u i = by (from_flat (λ (number : ℕ). numbers_in (node_at tree number).kind) set i)
      where
        by : InFlat (λ (number : ℕ). numbers_in (node_at tree number).kind) u set → u < length stored
        by (flat k j g) = c.shape.numbers u k (in_is g)

    -- a leaf has a trace
    record Has (k : ℕ) : Type 0 where
      trace : ℕ
      holds : In trace (numbers_in (node_at tree k).kind)

    leaf_has : {k : ℕ} → In k (leaves tree) → Has k
    unfolding is_leaf_kind numbers_in
    leaf_has {k} i = by (node_at tree k).kind refl (from_leaves tree i).1
      where
        one : (l : List ℕ) → (node_at tree k).kind ≡ leaf l → 0 < length l → Has k
        one [] e h = absurd (omega arith)
        one (t ∷ l) e h = record { trace = t; holds = rw e first }

        by : (a : Kind) → (node_at tree k).kind ≡ a → T (is_leaf_kind a) → Has k
        by (leaf l) e t = one l e (c.shape.full k (from_leaves tree i).0 l e)
        by (inner test l r) e t = absurd t

    -- no distance in some leaves, one or more, is below d
    set_least : (set : List ℕ) → T (not (is_empty set)) → T (every (λ number. is_in number (leaves tree)) set)
        → least_distance stored query ≤ least_distance (traces_of stored (numbers_among tree set)) query
    unfolding numbers_among is_empty
    set_least [] t e = absurd t
    set_least (k ∷ set) t e =
        let h : Has k = leaf_has (is_in_lem k (leaves tree) (from_every (λ number. is_in number (leaves tree)) (k ∷ set) e first)) in
        of_numbers (numbers_among tree (k ∷ set)) h.trace (in_flat (λ (number : ℕ). numbers_in (node_at tree number).kind) (first {rest = set}) h.holds) (among_stored (k ∷ set))

    in_set : (set : List ℕ) → LeavesOutOnlyAbove stored tree query set → {k : ℕ} → In k trail → T (is_in k set)
    in_set set out {k} i = by (is_in k set) refl
      where
        by : (b : Bool) → is_in k set ≡ b → T b
        by true e = tt
        by false e = omega (arith, out.out_is_above k (in_is (from_trail i).0) (rw e tt), (from_trail i).1, set_least set out.one_or_more out.of_leaves)

    -- "Any set of one leaf or more that leaves out only bounds above the least distance in the set contains R"
    pub contains_R : (set : List ℕ) → LeavesOutOnlyAbove stored tree query set → T (every (λ number. is_in number set) trail)
    contains_R set out = every_of (λ number. is_in number set) trail (λ k i. in_set set out i)

    -- ".. so it has at least as many leaves as the answer counts"
    pub fewest : (set : List ℕ) → LeavesOutOnlyAbove stored tree query set → (match_of stored tree query).leaves ≤ length set
    unfolding match_of leaves_r
    fewest set out =
        let R : List LeafBound = leaves_r tree query (least_distance stored query) in
        rw (length-map R (λ (a : LeafBound). a.number))
        (no_fewer (λ (a : LeafBound). a.number) set (those_apart (λ (a : LeafBound). a.number) (λ a. leb a.bound (least_distance stored query)) (reading_apart tree query))
        (λ a i. is_in_lem a.number set (in_set set out (in_map (λ (b : LeafBound). b.number) i))))

-- ---- the search

answer_is : (s : Search) (w : Near) (trail : List ℕ) (traces : ℕ) → s.best ≡ some w → s.trail ≡ trail → s.traces ≡ traces → match_from s
    s.best ≡ some (record { trace = w.trace; distance = w.distance; leaves = length trail; traces = traces; trail = trail })
unfolding match_from
answer_is s w trail traces b t n = rw (b, t, n)

module _ (n : ℕ) (stored : List Trace) (tree : Tree) (c : Containing n stored tree)
    (all_n : (t : ℕ) → t < length stored → length (get_or stored t []) ≡ n) (query : Trace) (lq : length query ≡ n) (one : 0 < length stored) where
  abbrev d : ℕ
  d = least_distance stored query

  abbrev order : List LeafBound
  order = reading_order tree query

  abbrev R : List LeafBound
  R = leaves_r tree query d

  pub nearest : LowestAt d stored query 0
  unfolding least_distance
  nearest = lowest d stored query 0 (least_in (map (distance query) stored) (rw (length-map stored (distance query)) one))

  -- a stored trace is in a leaf, and the leaf's bound is at most its distance
  pub record LeafOf (t : ℕ) : Type 0 where
    pub at : ℕ
    pub is_leaf : In at (leaves tree)
    pub holds : In t (numbers_in (node_at tree at).kind)
    pub low : bound tree query at ≤ distance query (get_or stored t [])

  pub leaf_of : (t : ℕ) → t < length stored → LeafOf t
  leaf_of t h = by (c.shape.kept t h)
    where
      by : Kept tree t → LeafOf t
      by k = record {
        at = k.at;
        is_leaf = kept_leaf k;
        holds = is_in_lem t (numbers_in (node_at tree k.at).kind) k.holds;
        low = bound_at_most n stored tree c query all_n lq k.at t (of_leaf k.holds);
      }

  pub in_distances : (t k : ℕ) → In t (numbers_in (node_at tree k).kind) → In (near_at stored query t) (distances_in stored tree query k)
  unfolding distances_in
  in_distances t k i = in_map (near_at stored query) i

  pub from_distances : (k : ℕ) {b : Near} → In b (distances_in stored tree query k) → IsNear stored query b
  unfolding distances_in
  from_distances k {b} i = by (from_map (near_at stored query) (numbers_in (node_at tree k).kind) i)
    where
      by : InMap (near_at stored query) b (numbers_in (node_at tree k).kind) → IsNear stored query b
      by (of t j e) = is_near t (c.shape.numbers t k (in_is j)) e

  far : All (Far stored tree query d) order
  far = all_in order (λ a i. all_in (distances_in stored tree query a.number)
      (λ b j. near_least stored tree query (from_distances a.number j)))

  hit : Some (Hit stored tree query d) order
  hit = some_of (in_reading tree query o.is_leaf) (record { low = rw nearest.at at o.low; has = some_of (in_distances t o.at o.holds) (omega (arith, nearest.at)) })
    where
      t : ℕ
      t = nearest.place

      o : LeafOf t
      o = leaf_of t nearest.inside

  abbrev start : Search
  start = record { best = none; traces = 0; trail = [] }

  -- the distances in R: each of a stored trace, and all those that are d
  nears_of : (b : Near) → In b (nears_read stored tree query d R) → IsNear stored query b
  nears_of b i = by (from_flat (λ (a : LeafBound). distances_in stored tree query a.number) R i)
    where
      by : InFlat (λ (a : LeafBound). distances_in stored tree query a.number) b R → IsNear stored query b
      by (flat a j k) = from_distances a.number k

  nears_have : (t : ℕ) → t < length stored → distance query (get_or stored t []) ≡ d → In (near_at stored query t) (nears_read stored tree query d R)
  unfolding leaves_r
  nears_have t h e =
      in_flat (λ (a : LeafBound). distances_in stored tree query a.number)
      (in_those (λ a. leb a.bound d) (in_reading tree query o.is_leaf) (le→leb (bound tree query o.at) d (omega (arith, o.low)))) (in_distances t o.at o.holds)
    where
      o : LeafOf t
      o = leaf_of t h

  -- the search on traces that give the leaves of R the same distances
  state : (other : List Trace) → All (SameDistances stored tree query d other) order → search_on other tree query start order ≡ read_all stored tree query d start R
  unfolding leaves_r
  state other alike = reads_R stored tree query d other start (reading_in_order tree query) far alike tt (inr hit)

  alike_gives : (other : List Trace) → All (SameDistances stored tree query d other) order → match_by_steps other tree query ≡ some (match_of stored tree query)
  unfolding match_by_steps searched match_of
  alike_gives other alike =
      rw (state other alike) (answer_is (read_all stored tree query d start R) (record { trace = lowest_at 0 d stored query; distance = d }) (map (λ (a : LeafBound). a.number) R)
      (total (map (λ number. length (numbers_in (node_at tree number).kind)) (map (λ (a : LeafBound). a.number) R)))
      (read_best stored tree query d start R ∙ winner stored query d nearest (least_at_most stored tree query) (nears_read stored tree query d R) nears_of nears_have)
      (read_trail stored tree query d start R)
      (read_traces stored tree query d start R ∙ omega arith))

  -- other traces that agree with these in R
  agree_alike : (other : List Trace)
      → traces_of other (numbers_among tree (trail stored tree query)) ≡ traces_of stored (numbers_among tree (trail stored tree query))
      → (a : LeafBound) → In a order → SameDistances stored tree query d other a
  unfolding numbers_among distances_in
  agree_alike other e a i h =
      map_agree (near_at other query) (near_at stored query) (numbers_in (node_at tree a.number).kind)
      (λ t j. ap (λ (x : Trace). record { trace = t; distance = distance query x }) (agree_in (λ (k : ℕ). get_or other k []) (λ (k : ℕ). get_or stored k []) e
      (in_flat (λ (number : ℕ). numbers_in (node_at tree number).kind) (trail_has stored tree query (reading_of tree query i).0 (omega (arith, (reading_of tree query i).1))) j)))

  -- R is itself a set that leaves out only bounds above the least distance in it: the leaf of a nearest trace is in R
  nearest_leaf : LeafOf nearest.place
  nearest_leaf = leaf_of nearest.place nearest.inside

  nearest_in : In nearest_leaf.at (trail stored tree query)
  nearest_in = trail_has stored tree query nearest_leaf.is_leaf (omega (arith, nearest_leaf.low, nearest.at))

  filled : (l : List ℕ) {k : ℕ} → In k l → T (not (is_empty l))
  unfolding is_empty
  filled [] i = absurd (omega (arith, some_in i))
  filled (a ∷ l) i = tt

  R_least : least_distance (traces_of stored (numbers_among tree (trail stored tree query))) query ≤ d
  unfolding least_distance numbers_among
  R_least =
      let t : ℕ = nearest.place in
      let i = in_map (distance query) (in_map (λ (k : ℕ). get_or stored k []) (in_flat (λ (number : ℕ). numbers_in (node_at tree number).kind) nearest_in nearest_leaf.holds)) in
      omega (arith, least_low i, nearest.at)

  R_itself : LeavesOutOnlyAbove stored tree query (trail stored tree query)
  R_itself = record {
    one_or_more = filled (trail stored tree query) nearest_in;
    of_leaves = every_of (λ number. is_in number (leaves tree)) (trail stored tree query) (λ k i. in_is (from_trail stored tree query i).0);
    out_is_above = λ number i out. omega (arith, R_least, out_of_R stored tree query number i out);
  }

  pub claims_of : ClaimsOf stored tree query
  claims_of = record {
    R_itself = R_itself;
    bound_at_most = bound_at_most n stored tree c query all_n lq;
    steps_give_it = alike_gives stored (all_in order (λ a i h. refl));
    others_do_not_bear = λ other e. alike_gives other (all_in order (agree_alike other e));
    out_of_R = out_of_R stored tree query;
    contains_R = contains_R stored tree query n c;
    fewest = fewest stored tree query n c;
  }

-- of any well-formed tree with exact ranges, whoever made it
pub match_exact : ClaimsOfExact
match_exact limit m stored tree e query one lq =
    claims_of m.n stored tree (of_exact stored tree (formed limit m (length stored) tree e.well_formed_lem) e.ranges) e.of_n query lq one
