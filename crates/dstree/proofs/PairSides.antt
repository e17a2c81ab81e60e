-- One of two libraries searched together, at any distance d that is at most each of its own: what its leaves with a bound at most d give.
-- It may be empty, and it may be that none of its traces is at d.
use Prim.Native.Nat.{ℕ, suc, ◌≤◌, ◌<◌}
use mathlib.Core.Path.{◌≡◌, refl, sym, ◌∙◌, ap, subst}
use mathlib.Core.Bool.{Bool, true, false, not}
use mathlib.Core.Option.{none, some}
use mathlib.Core.List.{List, [], map}
use native.Mathlib.Omega.{arith}
use native.Mathlib.Decide.{dec_le}
use native.Mathlib.Nat.{lt_of_not-le}
use lib.ListN.{length, get_or, length-map}
use lib.Dec.{T, T_not, leb, leb→le, le→leb}
use Rattle.integer.specs.Words.{is_in, counting, those}
use Rattle.integer.proofs.Lists.{strict, In, in_is, is_in_lem, in_get_or, in_map, InMap, of, from_map, InFlat, flat, from_flat, in_flat}
use Rattle.integer.proofs.Lists.{from_those, in_those, all_in, Some, some_of, those_apart, no_fewer}
use Rattle.segment.specs.Figures.{distance}
use Rattle.dstree.specs.Measures.{Trace}
use Rattle.dstree.specs.Node.{node_at}
use Rattle.dstree.specs.Matching.{bound, LeafBound, numbers_in, leaves, reading_order, Near, near_at, Search, distances_in}
use Rattle.dstree.specs.Matching.{leaves_r}
use Rattle.dstree.specs.Claims.{numbers_among}
use Rattle.dstree.specs.KNearest.{SameIn, leaves_in, LeavesOutAbove}
use Rattle.dstree.specs.Pair.{Indexed, traces_read, nearest_in, trail_to, traces_in_set}
use Rattle.dstree.proofs.Containing.{Containing}
use Rattle.dstree.proofs.Reading.{reading_of, in_reading, reading_in_order, reading_apart}
use Rattle.dstree.proofs.Search.{AtLeast, fold_least, Hit, SameDistances, read_all, nears_read, read_trail, read_traces, read_best}
use Rattle.dstree.proofs.Search.{LowestAt, lowest, IsNear, is_near, winner}
use Rattle.dstree.proofs.Closed.{LeafOf, leaf_of}
use Rattle.dstree.proofs.OffTrail.{alike_in}
use Rattle.dstree.proofs.PairSteps.{Coming}

-- ---- the leaves with a bound at most d

module _ (l : Indexed) (query : Trace) (d : ℕ) where
  abbrev R : List LeafBound
  R = leaves_r l.tree query d

  pub trail_has : {k : ℕ} → In k (leaves l.tree) → bound l.tree query k ≤ d → In k (trail_to d l query)
  unfolding trail_to leaves_r
  trail_has {k} i h = in_map (λ (a : LeafBound). a.number)
      (in_those (λ a. leb a.bound d) (in_reading l.tree query i) (le→leb (bound l.tree query k) d h))

  pub from_trail : {k : ℕ} → In k (trail_to d l query) → In k (leaves l.tree) × (bound l.tree query k ≤ d)
  unfolding trail_to leaves_r
  from_trail {k} i = by (from_map (λ (a : LeafBound). a.number) R i)
    where
      by : InMap (λ (a : LeafBound). a.number) k R → In k (leaves l.tree) × (bound l.tree query k ≤ d)
      by (of a j e) =
          let h : In a (reading_order l.tree query) × T (leb a.bound d) =
          from_those (λ a. leb a.bound d) (reading_order l.tree query) j in
          (rw e (reading_of l.tree query h.0).0, rw e (omega (arith, (reading_of l.tree query h.0).1, leb→le a.bound d h.1)))

  pub out_of_trail : (k : ℕ) → T (is_in k (leaves l.tree)) → T (not (is_in k (trail_to d l query))) → d < bound l.tree query k
  out_of_trail k i out = by (dec_le (bound l.tree query k) d)
    where
      by : Dec (bound l.tree query k ≤ d) → d < bound l.tree query k
      by (yes h) = absurd (T_not (is_in k (trail_to d l query)) out (in_is (trail_has (is_in_lem k (leaves l.tree) i) h)))
      by (no f) = lt_of_not-le f

  -- a set that leaves out only bounds above a distance that is d or more has them all
  pub in_set : (set : ℕ → Bool) (e : ℕ) → d ≤ e → LeavesOutAbove l.tree query set e → (k : ℕ) → In k (trail_to d l query) → T (set k)
  in_set set e h out k i = by (set k) refl
    where
      by : (t : Bool) → set k ≡ t → T t
      by true q = tt
      by false q = absurd (omega (arith, out k (in_is (from_trail i).0) (rw q tt), (from_trail i).1))

  -- .. so it has at least as many leaves
  pub as_many : (set : ℕ → Bool) (e : ℕ) → d ≤ e → LeavesOutAbove l.tree query set e → length (trail_to d l query) ≤ length (leaves_in l.tree set)
  unfolding trail_to leaves_r
  as_many set e h out = rw (length-map R (λ (a : LeafBound). a.number))
      (no_fewer (λ (a : LeafBound). a.number) (leaves_in l.tree set)
      (those_apart (λ (a : LeafBound). a.number) (λ a. leb a.bound d) (reading_apart l.tree query))
      (λ a i. let j : In a.number (trail_to d l query) = in_map (λ (b : LeafBound). b.number) i in
      in_those set (from_trail j).0 (in_set set e h out a.number j)))

-- ---- what they hold

module _ (n : ℕ) (l : Indexed) (c : Containing n l.traces l.tree)
    (all_n : (t : ℕ) → t < length l.traces → length (get_or l.traces t []) ≡ n) (query : Trace) (lq : length query ≡ n) where
  -- a distance in a leaf is that of a stored trace
  from_leaf : (k : ℕ) {x : Near} → In x (distances_in l.traces l.tree query k) → IsNear l.traces query x
  unfolding distances_in
  from_leaf k {x} i = by (from_map (near_at l.traces query) (numbers_in (node_at l.tree k).kind) i)
    where
      by : InMap (near_at l.traces query) x (numbers_in (node_at l.tree k).kind) → IsNear l.traces query x
      by (of t j e) = is_near t (c.shape.numbers t k (in_is j)) e

  -- an empty library has no leaf
  pub no_leaf : l.traces ≡ [] → leaves l.tree ≡ []
  unfolding leaves counting those
  no_leaf e = rw (c.shape.no_node (ap length e))

  -- a trace in a set of leaves is a stored one
  pub held_stored : (set : ℕ → Bool) (d : ℕ) → ((t : ℕ) → t < length l.traces → d ≤ distance query (get_or l.traces t []))
      → {x : Trace} → In x (traces_in_set l set) → d ≤ distance query x
  unfolding numbers_among
  held_stored set d low {x} i = by (from_map (λ (t : ℕ). get_or l.traces t []) (numbers_among l.tree (leaves_in l.tree set)) i)
    where
      at : (t : ℕ) → InFlat (λ (number : ℕ). numbers_in (node_at l.tree number).kind) t (leaves_in l.tree set) → t < length l.traces
      at t (flat k j g) = c.shape.numbers t k (in_is g)

      by : InMap (λ (t : ℕ). get_or l.traces t []) x (numbers_among l.tree (leaves_in l.tree set)) → d ≤ distance query x
      by (of t j e) = rw e (low t (at t (from_flat (λ (number : ℕ). numbers_in (node_at l.tree number).kind) (leaves_in l.tree set) j)))

  module _ (d : ℕ) (low : (t : ℕ) → t < length l.traces → d ≤ distance query (get_or l.traces t [])) where
    abbrev At : Type 0
    At = In d (map (distance query) l.traces)

    near_low : {x : Near} → IsNear l.traces query x → d ≤ x.distance
    near_low (is_near t h e) = rw e (low t h)

    leaf_at : (t : ℕ) (h : t < length l.traces) → LeafOf n l.traces l.tree c all_n query lq (omega arith) t
    leaf_at t h = leaf_of n l.traces l.tree c all_n query lq (omega arith) t h

    pub lowest_at : At → LowestAt d l.traces query 0
    lowest_at i = lowest d l.traces query 0 i

    -- a trace at d lies in one of the leaves with a bound at most d
    pub record HeldAt : Type 0 where
      pub trace : Trace
      pub held : In trace (traces_in_set l (λ number. is_in number (trail_to d l query)))
      pub at : distance query trace ≡ d

    pub held_at : At → HeldAt
    unfolding numbers_among
    held_at i =
        let o : LowestAt d l.traces query 0 = lowest_at i in
        let g = leaf_at o.place o.inside in
        let read : In g.at (trail_to d l query) = trail_has l query d g.is_leaf (omega (arith, g.low, o.at)) in
        record {
          trace = get_or l.traces o.place [];
          held = in_map (λ (t : ℕ). get_or l.traces t []) (in_flat (λ (number : ℕ). numbers_in (node_at l.tree number).kind)
              (in_those (λ number. is_in number (trail_to d l query)) g.is_leaf (in_is read)) g.holds);
          at = o.at;
        }

    -- ---- the leaves to come, before anything is read

    pub coming : (other : List Trace) → SameIn l.tree (trail_to d l query) l.traces other
        → Coming query d l other (reading_order l.tree query)
    coming other same = record {
      in_order = reading_in_order l.tree query;
      far = all_in (reading_order l.tree query)
          (λ a i. all_in (distances_in l.traces l.tree query a.number) (λ x j. near_low (from_leaf a.number j)));
      alike = all_in (reading_order l.tree query) alike;
    }
      where
        alike : (a : LeafBound) → In a (reading_order l.tree query) → SameDistances l.traces l.tree query d other a
        alike a i h = alike_in l.traces other l.tree query (trail_to d l query) same a.number
            (trail_has l query d (reading_of l.tree query i).0 (omega (arith, (reading_of l.tree query i).1)))

    pub hit : At → Some (Hit l.traces l.tree query d) (reading_order l.tree query)
    unfolding distances_in
    hit i =
        let o : LowestAt d l.traces query 0 = lowest_at i in
        let g = leaf_at o.place o.inside in
        some_of (in_reading l.tree query g.is_leaf) (record {
          low = rw o.at at g.low;
          has = some_of (in_map (near_at l.traces query) g.holds) (omega (arith, o.at));
        })

    -- ---- what is read

    abbrev pub found : Search
    found = read_all l.traces l.tree query d (record { best = none; traces = 0; trail = [] }) (R l query d)

    abbrev nears : List Near
    nears = nears_read l.traces l.tree query d (R l query d)

    nears_of : (x : Near) → In x nears → IsNear l.traces query x
    nears_of x i = by (from_flat (λ (a : LeafBound). distances_in l.traces l.tree query a.number) (R l query d) i)
      where
        by : InFlat (λ (a : LeafBound). distances_in l.traces l.tree query a.number) x (R l query d) → IsNear l.traces query x
        by (flat a j g) = from_leaf a.number g

    nears_have : (t : ℕ) → t < length l.traces → distance query (get_or l.traces t []) ≡ d → In (near_at l.traces query t) nears
    unfolding leaves_r distances_in
    nears_have t h e =
        let g = leaf_at t h in
        in_flat (λ (a : LeafBound). distances_in l.traces l.tree query a.number)
        (in_those (λ a. leb a.bound d) (in_reading l.tree query g.is_leaf) (le→leb (bound l.tree query g.at) d (omega (arith, g.low, e))))
        (in_map (near_at l.traces query) g.holds)

    -- a library with a trace at d: the lowest number there
    pub best_at : At → found.best ≡ some (nearest_in d l query)
    unfolding nearest_in
    best_at i = read_best l.traces l.tree query d (record { best = none; traces = 0; trail = [] }) (R l query d)
        ∙ winner l.traces query d (lowest_at i) low nears nears_of nears_have

    pub best_least : AtLeast d found.best
    best_least = rw (read_best l.traces l.tree query d (record { best = none; traces = 0; trail = [] }) (R l query d))
        (fold_least d none tt (all_in nears (λ x i. near_low (nears_of x i))))

    -- .. and one with none there: farther ones, or nothing
    pub best_farther : (At → ⊥) → AtLeast (suc d) found.best
    best_farther not = rw (read_best l.traces l.tree query d (record { best = none; traces = 0; trail = [] }) (R l query d))
        (fold_least (suc d) none tt (all_in nears (λ x i. farther (nears_of x i))))
      where
        farther : {x : Near} → IsNear l.traces query x → suc d ≤ x.distance
        farther (is_near t h e) = rw e (strict (low t h)
            (λ q. not (subst (λ (k : ℕ). In k (map (distance query) l.traces)) (sym q) (in_map (distance query) (in_get_or l.traces t [] h)))))

    pub trail_is : found.trail ≡ trail_to d l query
    unfolding trail_to
    trail_is = read_trail l.traces l.tree query d (record { best = none; traces = 0; trail = [] }) (R l query d)

    pub traces_are : found.traces ≡ traces_read l (trail_to d l query)
    unfolding traces_read trail_to
    traces_are = read_traces l.traces l.tree query d (record { best = none; traces = 0; trail = [] }) (R l query d) ∙ omega arith
