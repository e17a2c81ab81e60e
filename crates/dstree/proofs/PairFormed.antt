-- A search over two libraries on any well-formed tables, one of which has a trace. The first leaf in order is read and has a trace, so that
-- there is an answer. It is a stored trace, the nearest of those read, the factory's on equal distance.
use Rattle.std.specs.Prelude.{if◌then◌else◌}
use Prim.Native.Nat.{ℕ, ◌+◌, ◌≤◌, ◌<◌}
use mathlib.Core.Path.{◌≡◌, refl, ap, subst}
use mathlib.Core.Logic.{◌⊎◌, inl, inr}
use mathlib.Core.Bool.{Bool, true, false}
use mathlib.Core.Option.{none}
use mathlib.Core.List.{List, [], ◌∷◌, map, foldl}
use native.Mathlib.Omega.{arith}
use native.Mathlib.Decide.{dec_le}
use native.Mathlib.Nat.{lt_of_not-le}
use lib.ListN.{length, get_or, length-map}
use lib.Dec.{ltb}
use borrow.Author.Tests.{ltb-true, ltb-false}
use Rattle.integer.proofs.Lists.{In, first, in_nil, in_is, some_in, in_get_or, InMap, of, from_map, InFlat, flat, from_flat, in_flat}
use Rattle.segment.specs.Figures.{distance}
use Rattle.dstree.specs.Measures.{Trace}
use Rattle.dstree.specs.Node.{node_at}
use Rattle.dstree.specs.Formed.{Shape}
use Rattle.dstree.specs.Matching.{LeafBound, numbers_in, reading_order, Near, near_at, nearer, best_with, distances_in, read_leaf, is_above}
use Rattle.dstree.specs.KNearest.{distances_among}
use Rattle.dstree.specs.Batch.{best_among, NearestOf}
use Rattle.dstree.specs.Pair.{Indexed, Which, of_factory, of_bench, by_which, PairMatch, JointLeaf, factory_leaf, bench_leaf, Merged, merged_none}
use Rattle.dstree.specs.Pair.{factory_first, bench_first, is_above_both, read_joint, pair_on, Winner, won, winner_of, pair_from, nothing_yet}
use Rattle.dstree.specs.Pair.{pair_along, pair_by_steps}
use Rattle.dstree.specs.Pair.{distances_read, PairAnswered, PairStepsOfFormed}
use Rattle.dstree.proofs.Formed.{formed}
use Rattle.dstree.proofs.Reading.{kept_leaf, leaf_full, reading_of, in_reading}
use Rattle.dstree.proofs.Search.{fold_some, IsNear, is_near}
use Rattle.dstree.proofs.Ranks.{nearer_no}
use Rattle.dstree.proofs.BatchSteps.{nearest_of}
use Rattle.dstree.proofs.PairSteps.{merged_is}
use Rattle.dstree.proofs.PairRead.{stays, pair_steps}

-- ---- the winner of two lists of distances, one of which has some

record WinsOf (factory bench : List Near) (w : Winner) : Type 0 where
  nearest : NearestOf (by_which w.which factory bench) w.near
  of_factory_lem : (a : Near) → In a factory → w.near.distance ≤ a.distance
  of_bench_lem : (a : Near) → In a bench → w.near.distance ≤ a.distance
  farther : w.which ≡ of_bench → (a : Near) → In a factory → w.near.distance < a.distance

-- none is below the nearest
no_nearer : {l : List Near} {a : Near} → NearestOf l a → (b : Near) → In b l → a.distance ≤ b.distance
no_nearer {a = a} o b i = nearer_no b a (o.none_nearer b i)

not_bench : of_factory ≡ of_bench → ⊥
not_bench e = let z : ◌≡◌ {A = ℕ} 0 1 = ap (λ (w : Which). by_which w 0 1) e in omega arith

wins_of : (factory bench : List Near) → 0 < length factory + length bench
    → WinsOf factory bench (winner_of (foldl best_with none factory) (foldl best_with none bench))
unfolding best_with winner_of
wins_of [] [] h = absurd (omega arith)
wins_of [] (y ∷ bench) h = rw (fold_some y bench) (record {
  nearest = nearest_of y bench;
  of_factory_lem = λ a i. absurd (in_nil i);
  of_bench_lem = no_nearer (nearest_of y bench);
  farther = λ e a i. absurd (in_nil i);
})
wins_of (x ∷ factory) [] h = rw (fold_some x factory) (record {
  nearest = nearest_of x factory;
  of_factory_lem = no_nearer (nearest_of x factory);
  of_bench_lem = λ a i. absurd (in_nil i);
  farther = λ e. absurd (not_bench e);
})
wins_of (x ∷ factory) (y ∷ bench) h = rw (fold_some x factory, fold_some y bench) (by (ltb b.distance a.distance) refl)
  where
    a : Near
    a = foldl nearer x factory

    b : Near
    b = foldl nearer y bench

    low_f : (c : Near) → In c (x ∷ factory) → a.distance ≤ c.distance
    low_f = no_nearer (nearest_of x factory)

    low_b : (c : Near) → In c (y ∷ bench) → b.distance ≤ c.distance
    low_b = no_nearer (nearest_of y bench)

    by : (t : Bool) → ltb b.distance a.distance ≡ t → WinsOf (x ∷ factory) (y ∷ bench) (if t then won of_bench b else won of_factory a)
    by true e =
        let less : b.distance < a.distance = ltb-true b.distance a.distance e in
        record {
          nearest = nearest_of y bench;
          of_factory_lem = λ c i. omega (arith, less, low_f c i);
          of_bench_lem = low_b;
          farther = λ q c i. omega (arith, less, low_f c i);
        }
    by false e =
        let more : a.distance ≤ b.distance = ltb-false b.distance a.distance e in
        record {
          nearest = nearest_of x factory;
          of_factory_lem = low_f;
          of_bench_lem = λ c i. omega (arith, more, low_b c i);
          farther = λ q. absurd (not_bench q);
        }

-- ---- the first leaf is read

-- one of some leaves is on a trail
record OnTrail (l : List LeafBound) (trail : List ℕ) : Type 0 where
  leaf : LeafBound
  is_one : In leaf l
  read : In leaf.number trail

module _ (query : Trace) (f b : Indexed) where
  first_read : {factory bench : List LeafBound} {order : List JointLeaf} → Merged factory bench order → 0 < length factory + length bench
      → let s = pair_on f b query nothing_yet order in OnTrail factory s.in_factory.trail ⊎ OnTrail bench s.in_bench.trail
  unfolding pair_on read_joint read_leaf is_above_both is_above
  first_read merged_none h = absurd (omega arith)
  first_read (factory_first {a} {rest = rest} low m) h = inl (record {
    leaf = a;
    is_one = first;
    read = (stays query f b (read_joint f b query nothing_yet (factory_leaf a)) rest).in_factory_lem a.number first;
  })
  first_read (bench_first {a} {rest = rest} low m) h = inr (record {
    leaf = a;
    is_one = first;
    read = (stays query f b (read_joint f b query nothing_yet (bench_leaf a)) rest).in_bench_lem a.number first;
  })

-- ---- one library

module _ (n : ℕ) (l : Indexed) (shape : Shape n (length l.traces) l.tree) (query : Trace) where
  -- trace 0 is in a leaf
  some_leaf : 0 < length l.traces → 0 < length (reading_order l.tree query)
  some_leaf h = some_in (in_reading l.tree query (kept_leaf (shape.kept 0 h)))

  -- a leaf that is read gives a distance
  some_near : (trail : List ℕ) → OnTrail (reading_order l.tree query) trail → 0 < length (distances_read l query trail)
  unfolding distances_among distances_in
  some_near trail o =
      let held = numbers_in (node_at l.tree o.leaf.number).kind in
      let full : 0 < length held = leaf_full shape (reading_of l.tree query o.is_one).0 in
      let some_held = in_get_or (map (near_at l.traces query) held) 0 (near_at l.traces query 0) (omega (arith, full, length-map held (near_at l.traces query))) in
      some_in (in_flat (distances_in l.traces l.tree query) o.read some_held)

  -- what is read is a stored trace, with its distance
  near_stored : (trail : List ℕ) {a : Near} → In a (distances_read l query trail) → IsNear l.traces query a
  unfolding distances_among distances_in
  near_stored trail {a} i = by (from_flat (distances_in l.traces l.tree query) trail i)
    where
      at : (k : ℕ) → InMap (near_at l.traces query) a (numbers_in (node_at l.tree k).kind) → IsNear l.traces query a
      at k (of t j e) = is_near t (shape.numbers t k (in_is j)) e

      by : InFlat (distances_in l.traces l.tree query) a trail → IsNear l.traces query a
      by (flat k j g) = at k (from_map (near_at l.traces query) (numbers_in (node_at l.tree k).kind) g)

stored_is : {stored : List Trace} {query : Trace} {a : Near} → IsNear stored query a
    → (a.trace < length stored) × (distance query (get_or stored a.trace []) ≡ a.distance)
stored_is (is_near t h e) = (rw e h, rw e refl)

-- ---- both

module _ (n m : ℕ) (f b : Indexed) (shape_f : Shape n (length f.traces) f.tree) (shape_b : Shape m (length b.traces) b.tree)
    (one : 0 < length f.traces + length b.traces) (query : Trace) where
  abbrev said : PairMatch
  said = pair_by_steps f b query

  abbrev nears_f : List Near
  nears_f = distances_read f query said.factory_trail

  abbrev nears_b : List Near
  nears_b = distances_read b query said.bench_trail

  some_order : 0 < length (reading_order f.tree query) + length (reading_order b.tree query)
  some_order = by (dec_le 1 (length f.traces))
    where
      by : Dec (1 ≤ length f.traces) → 0 < length (reading_order f.tree query) + length (reading_order b.tree query)
      by (yes h) = omega (arith, some_leaf n f shape_f query h)
      by (no g) = omega (arith, some_leaf m b shape_b query (omega (arith, one, lt_of_not-le g)))

  some_nears : 0 < length nears_f + length nears_b
  unfolding pair_by_steps pair_along pair_from
  some_nears = by (first_read query f b (merged_is (reading_order f.tree query) (reading_order b.tree query)) some_order)
    where
      by : OnTrail (reading_order f.tree query) said.factory_trail ⊎ OnTrail (reading_order b.tree query) said.bench_trail
          → 0 < length nears_f + length nears_b
      by (inl o) = omega (arith, some_near n f shape_f query said.factory_trail o)
      by (inr o) = omega (arith, some_near m b shape_b query said.bench_trail o)

  wins : WinsOf nears_f nears_b (won said.which (record { trace = said.trace; distance = said.distance }))
  unfolding best_among
  wins = rw (pair_steps f b query).nearest_read (wins_of nears_f nears_b some_nears)

  stored_by : (which : Which) {a : Near} → In a (by_which which nears_f nears_b) → IsNear (by_which which f b).traces query a
  stored_by of_factory i = near_stored n f shape_f query said.factory_trail i
  stored_by of_bench i = near_stored m b shape_b query said.bench_trail i

  nears_by : (which : Which) → by_which which nears_f nears_b
      ≡ distances_read (by_which which f b) query (by_which which said.factory_trail said.bench_trail)
  nears_by of_factory = refl
  nears_by of_bench = refl

  pub pair_answered : PairAnswered f b query said
  pair_answered =
      let is = stored_is (stored_by said.which wins.nearest.among) in
      record {
        is_stored = is.0;
        has_distance = is.1;
        nearest_there = subst (λ (l : List Near). NearestOf l (record { trace = said.trace; distance = said.distance }))
            (nears_by said.which) wins.nearest;
        factory_no_nearer = wins.of_factory_lem;
        bench_no_nearer = wins.of_bench_lem;
        factory_farther = wins.farther;
      }

pub pair_of_formed : PairStepsOfFormed
pair_of_formed limit mf mb f b wf wb one query = pair_answered mf.n mb.n f b
    (formed limit mf (length f.traces) f.tree wf).shape (formed limit mb (length b.traces) b.tree wb).shape one query
