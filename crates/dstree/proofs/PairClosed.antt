-- Two libraries searched together, in closed form, at d, the joint distance. The steps answer the nearest of all, the factory's on equal
-- distance, then the lower number. They read in each library the leaves with a bound at most d, which are the fewest.
use Prim.Native.Nat.{ℕ, ◌+◌, ◌≤◌, ◌<◌}
use mathlib.Core.Path.{◌≡◌, refl, sym, ◌∙◌, ap, subst}
use mathlib.Core.Logic.{◌⊎◌, inl, inr}
use mathlib.Core.Bool.{Bool, true, false, not}
use mathlib.Core.List.{List, [], ◌++◌, map, append-nil}
use native.Mathlib.Omega.{arith}
use lib.ListN.{length, get_or, length-map, length-append}
use lib.Dec.{T}
use Rattle.integer.specs.Words.{is_in, total, those}
use Rattle.integer.specs.Sorting.{poured_by}
use Rattle.integer.proofs.Tests.{test_true, is_true}
use Rattle.integer.proofs.Lists.{strict, In, is_in_lem, in_is, in_nil, in_get_or, in_map, InMap, of, from_map, in_append_left, in_append_right}
use Rattle.integer.proofs.Lists.{in_append, some_in, least_low, least_in}
use Rattle.integer.proofs.Rows.{map_append}
use Rattle.segment.specs.Figures.{distance}
use Rattle.dstree.specs.Measures.{Trace}
use Rattle.dstree.specs.Matching.{LeafBound, leaves, reading_order, Near, Search, least_distance, lowest_at, leaves_r, Match, match_of}
use Rattle.dstree.specs.KNearest.{SameIn, leaves_in}
use Rattle.dstree.specs.Pair.{Indexed, indexed, Which, of_factory, of_bench, by_which, PairMatch, traces_read, pair_with, joint_distance}
use Rattle.dstree.specs.Pair.{has_at, nearest_which, nearest_in, trail_to, pair_of, JointLeaf, Merged, merged, PairSearch, won}
use Rattle.dstree.specs.Pair.{winner_of, pair_from, nothing_yet, pair_on, pair_along, pair_by_steps, alone, traces_in_set, least_held}
use Rattle.dstree.specs.Pair.{PairLeavesOutOnlyAbove, WonIn, PairClaims, PairOfExact}
use Rattle.dstree.proofs.Formed.{formed}
use Rattle.dstree.proofs.Containing.{Containing, of_exact}
use Rattle.dstree.proofs.Search.{LowestAt, lowest}
use Rattle.dstree.proofs.PairSteps.{merged_is, factory_wins, bench_wins, Found, Reads, joint_reads}
use Rattle.dstree.proofs.PairSides as side

-- a library in which each record contains the traces below it, for traces of n samples
pub record Searchable (n : ℕ) (l : Indexed) : Type 0 where
  pub contains : Containing n l.traces l.tree
  pub of_n : (t : ℕ) → t < length l.traces → length (get_or l.traces t []) ≡ n

-- an answer, by what the search has found in each
answer_is : (f b : Indexed) (s : PairSearch) (which : Which) (near : Near) (factory_trail bench_trail : List ℕ)
    → winner_of s.in_factory.best s.in_bench.best ≡ won which near
    → s.in_factory.trail ≡ factory_trail → s.in_bench.trail ≡ bench_trail
    → s.in_factory.traces ≡ traces_read f factory_trail → s.in_bench.traces ≡ traces_read b bench_trail
    → pair_from (winner_of s.in_factory.best s.in_bench.best) s ≡ pair_with f b which near factory_trail bench_trail
unfolding pair_from
answer_is f b s which near factory_trail bench_trail w ft bt fn bn = rw (w, ft, bt, fn, bn)

-- ---- a library without a trace

trail_of : (d : ℕ) (l : Indexed) (query : Trace) → trail_to d l query ≡ map (λ (a : LeafBound). a.number) (leaves_r l.tree query d)
unfolding trail_to
trail_of d l query = refl

no_trail : (d : ℕ) (l : Indexed) (query : Trace) → leaves l.tree ≡ [] → trail_to d l query ≡ []
unfolding trail_to leaves_r reading_order those poured_by
no_trail d l query e = rw e

none_there : (d : ℕ) (f : Indexed) (query : Trace) → f.traces ≡ [] → nearest_which d f query ≡ of_bench
unfolding nearest_which has_at is_in
none_there d f query e = rw e

is_there : (d : ℕ) (f : Indexed) (query : Trace) → In d (map (distance query) f.traces) → nearest_which d f query ≡ of_factory
unfolding nearest_which has_at
is_there d f query i = rw (test_true (is_in d (map (distance query) f.traces)) (in_is i))

joint_bench : (f b : Indexed) (query : Trace) → f.traces ≡ [] → joint_distance f b query ≡ least_distance b.traces query
unfolding joint_distance
joint_bench f b query e = rw e

joint_factory : (f b : Indexed) (query : Trace) → b.traces ≡ [] → joint_distance f b query ≡ least_distance f.traces query
unfolding joint_distance
joint_factory f b query e = rw (e, append-nil f.traces)

same_counts : (w : Which) (t d x x' y y' : ℕ) (ft bt : List ℕ) → x ≡ x' → y ≡ y'
    → ◌≡◌ {A = PairMatch} (record { which = w; trace = t; distance = d; leaves = x; traces = y; factory_trail = ft; bench_trail = bt })
    (record { which = w; trace = t; distance = d; leaves = x'; traces = y'; factory_trail = ft; bench_trail = bt })
same_counts w t d x x' y y' ft bt p q = rw (p, q)

-- a library's match, by the leaves to its own distance
abbrev match_at : ℕ → Indexed → Trace → Match
match_at d l query = record {
  trace = lowest_at 0 d l.traces query;
  distance = d;
  leaves = length (trail_to d l query);
  traces = traces_read l (trail_to d l query);
  trail = trail_to d l query;
}

match_is : (l : Indexed) (query : Trace) → match_at (least_distance l.traces query) l query ≡ match_of l.traces l.tree query
unfolding match_of trail_to traces_read
match_is l query = refl

-- nothing is read in the other library
counts_bench : (f b : Indexed) (d : ℕ) (query : Trace)
    → pair_with f b of_bench (nearest_in d b query) [] (trail_to d b query) ≡ alone of_bench (match_at d b query)
unfolding nearest_in alone traces_read total
counts_bench f b d query = same_counts of_bench _ d _ _ _ _ [] (trail_to d b query) (omega arith) (omega arith)

counts_factory : (f b : Indexed) (d : ℕ) (query : Trace)
    → pair_with f b of_factory (nearest_in d f query) (trail_to d f query) [] ≡ alone of_factory (match_at d f query)
unfolding nearest_in alone traces_read total
counts_factory f b d query = same_counts of_factory _ d _ _ _ _ (trail_to d f query) [] (omega arith) (omega arith)

module _ (n : ℕ) (f b : Indexed) (sf : Searchable n f) (sb : Searchable n b) (query : Trace) (lq : length query ≡ n)
    (one : 0 < length f.traces + length b.traces) where
  abbrev d : ℕ
  d = joint_distance f b query

  abbrev all : List Trace
  all = f.traces ++ b.traces

  -- ---- d

  low_in : {x : Trace} → In x all → d ≤ distance query x
  unfolding joint_distance least_distance
  low_in i = least_low (in_map (distance query) i)

  low_f : (t : ℕ) → t < length f.traces → d ≤ distance query (get_or f.traces t [])
  low_f t h = low_in (in_append_left b.traces (in_get_or f.traces t [] h))

  low_b : (t : ℕ) → t < length b.traces → d ≤ distance query (get_or b.traces t [])
  low_b t h = low_in (in_append_right f.traces (in_get_or b.traces t [] h))

  -- one of the two has a trace there
  abbrev AtF : Type 0
  AtF = In d (map (distance query) f.traces)

  abbrev AtB : Type 0
  AtB = In d (map (distance query) b.traces)

  at_all : In d (map (distance query) all)
  unfolding joint_distance least_distance
  at_all = least_in (map (distance query) all) (omega (arith, length-map all (distance query), length-append f.traces b.traces))

  at_one : AtF ⊎ AtB
  at_one = in_append (map (distance query) f.traces) (subst (λ (l : List ℕ). In d l) (map_append (distance query) f.traces b.traces) at_all)

  -- ---- what is found

  abbrev in_f : Search
  in_f = side.found n f sf.contains sf.of_n query lq d low_f

  abbrev in_b : Search
  in_b = side.found n b sb.contains sb.of_n query lq d low_b

  found : AtF ⊎ AtB → Found query d f b nothing_yet (reading_order f.tree query) (reading_order b.tree query)
  found (inl i) = inl (inr (side.hit n f sf.contains sf.of_n query lq d low_f i))
  found (inr i) = inr (inr (side.hit n b sb.contains sb.of_n query lq d low_b i))

  -- "the factory's on equal distance, then the lower number"
  record Won : Type 0 where
    which : Which
    is : nearest_which d f query ≡ which
    wins : winner_of in_f.best in_b.best ≡ won which (nearest_in d (by_which which f b) query)
    has : In d (map (distance query) (by_which which f b).traces)
    farther : which ≡ of_bench → AtF → ⊥

  wins : Won
  unfolding nearest_which has_at nearest_in
  wins = by (is_in d (map (distance query) f.traces)) refl
    where
      in_bench_lem : (AtF → ⊥) → AtF ⊎ AtB → AtB
      in_bench_lem not (inl i) = absurd (not i)
      in_bench_lem not (inr i) = i

      by : (t : Bool) → is_in d (map (distance query) f.traces) ≡ t → Won
      by true e =
          let i : AtF = is_in_lem d (map (distance query) f.traces) (rw e tt) in
          record {
            which = of_factory;
            is = rw e;
            wins = rw (side.best_at n f sf.contains sf.of_n query lq d low_f i)
                (factory_wins (nearest_in d f query) in_b.best (side.best_least n b sb.contains sb.of_n query lq d low_b));
            has = i;
            farther = λ q j. absurd (no_bench q);
          }
        where
          no_bench : of_factory ≡ of_bench → ⊥
          no_bench q = let z : ◌≡◌ {A = ℕ} 0 1 = ap (λ (w : Which). by_which w 0 1) q in omega arith
      by false e =
          let not : AtF → ⊥ = λ i. is_true (sym e ∙ test_true (is_in d (map (distance query) f.traces)) (in_is i)) in
          let i : AtB = in_bench_lem not at_one in
          record {
            which = of_bench;
            is = rw e;
            wins = rw (side.best_at n b sb.contains sb.of_n query lq d low_b i)
                (bench_wins (nearest_in d b query) in_f.best (side.best_farther n f sf.contains sf.of_n query lq d low_f not));
            has = i;
            farther = λ q j. not j;
          }

  -- ---- the steps

  along : (factory_traces bench_traces : List Trace) → SameIn f.tree (trail_to d f query) f.traces factory_traces
      → SameIn b.tree (trail_to d b query) b.traces bench_traces
      → (order : List JointLeaf) → Merged (reading_order f.tree query) (reading_order b.tree query) order
      → pair_along (indexed factory_traces f.tree) (indexed bench_traces b.tree) query order ≡ pair_of f b query
  unfolding pair_along pair_of leaves_r
  along factory_traces bench_traces same_f same_b order m =
      let s = pair_on (indexed factory_traces f.tree) (indexed bench_traces b.tree) query nothing_yet order in
      let r : Reads query d f b nothing_yet s (leaves_r f.tree query d) (leaves_r b.tree query d) =
      joint_reads query d f b factory_traces bench_traces nothing_yet m
      (side.coming n f sf.contains sf.of_n query lq d low_f factory_traces same_f)
      (side.coming n b sb.contains sb.of_n query lq d low_b bench_traces same_b) tt tt (found at_one) in
      rw wins.is
      (answer_is f b s wins.which (nearest_in d (by_which wins.which f b) query) (trail_to d f query) (trail_to d b query)
      (rw (r.0, r.1) wins.wins)
      (rw r.0 (side.trail_is n f sf.contains sf.of_n query lq d low_f))
      (rw r.1 (side.trail_is n b sb.contains sb.of_n query lq d low_b))
      (rw r.0 (side.traces_are n f sf.contains sf.of_n query lq d low_f))
      (rw r.1 (side.traces_are n b sb.contains sb.of_n query lq d low_b)))

  -- ---- the winner

  won_in : (l : Indexed) → In d (map (distance query) l.traces) → ((t : ℕ) → t < length l.traces → d ≤ distance query (get_or l.traces t []))
      → (m : PairMatch) → m.trace ≡ lowest_at 0 d l.traces query → m.distance ≡ d → WonIn l query m
  won_in l i low m p q = by (lowest d l.traces query 0 i)
    where
      by : LowestAt d l.traces query 0 → WonIn l query m
      by o =
          let e : m.trace ≡ o.place = p ∙ o.is ∙ omega arith in
          record {
            is_stored = omega (arith, e, o.inside);
            has_distance = rw (e, q) o.at;
            lower_farther = λ t h. rw q (strict (low t (omega (arith, e, o.inside)))
                (λ r. absurd (omega (arith, o.low t (omega (arith, e, o.inside)) (sym r)))));
          }

  which_low : (which : Which) → (t : ℕ) → t < length (by_which which f b).traces → d ≤ distance query (get_or (by_which which f b).traces t [])
  which_low of_factory = low_f
  which_low of_bench = low_b

  pub winner_by : (which : Which) → nearest_which d f query ≡ which → In d (map (distance query) (by_which which f b).traces)
      → WonIn (by_which (pair_of f b query).which f b) query (pair_of f b query)
  unfolding pair_of nearest_in
  winner_by which e i = rw e (won_in (by_which which f b) i (which_low which) _ refl refl)

  factory_farther : nearest_which d f query ≡ of_bench → (t : ℕ) → t < length f.traces → d < distance query (get_or f.traces t [])
  factory_farther e t h = strict (low_f t h) (λ q. wins.farther (sym wins.is ∙ e)
      (subst (λ (k : ℕ). In k (map (distance query) f.traces)) (sym q) (in_map (distance query) (in_get_or f.traces t [] h))))

  -- ---- the fewest

  held_low : (factory_set bench_set : ℕ → Bool) → 0 < length (traces_in_set f factory_set ++ traces_in_set b bench_set)
      → d ≤ least_held f b factory_set bench_set query
  unfolding least_distance
  held_low factory_set bench_set h =
      by (least_held f b factory_set bench_set query) (from_map (distance query) held
      (least_in (map (distance query) held) (omega (arith, length-map held (distance query)))))
    where
      held : List Trace
      held = traces_in_set f factory_set ++ traces_in_set b bench_set

      at : {x : Trace} → In x (traces_in_set f factory_set) ⊎ In x (traces_in_set b bench_set) → d ≤ distance query x
      at (inl i) = side.held_stored n f sf.contains sf.of_n query lq factory_set d low_f i
      at (inr i) = side.held_stored n b sb.contains sb.of_n query lq bench_set d low_b i

      by : (e : ℕ) → InMap (distance query) e held → d ≤ e
      by e (of x j q) = rw q (at (in_append (traces_in_set f factory_set) j))

  module _ (factory_set bench_set : ℕ → Bool) (o : PairLeavesOutOnlyAbove f b query factory_set bench_set) where
    abbrev e : ℕ
    e = least_held f b factory_set bench_set query

    contains : ((k : ℕ) → T (is_in k (trail_to d f query)) → T (factory_set k)) × ((k : ℕ) → T (is_in k (trail_to d b query)) → T (bench_set k))
    contains =
        let h : d ≤ e = held_low factory_set bench_set o.holds_one in (
          λ k i. side.in_set f query d factory_set e h o.factory_out k (is_in_lem k (trail_to d f query) i),
          λ k i. side.in_set b query d bench_set e h o.bench_out k (is_in_lem k (trail_to d b query) i),
        )

    fewest : length (trail_to d f query) + length (trail_to d b query) ≤ length (leaves_in f.tree factory_set) + length (leaves_in b.tree bench_set)
    fewest =
        let h : d ≤ e = held_low factory_set bench_set o.holds_one in
        omega (arith, side.as_many f query d factory_set e h o.factory_out, side.as_many b query d bench_set e h o.bench_out)

  -- the leaves read hold a trace at d, and leave out only bounds above d
  read_themselves : PairLeavesOutOnlyAbove f b query (λ number. is_in number (trail_to d f query)) (λ number. is_in number (trail_to d b query))
  unfolding least_distance
  read_themselves = by at_one
    where
      held_f : List Trace
      held_f = traces_in_set f (λ number. is_in number (trail_to d f query))

      held_b : List Trace
      held_b = traces_in_set b (λ number. is_in number (trail_to d b query))

      with_one : (x : Trace) → In x (held_f ++ held_b) → distance query x ≡ d
          → PairLeavesOutOnlyAbove f b query (λ number. is_in number (trail_to d f query)) (λ number. is_in number (trail_to d b query))
      with_one x i at =
          let h : least_distance (held_f ++ held_b) query ≤ d = omega (arith, least_low (in_map (distance query) i), at) in
          record {
            holds_one = some_in i;
            factory_out = λ k leaf out. omega (arith, h, side.out_of_trail f query d k leaf out);
            bench_out = λ k leaf out. omega (arith, h, side.out_of_trail b query d k leaf out);
          }

      by : AtF ⊎ AtB → PairLeavesOutOnlyAbove f b query (λ number. is_in number (trail_to d f query)) (λ number. is_in number (trail_to d b query))
      by (inl i) =
          let o = side.held_at n f sf.contains sf.of_n query lq d low_f i in
          with_one o.trace (in_append_left held_b o.held) o.at
      by (inr i) =
          let o = side.held_at n b sb.contains sb.of_n query lq d low_b i in
          with_one o.trace (in_append_right held_f o.held) o.at

  -- ---- one library alone

  factory_empty : f.traces ≡ [] → pair_of f b query ≡ alone of_bench (match_of b.traces b.tree query)
  unfolding pair_of
  factory_empty e =
      let k : ℕ = least_distance b.traces query in
      let p : pair_of f b query ≡ pair_with f b of_bench (nearest_in k b query) [] (trail_to k b query) =
      rw (joint_bench f b query e, none_there k f query e, no_trail k f query (side.no_leaf n f sf.contains sf.of_n query lq e)) in
      p ∙ counts_bench f b k query ∙ ap (alone of_bench) (match_is b query)

  bench_empty : b.traces ≡ [] → pair_of f b query ≡ alone of_factory (match_of f.traces f.tree query)
  unfolding pair_of
  bench_empty e =
      let k : ℕ = least_distance f.traces query in
      let h : d ≡ k = joint_factory f b query e in
      let w : nearest_which k f query ≡ of_factory = is_there k f query (subst (λ (j : ℕ). In j (map (distance query) f.traces)) h (by at_one)) in
      let p : pair_of f b query ≡ pair_with f b of_factory (nearest_in k f query) (trail_to k f query) [] =
      rw (h, w, no_trail k b query (side.no_leaf n b sb.contains sb.of_n query lq e)) in
      p ∙ counts_factory f b k query ∙ ap (alone of_factory) (match_is f query)
    where
      by : AtF ⊎ AtB → AtF
      by (inl i) = i
      by (inr i) = absurd (in_nil (subst (λ (l : List Trace). In d (map (distance query) l)) e i))

  -- ---- all that is claimed

  pub pair_claims : PairClaims f b query
  unfolding pair_of pair_by_steps nearest_in
  pair_claims = record {
    steps_give_it = along f.traces b.traces refl refl (merged (reading_order f.tree query) (reading_order b.tree query))
        (merged_is (reading_order f.tree query) (reading_order b.tree query));
    any_order = along f.traces b.traces refl refl;
    others_do_not_bear = λ ft bt p q. along ft bt p q (merged (reading_order f.tree query) (reading_order b.tree query))
        (merged_is (reading_order f.tree query) (reading_order b.tree query));
    in_factory_lem = record {
      no_nearer = low_f;
      read_is_leaf = λ k i. in_is (side.from_trail f query d (is_in_lem k (trail_to d f query) i)).0;
      read_at_most = λ k i. (side.from_trail f query d (is_in_lem k (trail_to d f query) i)).1;
      out_is_above = side.out_of_trail f query d;
      in_order = trail_of d f query;
    };
    in_bench_lem = record {
      no_nearer = low_b;
      read_is_leaf = λ k i. in_is (side.from_trail b query d (is_in_lem k (trail_to d b query) i)).0;
      read_at_most = λ k i. (side.from_trail b query d (is_in_lem k (trail_to d b query) i)).1;
      out_is_above = side.out_of_trail b query d;
      in_order = trail_of d b query;
    };
    winner_is = winner_by wins.which wins.is wins.has;
    factory_farther = factory_farther;
    leaves_counted = refl;
    traces_counted = refl;
    factory_empty = factory_empty;
    bench_empty = bench_empty;
    contains = contains;
    fewest = fewest;
    read_themselves = read_themselves;
  }

-- ---- of any two libraries that the check would accept

pub pair_of_exact : PairOfExact
pair_of_exact limit mf mb f b ef eb same query lq one =
    pair_claims mf.n f b
    (record { contains = of_exact f.traces f.tree (formed limit mf (length f.traces) f.tree ef.well_formed_lem) ef.ranges; of_n = ef.of_n })
    (record {
      contains = subst (λ (n : ℕ). Containing n b.traces b.tree) (sym same)
          (of_exact b.traces b.tree (formed limit mb (length b.traces) b.tree eb.well_formed_lem) eb.ranges);
      of_n = λ t h. eb.of_n t h ∙ sym same;
    })
    query lq one
