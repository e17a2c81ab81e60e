-- Two libraries searched together, for any distance d that no distance is below. While d is found, or still to be found in a leaf with a
-- bound at most d, the leaves read are those with such a bound, in each library in its own order. Which of two equal next bounds comes
-- first does not matter. For a bound at most d is never above the best; and when the lower next bound is above d, all others are, in both
-- libraries. Then d has been found.
use Rattle.std.specs.Prelude.{if◌then◌else◌}
use Prim.Native.Nat.{ℕ, suc, ◌≤◌, ◌<◌}
use mathlib.Core.Path.{◌≡◌, refl}
use mathlib.Core.Logic.{◌⊎◌, inl, inr}
use mathlib.Core.Bool.{Bool, true, false, ◌||◌}
use mathlib.Core.Option.{Option, none, some}
use mathlib.Core.List.{List, [], ◌∷◌, map, foldl}
use native.Mathlib.Omega.{arith}
use lib.Dec.{leb}
use borrow.Author.Tests.{leb-true, leb-false, ltb-true, lt-ltb, le-ltb}
use Rattle.integer.specs.Words.{those}
use Rattle.integer.proofs.Tests.{is_true}
use Rattle.integer.proofs.Lists.{All, all_none, all_more, all_mono, Some}
use Rattle.dstree.specs.Measures.{Trace}
use Rattle.dstree.specs.Matching.{LeafBound, Near, best_with, Search, distances_in, read_leaf, is_above}
use Rattle.dstree.specs.Pair.{Indexed, indexed, of_factory, of_bench, factory_leaf, bench_leaf, JointLeaf, NoLower, Merged, merged_none}
use Rattle.dstree.specs.Pair.{factory_first, bench_first, merged_with, merged, PairSearch, pair_search, is_above_both, read_joint, pair_on}
use Rattle.dstree.specs.Pair.{won, winner_of}
use Rattle.dstree.proofs.Reading.{InOrder, order_none, order_more}
use Rattle.dstree.proofs.Search.{AtMost, AtLeast, fold_keep, not_above, is_above_lem, Far, Hit, in_r, none_in_R, no_hit, read_least, read_found}
use Rattle.dstree.proofs.Search.{read_all, SameDistances, read_alike}

-- ---- the program's order is one of those

with_next : (a : LeafBound) (factory bench : List LeafBound) → ((l : List LeafBound) → Merged factory l (merged factory l))
    → Merged (a ∷ factory) bench (merged_with a (merged factory) bench)
unfolding merged_with
with_next a factory [] h = factory_first tt (h [])
with_next a factory (b ∷ bench) h = by (leb a.bound b.bound) refl (with_next a factory bench h)
  where
    by : (t : Bool) → leb a.bound b.bound ≡ t → Merged (a ∷ factory) bench (merged_with a (merged factory) bench)
        → Merged (a ∷ factory) (b ∷ bench)
        (if t then factory_leaf a ∷ merged factory (b ∷ bench) else bench_leaf b ∷ merged_with a (merged factory) bench)
    by true e ih = factory_first (leb-true a.bound b.bound e) (h (b ∷ bench))
    by false e ih = bench_first {a = b} {factory = a ∷ factory} {bench = bench} (omega (arith, leb-false a.bound b.bound e)) ih

bench_alone : (bench : List LeafBound) → Merged [] bench (map bench_leaf bench)
bench_alone [] = merged_none
bench_alone (b ∷ bench) = bench_first tt (bench_alone bench)

pub merged_is : (factory bench : List LeafBound) → Merged factory bench (merged factory bench)
unfolding merged
merged_is [] bench = bench_alone bench
merged_is (a ∷ factory) bench = with_next a factory bench (λ l. merged_is factory l)

-- .. and what code needs of it: its first leaf
pub factory_next : (a : LeafBound) (factory bench : List LeafBound) → NoLower a.bound bench
    → merged (a ∷ factory) bench ≡ factory_leaf a ∷ merged factory bench
unfolding merged merged_with
factory_next a factory [] h = refl
factory_next a factory (b ∷ bench) h = by (leb a.bound b.bound) refl
  where
    by : (t : Bool) → leb a.bound b.bound ≡ t
        → (if t then factory_leaf a ∷ merged factory (b ∷ bench) else bench_leaf b ∷ merged_with a (merged factory) bench)
        ≡ factory_leaf a ∷ merged factory (b ∷ bench)
    by true e = refl
    by false e = absurd (omega (arith, leb-false a.bound b.bound e))

pub bench_next : (a b : LeafBound) (factory bench : List LeafBound) → b.bound < a.bound
    → merged (a ∷ factory) (b ∷ bench) ≡ bench_leaf b ∷ merged (a ∷ factory) bench
unfolding merged merged_with
bench_next a b factory bench h = by (leb a.bound b.bound) refl
  where
    by : (t : Bool) → leb a.bound b.bound ≡ t
        → (if t then factory_leaf a ∷ merged factory (b ∷ bench) else bench_leaf b ∷ merged_with a (merged factory) bench)
        ≡ bench_leaf b ∷ merged_with a (merged factory) bench
    by true e = absurd (omega (arith, leb-true a.bound b.bound e))
    by false e = refl

pub bench_last : (b : LeafBound) (bench : List LeafBound) → merged [] (b ∷ bench) ≡ bench_leaf b ∷ merged [] bench
unfolding merged
bench_last b bench = refl

-- ---- a turn of the program: the factory's next leaf is read where no bound of the bench's is lower, the bench's where its own is lower.
-- Where no leaf to come has a bound at most the best, the search ends

-- a bound below the next
abbrev pub Lower : ℕ → List LeafBound → Type 0
Lower bound [] = Unit
Lower bound (a ∷ rest) = bound < a.bound

module _ (f b : Indexed) (query : Trace) where
  pub turn_factory : (s : PairSearch) (a : LeafBound) (factory bench : List LeafBound) → is_above_both a.bound s ≡ false
      → NoLower a.bound bench
      → pair_on f b query s (merged (a ∷ factory) bench) ≡ pair_on f b query (read_joint f b query s (factory_leaf a)) (merged factory bench)
  unfolding pair_on
  turn_factory s a factory bench e low = rw (factory_next a factory bench low, e)

  pub turn_bench : (s : PairSearch) (a : LeafBound) (factory bench : List LeafBound) → is_above_both a.bound s ≡ false
      → Lower a.bound factory
      → pair_on f b query s (merged factory (a ∷ bench)) ≡ pair_on f b query (read_joint f b query s (bench_leaf a)) (merged factory bench)
  unfolding pair_on
  turn_bench s a [] bench e low = rw (bench_last a bench, e)
  turn_bench s a (x ∷ factory) bench e low = rw (bench_next x a factory bench low, e)

  pub turn_end : (s : PairSearch) {factory bench : List LeafBound} → All (λ (x : LeafBound). is_above_both x.bound s ≡ true) factory
      → All (λ (x : LeafBound). is_above_both x.bound s ≡ true) bench → pair_on f b query s (merged factory bench) ≡ s
  unfolding pair_on merged merged_with
  turn_end s all_none all_none = refl
  turn_end s all_none (all_more e es) = rw e
  turn_end s (all_more e es) all_none = rw e
  turn_end s (all_more {a = x} {rest = factory} e es) (all_more {a = y} {rest = bench} g gs) = by (leb x.bound y.bound)
    where
      by : (t : Bool)
          → pair_on f b query s (if t then factory_leaf x ∷ merged factory (y ∷ bench) else bench_leaf y ∷ merged_with x (merged factory) bench) ≡ s
      by true = rw e
      by false = rw g

or_true : (x : Bool) → (x || true) ≡ true
or_true true = refl
or_true false = refl

-- ---- a best only gets nearer, so that a bound that is above it stays above

nearer_above : (bound : ℕ) (o : Option Near) (l : List Near) → is_above bound o ≡ true → is_above bound (foldl best_with o l) ≡ true
unfolding is_above
nearer_above bound none l e = absurd (is_true e)
nearer_above bound (some a) l e = by (foldl best_with (some a) l) (fold_keep a.distance l (some a) (omega arith))
  where
    by : (o : Option Near) → AtMost a.distance o → is_above bound o ≡ true
    by none h = absurd h
    by (some b) h = lt-ltb b.distance bound (omega (arith, ltb-true a.distance bound e))

pub either_true : (x y x' y' : Bool) → (x ≡ true → x' ≡ true) → (y ≡ true → y' ≡ true) → (x || y) ≡ true → (x' || y') ≡ true
either_true true y x' y' f g e = rw (f refl)
either_true false y x' y' f g e = rw (g e) (or_true x')

pub stays_above : (f b : Indexed) (query : Trace) (s : PairSearch) (next : JointLeaf) (bound : ℕ) → is_above_both bound s ≡ true
    → is_above_both bound (read_joint f b query s next) ≡ true
unfolding is_above_both read_joint read_leaf
stays_above f b query s (factory_leaf a) bound e =
    either_true (is_above bound s.in_factory.best) (is_above bound s.in_bench.best) _ _
    (nearer_above bound s.in_factory.best (distances_in f.traces f.tree query a.number)) (λ q. q) e
stays_above f b query s (bench_leaf a) bound e =
    either_true (is_above bound s.in_factory.best) (is_above bound s.in_bench.best) _ _
    (λ q. q) (nearer_above bound s.in_bench.best (distances_in b.traces b.tree query a.number)) e

-- ---- the winner

-- "the factory's on equal distance"
pub factory_wins : (a : Near) (o : Option Near) → AtLeast a.distance o → winner_of (some a) o ≡ won of_factory a
unfolding winner_of
factory_wins a none h = refl
factory_wins a (some b) h = rw (le-ltb b.distance a.distance h)

pub bench_wins : (b : Near) (o : Option Near) → AtLeast (suc b.distance) o → winner_of o (some b) ≡ won of_bench b
unfolding winner_of
bench_wins b none h = refl
bench_wins b (some a) h = rw (lt-ltb b.distance a.distance (omega arith))

-- ---- behind a bound

behind : (k : ℕ) {l : List LeafBound} → InOrder l → NoLower k l → All (λ x. k ≤ x.bound) l
behind k order_none h = all_none
behind k (order_more {a} {rest} o os) h = all_more h (all_mono (λ x g. omega arith) o)

-- ---- the leaves of one library still to come, with other traces that give those with a bound at most d the same distances

module _ (query : Trace) (d : ℕ) where
  pub record Coming (l : Indexed) (other : List Trace) (order : List LeafBound) : Type 0 where
    pub in_order : InOrder order
    pub far : All (Far l.traces l.tree query d) order
    pub alike : All (SameDistances l.traces l.tree query d other) order

  -- the next one, and those behind it
  record Next (l : Indexed) (other : List Trace) (a : LeafBound) (rest : List LeafBound) : Type 0 where
    onward : Coming l other rest
    above : All (λ b. a.bound ≤ b.bound) rest
    far : Far l.traces l.tree query d a
    alike : SameDistances l.traces l.tree query d other a

  next : {l : Indexed} {other : List Trace} {a : LeafBound} {rest : List LeafBound} → Coming l other (a ∷ rest) → Next l other a rest
  next {l} {other} {a} {rest} c = by c.in_order c.far c.alike
    where
      by : InOrder (a ∷ rest) → All (Far l.traces l.tree query d) (a ∷ rest)
          → All (SameDistances l.traces l.tree query d other) (a ∷ rest) → Next l other a rest
      by (order_more o os) (all_more f fs) (all_more g gs) = record {
        onward = record { in_order = os; far = fs; alike = gs };
        above = o;
        far = f;
        alike = g;
      }

  -- d is found in a library, or to be found in one of the leaves to come
  abbrev pub FoundIn : Indexed → Search → List LeafBound → Type 0
  FoundIn l s order = AtMost d s.best ⊎ Some (Hit l.traces l.tree query d) order

  module _ (f b : Indexed) where
    abbrev pub Found : PairSearch → List LeafBound → List LeafBound → Type 0
    Found s factory bench = FoundIn f s.in_factory factory ⊎ FoundIn b s.in_bench bench

    stops : (k : ℕ) {factory bench : List LeafBound} → d < k → All (λ x. k ≤ x.bound) factory → All (λ x. k ≤ x.bound) bench
        → (s : PairSearch) → Found s factory bench → is_above_both k s ≡ true
    unfolding is_above_both
    stops k h oa ob s (inl (inl g)) = rw (is_above_lem d k s.in_factory.best h g)
    stops k h oa ob s (inl (inr g)) = absurd (no_hit f.traces f.tree query d k h oa g)
    stops k h oa ob s (inr (inl g)) = rw (is_above_lem d k s.in_bench.best h g) (or_true (is_above k s.in_factory.best))
    stops k h oa ob s (inr (inr g)) = absurd (no_hit b.traces b.tree query d k h ob g)

    goes_on : (k : ℕ) → k ≤ d → (s : PairSearch) → AtLeast d s.in_factory.best → AtLeast d s.in_bench.best → is_above_both k s ≡ false
    unfolding is_above_both
    goes_on k h s lf lb = rw (not_above d k s.in_factory.best h lf, not_above d k s.in_bench.best h lb)

    -- in each library these leaves are read
    abbrev pub Reads : PairSearch → PairSearch → List LeafBound → List LeafBound → Type 0
    Reads s s' factory bench =
        (s'.in_factory ≡ read_all f.traces f.tree query d s.in_factory factory)
        × (s'.in_bench ≡ read_all b.traces b.tree query d s.in_bench bench)

    module _ (factory_traces bench_traces : List Trace) where
      abbrev on : PairSearch → List JointLeaf → PairSearch
      on = pair_on (indexed factory_traces f.tree) (indexed bench_traces b.tree) query

      pub joint_reads : (s : PairSearch) {factory bench : List LeafBound} {order : List JointLeaf} → Merged factory bench order
          → Coming f factory_traces factory → Coming b bench_traces bench → AtLeast d s.in_factory.best → AtLeast d s.in_bench.best
          → Found s factory bench
          → Reads s (on s order) (in_r f.traces f.tree query d factory) (in_r b.traces b.tree query d bench)
      unfolding pair_on read_joint those
      joint_reads s merged_none cf cb lf lb found = (refl, refl)
      joint_reads s (factory_first {a} {factory} {bench} {rest} low m) cf cb lf lb found =
          by (next cf) (joint_reads S m (next cf).onward cb
          (read_least f.traces f.tree query d s.in_factory a lf (next cf).far) lb (more found)) (leb a.bound d) refl
        where
          S : PairSearch
          S = pair_search (read_leaf f.traces f.tree query s.in_factory a.number) s.in_bench

          more : Found s (a ∷ factory) bench → Found S factory bench
          more (inl g) = inl (read_found f.traces f.tree query d s.in_factory g)
          more (inr g) = inr g

          by : Next f factory_traces a factory
              → Reads S (on S rest) (in_r f.traces f.tree query d factory) (in_r b.traces b.tree query d bench)
              → (t : Bool) → leb a.bound d ≡ t → Reads s
              (if is_above_both a.bound s then s
              else on (pair_search (read_leaf factory_traces f.tree query s.in_factory a.number) s.in_bench) rest)
              (if t then a ∷ in_r f.traces f.tree query d factory else in_r f.traces f.tree query d factory)
              (in_r b.traces b.tree query d bench)
          by nx ih true e =
              let h : a.bound ≤ d = leb-true a.bound d e in
              rw (
                goes_on a.bound h s lf lb,
                read_alike f.traces f.tree query d factory_traces s.in_factory a (nx.alike h),
              ) ih
          by nx ih false e =
              let high : d < a.bound = leb-false a.bound d e in
              let ob = behind a.bound cb.in_order low in
              rw (
                stops a.bound high (all_more (omega arith) nx.above) ob s found,
                none_in_R f.traces f.tree query d a.bound high nx.above,
                none_in_R b.traces b.tree query d a.bound high ob,
              ) (refl, refl)
      joint_reads s (bench_first {a} {factory} {bench} {rest} low m) cf cb lf lb found =
          by (next cb) (joint_reads S m cf (next cb).onward lf
          (read_least b.traces b.tree query d s.in_bench a lb (next cb).far) (more found)) (leb a.bound d) refl
        where
          S : PairSearch
          S = pair_search s.in_factory (read_leaf b.traces b.tree query s.in_bench a.number)

          more : Found s factory (a ∷ bench) → Found S factory bench
          more (inl g) = inl g
          more (inr g) = inr (read_found b.traces b.tree query d s.in_bench g)

          by : Next b bench_traces a bench
              → Reads S (on S rest) (in_r f.traces f.tree query d factory) (in_r b.traces b.tree query d bench)
              → (t : Bool) → leb a.bound d ≡ t → Reads s
              (if is_above_both a.bound s then s
              else on (pair_search s.in_factory (read_leaf bench_traces b.tree query s.in_bench a.number)) rest)
              (in_r f.traces f.tree query d factory)
              (if t then a ∷ in_r b.traces b.tree query d bench else in_r b.traces b.tree query d bench)
          by nx ih true e =
              let h : a.bound ≤ d = leb-true a.bound d e in
              rw (
                goes_on a.bound h s lf lb,
                read_alike b.traces b.tree query d bench_traces s.in_bench a (nx.alike h),
              ) ih
          by nx ih false e =
              let high : d < a.bound = leb-false a.bound d e in
              let oa = behind a.bound cf.in_order low in
              rw (
                stops a.bound high oa (all_more (omega arith) nx.above) s found,
                none_in_R f.traces f.tree query d a.bound high oa,
                none_in_R b.traces b.tree query d a.bound high nx.above,
              ) (refl, refl)
