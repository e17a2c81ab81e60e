-- The steps of a search over two libraries, on any two trees. The answer is the nearest of what was read, each trail is in its library's
-- order, and samples off the trails do not bear on the answer.
use Rattle.std.specs.Prelude.{if◌then◌else◌}
use Prim.Native.Nat.{ℕ, suc, ◌+◌, ◌≤◌}
use mathlib.Core.Path.{◌≡◌, refl, sym, ◌∙◌, ap}
use mathlib.Core.Bool.{Bool, true, false}
use mathlib.Core.Option.{none}
use mathlib.Core.List.{List, [], ◌∷◌, ◌++◌, map, foldl, flatten, append_assoc, append-nil}
use native.Mathlib.Omega.{arith}
use lib.ListN.{length, take, length-append, length-map}
use lib.Seq.{length-take-le}
use Rattle.integer.proofs.Lists.{In, first, in_append_left, in_append_right}
use Rattle.dstree.specs.Measures.{Trace}
use Rattle.dstree.specs.Matching.{LeafBound, reading_order, best_with, Search, distances_in, read_leaf}
use Rattle.dstree.specs.KNearest.{distances_among}
use Rattle.dstree.specs.Batch.{best_among}
use Rattle.dstree.specs.Pair.{Indexed, indexed, JointLeaf, factory_leaf, bench_leaf, leaf_of, Merged, merged_none, factory_first, bench_first}
use Rattle.dstree.specs.Pair.{merged, PairSearch, is_above_both, read_joint, pair_on, winner_of, pair_from, nothing_yet, pair_along, pair_by_steps}
use Rattle.dstree.specs.Pair.{PairStepsOf}
use Rattle.dstree.proofs.OffTrail.{alike_in}
use Rattle.dstree.proofs.KSteps.{one_more}
use Rattle.dstree.proofs.BatchSteps.{best_more}
use Rattle.dstree.proofs.PairSteps.{merged_is}

-- ---- what is found is what the trail's leaves give

module _ (query : Trace) where
  record Told (l : Indexed) (s : Search) : Type 0 where
    best : s.best ≡ best_among l.traces l.tree query s.trail
    traces : s.traces ≡ length (distances_among l.traces l.tree query s.trail)

  told_none : (l : Indexed) → Told l (record { best = none; traces = 0; trail = [] })
  unfolding best_among distances_among flatten
  told_none l = record { best = refl; traces = refl }

  told_more : (l : Indexed) (s : Search) (number : ℕ) → Told l s → Told l (read_leaf l.traces l.tree query s number)
  unfolding read_leaf
  told_more l s number o =
      let D = distances_in l.traces l.tree query number in
      let E = distances_among l.traces l.tree query s.trail in
      record {
        best = ap (λ b. foldl best_with b D) o.best ∙ sym (best_more l.traces l.tree query s.trail number);
        traces = ap (λ (n : ℕ). n + length D) o.traces ∙ sym (length-append E D)
            ∙ ap length (sym (one_more 1 l.traces l.tree query s.trail number));
      }

  module _ (f b : Indexed) where
    record BothTold (s : PairSearch) : Type 0 where
      in_factory_lem : Told f s.in_factory
      in_bench_lem : Told b s.in_bench

    told_read : (s : PairSearch) (next : JointLeaf) → BothTold s → BothTold (read_joint f b query s next)
    unfolding read_joint
    told_read s (factory_leaf a) o = record { in_factory_lem = told_more f s.in_factory a.number o.in_factory_lem; in_bench_lem = o.in_bench_lem }
    told_read s (bench_leaf a) o = record { in_factory_lem = o.in_factory_lem; in_bench_lem = told_more b s.in_bench a.number o.in_bench_lem }

    told_on : (s : PairSearch) (order : List JointLeaf) → BothTold s → BothTold (pair_on f b query s order)
    unfolding pair_on
    told_on s [] o = o
    told_on s (next ∷ rest) o =
        by (is_above_both (leaf_of next).bound s) (told_on (read_joint f b query s next) rest (told_read s next o))
      where
        by : (t : Bool) → BothTold (pair_on f b query (read_joint f b query s next) rest)
            → BothTold (if t then s else pair_on f b query (read_joint f b query s next) rest)
        by true ih = o
        by false ih = ih

    -- ---- samples off the trails

    -- what is on a trail stays on it
    pub record On (s : PairSearch) (k m : List ℕ) : Type 0 where
      pub in_factory_lem : (i : ℕ) → In i s.in_factory.trail → In i k
      pub in_bench_lem : (i : ℕ) → In i s.in_bench.trail → In i m

    pub stays : (s : PairSearch) (order : List JointLeaf)
        → On s (pair_on f b query s order).in_factory.trail (pair_on f b query s order).in_bench.trail
    unfolding pair_on read_joint read_leaf
    stays s [] = record { in_factory_lem = λ i j. j; in_bench_lem = λ i j. j }
    stays s (factory_leaf a ∷ rest) = by (is_above_both a.bound s) (stays (read_joint f b query s (factory_leaf a)) rest)
      where
        onward : PairSearch
        onward = pair_on f b query (read_joint f b query s (factory_leaf a)) rest

        by : (t : Bool) → On (read_joint f b query s (factory_leaf a)) onward.in_factory.trail onward.in_bench.trail
            → On s (if t then s else onward).in_factory.trail (if t then s else onward).in_bench.trail
        by true ih = record { in_factory_lem = λ i j. j; in_bench_lem = λ i j. j }
        by false ih = record { in_factory_lem = λ i j. ih.in_factory_lem i (in_append_left (a.number ∷ []) j); in_bench_lem = ih.in_bench_lem }
    stays s (bench_leaf a ∷ rest) = by (is_above_both a.bound s) (stays (read_joint f b query s (bench_leaf a)) rest)
      where
        onward : PairSearch
        onward = pair_on f b query (read_joint f b query s (bench_leaf a)) rest

        by : (t : Bool) → On (read_joint f b query s (bench_leaf a)) onward.in_factory.trail onward.in_bench.trail
            → On s (if t then s else onward).in_factory.trail (if t then s else onward).in_bench.trail
        by true ih = record { in_factory_lem = λ i j. j; in_bench_lem = λ i j. j }
        by false ih = record { in_factory_lem = ih.in_factory_lem; in_bench_lem = λ i j. ih.in_bench_lem i (in_append_left (a.number ∷ []) j) }

    module _ (factory_traces bench_traces : List Trace) where
      abbrev f' : Indexed
      f' = indexed factory_traces f.tree

      abbrev b' : Indexed
      b' = indexed bench_traces b.tree

      -- leaves that other traces give the same distances
      abbrev AlikeF : ℕ → Type 0
      AlikeF k = distances_in factory_traces f.tree query k ≡ distances_in f.traces f.tree query k

      abbrev AlikeB : ℕ → Type 0
      AlikeB k = distances_in bench_traces b.tree query k ≡ distances_in b.traces b.tree query k

      same_on : (s : PairSearch) (order : List JointLeaf) → ((k : ℕ) → In k (pair_on f b query s order).in_factory.trail → AlikeF k)
          → ((k : ℕ) → In k (pair_on f b query s order).in_bench.trail → AlikeB k) → pair_on f' b' query s order ≡ pair_on f b query s order
      unfolding pair_on read_joint read_leaf
      same_on s [] hf hb = refl
      same_on s (factory_leaf a ∷ rest) hf hb =
          by (is_above_both a.bound s) hf hb (same_on S rest) (stays S rest)
        where
          S : PairSearch
          S = read_joint f b query s (factory_leaf a)

          onward : PairSearch
          onward = pair_on f b query S rest

          by : (t : Bool) → ((k : ℕ) → In k (if t then s else onward).in_factory.trail → AlikeF k)
              → ((k : ℕ) → In k (if t then s else onward).in_bench.trail → AlikeB k)
              → (((k : ℕ) → In k onward.in_factory.trail → AlikeF k) → ((k : ℕ) → In k onward.in_bench.trail → AlikeB k)
              → pair_on f' b' query S rest ≡ onward) → On S onward.in_factory.trail onward.in_bench.trail
              → (if t then s else pair_on f' b' query (read_joint f' b' query s (factory_leaf a)) rest) ≡ (if t then s else onward)
          by true hf hb ih o = refl
          by false hf hb ih o =
              let e : AlikeF a.number = hf a.number (o.in_factory_lem a.number (in_append_right s.in_factory.trail first)) in
              rw e (ih hf hb)
      same_on s (bench_leaf a ∷ rest) hf hb =
          by (is_above_both a.bound s) hf hb (same_on S rest) (stays S rest)
        where
          S : PairSearch
          S = read_joint f b query s (bench_leaf a)

          onward : PairSearch
          onward = pair_on f b query S rest

          by : (t : Bool) → ((k : ℕ) → In k (if t then s else onward).in_factory.trail → AlikeF k)
              → ((k : ℕ) → In k (if t then s else onward).in_bench.trail → AlikeB k)
              → (((k : ℕ) → In k onward.in_factory.trail → AlikeF k) → ((k : ℕ) → In k onward.in_bench.trail → AlikeB k)
              → pair_on f' b' query S rest ≡ onward) → On S onward.in_factory.trail onward.in_bench.trail
              → (if t then s else pair_on f' b' query (read_joint f' b' query s (bench_leaf a)) rest) ≡ (if t then s else onward)
          by true hf hb ih o = refl
          by false hf hb ih o =
              let e : AlikeB a.number = hb a.number (o.in_bench_lem a.number (in_append_right s.in_bench.trail first)) in
              rw e (ih hf hb)

-- ---- the order of each trail

abbrev numbers : List LeafBound → List ℕ
numbers = map (λ (a : LeafBound). a.number)

-- a trail, and behind it the first leaves of some
record Onward (before after : List ℕ) (l : List LeafBound) : Type 0 where
  many : ℕ
  inside : many ≤ length l
  is : after ≡ before ++ numbers (take many l)

onward_none : (trail : List ℕ) (l : List LeafBound) → Onward trail trail l
onward_none trail l = record { many = 0; inside = omega arith; is = sym (append-nil trail) }

onward_more : {trail after : List ℕ} {a : LeafBound} {l : List LeafBound} → Onward (trail ++ (a.number ∷ [])) after l
    → Onward trail after (a ∷ l)
onward_more {trail} {a = a} {l = l} o = record {
  many = suc o.many;
  inside = omega (arith, o.inside);
  is = o.is ∙ append_assoc trail (a.number ∷ []) (numbers (take o.many l));
}

-- all that was read is the first leaves
onward_all : {after : List ℕ} {l : List LeafBound} → Onward [] after l → after ≡ numbers (take (length after) l)
onward_all {after} {l} o =
    let size : length after ≡ o.many =
    ap length o.is ∙ (length-map (take o.many l) (λ (a : LeafBound). a.number) ∙ length-take-le o.many l o.inside) in
    rw size o.is

module _ (query : Trace) (f b : Indexed) where
  record BothOnward (s s' : PairSearch) (factory bench : List LeafBound) : Type 0 where
    in_factory_lem : Onward s.in_factory.trail s'.in_factory.trail factory
    in_bench_lem : Onward s.in_bench.trail s'.in_bench.trail bench

  none_onward : (s : PairSearch) (factory bench : List LeafBound) → BothOnward s s factory bench
  none_onward s factory bench =
      record { in_factory_lem = onward_none s.in_factory.trail factory; in_bench_lem = onward_none s.in_bench.trail bench }

  both_onward : (s : PairSearch) {factory bench : List LeafBound} {order : List JointLeaf} → Merged factory bench order
      → BothOnward s (pair_on f b query s order) factory bench
  unfolding pair_on read_joint read_leaf
  both_onward s merged_none = none_onward s [] []
  both_onward s (factory_first {a} {factory} {bench} {rest} low m) =
      by (is_above_both a.bound s) (both_onward (read_joint f b query s (factory_leaf a)) m)
    where
      onward : PairSearch
      onward = pair_on f b query (read_joint f b query s (factory_leaf a)) rest

      by : (t : Bool) → BothOnward (read_joint f b query s (factory_leaf a)) onward factory bench
          → BothOnward s (if t then s else onward) (a ∷ factory) bench
      by true ih = none_onward s (a ∷ factory) bench
      by false ih = record { in_factory_lem = onward_more {a = a} ih.in_factory_lem; in_bench_lem = ih.in_bench_lem }
  both_onward s (bench_first {a} {factory} {bench} {rest} low m) =
      by (is_above_both a.bound s) (both_onward (read_joint f b query s (bench_leaf a)) m)
    where
      onward : PairSearch
      onward = pair_on f b query (read_joint f b query s (bench_leaf a)) rest

      by : (t : Bool) → BothOnward (read_joint f b query s (bench_leaf a)) onward factory bench
          → BothOnward s (if t then s else onward) factory (a ∷ bench)
      by true ih = none_onward s factory (a ∷ bench)
      by false ih = record { in_factory_lem = ih.in_factory_lem; in_bench_lem = onward_more {a = a} ih.in_bench_lem }

-- ---- the claims

pub pair_steps : PairStepsOf
unfolding pair_by_steps pair_along pair_from
pair_steps f b query =
    let order = merged (reading_order f.tree query) (reading_order b.tree query) in
    let s = pair_on f b query nothing_yet order in
    let o : BothTold query f b s =
    told_on query f b nothing_yet order (record { in_factory_lem = told_none query f; in_bench_lem = told_none query b }) in
    let r = both_onward query f b nothing_yet (merged_is (reading_order f.tree query) (reading_order b.tree query)) in
    record {
      nearest_read = rw (sym o.in_factory_lem.best, sym o.in_bench_lem.best);
      leaves_counted = refl;
      traces_counted = rw (o.in_factory_lem.traces, o.in_bench_lem.traces);
      factory_in_order = onward_all r.in_factory_lem;
      bench_in_order = onward_all r.in_bench_lem;
      off_trail = λ ft bt p q.
          ap (λ (x : PairSearch). pair_from (winner_of x.in_factory.best x.in_bench.best) x)
          (same_on query f b ft bt nothing_yet order (alike_in f.traces ft f.tree query s.in_factory.trail p)
          (alike_in b.traces bt b.tree query s.in_bench.trail q));
    }
