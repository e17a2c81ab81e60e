-- The turns of a search over two libraries: its invariant, and what a turn, or the end, leaves of it.
use Prim.Native.Nat.{ℕ, ◌+◌, ◌≤◌, ◌<◌}
use mathlib.Core.Path.{◌≡◌, refl, sym, ◌∙◌, ap, ap₂, subst}
use mathlib.Core.Logic.{◌⊎◌, inl, inr}
use mathlib.Core.Bool.{Bool, true, false, ◌||◌}
use mathlib.Core.List.{List, ◌∷◌}
use native.Mathlib.Omega.{arith}
use lib.ListN.{length}
use Rattle.integer.proofs.Lists.{all_none, all_mono}
use Rattle.dstree.specs.Measures.{Trace}
use Rattle.dstree.specs.Matching.{LeafBound, reading_order, is_above}
use Rattle.dstree.specs.Pair.{NoLower, merged, PairSearch, pair_search, is_above_both, read_joint, pair_on, nothing_yet}
use Rattle.dstree.proofs.PairSteps.{Lower}
use Rattle.dstree.proofs.PairTurns.{AllAbove, PairState, state_start, state_factory, state_bench, state_end, first_above}
use Rattle.dstree.proofs.Reading.{InOrder}
use Rattle.tables.specs.Tables.{Tables, node_count}
use Rattle.tables.specs.View.{tree_in}
use Rattle.std.specs.Prelude.{Some}
use Rattle.pair_search.specs.Sides.{has_ahead, next_of, leaf_ahead, coming}
use Rattle.pair_search.specs.declared.turns.Whose.TheVariants.{Factory, Bench}
use Rattle.pair_search.specs.Limits.{past}
use Rattle.pair_search.specs.Turns.{turn_of}
use Rattle.pair_search.specs.Advancing.{Advanced}
use Rattle.pair_search.specs.Stepping.{Slices, Reach, NoTurn, FactoryTurn, BenchTurn}
use Rattle.pair_search.specs.BothSearched.{indexed_in}
use Rattle.pair_search.specs.Visiting.{Started, MayVisit, BothVisited}
use Rattle.pair_search.specs.declared.sides.Side.{Side}
use Rattle.pair_search.proofs.Whose.{factorys_turn, benchs_turn, no_turn}
use Rattle.pair_search.proofs.SideTurns.{shape_of, SideState, no_order, side_start, limit_is, search_is, side_end}
use Rattle.pair_search.proofs.SideTurns.{leaves_behind, first_is, with_ahead, side_read, none_ahead}

or_swap : (x y : Bool) → (x || y) ≡ (y || x)
or_swap true true = refl
or_swap true false = refl
or_swap false true = refl
or_swap false false = refl

-- as long as before
pub record SameSize (x x' : Slices) : Type 0 where
  pub work : length x'.heap.keys.now ≡ length x.heap.keys.now
  pub trail : length x'.trail ≡ length x.trail
  pub list : length x'.list ≡ length x.list

module _ (tf tb : Tables) (query : Trace) where
  -- what the steps give
  abbrev pub answer : PairSearch
  answer =
      pair_on (indexed_in tf) (indexed_in tb) query nothing_yet (merged (reading_order (tree_in tf) query) (reading_order (tree_in tb) query))

  -- what was found, and the leaves still to come in each; to read these on gives the answer
  pub record BothState (x₀ x y₀ y : Slices) (f b : Side) : Type 0 where
    pub s : PairSearch
    pub factory_rest : List LeafBound
    pub bench_rest : List LeafBound
    pub factory : SideState tf query x₀ x f s.in_factory factory_rest
    pub bench : SideState tb query y₀ y b s.in_bench bench_rest
    pub pair : PairState (indexed_in tf) (indexed_in tb) query s factory_rest bench_rest (has_ahead f) (has_ahead b) answer

  -- how many leaves are to come
  abbrev pub to_read : Slices → Slices → Side → Side → ℕ
  to_read x y f b = length (coming (shape_of tf) query f x.heap) + length (coming (shape_of tb) query b y.heap)

  module _ (x₀ y₀ : Slices) (may_f : MayVisit tf query x₀.heap.keys.now x₀.trail x₀.list)
      (may_b : MayVisit tb query y₀.heap.keys.now y₀.trail y₀.list) where
    -- nothing is read yet
    pub both_start : {x y : Slices} {f b : Side} → length x.heap.keys.now ≡ node_count tf → length y.heap.keys.now ≡ node_count tb
        → (x.trail ≡ x₀.trail) × (x.list ≡ x₀.list) → (y.trail ≡ y₀.trail) × (y.list ≡ y₀.list)
        → Started (shape_of tf) query f x.heap → Started (shape_of tb) query b y.heap → BothState x₀ x y₀ y f b
    both_start {x} {y} {f} {b} long bench_long same bench_same sf sb = record {
      s = nothing_yet;
      factory_rest = reading_order (tree_in tf) query;
      bench_rest = reading_order (tree_in tb) query;
      factory = side_start tf query x₀ may_f x f long same.0 same.1 sf;
      bench = side_start tb query y₀ may_b y b bench_long bench_same.0 bench_same.1 sb;
      pair = state_start (indexed_in tf) (indexed_in tb) query (has_ahead f) (has_ahead b)
          (λ e. subst (AllAbove nothing_yet) (sym (no_order tf query x₀ may_f f x.heap sf e)) all_none)
          (λ e. subst (AllAbove nothing_yet) (sym (no_order tb query y₀ may_b b y.heap sb e)) all_none);
    }

    module _ {x y : Slices} {f b : Side} (state : BothState x₀ x y₀ y f b) where
      -- the joint limit, in terms of what was found
      within_above : (r : Reach x y f b) (bound : ℕ) → past r.within bound ≡ is_above_both bound state.s
      unfolding is_above_both
      within_above r bound =
          r.within_is bound
          ∙ ap₂ ◌||◌ (limit_is tf query x₀ may_f state.factory r.own r.own_is bound)
          (limit_is tb query y₀ may_b state.bench r.other r.other_is bound)

      -- ---- the end

      -- where no leaf ahead is within the limit, none to come is
      above_f : (r : Reach x y f b) → (has_ahead f ≡ true → past r.within (next_of f).bound ≡ true) → AllAbove state.s state.factory_rest
      above_f r h = by (has_ahead f) refl
        where
          by : (t : Bool) → has_ahead f ≡ t → AllAbove state.s state.factory_rest
          by false e = state.pair.none_f e
          by true e =
              let first = first_is tf query x₀ may_f state.factory e in
              subst (AllAbove state.s) (sym first)
              (first_above state.s (subst InOrder first state.pair.order_f) (sym (within_above r (next_of f).bound) ∙ h e))

      above_b : (r : Reach x y f b) → (has_ahead b ≡ true → past r.within (next_of b).bound ≡ true) → AllAbove state.s state.bench_rest
      above_b r h = by (has_ahead b) refl
        where
          by : (t : Bool) → has_ahead b ≡ t → AllAbove state.s state.bench_rest
          by false e = state.pair.none_b e
          by true e =
              let first = first_is tb query y₀ may_b state.bench e in
              subst (AllAbove state.s) (sym first)
              (first_above state.s (subst InOrder first state.pair.order_b) (sym (within_above r (next_of b).bound) ∙ h e))

      -- what was found is the answer, whatever search work held before
      pub both_end : {x' y' : Slices} → NoTurn tf tb query x x' y y' f b
          → BothVisited tf tb query x₀.trail x'.trail x₀.list x'.list y₀.trail y'.trail y₀.list y'.list f b
      both_end h = rw (h.factory_stays, h.bench_stays) (
          let past_limit = no_turn f b h.reach.within h.turn_is in
          record {
            found =
                ap₂ pair_search (search_is tf query x₀ may_f state.factory) (search_is tb query y₀ may_b state.bench)
                ∙ state_end (indexed_in tf) (indexed_in tb) query state.pair (above_f h.reach past_limit.0) (above_b h.reach past_limit.1);
            factory = side_end tf query x₀ may_f state.factory;
            bench = side_end tb query y₀ may_b state.bench;
          })

      -- ---- the factory's turn

      module _ {x' : Slices} {f' : Side} (size : SameSize x x') (r : Reach x y f b) (e : turn_of f b r.within ≡ Some Factory)
          (h : Advanced tf query x.heap x'.heap x.trail x'.trail x.list x'.list r.other f f') where
        f_turn : (has_ahead f ≡ true) × (past r.within (next_of f).bound ≡ false) × (has_ahead b ≡ true → (next_of f).bound ≤ (next_of b).bound)
        f_turn = factorys_turn f b r.within e

        f_first : state.factory_rest ≡ leaf_ahead f ∷ leaves_behind tf query x f
        f_first = first_is tf query x₀ may_f state.factory f_turn.0

        f_read : SideState tf query x₀ x' f' (with_ahead tf query state.s.in_factory f) (leaves_behind tf query x f)
        f_read = side_read tf query x₀ may_f state.factory f_turn.0 (size.work ∙ state.factory.work_long) size.trail size.list h

        -- the bench's next leaf is no lower
        not_lower : has_ahead b ≡ true → NoLower (next_of f).bound state.bench_rest
        not_lower q = subst (NoLower (next_of f).bound) (sym (first_is tb query y₀ may_b state.bench q)) (f_turn.2 q)

        -- where none is ahead then, none to come is within the nearest of both
        f_none : has_ahead f' ≡ false
            → AllAbove (pair_search (with_ahead tf query state.s.in_factory f) state.s.in_bench) (leaves_behind tf query x f)
        unfolding is_above_both
        f_none q =
            all_mono
            (λ a g. ap (λ (t : Bool). is_above a.bound (with_ahead tf query state.s.in_factory f).best || t)
            (sym (limit_is tb query y₀ may_b state.bench r.other r.other_is a.bound)) ∙ g)
            (none_ahead tf query x₀ may_f state.factory f_turn.0 (size.work ∙ state.factory.work_long) size.trail size.list h q)

        pub factory_read : BothState x₀ x' y₀ y f' b
        unfolding read_joint
        factory_read = record {
          s = pair_search (with_ahead tf query state.s.in_factory f) state.s.in_bench;
          factory_rest = leaves_behind tf query x f;
          bench_rest = state.bench_rest;
          factory = f_read;
          bench = state.bench;
          pair = state_factory (indexed_in tf) (indexed_in tb) query
              (subst (λ (t : Bool). PairState (indexed_in tf) (indexed_in tb) query state.s (leaf_ahead f ∷ leaves_behind tf query x f)
              state.bench_rest t (has_ahead b) answer) f_turn.0
              (subst (λ (l : List LeafBound). PairState (indexed_in tf) (indexed_in tb) query state.s l state.bench_rest (has_ahead f)
              (has_ahead b) answer) f_first state.pair))
              (sym (within_above r (next_of f).bound) ∙ f_turn.1) not_lower (has_ahead f') f_none;
        }

        pub factory_less : to_read x' y f' b < to_read x y f b
        factory_less = omega (arith, ap length f_read.comes, ap length state.factory.comes, ap length f_first)

      -- ---- the bench's

      module _ {y' : Slices} {b' : Side} (size : SameSize y y') (r : Reach x y f b) (e : turn_of f b r.within ≡ Some Bench)
          (h : Advanced tb query y.heap y'.heap y.trail y'.trail y.list y'.list r.own b b') where
        b_turn : (has_ahead b ≡ true) × (past r.within (next_of b).bound ≡ false) × (has_ahead f ≡ true → (next_of b).bound < (next_of f).bound)
        b_turn = benchs_turn f b r.within e

        b_first : state.bench_rest ≡ leaf_ahead b ∷ leaves_behind tb query y b
        b_first = first_is tb query y₀ may_b state.bench b_turn.0

        b_read : SideState tb query y₀ y' b' (with_ahead tb query state.s.in_bench b) (leaves_behind tb query y b)
        b_read = side_read tb query y₀ may_b state.bench b_turn.0 (size.work ∙ state.bench.work_long) size.trail size.list h

        -- the factory's next leaf is higher
        is_lower : has_ahead f ≡ true → Lower (next_of b).bound state.factory_rest
        is_lower q = subst (Lower (next_of b).bound) (sym (first_is tf query x₀ may_f state.factory q)) (b_turn.2 q)

        b_none : has_ahead b' ≡ false
            → AllAbove (pair_search state.s.in_factory (with_ahead tb query state.s.in_bench b)) (leaves_behind tb query y b)
        unfolding is_above_both
        b_none q =
            all_mono
            (λ a g. or_swap (is_above a.bound state.s.in_factory.best) (is_above a.bound (with_ahead tb query state.s.in_bench b).best)
            ∙ (ap (λ (t : Bool). is_above a.bound (with_ahead tb query state.s.in_bench b).best || t)
            (sym (limit_is tf query x₀ may_f state.factory r.own r.own_is a.bound)) ∙ g))
            (none_ahead tb query y₀ may_b state.bench b_turn.0 (size.work ∙ state.bench.work_long) size.trail size.list h q)

        pub bench_read : BothState x₀ x y₀ y' f b'
        unfolding read_joint
        bench_read = record {
          s = pair_search state.s.in_factory (with_ahead tb query state.s.in_bench b);
          factory_rest = state.factory_rest;
          bench_rest = leaves_behind tb query y b;
          factory = state.factory;
          bench = b_read;
          pair = state_bench (indexed_in tf) (indexed_in tb) query
              (subst (λ (t : Bool). PairState (indexed_in tf) (indexed_in tb) query state.s state.factory_rest
              (leaf_ahead b ∷ leaves_behind tb query y b) (has_ahead f) t answer) b_turn.0
              (subst (λ (l : List LeafBound). PairState (indexed_in tf) (indexed_in tb) query state.s state.factory_rest l (has_ahead f)
              (has_ahead b) answer) b_first state.pair))
              (sym (within_above r (next_of b).bound) ∙ b_turn.1) is_lower (has_ahead b') b_none;
        }

        pub bench_less : to_read x y' f b' < to_read x y f b
        bench_less = omega (arith, ap length b_read.comes, ap length state.bench.comes, ap length b_first)

      -- ---- whichever it is

      module _ {x' y' : Slices} {f' b' : Side} (size : SameSize x x') (bench_size : SameSize y y') where
        pub both_on : FactoryTurn tf tb query x x' y y' f b f' b' ⊎ BenchTurn tf tb query x x' y y' f b f' b'
            → BothState x₀ x' y₀ y' f' b' × (to_read x' y' f' b' < to_read x y f b)
        both_on (inl h) = rw (h.bench_stays.0, h.bench_stays.1)
            (factory_read size h.reach h.turn_is h.advanced, factory_less size h.reach h.turn_is h.advanced)
        both_on (inr h) = rw (h.factory_stays.0, h.factory_stays.1)
            (bench_read bench_size h.reach h.turn_is h.advanced, bench_less bench_size h.reach h.turn_is h.advanced)
