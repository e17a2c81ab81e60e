-- The turns of one of two libraries: what is kept of it, and what a leaf that is read leaves of that.
use Rattle.std.specs.Prelude.{if◌then◌else◌}
use Prim.Native.Nat.{ℕ, ◌+◌, ◌*◌, ◌≤◌, ◌<◌}
use mathlib.Core.Path.{◌≡◌, refl, sym, ◌∙◌, ap, subst}
use mathlib.Core.Bool.{Bool, true, false, ◌||◌}
use mathlib.Core.Option.{Option, none}
use mathlib.Core.List.{List, [], ◌∷◌}
use native.Mathlib.Omega.{arith}
use lib.ListN.{length, drop}
use lib.Dec.{T}
use Rattle.integer.specs.Sorting.{ordered_none}
use Rattle.integer.proofs.Lists.{drop_more, All, all_mono}
use Rattle.dstree.specs.Measures.{Trace}
use Rattle.dstree.specs.Node.{Tree, node_at}
use Rattle.dstree.specs.Matching.{LeafBound, is_leaf_kind, leaves, reading_order, Near, Search, read_leaf, is_above}
use Rattle.dstree.specs.KNearest.{kth, Listing, read_into}
use Rattle.dstree.proofs.Reading.{reading_length}
use Rattle.dstree.proofs.KSteps.{as_listing, kth_one, read_one}
use Rattle.tables.specs.Tables.{Tables, node_count}
use Rattle.tables.specs.View.{tree_in, shape_in, traces_in}
use Rattle.tables.proofs.Views.{shape_size}
use Rattle.reading.specs.Listed.{nears_in, ListRoom}
use Rattle.reading.proofs.Records.{nears_none}
use Rattle.best_first.proofs.Alike.{order_alike}
use Rattle.leaf_order.specs.Waits.{Waits, remaining}
use Rattle.leaf_order.specs.Handed.{Past}
use Rattle.search.proofs.Facts.{shape_alike}
use Rattle.heap.specs.declared.Heap.{Heap}
use Rattle.pair_search.specs.Sides.{has_ahead, next_of, leaf_ahead, coming, Asked}
use Rattle.pair_search.specs.Limits.{Limit, past}
use Rattle.pair_search.specs.Reading.{found_in, MayRead}
use Rattle.pair_search.specs.Advancing.{Advanced}
use Rattle.pair_search.specs.Stepping.{Slices, MayStep, LimitIs}
use Rattle.pair_search.specs.BothSearched.{SideReady}
use Rattle.pair_search.specs.Visiting.{Started, MayVisit, search_in, SideVisited}
use Rattle.pair_search.specs.declared.sides.Side.{Side}
use Rattle.pair_search.proofs.Taken.{ready_with}

-- ---- the state of one library

abbrev pub shape_of : Tables → Tree
shape_of t = shape_in t.nodes (node_count t)

-- the leaves that wait, behind the one ahead
abbrev pub leaves_behind : Tables → Trace → Slices → Side → List LeafBound
leaves_behind t query x side = remaining (shape_of t) query x.heap.len x.heap.keys.now

-- what was found, once the leaf ahead is read
abbrev pub with_ahead : Tables → Trace → Search → Side → Search
with_ahead t query s side = read_leaf (traces_in t) (tree_in t) query s (next_of side).number

-- with what it may write at first and now, what was found, and the leaves still to come
pub record SideState (t : Tables) (query : Trace) (x₀ x : Slices) (side : Side) (s : Search) (rest : List LeafBound) : Type 0 where
  pub waits : Waits (shape_of t) query x.heap.len x.heap.keys.now
  pub work_long : length x.heap.keys.now ≡ node_count t
  pub comes : coming (shape_of t) query side x.heap ≡ rest
  pub inside : has_ahead side ≡ true → (next_of side).number < node_count t
  pub is_leaf : has_ahead side ≡ true → T (is_leaf_kind (node_at (shape_of t) (next_of side).number).kind)
  pub found : found_in side x.trail x.list ≡ as_listing s
  pub trail_room : side.out + length rest ≡ length (leaves (tree_in t))
  pub few : side.traces ≤ side.out * 4096
  pub trail_size : length x.trail ≡ length x₀.trail
  pub trail_rest : drop side.out x.trail ≡ drop side.out x₀.trail
  pub room : ListRoom 1 side.listed x.list
  pub list_size : length x.list ≡ length x₀.list
  pub list_rest : drop (2 * side.listed) x.list ≡ drop (2 * side.listed) x₀.list

module _ (t : Tables) (query : Trace) (x₀ : Slices) (may : MayVisit t query x₀.heap.keys.now x₀.trail x₀.list) where
  -- nothing is read yet
  pub side_start : (x : Slices) (side : Side) → length x.heap.keys.now ≡ node_count t → x.trail ≡ x₀.trail → x.list ≡ x₀.list
      → Started (shape_of t) query side x.heap
      → SideState t query x₀ x side (record { best = none; traces = 0; trail = [] }) (reading_order (tree_in t) query)
  side_start x side long same_trail same_list b = rw (same_trail, same_list) (record {
    waits = b.waits;
    work_long = long;
    comes = b.comes ∙ order_alike (shape_alike t) query;
    inside = λ e. omega (arith, (b.ahead_in e).inside, shape_size t.nodes (node_count t));
    is_leaf = λ e. (b.ahead_in e).is_leaf;
    found = rw (b.none_listed, b.none_read, b.none_out, nears_none x₀.list);
    trail_room = omega (arith, b.none_out, reading_length (tree_in t) query);
    few = omega (arith, b.none_read);
    trail_size = refl;
    trail_rest = refl;
    room = record {
      some_record = omega arith;
      few = omega (arith, b.none_listed);
      long = omega (arith, may.list_long);
      ordered = rw (b.none_listed, nears_none x₀.list) ordered_none;
    };
    list_size = refl;
    list_rest = refl;
  })

  pub no_order : (side : Side) (h : Heap) → Started (shape_of t) query side h → has_ahead side ≡ false → reading_order (tree_in t) query ≡ []
  no_order side h b e = sym (order_alike (shape_alike t) query) ∙ b.no_leaf e

  module _ {x : Slices} {side : Side} {s : Search} {rest : List LeafBound} (state : SideState t query x₀ x side s rest) where
    -- the nearest so far
    pub best_is : kth 1 (nears_in side.listed x.list) ≡ s.best
    best_is = ap (λ (l : Listing). kth 1 l.list) state.found ∙ kth_one s.best

    -- .. as a limit
    pub limit_is : (limit : Limit) → LimitIs limit side x → (bound : ℕ) → past limit bound ≡ is_above bound s.best
    limit_is limit h bound = h bound ∙ ap (is_above bound) best_is

    pub search_is : search_in side x.trail x.list ≡ s
    search_is =
        let traces : side.traces ≡ s.traces = ap (λ (l : Listing). l.traces) state.found in
        let trail = ap (λ (l : Listing). l.trail) state.found in
        rw (best_is, traces, trail)

    -- the places that are not filled stay
    pub side_end : SideVisited t x₀.trail x.trail x₀.list x.list side
    side_end = record {
      few = state.room.few;
      list_rest = state.list_rest;
      no_more = omega (arith, state.trail_room);
      trail_rest = state.trail_rest;
      few_traces = state.few;
    }

    module _ (ahead : has_ahead side ≡ true) where
      -- the leaf ahead is the first to come
      pub first_is : rest ≡ leaf_ahead side ∷ leaves_behind t query x side
      first_is = sym state.comes ∙ ap (λ (b : Bool). if b then leaf_ahead side ∷ leaves_behind t query x side else leaves_behind t query x side) ahead

      -- it may be read
      pub may_read : MayRead t query x.trail x.list side
      may_read =
          let ready : SideReady t query (length x.trail) = subst (SideReady t query) (sym state.trail_size) may.ready in
          record {
            ready = ready_with t query (length x.trail) ready (omega (arith, state.inside ahead));
            ahead = ahead;
            inside = state.inside ahead;
            is_leaf = state.is_leaf ahead;
            place = omega (arith, state.trail_room, ap length first_is);
            few = state.few;
            room = state.room;
          }

    pub may_step : MayStep t query x side
    may_step = record {
      may_read = may_read;
      long = state.work_long;
      waits = rw state.work_long state.waits;
      few = state.room.few;
      list_long = omega (arith, state.room.long);
    }

    -- after the leaf ahead was read, and the next asked for
    module _ (ahead : has_ahead side ≡ true) {x' : Slices} {other : Limit} {side' : Side} (long' : length x'.heap.keys.now ≡ node_count t)
        (trail_long : length x'.trail ≡ length x.trail) (list_long : length x'.list ≡ length x.list)
        (h : Advanced t query x.heap x'.heap x.trail x'.trail x.list x'.list other side side') where
      asked : Asked (shape_of t) query h.limit h.between side' x.heap x'.heap
      asked =
          subst
          (λ (m : ℕ). Asked (shape_in t.nodes m) query h.limit h.between side' x.heap x'.heap)
          state.work_long h.asked

      between_found : found_in h.between x'.trail x'.list ≡ as_listing (with_ahead t query s side)
      between_found =
          h.read.found ∙ ap (λ (l : Listing). read_into 1 (traces_in t) (tree_in t) query l (next_of side).number) state.found
          ∙ read_one (traces_in t) (tree_in t) query s (next_of side).number

      side_found : found_in side' x'.trail x'.list ≡ as_listing (with_ahead t query s side)
      side_found = rw (asked.listed_stays, asked.traces_stay, asked.out_stays) between_found

      -- the joint limit, in terms of what was found
      limit_above : (bound : ℕ) → past h.limit bound ≡ (is_above bound (with_ahead t query s side).best || past other bound)
      limit_above bound =
          h.limit_is bound
          ∙ ap (λ (l : Listing). is_above bound (kth 1 l.list) || past other bound) between_found
          ∙ ap (λ (o : Option Near). is_above bound o || past other bound) (kth_one (with_ahead t query s side).best)

      comes' : coming (shape_of t) query side' x'.heap ≡ leaves_behind t query x side
      comes' = asked.same

      pub side_read : SideState t query x₀ x' side' (with_ahead t query s side) (leaves_behind t query x side)
      side_read = record {
        waits = asked.waits;
        work_long = long';
        comes = comes';
        inside = λ e. omega (arith, (asked.ahead_in e).inside, shape_size t.nodes (node_count t));
        is_leaf = λ e. (asked.ahead_in e).is_leaf;
        found = side_found;
        trail_room = omega (arith, state.trail_room, asked.out_stays, h.read.one_more, ap length (first_is ahead));
        few = omega (arith, asked.traces_stay, asked.out_stays, h.read.few);
        trail_size = trail_long ∙ state.trail_size;
        trail_rest = rw asked.out_stays (h.read.trail_rest
            ∙ drop_more h.between.out side.out x.trail x₀.trail (omega (arith, h.read.one_more)) state.trail_rest);
        room = rw asked.listed_stays h.read.room;
        list_size = list_long ∙ state.list_size;
        list_rest = rw asked.listed_stays (h.read.list_rest
            ∙ drop_more (2 * h.between.listed) (2 * side.listed) x.list x₀.list (omega (arith, h.read.no_fewer)) state.list_rest);
      }

      -- where no leaf is ahead then, those to come are past the joint limit
      pub none_ahead : has_ahead side' ≡ false
          → All (λ (a : LeafBound). (is_above a.bound (with_ahead t query s side).best || past other a.bound) ≡ true) (leaves_behind t query x side)
      none_ahead e =
          all_mono (λ a q. sym (limit_above a.bound) ∙ q)
          (subst (All (Past h.limit)) comes' (asked.none_within e))
