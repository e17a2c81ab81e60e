-- The turns of `visit`: its invariant, and what a leaf that is read, or the end, leaves of it.
use Prim.Native.Nat.{ℕ, zero, suc, ◌+◌, ◌*◌, ◌-◌, ◌≤◌, ◌<◌}
use mathlib.Core.Path.{◌≡◌, refl, sym, ◌∙◌, ap, subst}
use mathlib.Core.Bool.{Bool, true, false}
use mathlib.Core.Option.{Option, none, some}
use mathlib.Core.List.{List, [], ◌∷◌, ◌++◌, map, foldl}
use native.Mathlib.Numerals.{add-one}
use native.Mathlib.Omega.{arith}
use lib.ListN.{length, take, drop, set, length-set}
use lib.Seq.{drop-drop, drop-set-lt, take-suc-set}
use lib.Dec.{ltb}
use borrow.Author.Tests.{ltb-true, ltb-false}
use Rattle.std.specs.Prelude.{Option as Told, Some, None, if◌then◌else◌}
use Rattle.integer.specs.Sorting.{Ordered, ordered_none}
use Rattle.integer.proofs.Lists.{drop_more, All, all_none, all_more, all_mono, all_take}
use Rattle.integer.proofs.Sorting.{place_get_or, place_none, kept_ordered, kept_more}
use Rattle.dstree.specs.Measures.{Trace}
use Rattle.dstree.specs.Node.{Tree}
use Rattle.dstree.specs.Matching.{LeafBound, Near, is_nearer, is_above, leaves, reading_order, read_on}
use Rattle.dstree.specs.KNearest.{kth, Listing, list_with, read_into, stops_at_kth}
use Rattle.dstree.specs.LeafLimit.{next_bound}
use Rattle.dstree.proofs.Reading.{reading_length}
use Rattle.dstree.proofs.Ranks.{linear}
use Rattle.tables.specs.Layout.{first_place}
use Rattle.tables.specs.Tables.{Tables, measures_of, trace_count, node_count, record_of}
use Rattle.tables.specs.View.{small_at, tree_in, shape_in, traces_in}
use Rattle.tables.specs.Walk.{numbers_of, Stored}
use Rattle.reading.specs.Nearest.{near, near_of}
use Rattle.reading.specs.Listed.{record_at, nears_in, kth_distance, ListRoom, ListBegins}
use Rattle.reading.proofs.Records.{nears_length, nears_none, nears_at}
use Rattle.reading.proofs.Meaning.{LeafInTables, answer_is}
use Rattle.best_first.proofs.Alike.{order_alike}
use Rattle.leaf_order.specs.Waits.{Waits, remaining, Begun}
use Rattle.leaf_order.specs.Handed.{is_past, Past, HandedLeaf}
use Rattle.leaf_order.specs.declared.leaves.Leaf.{Leaf}
use Rattle.search.specs.Searched.{Ready, listing_by, listed_first, next_by, VisitedBy, LimitVisited}
use Rattle.search.proofs.Facts.{shape_alike}

-- reading a leaf
abbrev pub read_in : ℕ → Tables → Trace → Listing → ℕ → Listing
read_in k t query = read_into k (traces_in t) (tree_in t) query

-- ---- the limit

-- of k records the last is the k-th, and its distance the limit; of fewer there is no k-th, and no limit
kth_full : (k : ℕ) (list : List ℕ) → 1 ≤ k → kth k (nears_in k list) ≡ some (record_at list (k - 1))
unfolding kth
kth_full zero list h = absurd (omega arith)
kth_full (suc k) list h =
    let e : suc k - 1 ≡ k = omega arith in
    place_get_or k (nears_in (suc k) list) (near 0 0) (omega (arith, nears_length (suc k) list))
    ∙ ap some (nears_at (suc k) k list (omega arith) ∙ ap (record_at list) (sym e))

kth_fewer : (k m : ℕ) (list : List ℕ) → m < k → kth k (nears_in m list) ≡ none
unfolding kth
kth_fewer zero m list h = absurd (omega arith)
kth_fewer (suc k) m list h = place_none k (nears_in m list) (omega (arith, nears_length m list))

pub past_is : (k m : ℕ) (list : List ℕ) → 1 ≤ k → m ≤ k → (bound : ℕ)
    → is_past (kth_distance k m list) bound ≡ is_above bound (kth k (nears_in m list))
unfolding is_past is_above kth_distance
past_is k m list one few bound = by (ltb m k) refl
  where
    by : (f : Bool) → ltb m k ≡ f
        → is_past (if f then None else Some (record_at list (k - 1)).distance) bound ≡ is_above bound (kth k (nears_in m list))
    by true e = rw (kth_fewer k m list (ltb-true m k e))
    by false e = let full : m ≡ k = omega (arith, few, ltb-false m k e) in rw (full, kth_full k list one)

-- ---- leaves read on in order

module _ {S : Type 0} (stop : S → ℕ → Bool) (read : S → ℕ → S) where
  pub read_next : (s : S) (a : LeafBound) (l : List LeafBound) → stop s a.bound ≡ false
      → read_on stop read s (a ∷ l) ≡ read_on stop read (read s a.number) l
  unfolding read_on
  read_next s a l e = rw e

  pub read_end : (s : S) {l : List LeafBound} → All (λ (a : LeafBound). stop s a.bound ≡ true) l → read_on stop read s l ≡ s
  unfolding read_on
  read_end s all_none = refl
  read_end s (all_more e es) = rw e

-- where every leaf to come is one to stop at, none would be read next
none_next : (best : Option Near) {l : List LeafBound} → All (λ (a : LeafBound). is_above a.bound best ≡ true) l → next_bound best l ≡ none
unfolding next_bound
none_next best all_none = refl
none_next best (all_more e es) = rw e

one_next : (best : Option Near) (a : LeafBound) (l : List LeafBound) → is_above a.bound best ≡ false → next_bound best (a ∷ l) ≡ some a.bound
unfolding next_bound
one_next best a l e = rw e

-- one of the leaves that may still be read
first_more : (most out : ℕ) → out < most → (a : LeafBound) (l : List LeafBound) → take (most - out) (a ∷ l) ≡ a ∷ take (most - (out + 1)) l
first_more most out h a l = let e : most - out ≡ suc (most - (out + 1)) = omega (arith, h) in rw e refl

no_more : (most out : ℕ) → out ≡ most → (l : List LeafBound) → take (most - out) l ≡ []
no_more most out e l = let z : most - out ≡ 0 = omega (arith, e) in rw z refl

drop_next : {A : Type 0} (n : ℕ) (l : List A) (a : A) (rest : List A) → a ∷ rest ≡ drop n l → rest ≡ drop (n + 1) l
drop_next n l a rest e = ap (drop 1) e ∙ drop-drop 1 n l

drop_one : (n : ℕ) (l m : List ℕ) → drop n l ≡ drop n m → drop (n + 1) l ≡ drop (n + 1) m
drop_one n l m e = sym (drop-drop 1 n l) ∙ ap (drop 1) e ∙ drop-drop 1 n m

-- a leaf's list, with n, the count of traces and the head as code has them
pub stored_as : (t : Tables) (j : ℕ) (at : LeafInTables t j) (n k head : ℕ) → n ≡ (measures_of t).n → k ≡ trace_count t
    → head ≡ small_at (record_of t.nodes j) first_place → Stored t.samples t.links n k head
stored_as t j at n k head n_is k_is head_is = rw (n_is, k_is, head_is) at.stored

-- ---- the invariant

-- the keys that wait stand for the leaves to come; to read as many of these on as may still be read, from what is found, gives the answer;
-- and the trail has room for them
pub record SearchState (k most : ℕ) (t : Tables) (query : Trace) (tree : Tree) (trail₀ list₀ work trail list : List ℕ)
    (waiting out traces many : ℕ) : Type 0 where
  pub waits : Waits tree query waiting work
  pub goes_on : read_on (stops_at_kth k) (read_in k t query) (listing_by (nears_in many list) traces (take out trail))
      (take (most - out) (remaining tree query waiting work))
      ≡ listed_first k most t query
  pub to_come : remaining tree query waiting work ≡ drop out (reading_order (tree_in t) query)
  pub out_few : out ≤ most
  pub trail_room : out + length (remaining tree query waiting work) ≡ length (leaves (tree_in t))
  pub few : traces ≤ out * 4096
  pub trail_size : length trail ≡ length trail₀
  pub trail_rest : drop out trail ≡ drop out trail₀
  pub room : ListRoom k many list
  pub list_size : length list ≡ length list₀
  pub list_rest : drop (2 * many) list ≡ drop (2 * many) list₀

module _ (k most : ℕ) (t : Tables) (query : Trace) (trail₀ list₀ : List ℕ) (ready : Ready t query (length trail₀)) where
  -- all leaves are to come
  pub state_start : (1 ≤ k) × (2 * k ≤ length list₀) → (m : ℕ) → m ≡ node_count t → (work : List ℕ)
      → Begun (shape_in t.nodes m) query work
      → SearchState k most t query (shape_in t.nodes m) trail₀ list₀ work trail₀ list₀ 1 0 0 0
  state_start places m e work b =
      let order : remaining (shape_in t.nodes m) query 1 work ≡ reading_order (tree_in t) query =
      b.all ∙ (rw e (order_alike (shape_alike t) query)) in
      let all_left : most - 0 ≡ most = omega arith in
      record {
        waits = b.waits;
        goes_on = rw (order, nears_none list₀, all_left);
        to_come = order;
        out_few = omega arith;
        trail_room = omega (arith, ap length order, reading_length (tree_in t) query);
        few = omega arith;
        trail_size = refl;
        trail_rest = refl;
        room = record { some_record = places.0; few = omega arith; long = places.1; ordered = rw (nears_none list₀) ordered_none };
        list_size = refl;
        list_rest = refl;
      }

  module _ {tree : Tree} {work trail list : List ℕ} {waiting out traces many : ℕ}
      (s : SearchState k most t query tree trail₀ list₀ work trail list waiting out traces many) where
    -- no more leaves are read than there are
    pub out_most : out ≤ length (leaves (tree_in t))
    out_most = omega (arith, s.trail_room)

    abbrev limit : Told ℕ
    limit = kth_distance k many list

    abbrev so_far : Listing
    so_far = listing_by (nears_in many list) traces (take out trail)

    stops_as : (bound : ℕ) → is_past limit bound ≡ stops_at_kth k so_far bound
    unfolding stops_at_kth
    stops_as bound = past_is k many list s.room.some_record s.room.few bound

    -- what is found, where reading ends here
    ends : read_on (stops_at_kth k) (read_in k t query) so_far (take (most - out) (remaining tree query waiting work)) ≡ so_far
        → VisitedBy k (listed_first k most t query) trail₀ trail list₀ list many out traces
    ends e = record {
      found = sym e ∙ s.goes_on;
      within = omega (arith, out_most, ready.trail_long);
      trail_rest = s.trail_rest;
      few = s.room.few;
      list_rest = s.list_rest;
    }

    -- no leaf to come is within the k-th distance
    pub state_end : All (Past limit) (remaining tree query waiting work)
        → LimitVisited k most t query trail₀ trail list₀ list many out traces None
    unfolding stops_at_kth next_by
    state_end past =
        let stop = all_mono (λ a e. sym (stops_as a.bound) ∙ e) past in
        record {
          visited = ends (read_end (stops_at_kth k) (read_in k t query) so_far (all_take (most - out) stop));
          next = sym (ap (next_bound (kth k (nears_in many list))) (sym s.to_come) ∙ none_next (kth k (nears_in many list)) stop);
        }

    -- there is a next leaf
    module _ {work' : List ℕ} {left : ℕ} {leaf : Leaf} (h : HandedLeaf tree query limit waiting left work work' leaf) where
      pub leaf_room : out < length trail
      leaf_room = omega (arith, s.trail_room, ap length h.first, ready.trail_long, s.trail_size)

      goes : stops_at_kth k so_far leaf.bound ≡ false
      goes = sym (stops_as leaf.bound) ∙ h.within

      -- no more may be read
      pub state_limit : out ≡ most → LimitVisited k most t query trail₀ trail list₀ list many out traces (Some leaf.bound)
      unfolding read_on stops_at_kth next_by
      state_limit e = record {
        visited = ends (rw (no_more most out e (remaining tree query waiting work)));
        next =
            sym (ap (next_bound (kth k (nears_in many list))) (sym s.to_come ∙ h.first)
            ∙ one_next (kth k (nears_in many list)) (record { number = leaf.number; bound = leaf.bound }) (remaining tree query left work') goes);
      }

      pub leaf_less : length (remaining tree query left work') < length (remaining tree query waiting work)
      leaf_less = rw h.first (omega arith)

      -- it is read
      pub state_leaf : out < most → (at : LeafInTables t leaf.number) (n count head traces' many' : ℕ) (list' : List ℕ) → n ≡ (measures_of t).n
          → count ≡ trace_count t
          → head ≡ small_at (record_of t.nodes leaf.number) first_place
          → ListBegins k many'
          (foldl (list_with k) (nears_in many list) (map (near_of t.samples n query) (numbers_of t.links count head))) list list'
          → length list' ≡ length list
          → traces' ≡ length (numbers_of t.links count head)
          → traces' ≤ count
          → SearchState k most t query tree trail₀ list₀ work' (set trail out leaf.number) list' left (out + 1) (traces + traces') many'
      state_leaf more_read at n count head traces' many' list' n_is count_is head_is lists size counted few_more =
          let next : LeafBound = record { number = leaf.number; bound = leaf.bound } in
          let met = map (near_of t.samples n query) (numbers_of t.links count head) in
          let noted : take (out + 1) (set trail out leaf.number) ≡ take out trail ++ (leaf.number ∷ []) =
          rw (add-one out) (take-suc-set trail out leaf.number leaf_room) in
          let read : read_in k t query so_far leaf.number ≡ listing_by (nears_in many' list') (traces + traces') (take (out + 1) (set trail out leaf.number)) =
          answer_is t leaf.number at query k so_far (nears_in many' list') traces' (rw (n_is, count_is, head_is) at lists.nears_are)
          (rw (count_is, head_is) at counted)
          ∙ ap (listing_by (nears_in many' list') (traces + traces')) (sym noted) in
          let more : many ≤ many' =
          omega (
            arith,
            kept_more is_nearer k (nears_in many list) met (omega (arith, nears_length many list, s.room.few)),
            nears_length many list,
            nears_length many' list',
            ap length lists.nears_are,
          ) in
          record {
            waits = h.waits;
            goes_on =
                ap (λ (q : Listing). read_on (stops_at_kth k) (read_in k t query) q (take (most - (out + 1)) (remaining tree query left work')))
                (sym read)
                ∙ sym (read_next (stops_at_kth k) (read_in k t query) so_far next (take (most - (out + 1)) (remaining tree query left work')) goes)
                ∙ ap (read_on (stops_at_kth k) (read_in k t query) so_far)
                (sym (ap (take (most - out)) h.first ∙ first_more most out more_read next (remaining tree query left work')))
                ∙ s.goes_on;
            to_come = drop_next out (reading_order (tree_in t) query) next (remaining tree query left work') (sym h.first ∙ s.to_come);
            out_few = omega (arith, more_read);
            trail_room = omega (arith, s.trail_room, ap length h.first);
            few = omega (arith, s.few, few_more, count_is, at.stored.few);
            trail_size = length-set trail out leaf.number ∙ s.trail_size;
            trail_rest = drop-set-lt (out + 1) trail out leaf.number (omega arith) ∙ drop_one out trail trail₀ s.trail_rest;
            room = record {
              some_record = s.room.some_record;
              few = lists.few;
              long = omega (arith, s.room.long, size);
              ordered = subst (Ordered is_nearer) (sym lists.nears_are) (kept_ordered linear k met s.room.ordered);
            };
            list_size = size ∙ s.list_size;
            list_rest = lists.rest ∙ drop_more (2 * many') (2 * many) list list₀ (omega arith) s.list_rest;
          }
