-- The turns of `visit`: the leaves still to come for a query, read on from those that were read, give the leaves that it reads.
use Prim.Native.Nat.{ℕ, zero, suc, ◌<◌}
use mathlib.Core.Path.{◌≡◌, refl, sym, ◌∙◌, ap, subst}
use mathlib.Core.Bool.{Bool, true, false}
use mathlib.Core.List.{List}
use native.Mathlib.Omega.{arith}
use lib.IntN.{ℤ}
use lib.ListN.{length}
use lib.Dec.{ltb}
use borrow.Author.Tests.{lt-ltb}
use Rattle.integer.proofs.Lists.{All, all_mono}
use Rattle.dstree.specs.Measures.{Trace}
use Rattle.dstree.specs.Node.{Tree}
use Rattle.dstree.specs.Matching.{LeafBound, reading_order, read_on, Near, is_above}
use Rattle.dstree.specs.Batch.{best_among, read_once, read_for}
use Rattle.tables.specs.Tables.{Tables, node_count}
use Rattle.tables.specs.View.{tree_in, shape_in, traces_in}
use Rattle.reading.specs.Listed.{record_at}
use Rattle.best_first.proofs.Alike.{order_alike}
use Rattle.leaf_order.specs.Waits.{Waits, remaining, Begun}
use Rattle.std.specs.Prelude.{Option as Told, Some, None, if◌then◌else◌}
use Rattle.leaf_order.specs.declared.leaves.Leaf.{Leaf}
use Rattle.leaf_order.specs.Handed.{is_past, Past, HandedLeaf}
use Rattle.search.proofs.Facts.{shape_alike}
use Rattle.search.proofs.Turns.{read_next, read_end}
use Rattle.batch_leaves.specs.LeavesRead.{query_at, best_by, CountedOnce, BatchRoom, BestsAndMarks, Turns}

-- the limit: the best's distance, once there is one
abbrev pub limit_by : ℕ → Near → Told ℕ
limit_by leaves a = if ltb 0 leaves then Some a.distance else None

past_is : (leaves : ℕ) (a : Near) (bound : ℕ) → is_past (limit_by leaves a) bound ≡ is_above bound (best_by leaves a)
unfolding is_past is_above
past_is zero a bound = refl
past_is (suc more) a bound = let e : ltb 0 (suc more) ≡ true = lt-ltb 0 (suc more) (omega arith) in rw e

module _ (t : Tables) (run : List ℤ) (many i : ℕ) where
  abbrev query : Trace
  query = query_at t run i

  -- the query stops at a bound above its best
  abbrev stops : List ℕ → ℕ → Bool
  stops read bound = is_above bound (best_among (traces_in t) (tree_in t) query read)

  -- some leaves are read, and those to come are to be read on
  pub record Halfway (read₀ : List ℕ) (coming : List LeafBound) (bests marks : List ℕ) (leaves : ℕ) : Type 0 where
    pub read : List ℕ
    pub keeps : BestsAndMarks t run many read bests marks leaves
    pub goes_on : read_on stops read_once read coming ≡ read_for (traces_in t) (tree_in t) read₀ query

  -- the keys that wait stand for the leaves to come, whatever was read before
  pub record BatchState (tree : Tree) (bests₀ marks₀ : List ℕ) (leaves₀ : ℕ) (work bests marks : List ℕ) (waiting leaves : ℕ) : Type 0 where
    pub waits : Waits tree query waiting work
    pub room : BatchRoom t many bests marks leaves
    pub bests_size : length bests ≡ length bests₀
    pub marks_size : length marks ≡ length marks₀
    pub halfway : (read₀ : List ℕ) → BestsAndMarks t run many read₀ bests₀ marks₀ leaves₀
        → Halfway read₀ (remaining tree query waiting work) bests marks leaves

  -- all leaves are to come
  pub state_start : (m : ℕ) → m ≡ node_count t → (work bests marks : List ℕ) (leaves : ℕ) → Begun (shape_in t.nodes m) query work
      → BatchRoom t many bests marks leaves → BatchState (shape_in t.nodes m) bests marks leaves work bests marks 1 leaves
  unfolding read_for
  state_start m e work bests marks leaves b room =
      let order : remaining (shape_in t.nodes m) query 1 work ≡ reading_order (tree_in t) query =
      b.all ∙ (rw e (order_alike (shape_alike t) query)) in
      record {
        waits = b.waits;
        room = room;
        bests_size = refl;
        marks_size = refl;
        halfway = λ read₀ k. record { read = read₀; keeps = k; goes_on = ap (read_on stops read_once read₀) order };
      }

  module _ (inside : i < many) {tree : Tree} {bests₀ marks₀ : List ℕ} {leaves₀ : ℕ} {work bests marks : List ℕ} {waiting leaves : ℕ}
      (s : BatchState tree bests₀ marks₀ leaves₀ work bests marks waiting leaves) where
    abbrev limit : Told ℕ
    limit = limit_by leaves (record_at bests i)

    stops_as : {read : List ℕ} → BestsAndMarks t run many read bests marks leaves → (bound : ℕ)
        → is_past limit bound ≡ stops read bound
    stops_as k bound = past_is leaves (record_at bests i) bound ∙ ap (is_above bound) (k.best_is i inside)

    -- no leaf to come is within the query's best
    pub state_end : All (Past limit) (remaining tree query waiting work)
        → Turns t run many (λ read. read_for (traces_in t) (tree_in t) read query) bests₀ marks₀ leaves₀ bests marks leaves
    state_end past read₀ k =
        let h = s.halfway read₀ k in
        let e : h.read ≡ read_for (traces_in t) (tree_in t) read₀ query =
        sym (read_end stops read_once h.read (all_mono (λ a p. sym (stops_as h.keeps a.bound) ∙ p) past)) ∙ h.goes_on in
        subst (λ (l : List ℕ). BestsAndMarks t run many l bests marks leaves) e h.keeps

    module _ {work' : List ℕ} {left : ℕ} {leaf : Leaf} (x : HandedLeaf tree query limit waiting left work work' leaf) where
      pub leaf_less : length (remaining tree query left work') < length (remaining tree query waiting work)
      leaf_less = rw x.first (omega arith)

      -- the next leaf is read, or passed over
      pub state_leaf : (bests' marks' : List ℕ) (leaves' : ℕ)
          → Turns t run many (λ read. read_once read leaf.number) bests marks leaves bests' marks' leaves' → CountedOnce t marks' leaves'
          → length bests' ≡ length bests → length marks' ≡ length marks
          → BatchState tree bests₀ marks₀ leaves₀ work' bests' marks' left leaves'
      state_leaf bests' marks' leaves' turn counted size_b size_m = record {
        waits = x.waits;
        room = record {
          bests_long = omega (arith, s.room.bests_long, size_b);
          marks_long = omega (arith, s.room.marks_long, size_m);
          counted = counted;
        };
        bests_size = size_b ∙ s.bests_size;
        marks_size = size_m ∙ s.marks_size;
        halfway = λ read₀ k.
            let h = s.halfway read₀ k in
            let go : stops h.read leaf.bound ≡ false = sym (stops_as h.keeps leaf.bound) ∙ x.within in
            record {
              read = read_once h.read leaf.number;
              keeps = turn h.read h.keeps;
              goes_on =
                  sym (read_next stops read_once h.read (record { number = leaf.number; bound = leaf.bound }) (remaining tree query left work') go)
                  ∙ ap (read_on stops read_once h.read) (sym x.first) ∙ h.goes_on;
            };
      }
