-- One library before anything is read: without a node there is no leaf, else all leaves are to come.
use Prim.Native.Nat.{ℕ}
use mathlib.Core.Path.{◌≡◌, refl, sym, ◌∙◌}
use mathlib.Core.List.{List, []}
use native.Mathlib.Omega.{arith}
use lib.IntN.{ℤ}
use Rattle.integer.specs.Words.{counting, those}
use Rattle.integer.specs.Sorting.{poured_by}
use Rattle.integer.proofs.Tests.{is_true}
use Rattle.integer.proofs.Lists.{All, all_none, all_more}
use Rattle.dstree.specs.Measures.{Trace}
use Rattle.dstree.specs.Node.{Tree}
use Rattle.dstree.specs.Matching.{LeafBound, leaves, reading_order}
use Rattle.tables.specs.View.{shape_in}
use Rattle.leaf_order.specs.Waits.{Waits, remaining, Begun}
use Rattle.leaf_order.specs.Handed.{is_past, Past}
use Rattle.pair_search.specs.Sides.{Asked}
use Rattle.pair_search.specs.Visiting.{Started}
use Rattle.heap.specs.declared.Heap.{Heap}
use Rattle.std.specs.Prelude.{None}
use Rattle.pair_search.specs.declared.sides.Side.{Side}

-- nothing read, nothing ahead
abbrev pub nothing : Side
nothing = record { ahead = None; listed = 0; out = 0; traces = 0 }

no_nodes : (nodes : List ℤ) → shape_in nodes 0 ≡ []
unfolding shape_in counting
no_nodes nodes = refl

none_waits : (query : Trace) (work : List ℕ) → Waits [] query 0 work
unfolding poured_by leaves those counting
none_waits query work = record {
  heap = λ i j h g k. absurd (omega arith);
  keyed = tt;
  fits = omega arith;
  room = omega arith;
}

none_come : (query : Trace) (work : List ℕ) → remaining [] query 0 work ≡ reading_order [] query
unfolding poured_by remaining reading_order leaves those counting
none_come query work = refl

none_read : (query : Trace) → reading_order [] query ≡ []
unfolding poured_by reading_order leaves those counting
none_read query = refl

none_started : (query : Trace) (h : Heap) → h.len ≡ 0 → Started [] query nothing h
none_started query h e = record {
  waits = rw e (none_waits query h.keys.now);
  comes = rw e (none_come query h.keys.now);
  ahead_in = λ q. absurd (is_true q);
  no_leaf = λ q. none_read query;
  none_listed = refl;
  none_out = refl;
  none_read = refl;
}

-- no node
pub no_start : (nodes : List ℤ) (m : ℕ) (query : Trace) (h : Heap) → h.len ≡ 0 → m ≡ 0 → Started (shape_in nodes m) query nothing h
no_start nodes m query h z e = rw (e, no_nodes nodes) (none_started query h z)

-- without a limit nothing is past it
none_past : {l : List LeafBound} → All (Past None) l → l ≡ []
unfolding is_past
none_past all_none = refl
none_past (all_more e es) = absurd (is_true e)

-- the first leaf was asked for
pub start_asked : (tree : Tree) (query : Trace) (side : Side) (h h' : Heap) → h.len ≡ 1 → Begun tree query h.keys.now
    → Asked tree query None nothing side h h' → Started tree query side h'
start_asked tree query side h h' one begun asked =
    let all : remaining tree query h.len h.keys.now ≡ reading_order tree query = rw one begun.all in
    record {
      waits = asked.waits;
      comes = asked.same ∙ all;
      ahead_in = asked.ahead_in;
      no_leaf = λ e. sym (asked.same ∙ all) ∙ none_past (asked.none_within e);
      none_listed = asked.listed_stays;
      none_out = asked.out_stays;
      none_read = asked.traces_stay;
    }
