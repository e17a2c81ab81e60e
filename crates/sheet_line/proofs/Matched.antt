-- The line of a search among the earlier traces, by the laws of the tree that adding makes of them.
use Prim.Native.Nat.{ℕ, ◌*◌, ◌-◌, ◌≤◌, ◌<◌}
use mathlib.Core.Path.{◌≡◌, sym, ◌∙◌, ap, ap₂}
use mathlib.Core.List.{List}
use native.Mathlib.Omega.{arith}
use lib.ListN.{length}
use lib.Dec.{T}
use Rattle.dstree.specs.Measures.{Trace, Measures, sample_limit, is_library}
use Rattle.dstree.specs.Node.{Tree}
use Rattle.dstree.specs.Adding.{tree_of}
use Rattle.dstree.specs.Matching.{searched, match_by_steps, match_of}
use Rattle.dstree.specs.Book.{match_seen}
use Rattle.dstree.specs.Program.{match_line, line_of}
use Rattle.dstree.proofs.Laws.{claims, node_count_lem}
use Rattle.tables.specs.Tables.{Tables}
use Rattle.tables.specs.View.{tree_in, traces_in}
use Rattle.insertion_memory.proofs.Made.{Holds, count_is}
use Rattle.calls.proofs.Searches.{seen_is}
use Rattle.search.specs.Searched.{match_by, Ready}
use Rattle.search.proofs.Facts.{leaves_most}
use Rattle.std.specs.Prelude.{Ok}
use Rattle.sheet_line.specs.Lines.{line_by}

module _ (t : Tables) (m : Measures) (earlier : List Trace) (query : Trace) (h : Holds t m earlier)
    (library : T (is_library sample_limit m earlier)) (one : 0 < length earlier) (size : length query ≡ m.n) where
  -- tables that hold a trace may be searched
  pub ready : (trail : ℕ) → 2 * length earlier - 1 ≤ trail → Ready t query trail
  ready trail room = record {
    formed = h.formed;
    long = h.long;
    some_trace = omega (arith, count_is t, ap length h.traces_are, one);
    same_length = size ∙ ap (λ (k : Measures). k.n) (sym h.measures_are);
    trail_long = omega (arith, leaves_most (tree_in t), ap length h.tree_is, node_count_lem sample_limit m earlier library, room);
  }

  -- what the search ends with is the match of the earlier traces
  found_is : (let s = searched (traces_in t) (tree_in t) query in match_seen s s.best) ≡ match_of earlier (tree_of m earlier) query
  unfolding match_by_steps
  found_is =
      let s = searched earlier (tree_of m earlier) query in
      ap₂ (λ (l : List Trace) (tree : Tree). match_seen (searched l tree query) (searched l tree query).best) h.traces_are h.tree_is
      ∙ seen_is s s.best _ (claims sample_limit m earlier library query one size).steps_give_it

  pub found_line : (trace distance out traces : ℕ) (trail : List ℕ)
      → match_by trace distance out traces trail ≡ (let s = searched (traces_in t) (tree_in t) query in match_seen s s.best)
      → line_by (Ok (record { trace = trace; distance = distance; leaves = out; traces = traces })) ≡ line_of m earlier query
  unfolding line_by line_of match_line
  found_line trace distance out traces trail e = ap match_line (e ∙ found_is)
