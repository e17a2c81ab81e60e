-- Well-formed tables, long enough, with a node: a trace of n samples can go down and widen their records.
-- The idea: each record reads as its node, and the rules for well-formed tables say of the node what code needs of the record.
use mathlib.Core.Path.{◌≡◌, sym, subst, ◌∙◌}
use mathlib.Core.List.{List, map}
use Prim.Native.Nat.{ℕ, zero, suc, ◌+◌, ◌≤◌, ◌<◌}
use native.Mathlib.Omega.{arith}
use lib.IntN.{ℤ}
use lib.ListN.{length}
use lib.Dec.{T}
use Rattle.integer.specs.Words.{counting}
use Rattle.dstree.specs.Measures.{sample_limit, most_samples}
use Rattle.dstree.specs.Figures.{run, width}
use Rattle.dstree.specs.Node.{Segment, Figure, by_sum, by_scatter, Tree, node_at, ends}
use Rattle.dstree.specs.Formed.{Rises, rises_more, Fits}
use Rattle.dstree.proofs.Formed.{Limited, AllLimited, l_more, TestIn}
use Rattle.dstree.proofs.Change.{next_child}
use Rattle.dstree.proofs.Cuts.{parted_rises}
use Rattle.dstree.proofs.Nodes.{nodes_most}
use Rattle.tables.specs.Layout.{kind_place, segments_place, run_first_place, run_last_place, record_places}
use Rattle.tables.specs.Tables.{Tables, measures_of, trace_count, node_count, record_of}
use Rattle.tables.specs.View.{small_at, segment_in, segments_in, test_in, kind_in, tree_in, well_formed}
use Rattle.tables.specs.Runs.{Inside}
use Rattle.tables.proofs.Views.{ends_length, tree_kind, kind_named}
use Rattle.prefixes.proofs.Cut.{scatter_most_lem}
use Rattle.insertion.specs.Widening.{end_in, start_in, SegmentReadable, Readable}
use Rattle.insertion.specs.Way.{Descendable}
use Rattle.insertion.proofs.Down.{next_same}
use Rattle.insertion_memory.specs.Memory.{tree_tables_in}
use Rattle.insertion_memory.specs.Represents.{Represents}
use Rattle.insertion_memory.proofs.FromTables.{Long, facts, node_count_lem, space, tables_stand}

-- ---- segment by segment

module _ (r : List ℤ) (n : ℕ) (narrow : n ≤ most_samples) where
  one_readable : (a begin : ℕ) → 1 ≤ begin → (begin ≤ end_in r a) × (end_in r a ≤ n) → Limited sample_limit (width (run begin (end_in r a))) (segment_in r a) → SegmentReadable r a begin n
  one_readable a begin low p l = record {
    on = record { from_1 = low; rises = p.0; to_n = p.1 };
    least_scatter_lem = omega (arith, l.scatters, scatter_most_lem (omega (arith, low, p.1)) l.greatest_scatter_lem);
    greatest_scatter_lem = omega (arith, scatter_most_lem (omega (arith, low, p.1)) l.greatest_scatter_lem);
  }

  all_readable : (k a : ℕ) → 1 ≤ start_in r a → Rises n (start_in r a) (ends (map (segment_in r) (counting k a)))
      → AllLimited sample_limit (start_in r a) (map (segment_in r) (counting k a)) → (i : ℕ) → i < k → SegmentReadable r (a + i) (start_in r (a + i)) n
  unfolding counting segment_in
  all_readable zero a low p l i h = absurd (omega arith)
  all_readable (suc k) a low (rises_more g to_n p) (l_more f l) zero h =
      let e : a ≡ a + 0 = omega arith in
      subst (λ (j : ℕ). SegmentReadable r j (start_in r j) n) e (one_readable a (start_in r a) low (g, to_n) f)
  all_readable (suc k) a low (rises_more g to_n p) (l_more f l) (suc i) h =
      let e : suc a + i ≡ a + suc i = omega arith in
      subst (λ (j : ℕ). SegmentReadable r j (start_in r j) n) e
      (all_readable k (suc a) (omega arith) p l i (omega arith))

  readable : length r ≡ record_places → Fits n (ends (segments_in r)) → AllLimited sample_limit 1 (segments_in r) → Readable r n
  unfolding segments_in
  readable size f l = record {
    size = size;
    few = omega (arith, f.few, ends_length r);
    segment = λ i h.
        let e : 0 + i ≡ i = omega arith in
        subst (λ (j : ℕ). SegmentReadable r j (start_in r j) n) e
        (all_readable (small_at r segments_place) 0 (omega arith) (parted_rises f.parted) l i h);
  }

run_inside : {n : ℕ} (r : List ℤ) (figure : Figure) → TestIn sample_limit n (test_in r figure)
    → Inside n (small_at r run_first_place) (small_at r run_last_place)
unfolding test_in
run_inside r figure ok = ok.run_in

-- ---- the tables

module _ (t : Tables) (w : T (well_formed t)) (long : Long t) (some : 0 < length (tree_in t)) where
  abbrev n : ℕ
  n = (measures_of t).n

  abbrev tree : Tree
  tree = tree_in t

  represents : Represents n (measures_of t).capacity t.nodes t.links (trace_count t) (tree_tables_in t) tree
  represents = tables_stand t w long

  here : (j : ℕ) → j < node_count t → j < length tree
  here j h = omega (arith, h, node_count_lem t w)

  readable_at : (j : ℕ) → j < node_count t → Readable (record_of t.nodes j) n
  readable_at j h =
      let d = represents.reads j (here j h) in
      readable (record_of t.nodes j) n (space t w long).narrow d.size
      (subst (λ (l : List Segment). Fits n (ends l)) (sym d.segments) ((facts t w).shape.fits j (here j h)))
      (subst (λ (l : List Segment). AllLimited sample_limit 1 l) (sym d.segments) ((facts t w).limits.figures j (here j h)))

  test_at : (j kind : ℕ) → (node_at tree j).kind ≡ kind_in t.links (trace_count t) (record_of t.nodes j) kind → kind ≤ 2 → 1 ≤ kind
      → Inside n (small_at (record_of t.nodes j) run_first_place) (small_at (record_of t.nodes j) run_last_place)
  unfolding kind_in
  test_at j zero e h l = absurd (omega arith)
  test_at j (suc zero) e h l = run_inside (record_of t.nodes j) by_sum ((facts t w).limits.tests j _ _ _ e)
  test_at j (suc (suc zero)) e h l = run_inside (record_of t.nodes j) by_scatter ((facts t w).limits.tests j _ _ _ e)
  test_at j (suc (suc (suc kind))) e h l = absurd (omega arith)

  pub descendable : Descendable t.nodes (node_count t) n
  descendable = record {
    some_node = omega (arith, some, node_count_lem t w);
    few = omega (arith, node_count_lem t w, nodes_most represents.shape, represents.few, (space t w long).small);
    narrow = (space t w long).narrow;
    room = omega (arith, node_count_lem t w, nodes_most represents.shape, represents.few, (space t w long).nodes_room);
    readable = readable_at;
    kind = kind_named t w;
    test = λ j h l. record {
      size = (represents.reads j (here j h)).size;
      on = test_at j (small_at (record_of t.nodes j) kind_place) (tree_kind t j h) (kind_named t w j h) l;
    };
    child = λ x p c e.
        let b = (facts t w).shape.children.child p c (next_child x c (node_at tree p).kind (sym (next_same t x p) ∙ e)) in
        (b.0, omega (arith, b.1, node_count_lem t w));
  }
