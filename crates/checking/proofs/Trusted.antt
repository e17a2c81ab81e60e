-- Tables that are well formed and long enough: their nodes may be walked, and once the traces below each node are laid out their records
-- may be compared. The comparison of all records is then the test of the tree.
use mathlib.Core.Path.{◌≡◌, sym, ap, ap₂, subst, ◌∙◌}
use mathlib.Core.List.{List, [], ◌++◌}
use Prim.Native.Nat.{ℕ, suc, ◌+◌, ◌*◌, ◌≤◌, ◌<◌}
use native.Mathlib.Nat.{mul-le-mul_right}
use native.Mathlib.Omega.{arith}
use lib.ListN.{length, get_or}
use lib.Dec.{T}
use Rattle.integer.specs.Words.{every, counting}
use Rattle.integer.proofs.Lists.{In, map_agree, from_counting}
use Rattle.dstree.specs.Measures.{Trace, samples_needed}
use Rattle.dstree.specs.Node.{Segment, Tree, ends}
use Rattle.dstree.specs.Formed.{Shape, Fits}
use Rattle.dstree.specs.Adding.{traces_of}
use Rattle.dstree.specs.Checking.{traces_below, are_exact, is_exact_at, is_exact}
use Rattle.dstree.proofs.Below.{below_stored}
use Rattle.dstree.proofs.TracesBelow.{listed_below, some_below}
use Rattle.tables.specs.Layout.{kind_place, first_place, right_place}
use Rattle.tables.specs.Tables.{Tables, measures_of, trace_count, node_count, record_of}
use Rattle.tables.specs.View.{small_at, tree_in, trace_in, traces_in, well_formed}
use Rattle.tables.specs.Holds.{Long}
use Rattle.tables.proofs.Views.{tree_size, tree_segments, tree_inside, trace_at, tree_formed, measures_fit}
use Rattle.numbers_fit.proofs.Once.{every_same}
use Rattle.leaf_figures.specs.Rows.{traces_at}
use Rattle.tables.specs.Nodes.{tree_by, Walks}
use Rattle.tables.proofs.ByKind.{left_above, right_above, same_tree, walks}
use Rattle.checking.specs.Laid.{LaidOut}
use Rattle.figures_below.specs.Compared.{numbers_laid_at, ReadyToCompare}
use Rattle.figures_below.specs.Compared.{exact_in}
use Rattle.checking.proofs.ByKind.{inner_below}

module _ (t : Tables) (w : T (well_formed t)) (long : Long t) where
  abbrev k : ℕ
  k = trace_count t

  abbrev m : ℕ
  m = node_count t

  abbrev n : ℕ
  n = (measures_of t).n

  shape : Shape n k (tree_in t)
  shape = (tree_formed t w).shape

  count_most : k ≤ (measures_of t).capacity
  count_most = (tree_formed t w).room

  walked : Walks t.nodes t.links (trace_count t) (node_count t)
  walked = walks t w long.nodes_long long.links_long

  module _ {sizes starts order : List ℕ} (laid : LaidOut (tree_by t.nodes t.links (trace_count t)
      (node_count t)) sizes starts order) where
    below : (j : ℕ) → j < m → numbers_laid_at sizes starts order j ≡ traces_below (tree_in t) j
    below j h = subst (λ (tree : Tree). numbers_laid_at sizes starts order j ≡ traces_below tree j) (same_tree t)
        (laid.below j (subst (λ (tree : Tree). j < length tree) (sym (same_tree t)) (tree_inside t j h)))

    stored : (j x : ℕ) → j < m → In x (numbers_laid_at sizes starts order j) → x < k
    stored j x h i = below_stored shape (listed_below shape {k = j} (subst (In x) (below j h) i))

    pub ready : ReadyToCompare t.samples t.nodes (measures_of t).n (node_count t) sizes starts order
    unfolding samples_needed
    ready = record {
      narrow = (measures_fit t w).n_high;
      nodes_few = walked.nodes_few;
      nodes_room = walked.nodes_room;
      sizes_places = laid.sizes_places;
      starts_places = laid.starts_places;
      order_places = laid.order_places;
      inside = λ j h. laid.inside j (subst (λ (tree : Tree). j < length tree) (sym (same_tree t)) (tree_inside t j h));
      stored = λ j x h i. room x (stored j x h i);
      some = λ j h. rw (below j h) (some_below shape j (tree_inside t j h));
      fits = λ j h. subst (λ (l : List Segment). Fits n (ends l)) (tree_segments t j h) (shape.fits j (tree_inside t j h));
      left_in = λ j h e. left_above walked j h e;
      right_in = λ j h e. right_above walked j h e;
      of_both = λ j h e. both j h e;
    }
      where
        room : (x : ℕ) → x < k → x * n + n ≤ length t.samples
        room x h =
            let less : suc x * n ≤ k * n = mul-le-mul_right n h in
            let most : k * n ≤ (measures_of t).capacity * n = mul-le-mul_right n count_most in
            omega (arith, less, most, long.samples_long)

        both : (j : ℕ) → j < m → 1 ≤ small_at (record_of t.nodes j) kind_place → numbers_laid_at sizes starts order j
            ≡ numbers_laid_at sizes starts order (small_at (record_of t.nodes j) first_place) ++ numbers_laid_at sizes starts order
            (small_at (record_of t.nodes j) right_place)
        both j h e =
            let l = small_at (record_of t.nodes j) first_place in
            let r = small_at (record_of t.nodes j) right_place in
            let parted : traces_below (tree_in t) j ≡ traces_below (tree_in t) l ++ traces_below (tree_in t) r =
            subst (λ (tree : Tree). traces_below tree j ≡ traces_below tree l ++ traces_below tree r) (same_tree t) (inner_below walked j h e) in
            below j h ∙ (parted ∙ sym (ap₂ (λ (a b : List ℕ). a ++ b) (below l (left_above walked j h e).1)
            (below r (right_above walked j h e).1)))

    -- one node
    exact_same : (j : ℕ) → j < m → exact_in t.samples t.nodes n sizes starts order j ≡ is_exact_at (traces_in t) (tree_in t) j
    unfolding is_exact_at
    exact_same j h =
        let traces : traces_at t.samples n (numbers_laid_at sizes starts order j) ≡ traces_of (traces_in t) (traces_below (tree_in t) j) =
        map_agree (trace_in t.samples n) (λ (x : ℕ). get_or (traces_in t) x []) (numbers_laid_at sizes starts order j)
        (λ x i. sym (trace_at t x (stored j x h i)))
        ∙ ap (traces_of (traces_in t)) (below j h) in
        ap₂ (λ (a : List Trace) (b : List Segment). are_exact a 1 b) traces (sym (tree_segments t j h))

    pub all_same : every (exact_in t.samples t.nodes (measures_of t).n sizes starts order) (counting (node_count t) 0) ≡ is_exact
        (traces_in t) (tree_in t)
    unfolding is_exact
    all_same =
        every_same (exact_in t.samples t.nodes n sizes starts order) (is_exact_at (traces_in t) (tree_in t)) (counting m 0)
        (λ j i. exact_same j (omega (arith, from_counting m 0 i)))
        ∙ ap (λ (x : ℕ). every (is_exact_at (traces_in t) (tree_in t)) (counting x 0)) (sym (tree_size t))
