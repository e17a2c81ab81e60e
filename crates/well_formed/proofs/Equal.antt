-- The test by records and marks is the definition: the tree that tables stand for has a node for each number below the node count, and each
-- rule on the tree is the rule on the records.
use Prim.Native.Nat.{ℕ, zero, suc, ◌*◌, ◌-◌, ◌≤◌, ◌<◌}
use mathlib.Core.Path.{◌≡◌, refl, sym, ◌∙◌, ap, subst}
use mathlib.Core.Bool.{Bool, true, false, ◌&&◌, beq}
use mathlib.Core.List.{List, [], ◌∷◌, map, flatten}
use native.Mathlib.Omega.{arith}
use lib.IntN.{ℤ}
use lib.ListN.{length}
use lib.Dec.{T, leb, ltb, eqb, leb→le, le→leb, ltb→lt}
use mir.Facts.{and_yes, yes_and}
use Rattle.integer.specs.Words.{every, counting, is_in, times_in}
use Rattle.integer.proofs.Tests.{is_true, passed, passes, same_test}
use Rattle.integer.proofs.Lists.{In, every_of, from_every}
use Rattle.dstree.specs.Measures.{in_range, sample_limit}
use Rattle.dstree.specs.Node.{Segment, Node, Tree, node_at, ends}
use Rattle.dstree.specs.Matching.{numbers_in}
use Rattle.dstree.specs.WellFormed as abstract
use Rattle.dstree.specs.WellFormed.{every_node, children_of, children_above, child_once, ends_fit, ends_kept, leaf_fits, in_one_leaf, segments_fit, test_fits, node_fits}
use Rattle.dstree.proofs.Nodes.{nodes_at_most}
use Rattle.tables.specs.Layout.{kind_place}
use Rattle.tables.specs.Tables.{Tables, tables, measures_of, trace_count, node_count, record_of}
use Rattle.tables.specs.View.{small_at, segments_in, kind_in, node_in, tree_in, kinds_named, well_formed}
use Rattle.tables.proofs.Views.{tree_size, tree_segments}
use Rattle.records_fit.specs.Fits.{kind_alone, child_fits, head_fits, segments_hold, record_fits, ends_in, kept_at, records_fit, all_kept}
use Rattle.numbers_fit.specs.Tests.{children_at, children_once, leaf_fits_at, numbers_at, numbers_of_first, leaves_hold}
use Rattle.well_formed.specs.Whole.{counts_fit, tree_fits}
use Rattle.numbers_fit.proofs.Once.{every_same}

-- ---- lists made for the numbers below m

module _ {A : Type 0} (f : ℕ → A) where
  flat_made : (g : A → List ℕ) (h : ℕ → List ℕ) → ((x : ℕ) → g (f x) ≡ h x) → (l : List ℕ) → flatten (map g (map f l)) ≡ flatten (map h l)
  unfolding flatten
  flat_made g h e [] = refl
  flat_made g h e (x ∷ l) = rw (e x, flat_made g h e l)

made_nodes : (passes : ℕ → Node → Bool) (f : ℕ → Node) (m a : ℕ) → every_node passes a (map f (counting m a)) ≡ every (λ j. passes j (f j)) (counting m a)
unfolding every_node counting every
made_nodes passes f zero a = refl
made_nodes passes f (suc m) a = ap (λ (b : Bool). passes a (f a) && b) (made_nodes passes f m (suc a))

-- ---- what a record tells without the links

module _ (links : List ℕ) (k : ℕ) (r : List ℤ) where
  same_children : (kind : ℕ) → children_of (kind_in links k r kind) ≡ children_of (kind_in [] 0 r kind)
  unfolding kind_in children_of
  same_children zero = refl
  same_children (suc zero) = refl
  same_children (suc (suc zero)) = refl
  same_children (suc (suc (suc other))) = refl

  same_fits : (n kind : ℕ) → test_fits sample_limit n (kind_in links k r kind) ≡ test_fits sample_limit n (kind_in [] 0 r kind)
  unfolding kind_in test_fits
  same_fits n zero = refl
  same_fits n (suc zero) = refl
  same_fits n (suc (suc zero)) = refl
  same_fits n (suc (suc (suc other))) = refl

-- ---- the tables

module _ (control : List ℕ) (nodes : List ℤ) (links : List ℕ) where
  abbrev t : Tables
  t = tables control [] nodes links []

  abbrev n : ℕ
  n = (measures_of t).n

  abbrev k : ℕ
  k = trace_count t

  abbrev m : ℕ
  m = node_count t

  abbrev capacity : ℕ
  capacity = (measures_of t).capacity

  abbrev at : ℕ → Node
  at j = node_in links k (record_of nodes j)

  abbrev tree : Tree
  tree = tree_in t

  children_is : (j : ℕ) → children_of (at j).kind ≡ children_at nodes j
  unfolding node_in
  children_is j = same_children links k (record_of nodes j) (small_at (record_of nodes j) kind_place)

  test_is : (j : ℕ) → test_fits sample_limit n (at j).kind ≡ test_fits sample_limit n (kind_alone (record_of nodes j))
  unfolding node_in
  test_is j = same_fits links k (record_of nodes j) n (small_at (record_of nodes j) kind_place)

  once_is : child_once tree ≡ children_once m nodes
  unfolding child_once children_once tree_in
  once_is =
      ap (λ (x : ℕ). every (λ number. eqb (times_in number (flatten (map (λ (a : Node). children_of a.kind) tree))) 1) (counting (x - 1) 1)) (tree_size t)
      ∙ ap (λ (l : List ℕ). every (λ number. eqb (times_in number l) 1) (counting (m - 1) 1)) (flat_made at (λ (a : Node). children_of a.kind) (children_at nodes) children_is (counting m 0))

  leaf_is : in_one_leaf k tree ≡ every (λ number. eqb (times_in number (numbers_of_first nodes links k m)) 1) (counting k 0) && every (λ number. ltb number k) (numbers_of_first nodes links k m)
  unfolding in_one_leaf tree_in node_in
  leaf_is =
      ap (λ (l : List ℕ). every (λ number. eqb (times_in number l) 1) (counting k 0) && every (λ number. ltb number k) l)
      (flat_made at (λ (a : Node). numbers_in a.kind) (numbers_at nodes links k) (λ j. refl) (counting m 0))

  above_is : (j : ℕ) → children_above tree j (at j) ≡ every (child_fits m j) (children_at nodes j)
  unfolding children_above
  above_is j =
      ap (λ (x : ℕ). every (λ child. ltb j child && ltb child x) (children_of (at j).kind)) (tree_size t)
      ∙ ap (λ (l : List ℕ). every (λ child. ltb j child && ltb child m) l) (children_is j)

  kept_is : (j : ℕ) → T (every (child_fits m j) (children_at nodes j)) → ends_kept tree (at j) ≡ kept_at nodes j
  unfolding ends_kept kept_at node_in
  kept_is j fits =
      ap (λ (l : List ℕ). every (λ child. every (λ end. is_in end (ends (node_at tree child).segments)) (ends (at j).segments)) l) (children_is j)
      ∙ every_same (λ child. every (λ end. is_in end (ends (node_at tree child).segments)) (ends (at j).segments))
      (λ child. ends_in (segments_in (record_of nodes child)) (segments_in (record_of nodes j))) (children_at nodes j) each
    where
      each : (x : ℕ) → In x (children_at nodes j) → every (λ end. is_in end (ends (node_at tree x).segments)) (ends (at j).segments)
          ≡ ends_in (segments_in (record_of nodes x)) (segments_in (record_of nodes j))
      each x i =
          let h : x < m = ltb→lt x m (and_yes (ltb j x) (ltb x m) (from_every (child_fits m j) (children_at nodes j) fits i)).1 in
          ap (λ (s : List Segment). ends_in s (at j).segments) (tree_segments t x h)

  -- ---- a node

  abbrev r : ℕ → List ℤ
  r j = record_of nodes j

  abbrev above : ℕ → Bool
  above j = every (child_fits m j) (children_at nodes j)

  abbrev whole : ℕ → Bool
  whole j = node_fits sample_limit n tree j (at j)

  abbrev more : ℕ → List Bool
  more j = ends_fit n (ends (at j).segments) ∷ ends_kept tree (at j) ∷ leaf_fits (at j).kind ∷ segments_fit sample_limit 1 (at j).segments ∷ test_fits sample_limit n (at j).kind ∷ []

  from_node : (j : ℕ) → T (leb (small_at (r j) kind_place) 2) → T (whole j) → T (record_fits n m j (r j)) × (T (kept_at nodes j) × T (leaf_fits_at nodes links k j))
  unfolding node_fits record_fits head_fits segments_hold node_in
  from_node j u t =
      let p = passed (children_above tree j (at j)) (more j) t in
      let a : T (above j) = subst T (above_is j) p.0 in (
        yes_and (head_fits n m j (r j)) (segments_hold n (r j))
            (passes (leb (small_at (r j) kind_place) 2) (above j ∷ test_fits sample_limit n (kind_alone (r j)) ∷ []) (u, (a, subst T (test_is j) p.1.1.1.1.1)))
            (yes_and (ends_fit n (ends (segments_in (r j)))) (segments_fit sample_limit 1 (segments_in (r j))) p.1.0 p.1.1.1.1.0),
        (subst T (kept_is j a) p.1.1.0, p.1.1.1.0),
      )

  to_node : (j : ℕ) → T (record_fits n m j (r j)) → T (kept_at nodes j) → T (leaf_fits_at nodes links k j) → T (leb (small_at (r j) kind_place) 2) × T (whole j)
  unfolding node_fits record_fits head_fits segments_hold node_in
  to_node j t u l =
      let p = and_yes (head_fits n m j (r j)) (segments_hold n (r j)) t in
      let h = passed (leb (small_at (r j) kind_place) 2) (above j ∷ test_fits sample_limit n (kind_alone (r j)) ∷ []) p.0 in
      let s = and_yes (ends_fit n (ends (segments_in (r j)))) (segments_fit sample_limit 1 (segments_in (r j))) p.1 in (
        h.0,
        passes (children_above tree j (at j)) (more j)
            (subst T (sym (above_is j)) h.1.0, (s.0, (subst T (sym (kept_is j h.1.0)) u, (l, (s.1, subst T (sym (test_is j)) h.1.1))))),
      )

  -- ---- all nodes

  abbrev fits : ℕ → Node → Bool
  fits = node_fits sample_limit n tree

  -- the definition's tests of the tree, but for the first
  abbrev rules : List Bool
  rules = leb k capacity ∷ beq (eqb (length tree) 0) (eqb k 0) ∷ every_node fits 0 tree ∷ child_once tree ∷ in_one_leaf k tree ∷ []

  -- the tests that the code makes
  abbrev tests : List Bool
  tests = records_fit n m nodes ∷ all_kept m nodes ∷ children_once m nodes ∷ leaves_hold m nodes k links ∷ []

  abbrev kinds : ℕ → Bool
  kinds j = leb (small_at (record_of nodes j) kind_place) 2

  parts : T (well_formed t) → T (every kinds (counting m 0)) × T (abstract.well_formed_tree sample_limit (measures_of t) k tree)
  unfolding well_formed kinds_named
  parts w = and_yes (every kinds (counting m 0)) (abstract.well_formed_tree sample_limit (measures_of t) k tree) w

  joined : T (every kinds (counting m 0)) → T (abstract.well_formed_tree sample_limit (measures_of t) k tree) → T (well_formed t)
  unfolding well_formed kinds_named
  joined a b = yes_and (every kinds (counting m 0)) (abstract.well_formed_tree sample_limit (measures_of t) k tree) a b

  abbrev leaves_fit : Bool
  leaves_fit = every (leaf_fits_at nodes links k) (counting m 0)

  abbrev one_leaf : Bool
  one_leaf = every (λ number. eqb (times_in number (numbers_of_first nodes links k m)) 1) (counting k 0) && every (λ number. ltb number k) (numbers_of_first nodes links k m)

  -- what passes the definition passes the test
  pub shown : T (well_formed t) → T (counts_fit m k capacity && records_fit n m nodes && all_kept m nodes && children_once m nodes && leaves_hold m nodes k links)
  unfolding abstract.well_formed_tree counts_fit records_fit all_kept leaves_hold tree_in
  shown w =
      let p = parts w in
      let q = passed (in_range (measures_of t)) rules p.1 in
      let each : (j : ℕ) → In j (counting m 0) → T (record_fits n m j (record_of nodes j)) × (T (kept_at nodes j) × T (leaf_fits_at nodes links k j)) =
      λ j i. from_node j (from_every kinds (counting m 0) p.0 i)
      (from_every (λ x. fits x (at x)) (counting m 0) (subst T (made_nodes fits at m 0) q.1.1.1.0) i) in
      let most : m ≤ 2 * k - 1 = subst (λ (x : ℕ). x ≤ 2 * k - 1) (tree_size t) (nodes_at_most sample_limit (measures_of t) k tree p.1) in
      passes (counts_fit m k capacity) tests (
        passes (leb k capacity) (beq (eqb m 0) (eqb k 0) ∷ leb m (2 * k - 1) ∷ []) (
          q.1.0,
          (subst (λ (x : ℕ). T (beq (eqb x 0) (eqb k 0))) (tree_size t) q.1.1.0, le→leb m (2 * k - 1) most),
        ),
        (
          every_of (λ j. record_fits n m j (record_of nodes j)) (counting m 0) (λ j i. (each j i).0),
          (
            every_of (kept_at nodes) (counting m 0) (λ j i. (each j i).1.0),
            (
              subst T once_is q.1.1.1.1.0,
              yes_and leaves_fit one_leaf (every_of (leaf_fits_at nodes links k) (counting m 0) (λ j i. (each j i).1.1)) (subst T leaf_is q.1.1.1.1.1),
            ),
          ),
        ),
      )

  -- what passes the test passes the definition
  pub meant : T (in_range (measures_of t)) → T (counts_fit m k capacity && records_fit n m nodes && all_kept m nodes && children_once m nodes && leaves_hold m nodes k links) → T (well_formed t)
  unfolding abstract.well_formed_tree counts_fit records_fit all_kept leaves_hold tree_in
  meant g w =
      let p = passed (counts_fit m k capacity) tests w in
      let c = passed (leb k capacity) (beq (eqb m 0) (eqb k 0) ∷ leb m (2 * k - 1) ∷ []) p.0 in
      let l = and_yes leaves_fit one_leaf p.1.1.1.1 in
      let each : (j : ℕ) → In j (counting m 0) → T (kinds j) × T (fits j (at j)) =
      λ j i. to_node j (from_every (λ x. record_fits n m x (record_of nodes x)) (counting m 0) p.1.0 i)
      (from_every (kept_at nodes) (counting m 0) p.1.1.0 i) (from_every (leaf_fits_at nodes links k) (counting m 0) l.0 i) in
      joined (every_of kinds (counting m 0) (λ j i. (each j i).0))
      (passes (in_range (measures_of t)) rules (
        g,
        (
          c.0,
          (
            subst (λ (x : ℕ). T (beq (eqb x 0) (eqb k 0))) (sym (tree_size t)) c.1.0,
            (
              subst T (sym (made_nodes fits at m 0)) (every_of (λ x. fits x (at x)) (counting m 0) (λ j i. (each j i).1)),
              (subst T (sym once_is) p.1.1.1.0, subst T (sym leaf_is) l.1),
            ),
          ),
        ),
      ))

  -- both are the same
  pub test_same : in_range (measures_of t) ≡ true → well_formed t ≡ counts_fit m k capacity && records_fit n m nodes && all_kept m nodes && children_once m nodes && leaves_hold m nodes k links
  test_same e = same_test shown (meant (is_true e))

  module _ (e : in_range (measures_of t) ≡ true) where
    pub counts_refuse : counts_fit m k capacity ≡ false → false ≡ well_formed t
    counts_refuse a = sym (test_same e ∙ rw a)

    pub tree_decides : counts_fit m k capacity ≡ true → tree_fits n m nodes k links ≡ well_formed t
    unfolding tree_fits
    tree_decides a = sym (test_same e ∙ rw a)

-- ---- sizes

pub counted : (m k capacity : ℕ) → counts_fit m k capacity ≡ true → (k ≤ capacity) × (m ≤ 2 * capacity - 1)
unfolding counts_fit
counted m k capacity e =
    let p = passed (leb k capacity) (beq (eqb m 0) (eqb k 0) ∷ leb m (2 * k - 1) ∷ []) (is_true e) in
    let h = leb→le k capacity p.0 in
    let g = leb→le m (2 * k - 1) p.1.1 in
    (h, omega arith)
