-- What adding does to the tables means document 01's adding: after it they store one trace more, stand for the tree that the steps make,
-- and all that adding does not speak of is as it was.
-- The idea: each step on nodes and links stands for the step on the tree, so that what they are read as in the end is the tree in the end.
use Prim.Native.Nat.{ℕ, suc, ◌+◌, ◌*◌, ◌<◌}
use mathlib.Core.Path.{◌≡◌, refl, sym, ◌∙◌, ap, subst}
use mathlib.Core.Bool.{true}
use mathlib.Core.List.{List, [], ◌∷◌, ◌++◌, map, foldl}
use native.Mathlib.Omega.{arith}
use lib.IntN.{ℤ}
use lib.ListN.{length, set, drop, length-append, length-set}
use lib.Seq.{get_or-set_same, get_or-set_other, drop-set-lt}
use lib.Dec.{T, leb, le→leb}
use mir.Facts.{yes_and}
use Rattle.integer.specs.Words.{counting, every, last_of}
use Rattle.integer.proofs.Lists.{every_of, from_counting}
use Rattle.integer.proofs.Tests.{test_true}
use Rattle.dstree.specs.Measures.{Trace, Measures, sample_limit, is_trace, samples_needed, records_needed, links_needed}
use Rattle.dstree.specs.Node.{Kind, leaf, Tree, node_at}
use Rattle.dstree.specs.Adding.{way, widen_all, join, split_all, insertion}
use Rattle.dstree.specs.Matching.{numbers_in}
use Rattle.dstree.specs.WellFormed as abstract
use Rattle.tables.specs.Layout.{n_place, capacity_place, leaf_size_place, trace_count_place, node_count_place, control_fields, kind_place, record_places}
use Rattle.tables.specs.Tables.{Tables, with_labels, lent_of, field, measures_of, trace_count, node_count, record_of}
use Rattle.tables.specs.View.{small_at, node_in, tree_in, trace_in, traces_in, kinds_named, well_formed}
use Rattle.tables.specs.Walk.{Rising}
use Rattle.tables.proofs.Views.{traces_size}
use Rattle.insertion_memory.specs.Memory.{TreeTables, tree_tables, split_all_of, widened_on, first_tables, joined_tables}
use Rattle.insertion_memory.specs.Memory.{inserted_tables, tree_tables_after, added_to}
use Rattle.insertion_memory.proofs.Storing.{stored_more, stored_length, stored_behind}
use Rattle.dstree.proofs.Change.{LeafAt, way_inside, way_leaf, widen_length, widen_kind, join_length}
use Rattle.insertion_memory.specs.Represents.{Space}
use Rattle.insertion_memory.proofs.Represents.{kind_named, Represents, tree_read, links_rise}
use Rattle.insertion_memory.proofs.Widening.{widen_represents}
use Rattle.insertion_memory.proofs.Joining.{join_represents}
use Rattle.insertion_memory.proofs.Splitting.{split_all_lem}
use Rattle.insertion_memory.proofs.FromTables.{Long, space, tables_stand}
use Rattle.insertion_memory.proofs.First.{first_represents}

-- ---- nodes and links: each case of the definition stands for the same case of document 01's

-- with no node, and with one
pub inserted_first : (m : Measures) (stored : List Trace) (tree : Tree) (x : Trace) (h : TreeTables) → length tree ≡ 0
    → inserted_tables m stored tree x h ≡ first_tables m x h
unfolding inserted_tables
inserted_first m stored [] x h e = refl
inserted_first m stored (root ∷ rest) x h e = absurd (omega arith)

pub inserted_more : (m : Measures) (stored : List Trace) (tree : Tree) (x : Trace) (h : TreeTables) → 0 < length tree
    → inserted_tables m stored tree x h ≡ split_all_of m.leaf_size (stored ++ (x ∷ [])) (joined_tables stored tree x h) (last_of (way tree x))
unfolding inserted_tables
inserted_more m stored [] x h e = absurd (omega arith)
inserted_more m stored (root ∷ rest) x h e = refl

leaf_is : (kind : Kind) (ns : List ℕ) → kind ≡ leaf ns → kind ≡ leaf (numbers_in kind)
unfolding numbers_in
leaf_is kind ns e = e ∙ ap leaf (sym (ap numbers_in e))

module _ {c k count : ℕ} {nodes : List ℤ} {links : List ℕ} (m : Measures) (stored : List Trace) (x : Trace)
    (space : Space m.n c nodes links) (size : length stored ≡ k) (less : k < c) where
  module _ {tree : Tree} (s : Represents m.n c nodes links k (tree_tables nodes links count) tree) (some : 0 < length tree) where
    abbrev met : List ℕ
    met = way tree x

    abbrev at : ℕ
    at = last_of met

    abbrev wide : Tree
    wide = widen_all x met tree

    end : LeafAt tree at
    end = way_leaf tree x s.shape.children.child some

    pub leaf_inside : at < length wide
    leaf_inside = omega (arith, widen_length x met tree, end.inside)

    pub is_leaf : (node_at wide at).kind ≡ leaf (numbers_in (node_at tree at).kind)
    is_leaf = widen_kind x met tree at ∙ leaf_is (node_at tree at).kind end.numbers end.is

    -- it has gone down
    pub widened : Represents m.n c nodes links k (tree_tables (widened_on x nodes met) links count) wide
    widened = widen_represents space x met (way_inside tree x s.shape.children.child some) s

    -- .. and joined a leaf
    pub joined_tables_lem : Represents m.n c nodes links (suc k) (joined_tables stored tree x (tree_tables nodes links count))
        (join k at wide)
    unfolding joined_tables
    joined_tables_lem = rw size (join_represents space at (numbers_in (node_at tree at).kind) leaf_inside is_leaf less widened)

    split_tables : Represents m.n c nodes links (suc k)
        (split_all_of m.leaf_size (stored ++ (x ∷ [])) (joined_tables stored tree x (tree_tables nodes links count)) at)
        (split_all m.leaf_size (stored ++ (x ∷ [])) (join k at wide) at)
    split_tables =
        let more : length stored + 1 ≡ suc k = omega arith in
        split_all_lem space (stored ++ (x ∷ [])) m.leaf_size (length-append stored (x ∷ []) ∙ more) joined_tables_lem at
        (omega (arith, leaf_inside, join_length k at wide))

  pub inserted_represents : (tree : Tree) → Represents m.n c nodes links k (tree_tables nodes links count) tree
      → Represents m.n c nodes links (suc k) (inserted_tables m stored tree x (tree_tables nodes links count)) (insertion m stored tree x)
  unfolding inserted_tables first_tables insertion
  inserted_represents [] s = rw (s.shape.no_trace refl) (first_represents m.n x space.wide nodes links space (omega arith))
  inserted_represents (root ∷ rest) s = rw size (split_tables s (omega arith))

-- ---- tables

-- what adding leaves, of tables t and a trace x
pub record AfterAdding (t : Tables) (x : Trace) : Type 0 where
  -- "Adding appends its trace"
  pub traces : traces_in (added_to t x) ≡ traces_in t ++ (x ∷ [])
  -- the tree is the one that the steps make
  pub tree : tree_in (added_to t x) ≡ insertion (measures_of t) (traces_in t) (tree_in t) x
  -- the control record
  pub measures_stay : measures_of (added_to t x) ≡ measures_of t
  pub trace_count_lem : trace_count (added_to t x) ≡ suc (trace_count t)
  pub node_count_lem : node_count (added_to t x) ≡ length (insertion (measures_of t) (traces_in t) (tree_in t) x)
  -- "every kind field a value that its layout names", and links that end
  pub kinds : kinds_named (added_to t x) ≡ true
  pub links_rise : Rising (added_to t x).links (trace_count (added_to t x))
  -- "Adding .. leave[s] search work as it was"
  pub lengths_stay : lent_of (added_to t x) ≡ lent_of t
  pub work_stays : (added_to t x).work ≡ t.work
  pub labels_stay : (added_to t x).labels ≡ t.labels
  -- "All calls leave places beyond the needed ones untouched"
  pub control_behind : drop control_fields (added_to t x).control ≡ drop control_fields t.control
  pub samples_behind : drop (samples_needed (measures_of t)) (added_to t x).samples ≡ drop (samples_needed (measures_of t)) t.samples
  pub nodes_behind : drop (records_needed (measures_of t) * record_places) (added_to t x).nodes ≡ drop (records_needed (measures_of t) * record_places) t.nodes
  pub links_behind : drop (links_needed (measures_of t)) (added_to t x).links ≡ drop (links_needed (measures_of t)) t.links

module _ (t : Tables) (x : Trace) (w : T (well_formed t)) (long : Long t)
    (is_trace_lem : T (is_trace sample_limit (measures_of t).n x)) (less : trace_count t < (measures_of t).capacity) where
  abbrev n : ℕ
  n = (measures_of t).n

  abbrev c : ℕ
  c = (measures_of t).capacity

  abbrev k : ℕ
  k = trace_count t

  abbrev result : Tree
  result = insertion (measures_of t) (traces_in t) (tree_in t) x

  pub after_represents : Represents n c t.nodes t.links (suc k) (tree_tables_after t x) result
  after_represents =
      inserted_represents (measures_of t) (traces_in t) x (space t w long) (traces_size t) less (tree_in t) (tables_stand t w long)

  -- ---- the control record

  abbrev after : TreeTables
  after = tree_tables_after t x

  abbrev control₁ : List ℕ
  control₁ = set t.control trace_count_place (suc k)

  control_size : length control₁ ≡ length t.control
  control_size = length-set t.control trace_count_place (suc k)

  count_after : trace_count (added_to t x) ≡ suc k
  unfolding added_to
  count_after = get_or-set_other control₁ node_count_place trace_count_place after.count 0 (λ e. omega (arith, e)) ∙ get_or-set_same
      t.control trace_count_place (suc k) 0 (omega (arith, long.control_long))

  nodes_after : node_count (added_to t x) ≡ after.count
  unfolding added_to
  nodes_after = get_or-set_same control₁ node_count_place after.count 0 (omega (arith, long.control_long, control_size))

  field_after : (i : ℕ) → i < trace_count_place → field (added_to t x).control i ≡ field t.control i
  unfolding added_to
  field_after i h = get_or-set_other control₁ node_count_place i after.count 0 (λ e. omega (arith, e)) ∙ get_or-set_other t.control trace_count_place i (suc k) 0 (λ e. omega (arith, e))

  measures_after : measures_of (added_to t x) ≡ measures_of t
  measures_after = rw (field_after n_place (omega arith), field_after capacity_place (omega arith), field_after leaf_size_place (omega arith))

  -- ---- what is read

  tree_after : tree_in (added_to t x) ≡ result
  unfolding tree_in added_to
  tree_after =
      ap (λ (j : ℕ). map (λ i. node_in after.links j (record_of after.nodes i)) (counting (node_count (added_to t x)) 0)) count_after
      ∙ ap (λ (m : ℕ). map (λ i. node_in after.links (suc k) (record_of after.nodes i)) (counting m 0)) nodes_after
      ∙ tree_read after_represents

  traces_after : traces_in (added_to t x) ≡ traces_in t ++ (x ∷ [])
  unfolding traces_in added_to samples_needed
  traces_after =
      ap (λ (j : ℕ). map (trace_in (added_to t x).samples (measures_of (added_to t x)).n) (counting j 0)) count_after
      ∙ ap (λ (j : ℕ). map (trace_in (added_to t x).samples j) (counting (suc k) 0)) (field_after n_place (omega arith))
      ∙ stored_more t.samples n k c x is_trace_lem less long.samples_long

  kinds_after : kinds_named (added_to t x) ≡ true
  unfolding kinds_named added_to
  kinds_after = test_true (every (λ j. leb (small_at (record_of after.nodes j) kind_place) 2) (counting (node_count (added_to t x)) 0))
      (every_of (λ j. leb (small_at (record_of after.nodes j) kind_place) 2) (counting (node_count (added_to t x)) 0)
      (λ j i. le→leb _ 2 (kind_named (after_represents.reads j (omega (arith, (from_counting (node_count (added_to t x)) 0 i).1, nodes_after, after_represents.count))).kind)))

  -- ---- all of it

  lengths_after : lent_of (added_to t x) ≡ lent_of t
  unfolding added_to samples_needed
  lengths_after = rw (
    length-set control₁ node_count_place after.count ∙ control_size,
    stored_length t.samples n k c x is_trace_lem less long.samples_long,
    after_represents.nodes_size,
    after_represents.links_size,
  )

  pub meaning : AfterAdding t x
  unfolding added_to samples_needed records_needed links_needed
  meaning = record {
    traces = traces_after;
    tree = tree_after;
    measures_stay = measures_after;
    trace_count_lem = count_after;
    node_count_lem = nodes_after ∙ after_represents.count;
    kinds = kinds_after;
    links_rise = subst (λ (j : ℕ). Rising after.links j) (sym count_after) (links_rise after_represents);
    lengths_stay = lengths_after;
    work_stays = refl;
    labels_stay = refl;
    control_behind = drop-set-lt control_fields control₁ node_count_place after.count (omega arith) ∙ drop-set-lt control_fields t.control trace_count_place (suc k) (omega arith);
    samples_behind = stored_behind t.samples n k c x is_trace_lem less long.samples_long;
    nodes_behind = after_represents.nodes_behind;
    links_behind = after_represents.links_behind;
  }

  -- the tables stay well formed if the tree does
  pub well_formed_after : T (abstract.well_formed_tree sample_limit (measures_of t) (suc k) result) → T (well_formed (added_to t x))
  unfolding well_formed
  well_formed_after h =
      yes_and (kinds_named (added_to t x)) (abstract.well_formed_tree sample_limit (measures_of (added_to t x)) (trace_count (added_to t x)) (tree_in (added_to t x))) (subst T (sym kinds_after) tt)
      (subst (λ (m : Measures). T (abstract.well_formed_tree sample_limit m (trace_count (added_to t x)) (tree_in (added_to t x)))) (sym measures_after)
      (subst (λ (j : ℕ). T (abstract.well_formed_tree sample_limit (measures_of t) j (tree_in (added_to t x)))) (sym count_after)
      (subst (λ (tree : Tree). T (abstract.well_formed_tree sample_limit (measures_of t) (suc k) tree)) (sym tree_after) h)))

-- labels do not bear on an adding, and stay
pub added_labels : (t : Tables) (x : Trace) → added_to t x ≡ with_labels t.labels (added_to (with_labels [] t) x)
unfolding added_to tree_in traces_in
added_labels t x = refl

-- .. nor on any number of them
pub all_labels : (t : Tables) (more : List Trace) → foldl added_to t more ≡ with_labels t.labels (foldl added_to (with_labels [] t) more)
unfolding added_to tree_in traces_in
all_labels t [] = refl
all_labels t (x ∷ more) = all_labels (added_to t x) more
