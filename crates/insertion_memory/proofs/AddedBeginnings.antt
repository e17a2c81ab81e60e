-- Adding to a memory is adding to its first places, where they are long enough: what is behind them stays.
use Prim.Native.Nat.{ℕ, zero, suc, ◌+◌, ◌*◌, ◌-◌, ◌≤◌, ◌<◌}
use mathlib.Core.Path.{◌≡◌, refl, sym, ◌∙◌, ap, ap₂, subst}
use mathlib.Core.List.{List, [], ◌∷◌, ◌++◌}
use native.Mathlib.Nat.{mul-le-mul_right}
use native.Mathlib.Omega.{arith}
use lib.IntN.{ℤ}
use lib.ListN.{length, set, length-append, length-set}
use lib.Seq.{set-append_left, paste}
use lib.Dec.{T}
use Rattle.integer.specs.Words.{last_of}
use Rattle.integer.proofs.Lists.{in_is}
use Rattle.segment.specs.Stored.{words_of}
use Rattle.dstree.specs.Measures.{Trace, Measures, sample_limit, is_trace, samples_needed}
use Rattle.dstree.specs.Node.{Tree, node_at}
use Rattle.dstree.specs.Adding.{way, widen_all, join, segments_of}
use Rattle.dstree.specs.Matching.{numbers_in}
use Rattle.tables.specs.Layout.{trace_count_place, node_count_place}
use Rattle.tables.specs.Tables.{Tables, measures_of, trace_count, node_count}
use Rattle.tables.specs.View.{tree_in, traces_in, well_formed}
use Rattle.tables.proofs.Views.{traces_size}
use Rattle.tables.specs.Beginning.{left, Begins}
use Rattle.tables.proofs.Beginning.{extended, rest_of, begins_is, tables_same, left_begins, left_extended}
use Rattle.insertion_memory.specs.Records.{leaf_record}
use Rattle.insertion_memory.specs.Memory.{TreeTables, tree_tables, split_all_of, first_tables, joined_tables}
use Rattle.insertion_memory.specs.Memory.{inserted_tables, tree_tables_in, tree_tables_after, added_to}
use Rattle.insertion_memory.proofs.Placing.{record_inside}
use Rattle.insertion_memory.specs.Represents.{Space}
use Rattle.dstree.proofs.Change.{LeafAt, way_inside, way_leaf, widen_length, join_length}
use Rattle.insertion_memory.proofs.Joining.{last_low}
use Rattle.insertion_memory.proofs.FromTables.{Long, facts, space, tables_stand}
use Rattle.insertion_memory.proofs.Meaning.{inserted_first, inserted_more, joined_tables_lem, meaning}
use Rattle.insertion_memory.proofs.Beginnings.{Agree, measures_same, traces_counted, nodes_counted, tree_same, traces_same, extended_agree}
use Rattle.insertion_memory.proofs.Longer.{with_more, paste_more, joined_more, longer, widen_more, split_all_more}

module _ (part more : Tables) (x : Trace) (w : T (well_formed part)) (long : Long part)
    (is : T (is_trace sample_limit (measures_of part).n x)) (less : trace_count part < (measures_of part).capacity) where
  abbrev n : ℕ
  n = (measures_of part).n

  abbrev c : ℕ
  c = (measures_of part).capacity

  abbrev k : ℕ
  k = trace_count part

  abbrev whole : Tables
  whole = extended part more

  -- with more places behind
  abbrev wide : TreeTables → TreeTables
  wide = longer more.nodes more.links

  same : Agree part whole
  same = extended_agree part more long

  room : Space n c part.nodes part.links
  room = space part w long

  -- ---- nodes and links

  -- before it
  before : tree_tables_in whole ≡ wide (tree_tables_in part)
  before = ap (tree_tables whole.nodes whole.links) (nodes_counted same)

  first_more : first_tables (measures_of part) x (wide (tree_tables_in part)) ≡ wide (first_tables (measures_of part) x (tree_tables_in part))
  unfolding first_tables
  first_more = ap₂ (λ (a : List ℤ) (b : List ℕ). tree_tables a b 1)
      (with_more part.nodes more.nodes 0 (leaf_record (segments_of (n ∷ []) (x ∷ [])) 0) (record_inside (2 * c - 1) 0 part.nodes room.nodes_room (omega (arith, less))))
      (set-append_left part.links more.links 0 0 (omega (arith, less, room.links_room)))

  module _ (some : 0 < length (tree_in part)) where
    abbrev tree : Tree
    tree = tree_in part

    abbrev at : ℕ
    at = last_of (way tree x)

    end : LeafAt tree at
    end = way_leaf tree x (facts part w).shape.children.child some

    abbrev numbers : List ℕ
    numbers = numbers_in (node_at tree at).kind

    numbers_some : 0 < length numbers
    unfolding numbers_in
    numbers_some = subst (λ (l : List ℕ). 0 < length l) (sym (ap numbers_in end.is)) ((facts part w).shape.full at end.inside end.numbers end.is)

    last_inside : last_of numbers < length part.links
    last_inside =
        let g : last_of numbers < k = last_low k numbers numbers_some (λ t i. (tables_stand part w long).shape.numbers t at (in_is i)) in
        omega (arith, g, less, room.links_room)

    joined_more_tables : joined_tables (traces_in part) tree x (wide (tree_tables_in part))
        ≡ wide (joined_tables (traces_in part) tree x (tree_tables_in part))
    unfolding joined_tables
    joined_more_tables = ap₂ (λ (a : List ℤ) (b : List ℕ). tree_tables a b (node_count part))
        (widen_more room more.nodes more.links x (way tree x) (way_inside tree x (facts part w).shape.children.child some) (tables_stand part w long))
        (joined_more part.links more.links numbers (length (traces_in part)) last_inside
        (omega (arith, traces_size part, less, room.links_room)))

    abbrev stored : List Trace
    stored = traces_in part ++ (x ∷ [])

    split_more_tables : split_all_of (measures_of part).leaf_size stored (joined_tables (traces_in part) tree x (wide (tree_tables_in part))) at
        ≡ wide (split_all_of (measures_of part).leaf_size stored (joined_tables (traces_in part) tree x (tree_tables_in part)) at)
    split_more_tables =
        let there : at < length (join k at (widen_all x (way tree x) tree)) = omega (arith, end.inside, widen_length x (way tree x) tree, join_length k at (widen_all x (way tree x) tree)) in
        let one : length (traces_in part) + 1 ≡ suc k = omega (arith, traces_size part) in
        ap (λ (h : TreeTables). split_all_of (measures_of part).leaf_size stored h at) joined_more_tables
        ∙ split_all_more room more.nodes more.links stored (measures_of part).leaf_size (length-append (traces_in part) (x ∷ []) ∙ one)
        (joined_tables_lem (measures_of part) (traces_in part) x room (traces_size part) less (tables_stand part w long) some) at there

  abbrev inserted : TreeTables → TreeTables
  inserted = inserted_tables (measures_of part) (traces_in part) (tree_in part) x

  tree_tables_more : tree_tables_after whole x ≡ wide (tree_tables_after part x)
  tree_tables_more =
      ap (λ (m : Measures). inserted_tables m (traces_in whole) (tree_in whole) x (tree_tables_in whole)) (measures_same same)
      ∙ ap (λ (l : List Trace). inserted_tables (measures_of part) l (tree_in whole) x (tree_tables_in whole)) (traces_same same w long)
      ∙ ap (λ (tree : Tree). inserted_tables (measures_of part) (traces_in part) tree x (tree_tables_in whole)) (tree_same same w long)
      ∙ ap inserted before
      ∙ by (length (tree_in part)) refl
    where
      by : (m : ℕ) → length (tree_in part) ≡ m → inserted (wide (tree_tables_in part)) ≡ wide (inserted (tree_tables_in part))
      by zero e = inserted_first (measures_of part) (traces_in part) (tree_in part) x (wide (tree_tables_in part)) e
          ∙ first_more ∙ ap wide (sym (inserted_first (measures_of part) (traces_in part) (tree_in part) x (tree_tables_in part) e))
      by (suc m) e = let some : 0 < length (tree_in part) = omega arith in
          inserted_more (measures_of part) (traces_in part) (tree_in part) x (wide (tree_tables_in part)) some
          ∙ split_more_tables some
          ∙ ap wide (sym (inserted_more (measures_of part) (traces_in part) (tree_in part) x (tree_tables_in part) some))

  -- ---- the other tables

  control_more : (count : ℕ) → set (set whole.control trace_count_place (suc k)) node_count_place count ≡ set (set part.control trace_count_place (suc k)) node_count_place count ++ more.control
  control_more count =
      ap (λ (l : List ℕ). set l node_count_place count) (set-append_left part.control more.control trace_count_place (suc k) (omega (arith, long.control_long)))
      ∙ set-append_left (set part.control trace_count_place (suc k)) more.control node_count_place count (omega (arith, long.control_long, length-set part.control trace_count_place (suc k)))

  samples_more : paste whole.samples (trace_count whole * (measures_of whole).n) (words_of x) (measures_of whole).n
      ≡ paste part.samples (k * n) (words_of x) n ++ more.samples
  unfolding samples_needed
  samples_more =
      let g : suc k * n ≤ c * n = mul-le-mul_right n less in
      ap (λ (j : ℕ). paste whole.samples (j * (measures_of whole).n) (words_of x) (measures_of whole).n) (traces_counted same)
      ∙ ap (λ (m : Measures). paste whole.samples (k * m.n) (words_of x) m.n) (measures_same same)
      ∙ paste_more part.samples more.samples (words_of x) (k * n) n (omega (arith, g, long.samples_long))

  pub added_extended : added_to (extended part more) x ≡ extended (added_to part x) more
  unfolding added_to
  added_extended = tables_same
      (ap (λ (j : ℕ). set (set whole.control trace_count_place (suc j)) node_count_place (tree_tables_after whole x).count)
      (traces_counted same)
      ∙ ap (λ (h : TreeTables). set (set whole.control trace_count_place (suc k)) node_count_place h.count) tree_tables_more
      ∙ control_more (tree_tables_after part x).count)
      samples_more
      (ap (λ (h : TreeTables). h.nodes) tree_tables_more)
      (ap (λ (h : TreeTables). h.links) tree_tables_more)
      refl
      refl

-- ---- a memory and its first places

-- what adding to the first places leaves in the memory is what adding to the memory does
pub added_left : (part memory : Tables) (x : Trace) → Begins part memory → T (well_formed part) → Long part → T (is_trace sample_limit (measures_of part).n x)
    → trace_count part < (measures_of part).capacity
    → left (added_to part x) memory ≡ added_to memory x
added_left part memory x b w long is less = by memory (rest_of part memory) (begins_is part memory b)
  where
    by : (memory more : Tables) → memory ≡ extended part more → left (added_to part x) memory ≡ added_to memory x
    by memory more e = rw e (left_extended part (added_to part x) more (meaning part x w long is less).lengths_stay ∙ sym (added_extended part more x w long is less))

-- adding to a memory does to its first places what adding to these alone does
pub added_begins : (part memory : Tables) (x : Trace) → Begins part memory → T (well_formed part) → Long part → T (is_trace sample_limit (measures_of part).n x)
    → trace_count part < (measures_of part).capacity
    → Begins (added_to part x) (added_to memory x)
added_begins part memory x b w long is less = subst (λ (t : Tables). Begins (added_to part x) t) (added_left part memory x b w long is less) (left_begins (added_to part x) memory)
