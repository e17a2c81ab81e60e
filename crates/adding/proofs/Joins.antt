-- A trace that goes down and joins a leaf of tables that take it: what the definition leaves, by what code reads of the records.
-- The idea: the way by the records is the tree's way, and the list that starts at the leaf's first trace is the leaf's numbers.
use mathlib.Core.Path.{◌≡◌, sym, ap, ap₂, subst, ◌∙◌}
use mathlib.Core.List.{List}
use Prim.Native.Nat.{ℕ, suc, ◌*◌, ◌≤◌, ◌<◌}
use native.Mathlib.Nat.{mul-le-mul_right}
use native.Mathlib.Omega.{arith}
use lib.IntN.{ℤ}
use lib.ListN.{length}
use lib.Dec.{T}
use Rattle.integer.specs.Words.{last_of}
use Rattle.integer.proofs.Lists.{first, in_is, Up}
use Rattle.dstree.specs.Measures.{Trace, samples_needed}
use Rattle.dstree.specs.Node.{leaf, node_at}
use Rattle.dstree.specs.Adding.{way}
use Rattle.dstree.specs.Matching.{numbers_in}
use Rattle.dstree.proofs.Change.{way_leaf}
use Rattle.dstree.proofs.Formed.{numbers_up}
use Rattle.tables.specs.Layout.{first_place}
use Rattle.tables.specs.Tables.{Tables, measures_of, trace_count, node_count, record_of}
use Rattle.tables.specs.View.{small_at, tree_in, traces_in, well_formed}
use Rattle.tables.specs.Walk.{numbers_of}
use Rattle.tables.proofs.Linked.{leaf_followed}
use Rattle.tables.proofs.Views.{traces_size}
use Rattle.insertion_memory.specs.Links.{joined}
use Rattle.insertion_memory.specs.Memory.{TreeTables, tree_tables, widened_on, joined_tables, tree_tables_in}
use Rattle.insertion_memory.proofs.Represents.{Means, m_leaf, AllBelow, Represents}
use Rattle.insertion_memory.proofs.FromTables.{Long, space, tables_stand}
use Rattle.insertion_memory.proofs.Meaning.{leaf_inside, is_leaf, widened, joined_tables_lem}
use Rattle.splitting.specs.Represented.{Represented}
use Rattle.splitting.proofs.Kept.{represented_by}

-- a leaf's record has the first of its numbers
leaf_list : {links : List ℕ} {r : List ℤ} {ns : List ℕ} (k : ℕ) → Means links r (leaf ns) → Up 0 ns → AllBelow k ns
    → (numbers_of links k (small_at r first_place) ≡ ns) × (small_at r first_place < k)
leaf_list {links} k (m_leaf {x} e q w) up low = (ap (numbers_of links k) q ∙ leaf_followed k w up low, omega (arith, q, low x first))

-- the leaf that the trace comes to, the nodes then, the leaf's first trace, and the links with the new one behind its list
abbrev pub leaf_in : Tables → Trace → ℕ
leaf_in t x = last_of (way (tree_in t) x)

abbrev pub nodes_after : Tables → Trace → List ℤ
nodes_after t x = widened_on x t.nodes (way (tree_in t) x)

abbrev pub head_in : Tables → Trace → ℕ
head_in t x = small_at (record_of (nodes_after t x) (leaf_in t x)) first_place

abbrev pub links_after : Tables → Trace → List ℕ
links_after t x = joined t.links (numbers_of t.links (trace_count t) (head_in t x)) (trace_count t)

module _ (t : Tables) (x : Trace) (w : T (well_formed t)) (long : Long t) (less : trace_count t < (measures_of t).capacity) (some : 0 < length (tree_in t)) where
  abbrev n : ℕ
  n = (measures_of t).n

  abbrev c : ℕ
  c = (measures_of t).capacity

  abbrev k : ℕ
  k = trace_count t

  abbrev stored : List Trace
  stored = traces_in t

  abbrev stands : Represents n c t.nodes t.links k (tree_tables_in t) (tree_in t)
  stands = tables_stand t w long

  listed : (numbers_of t.links k (head_in t x) ≡ numbers_in (node_at (tree_in t) (leaf_in t x)).kind) × (head_in t x < k)
  listed =
      let there = ((widened (measures_of t) stored x (space t w long) (traces_size t) less stands some).reads (leaf_in t x)
      (leaf_inside (measures_of t) stored x (space t w long) (traces_size t) less stands some)).kind in
      leaf_list k (subst (Means t.links (record_of (nodes_after t x) (leaf_in t x))) (is_leaf (measures_of t) stored x (space t w long) (traces_size t) less stands some) there)
      (numbers_up stands.shape (leaf_in t x)) (λ j i. stands.shape.numbers j (leaf_in t x) (in_is i))

  pub leaf_low : leaf_in t x < node_count t
  leaf_low = omega (arith, (way_leaf (tree_in t) x stands.shape.children.child some).inside, stands.count)

  pub head_low : head_in t x < k
  head_low = listed.1

  pub joined_is : joined_tables stored (tree_in t) x (tree_tables_in t) ≡ tree_tables (nodes_after t x) (links_after t x) (node_count t)
  unfolding joined_tables
  joined_is = ap₂ (λ (l : List ℕ) (j : ℕ). tree_tables (nodes_after t x) (joined t.links l j) (node_count t)) (sym listed.0) (traces_size t)

  -- it stands for a tree, so that leaves can split
  pub represented : Represented (nodes_after t x) (links_after t x) t.samples n (suc k) (node_count t)
  unfolding samples_needed
  represented =
      let g : suc k * n ≤ c * n = mul-le-mul_right n less in
      subst (λ (h : TreeTables). Represented h.nodes h.links t.samples n (suc k) h.count) joined_is
      (represented_by t.samples (space t w long) (joined_tables_lem (measures_of t) stored x (space t w long) (traces_size t) less stands some) (omega (arith, g, long.samples_long)))
