-- Nodes and links that stand for a tree: every node can be tried, and they stand for a tree after it.
-- The idea: a split makes two nodes, and what it leaves stands for a tree over as many traces, which has less than twice as many nodes; so
-- there is room before it.
use mathlib.Core.Path.{◌≡◌, refl, sym, ap, subst}
use mathlib.Core.Bool.{true}
use mathlib.Core.Option.{some}
use mathlib.Core.List.{List}
use Prim.Native.Nat.{ℕ, suc, ◌*◌, ◌-◌, ◌≤◌, ◌<◌}
use native.Mathlib.Omega.{arith}
use lib.IntN.{ℤ}
use lib.ListN.{length}
use lib.Dec.{ltb}
use borrow.Author.Tests.{lt-ltb}
use Rattle.integer.proofs.Lists.{first, in_is}
use Rattle.dstree.specs.Measures.{Trace}
use Rattle.dstree.specs.Node.{Segment, Figure, by_sum, by_scatter, Kind, Tree, ends}
use Rattle.dstree.specs.Adding.{Split, best, split}
use Rattle.dstree.specs.Matching.{numbers_in}
use Rattle.dstree.specs.Formed.{Fits}
use Rattle.tables.specs.Layout.{kind_place, first_place}
use Rattle.tables.specs.Tables.{record_of}
use Rattle.tables.specs.View.{small_at, segments_in, numbers_from}
use Rattle.tables.specs.Walk.{stored_in, numbers_of, Stored}
use Rattle.insertion_memory.specs.Memory.{TreeTables, tree_tables, split_to, split_node}
use Rattle.insertion_memory.proofs.ReadBack.{kind_number}
use Rattle.dstree.proofs.Cuts.{parted_rises}
use Rattle.dstree.proofs.Nodes.{nodes_most}
use Rattle.dstree.proofs.Splits.{best_is_good}
use Rattle.insertion_memory.specs.Represents.{Space}
use Rattle.insertion_memory.proofs.Represents.{Means, m_leaf, m_inner, AllBelow, Represents, links_rise}
use Rattle.insertion_memory.proofs.Beginnings.{represents_like}
use Rattle.insertion_memory.proofs.Splitting.{split_at}
use Rattle.splitting.specs.Splits as needs
use Rattle.splitting.specs.Splits.{IsLeaf, Splits}
use Rattle.splitting.specs.Represented.{Represented}
use Rattle.tables.proofs.Views.{ends_length}
use Rattle.tables.proofs.Listed.{stored_size}
use Rattle.splitting.proofs.Tried.{long_splits}

-- ---- a leaf's first trace

leaf_first : {links : List ℕ} {r : List ℤ} {kind : Kind} (k : ℕ) → small_at r kind_place ≡ 0 → Means links r kind → AllBelow k (numbers_in kind) → small_at r first_place < k
unfolding numbers_in kind_number
leaf_first k e (m_leaf {x} q f w) low = omega (arith, f, low x first)
leaf_first {links} {r} k e (m_inner {test} q f p s) low = by test.figure q
  where
    by : (f : Figure) → small_at r kind_place ≡ kind_number f → small_at r first_place < k
    by by_sum q = absurd (omega (arith, e, q))
    by by_scatter q = absurd (omega (arith, e, q))

numbers_some : (links : List ℕ) (k x : ℕ) → 0 < length (numbers_of links k x)
unfolding numbers_from
numbers_some links k x = omega arith

-- what stands for a tree, with room for the traces, does so by itself
pub represented_by : {n c k : ℕ} {nodes : List ℤ} {links : List ℕ} {h : TreeTables} {tree : Tree} (samples : List ℤ)
    → Space n c nodes links → Represents n c nodes links k h tree → k * n ≤ length samples → Represented h.nodes h.links samples n k h.count
represented_by {c} {h} {tree} samples space s room = record {
  capacity = c;
  tree = tree;
  space = record {
    wide = space.wide;
    narrow = space.narrow;
    small = space.small;
    nodes_room = omega (arith, space.nodes_room, s.nodes_size);
    links_room = omega (arith, space.links_room, s.links_size);
  };
  represents = represents_like h s refl (λ j g. refl) (λ t g. refl);
  samples_room = room;
}

-- ---- one node

module _ {nodes : List ℤ} {links : List ℕ} {samples : List ℤ} {n k count : ℕ} (s : Represented nodes links samples n k count) where
  abbrev c : ℕ
  c = s.capacity

  abbrev tree : Tree
  tree = s.tree

  abbrev traces : List Trace
  traces = stored_in samples n k

  -- fewer nodes than twice the traces
  pub count_most : count ≤ 2 * k - 1
  count_most = omega (arith, s.represents.count, nodes_most s.represents.shape)

  module _ (at : ℕ) (inside : at < count) where
    abbrev r : List ℤ
    r = record_of nodes at

    here : at < length tree
    here = omega (arith, inside, s.represents.count)

    fits : Fits n (ends (segments_in r))
    fits = subst (λ (l : List Segment). Fits n (ends l)) (sym (s.represents.reads at here).segments) (s.represents.shape.fits at here)

    after : (leaf_size : ℕ) → Represents n c nodes links k (split_node leaf_size traces (tree_tables nodes links count) at) (split leaf_size traces tree at)
    after leaf_size = split_at s.space traces leaf_size (stored_size samples n k) s.represents at here

    module _ (is : small_at r kind_place ≡ 0) where
      stored : Stored samples links n k (small_at r first_place)
      stored = record {
        wide = s.space.wide;
        narrow = s.space.narrow;
        few = omega (arith, s.represents.few, s.space.small);
        samples_room = s.samples_room;
        links_room = omega (arith, s.represents.few, s.space.links_room);
        rising = links_rise s.represents;
        inside = leaf_first k is (s.represents.reads at here).kind (λ t i. s.represents.shape.numbers t at (in_is i));
      }

      parted : (cut : Split) → best traces (ends (segments_in r)) (numbers_of links k (small_at r first_place)) ≡ some cut → needs.TwoSides nodes count cut
      unfolding split_to
      parted cut e =
          let good = best_is_good n traces (ends (segments_in r)) (numbers_of links k (small_at r first_place)) fits e in
          let long : ltb 0 (length (numbers_of links k (small_at r first_place))) ≡ true = lt-ltb 0 (length (numbers_of links k (small_at r first_place)))
          (numbers_some links k (small_at r first_place)) in
          let made : split_node 0 traces (tree_tables nodes links count) at ≡ split_to traces (tree_tables nodes links count) at (some cut) =
          long_splits 0 traces nodes links count at k (stored_size samples n k) is long (some cut) e in
          let two : (split_node 0 traces (tree_tables nodes links count) at).count ≡ suc (suc count) = ap (λ (h : TreeTables). h.count) made in
          let most : suc (suc count) ≤ 2 * k - 1 = omega (arith, two, (after 0).count, nodes_most (after 0).shape) in
          record {
            left_some = good.left_some;
            right_some = good.right_some;
            room = omega (arith, most, s.represents.few, s.space.nodes_room);
            few = omega (arith, most, s.represents.few, s.space.small);
          }

      is_leaf : IsLeaf nodes links samples n k count at
      is_leaf = record { stored = stored; few = omega (arith, fits.few, ends_length r); rise = parted_rises fits.parted; parted = parted }

    -- it can be tried
    pub tries : Splits nodes links samples n k count at
    tries = record {
      inside = inside;
      room = omega (arith, count_most, s.represents.few, s.space.nodes_room);
      few = omega (arith, count_most, s.represents.few, s.space.small);
      is_leaf = is_leaf;
    }

    -- .. and nodes and links stand for a tree then
    module _ (leaf_size : ℕ) (nodes' : List ℤ) (links' : List ℕ) (count' : ℕ) (e : tree_tables nodes' links' count' ≡ split_node leaf_size traces (tree_tables nodes links count) at) where
      represents' : Represents n c nodes links k (tree_tables nodes' links' count') (split leaf_size traces tree at)
      represents' = subst (λ (h : TreeTables). Represents n c nodes links k h (split leaf_size traces tree at)) (sym e) (after leaf_size)

      pub nodes_stay : length nodes' ≡ length nodes
      nodes_stay = represents'.nodes_size

      pub links_stay : length links' ≡ length links
      links_stay = represents'.links_size

      pub represents_on : Represented nodes' links' samples n k count'
      represents_on = represented_by samples s.space represents' s.samples_room
