-- Splitting on nodes and links stands for splitting on the tree: one leaf, then the pass over the new ones.
-- The idea: the two sides' lists are laid anew over numbers of the split leaf only, so that every other leaf's list stays; and there is
-- room, since a tree over k traces has less than 2k nodes after the split as before it.
use Rattle.std.specs.Prelude.{if◌then◌else◌}
use Prim.Native.Nat.{ℕ, zero, suc, ◌*◌, ◌-◌, ◌≤◌, ◌<◌}
use mathlib.Core.Path.{◌≡◌, refl, sym, ◌∙◌, ap, subst}
use mathlib.Core.Bool.{Bool, true, false}
use mathlib.Core.Option.{Option, none, some}
use mathlib.Core.List.{List, [], ◌∷◌}
use native.Mathlib.Omega.{arith}
use lib.ListN.{length, get_or}
use lib.IntN.{ℤ}
use lib.Dec.{ltb}
use borrow.Author.Tests.{ltb-true, lt-ltb, le-ltb}
use Rattle.integer.proofs.Lists.{In, first, in_is, is_in_lem, Up}
use Rattle.dstree.specs.Measures.{Trace}
use Rattle.dstree.specs.Node.{Segment, Kind, leaf, inner, Node, node, Tree, node_at, ends}
use Rattle.dstree.specs.Adding.{traces_of, segments_of, new_leaf, Split, best, split_into, split_kind, split, split_new, split_all}
use Rattle.dstree.specs.Matching.{numbers_in}
use Rattle.dstree.specs.Formed.{Fits, Shape}
use Rattle.dstree.proofs.Formed.{numbers_up}
use Rattle.dstree.proofs.Nodes.{nodes_most}
use Rattle.dstree.proofs.Cuts.{new_ends}
use Rattle.dstree.proofs.Splits.{GoodSplit, sides_apart, split_length, split_cases, split_shape, best_is_good}
use Rattle.tables.specs.Layout.{kind_place}
use Rattle.tables.specs.Tables.{record_of, with_record}
use Rattle.tables.specs.View.{small_at, segments_in, kind_in}
use Rattle.insertion_memory.specs.Records.{leaf_record, inner_record}
use Rattle.insertion_memory.specs.Links.{linked}
use Rattle.insertion_memory.specs.Memory.{TreeTables, tree_tables, split_to, split_leaf, split_node, split_on, split_all_of}
use Rattle.insertion_memory.proofs.Following.{laid_length, laid_other, laid_behind, laid_linked}
use Rattle.tables.proofs.Linked.{Linked, linked_same}
use Rattle.insertion_memory.proofs.Placing.{RecordPlaced, placed}
use Rattle.insertion_memory.specs.Represents.{Space}
use Rattle.insertion_memory.proofs.Represents.{AllBelow, ReadsAs, reads_same, reads_leaf, reads_inner, Represents, kind_read}

-- ---- the pass, turn by turn

-- past the last node it is over
pub pass_over : (fuel leaf_size : ℕ) (traces : List Trace) (h : TreeTables) (at : ℕ) → h.count ≤ at → split_on fuel leaf_size traces h at ≡ h
unfolding split_on
pass_over zero leaf_size traces h at g = refl
pass_over (suc fuel) leaf_size traces h at g = rw (le-ltb at h.count g)

pub pass_turn : (fuel leaf_size : ℕ) (traces : List Trace) (h : TreeTables) (at : ℕ) → at < h.count
    → split_on (suc fuel) leaf_size traces h at ≡ split_on fuel leaf_size traces (split_node leaf_size traces h at) (suc at)
unfolding split_on
pass_turn fuel leaf_size traces h at g = rw (lt-ltb at h.count g)

-- ---- one side

side_linked : (l links : List ℕ) → 0 < length l → Up 0 l → AllBelow (length links) l → Linked (linked l links) l
side_linked [] links h u low = absurd (omega arith)
side_linked (x ∷ l) links h u low = laid_linked x l links u low

reads_side : {n : ℕ} {links : List ℕ} (narrow : n ≤ 256) (segments : List Segment) (l : List ℕ) → Fits n (ends segments) → 0 < length l
    → AllBelow 65536 l → Linked links l → ReadsAs links (leaf_record segments (get_or l 0 0)) (node segments (leaf l))
reads_side narrow segments [] f h low w = absurd (omega arith)
reads_side narrow segments (x ∷ l) f h low w = reads_leaf narrow segments f (omega (arith, low x first)) w

module _ {n c : ℕ} {nodes : List ℤ} {links : List ℕ} (space : Space n c nodes links) (traces : List Trace) where
  -- ---- one leaf

  module _ {k : ℕ} {tree : Tree} (N : List ℤ) (L : List ℕ) (s : Represents n c nodes links k (tree_tables N L (length tree)) tree) (at : ℕ)
      (ns : List ℕ) (inside : at < length tree) (is : (node_at tree at).kind ≡ leaf ns) (cut : Split) (good : GoodSplit n traces (ends (node_at tree at).segments) ns cut) where
    abbrev m : ℕ
    m = length tree

    abbrev b : ℕ
    b = 2 * c - 1

    abbrev after : Tree
    after = split_into traces tree at (some cut)

    shape_after : Shape n k after
    shape_after = split_shape s.shape traces at ns is cut good

    length_after : length after ≡ suc (suc m)
    length_after = split_length traces tree at cut

    -- room for two more
    two_more : suc (suc m) ≤ b
    two_more = omega (arith, nodes_most shape_after, length_after, s.few)

    numbers_at : numbers_in (node_at tree at).kind ≡ ns
    unfolding numbers_in
    numbers_at = ap numbers_in is

    in_at : (t : ℕ) → In t ns → In t (numbers_in (node_at tree at).kind)
    in_at t i = subst (λ (l : List ℕ). In t l) (sym numbers_at) i

    low : (t : ℕ) → In t ns → t < k
    low t i = s.shape.numbers t at (in_is (in_at t i))

    left_in : (t : ℕ) → In t cut.left → In t ns
    left_in t i = is_in_lem t ns (good.left_in t (in_is i))

    right_in : (t : ℕ) → In t cut.right → In t ns
    right_in t i = is_in_lem t ns (good.right_in t (in_is i))

    up : Up 0 ns
    up = subst (λ (l : List ℕ). Up 0 l) numbers_at (numbers_up s.shape at)

    -- ---- the links

    abbrev L₁ : List ℕ
    L₁ = linked cut.left L

    abbrev L₂ : List ℕ
    L₂ = linked cut.right L₁

    long : c ≤ length L
    long = omega (arith, space.links_room, s.links_size)

    left_linked : Linked L₂ cut.left
    left_linked = linked_same (λ t i. laid_other cut.right L₁ t (λ j. sides_apart good t (in_is i) (in_is j)))
        (side_linked cut.left L good.left_some (good.sides_rise up).0 (λ t i. omega (arith, low t (left_in t i), s.few, long)))

    right_linked : Linked L₂ cut.right
    right_linked = side_linked cut.right L₁ good.right_some (good.sides_rise up).1 (λ t i. omega (arith, low t (right_in t i), s.few, long, laid_length cut.left L))

    other_link : (t : ℕ) → (In t ns → ⊥) → get_or L₂ t 0 ≡ get_or L t 0
    other_link t f = laid_other cut.right L₁ t (λ i. f (right_in t i)) ∙ laid_other cut.left L t (λ i. f (left_in t i))

    -- ---- the records

    abbrev parent_record : List ℤ
    parent_record = inner_record cut.test m (suc m) (record_of N at)

    abbrev left_record : List ℤ
    left_record = leaf_record (segments_of cut.child_ends (traces_of traces cut.left)) (get_or cut.left 0 0)

    abbrev right_record : List ℤ
    right_record = leaf_record (segments_of cut.child_ends (traces_of traces cut.right)) (get_or cut.right 0 0)

    reads_parent : ReadsAs L₂ parent_record (node (node_at tree at).segments (inner cut.test m (suc m)))
    reads_parent = reads_inner cut.test m (suc m) (omega (arith, good.run_in.rises, good.run_in.to_n, space.narrow))
        (omega (arith, good.run_in.to_n, space.narrow)) (omega (arith, two_more, space.small)) (omega (arith, two_more, space.small)) (s.reads at inside)

    reads_left : ReadsAs L₂ left_record (new_leaf traces cut.child_ends cut.left)
    unfolding new_leaf
    reads_left = reads_side space.narrow (segments_of cut.child_ends (traces_of traces cut.left)) cut.left
        (subst (λ (l : List ℕ). Fits n l) (sym (new_ends traces cut.child_ends cut.left)) good.children_fit) good.left_some
        (λ t i. omega (arith, low t (left_in t i), s.few, space.small)) left_linked

    reads_right : ReadsAs L₂ right_record (new_leaf traces cut.child_ends cut.right)
    unfolding new_leaf
    reads_right = reads_side space.narrow (segments_of cut.child_ends (traces_of traces cut.right)) cut.right
        (subst (λ (l : List ℕ). Fits n l) (sym (new_ends traces cut.child_ends cut.right)) good.children_fit) good.right_some
        (λ t i. omega (arith, low t (right_in t i), s.few, space.small)) right_linked

    abbrev N₁ : List ℤ
    N₁ = with_record N at parent_record

    abbrev N₂ : List ℤ
    N₂ = with_record N₁ m left_record

    abbrev N₃ : List ℤ
    N₃ = with_record N₂ (suc m) right_record

    p₁ : RecordPlaced b N N₁ at parent_record
    p₁ = placed b at N parent_record (omega (arith, space.nodes_room, s.nodes_size)) (omega (arith, two_more, inside)) reads_parent.size

    p₂ : RecordPlaced b N₁ N₂ m left_record
    p₂ = placed b m N₁ left_record (omega (arith, space.nodes_room, s.nodes_size, p₁.size)) (omega (arith, two_more)) reads_left.size

    p₃ : RecordPlaced b N₂ N₃ (suc m) right_record
    p₃ = placed b (suc m) N₂ right_record (omega (arith, space.nodes_room, s.nodes_size, p₁.size, p₂.size)) (omega (arith, two_more)) reads_right.size

    old_record : (j : ℕ) → j < m → record_of N₃ j ≡ record_of N₁ j
    old_record j g = p₃.other j (λ e. omega (arith, g, e)) (omega (arith, g, two_more)) ∙ p₂.other j (λ e. omega (arith, g, e)) (omega (arith, g, two_more))

    reads_after : (j : ℕ) → j < suc (suc m) → ReadsAs L₂ (record_of N₃ j) (node_at after j)
    reads_after j g =
        split_cases traces tree at cut (λ (a : Node). ReadsAs L₂ (record_of N₃ j) a) j
        (λ e. subst (λ (r : List ℤ). ReadsAs L₂ r (node (node_at tree at).segments (inner cut.test m (suc m))))
        (sym (ap (λ (i : ℕ). record_of N₃ i) e ∙ old_record at inside ∙ p₁.here)) reads_parent)
        (λ f q. subst (λ (r : List ℤ). ReadsAs L₂ r (node_at tree j)) (sym (old_record j q ∙ p₁.other j f (omega (arith, q, two_more))))
        (reads_same (λ t i. other_link t (λ i'. f (s.shape.one_leaf t j at (in_is i) (in_is (in_at t i'))))) (s.reads j q)))
        (λ e. subst (λ (r : List ℤ). ReadsAs L₂ r (new_leaf traces cut.child_ends cut.left))
        (sym (ap (λ (i : ℕ). record_of N₃ i) e ∙ p₃.other m (λ z. omega (arith, z)) (omega (arith, two_more)) ∙ p₂.here)) reads_left)
        (λ e. subst (λ (r : List ℤ). ReadsAs L₂ r (new_leaf traces cut.child_ends cut.right)) (sym (ap (λ (i : ℕ). record_of N₃ i) e ∙ p₃.here)) reads_right)
        (λ q. absurd (omega (arith, q, g)))

    split_some : Represents n c nodes links k (split_to traces (tree_tables N L m) at (some cut)) after
    unfolding split_to
    split_some = record {
      few = s.few;
      count = sym length_after;
      reads = λ j g. reads_after j (omega (arith, g, length_after));
      shape = shape_after;
      nodes_size = p₃.size ∙ p₂.size ∙ p₁.size ∙ s.nodes_size;
      nodes_behind = p₃.behind ∙ p₂.behind ∙ p₁.behind ∙ s.nodes_behind;
      links_size = laid_length cut.right L₁ ∙ laid_length cut.left L ∙ s.links_size;
      links_behind =
          laid_behind cut.right L₁ c (λ t i. omega (arith, low t (right_in t i), s.few)) ∙ laid_behind cut.left L c (λ t i. omega (arith, low t (left_in t i), s.few)) ∙ s.links_behind;
    }

  -- ---- a split, or none

  split_to_lem : {k : ℕ} {h : TreeTables} {tree : Tree} → Represents n c nodes links k h tree → (at : ℕ) (ns : List ℕ) → at < length tree
      → (node_at tree at).kind ≡ leaf ns → (o : Option Split) → ((cut : Split) → o ≡ some cut → GoodSplit n traces (ends (node_at tree at).segments) ns cut)
      → Represents n c nodes links k (split_to traces h at o) (split_into traces tree at o)
  unfolding split_to split_into
  split_to_lem s at ns inside is none good = s
  split_to_lem {k} {h} {tree} s at ns inside is (some cut) good =
      subst (λ (count : ℕ). Represents n c nodes links k (split_to traces (tree_tables h.nodes h.links count) at (some cut)) (split_into traces tree at (some cut))) (sym s.count)
      (split_some h.nodes h.links (subst (λ (count : ℕ). Represents n c nodes links k (tree_tables h.nodes h.links count) tree) s.count s) at ns inside is cut (good cut refl))

  -- ---- a node, tried

  module _ (leaf_size : ℕ) where
    split_leaf_lem : {k : ℕ} {h : TreeTables} {tree : Tree} → Represents n c nodes links k h tree → (at : ℕ) → at < length tree → (kind : Kind) → (node_at tree at).kind ≡ kind
        → Represents n c nodes links k (split_leaf leaf_size traces h at kind) (split_kind leaf_size traces tree at kind)
    unfolding split_leaf split_kind
    split_leaf_lem s at inside (inner test left right) is = s
    split_leaf_lem {k} {h} {tree} s at inside (leaf ns) is = by (ltb leaf_size (length ns))
      where
        same : best traces (ends (segments_in (record_of h.nodes at))) ns ≡ best traces (ends (node_at tree at).segments) ns
        same = ap (λ (l : List Segment). best traces (ends l) ns) (s.reads at inside).segments

        result : Represents n c nodes links k (split_to traces h at (best traces (ends (segments_in (record_of h.nodes at))) ns))
            (split_into traces tree at (best traces (ends (node_at tree at).segments) ns))
        result = subst (λ (o : Option Split). Represents n c nodes links k (split_to traces h at o) (split_into traces tree at (best traces (ends (node_at tree at).segments) ns))) (sym same)
            (split_to_lem s at ns inside is (best traces (ends (node_at tree at).segments) ns) (λ cut e. best_is_good n traces (ends (node_at tree at).segments) ns (s.shape.fits at inside) e))

        by : (t : Bool) → Represents n c nodes links k (if t then split_to traces h at (best traces (ends (segments_in (record_of
            h.nodes at))) ns) else h) (if t then split_into traces tree at (best traces (ends (node_at tree at).segments) ns) else tree)
        by true = result
        by false = s

    pub split_at : {k : ℕ} {h : TreeTables} {tree : Tree} → length traces ≡ k → Represents n c nodes links k h tree → (at : ℕ) → at < length tree
        → Represents n c nodes links k (split_node leaf_size traces h at) (split leaf_size traces tree at)
    unfolding split_node
    split_at {k} {h} {tree} size s at inside =
        let r : List ℤ = record_of h.nodes at in
        let read : kind_in h.links (length traces) r (small_at r kind_place) ≡ (node_at tree at).kind = ap (λ (j : ℕ). kind_in h.links j r (small_at r kind_place)) size ∙ kind_read s at inside in
        subst (λ (kind : Kind). Represents n c nodes links k (split_leaf leaf_size traces h at kind) (split leaf_size traces tree at)) (sym read)
        (split_leaf_lem s at inside (node_at tree at).kind refl)

    -- ---- the pass

    pub split_on_lem : {k : ℕ} (fuel : ℕ) {h : TreeTables} {tree : Tree} → length traces ≡ k → Represents n c nodes links k h tree → (at : ℕ)
        → Represents n c nodes links k (split_on fuel leaf_size traces h at) (split_new fuel leaf_size traces tree at)
    unfolding split_on split_new
    split_on_lem zero size s at = s
    split_on_lem {k} (suc fuel) {h} {tree} size s at =
        subst (λ (t : Bool). Represents n c nodes links k
        (if t then split_on fuel leaf_size traces (split_node leaf_size traces h at) (suc at) else h)
        (if ltb at (length tree) then split_new fuel leaf_size traces (split leaf_size traces tree at) (suc at) else tree)) (sym (ap (λ (m : ℕ). ltb at m) s.count))
        (by (ltb at (length tree)) refl (λ (inside : at < length tree). split_on_lem fuel size (split_at size s at inside) (suc at)))
      where
        by : (t : Bool) → ltb at (length tree) ≡ t
            → (at < length tree → Represents n c nodes links k (split_on fuel leaf_size traces (split_node leaf_size traces h at) (suc at))
            (split_new fuel leaf_size traces (split leaf_size traces tree at) (suc at)))
            → Represents n c nodes links k (if t then split_on fuel leaf_size traces (split_node leaf_size traces h at) (suc at) else h)
            (if t then split_new fuel leaf_size traces (split leaf_size traces tree at) (suc at) else tree)
        by true e ih = ih (ltb-true at (length tree) e)
        by false e ih = s

    -- the joined leaf, then the new ones
    pub split_all_lem : {k : ℕ} {h : TreeTables} {tree : Tree} → length traces ≡ k → Represents n c nodes links k h tree → (at : ℕ) → at < length tree
        → Represents n c nodes links k (split_all_of leaf_size traces h at) (split_all leaf_size traces tree at)
    unfolding split_all_of
    split_all_lem {k} {h} {tree} size s at inside =
        subst (λ (m : ℕ). Represents n c nodes links k (split_on (2 * length traces) leaf_size traces (split_node leaf_size traces h at) m)
        (split_all leaf_size traces tree at)) (sym s.count) (split_on_lem (2 * length traces) size (split_at size s at inside) (length tree))
