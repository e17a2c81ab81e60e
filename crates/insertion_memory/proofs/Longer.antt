-- Each step of adding on nodes and links, with more places behind both: it does to the first places what it does to these alone, and leaves
-- the others. The idea: every record and every link that a step touches lies inside, since what the first places stand for is a tree over
-- at most c traces; and with more places behind them they stand for the same tree, so that the same leaf splits in the same way.
use Rattle.std.specs.Prelude.{if◌then◌else◌}
use Prim.Native.Nat.{ℕ, zero, suc, ◌+◌, ◌*◌, ◌-◌, ◌≤◌, ◌<◌}
use mathlib.Core.Path.{◌≡◌, refl, sym, ◌∙◌, ap, ap₂, subst}
use mathlib.Core.Bool.{Bool, true, false}
use mathlib.Core.Option.{Option, none, some}
use mathlib.Core.List.{List, [], ◌∷◌, ◌++◌, append_assoc}
use native.Mathlib.Omega.{arith}
use lib.IntN.{ℤ}
use lib.ListN.{length, get_or, take, drop, set, length-map, length-set, get_or-append}
use lib.Seq.{take-append-le, drop-append-le, set-append_left, paste}
use lib.Dec.{ltb}
use borrow.Author.Tests.{ltb-true}
use Rattle.integer.specs.Words.{last_of}
use Rattle.integer.proofs.Lists.{In, first, later, in_is, is_in_lem}
use Rattle.dstree.specs.Measures.{Trace}
use Rattle.dstree.specs.Node.{Segment, Kind, leaf, inner, Tree, node_at, ends}
use Rattle.dstree.specs.Adding.{traces_of, segments_of, new_leaf, Split, best, widen}
use Rattle.dstree.specs.Matching.{numbers_in}
use Rattle.dstree.specs.Formed.{Fits}
use Rattle.dstree.proofs.Nodes.{nodes_most}
use Rattle.dstree.proofs.Cuts.{new_ends}
use Rattle.dstree.proofs.Splits.{GoodSplit, split_length, split_shape, best_is_good}
use Rattle.tables.specs.Layout.{kind_place, record_places}
use Rattle.tables.specs.Tables.{record_of, with_record}
use Rattle.tables.specs.View.{small_at, segments_in, kind_in}
use Rattle.tables.proofs.Frame.{with_length}
use Rattle.insertion_memory.specs.Records.{leaf_record, widen_record, inner_record}
use Rattle.insertion_memory.specs.Links.{joined, linked}
use Rattle.insertion_memory.specs.Memory.{TreeTables, tree_tables, on_record, widened_on}
use Rattle.insertion_memory.specs.Memory.{split_to, split_leaf, split_node, split_on, split_all_of}
use Rattle.insertion_memory.proofs.ReadBack.{leaf_length, inner_length}
use Rattle.insertion_memory.proofs.Following.{laid_length}
use Rattle.insertion_memory.proofs.Placing.{record_inside}
use Rattle.insertion_memory.specs.Represents.{Space}
use Rattle.insertion_memory.proofs.Represents.{Represents, kind_read}
use Rattle.insertion_memory.proofs.Widening.{widen_one}
use Rattle.insertion_memory.proofs.Splitting.{split_at}
use Rattle.insertion_memory.proofs.Beginnings.{represents_like, record_more}

-- ---- of a list

pub with_more : (p q : List ℤ) (j : ℕ) (r : List ℤ) → j * record_places + record_places ≤ length p → with_record (p ++ q) j r ≡ with_record p j r ++ q
unfolding with_record
with_more p q j r h =
    let front : take (j * record_places) (p ++ q) ≡ take (j * record_places) p = take-append-le (j * record_places) p q (omega arith) in
    let rest : drop (j * record_places + record_places) (p ++ q) ≡ drop (j * record_places + record_places) p ++ q = drop-append-le (j * record_places + record_places) p q h in
    ap₂ (λ (a b : List ℤ). a ++ (r ++ b)) front rest
    ∙ ap (λ (l : List ℤ). take (j * record_places) p ++ l) (sym (append_assoc r (drop (j * record_places + record_places) p) q))
    ∙ sym (append_assoc (take (j * record_places) p) (r ++ drop (j * record_places + record_places) p) q)

pub on_more : (change : List ℤ → List ℤ) (p q : List ℤ) (j : ℕ) → j * record_places + record_places ≤ length p → on_record change (p ++ q) j ≡ on_record change p j ++ q
on_more change p q j h = ap (λ (r : List ℤ). with_record (p ++ q) j (change r)) (record_more p q j h) ∙ with_more p q j (change (record_of p j)) h

pub paste_more : {A : Type 0} (p q x : List A) (at n : ℕ) → at + n ≤ length p → paste (p ++ q) at x n ≡ paste p at x n ++ q
paste_more {A} p q x at n h =
    ap₂ (λ (a b : List A). a ++ take n x ++ b) (take-append-le at p q (omega arith)) (drop-append-le (at + n) p q h)
    ∙ sym (append_assoc (take at p ++ take n x) (drop (at + n) p) q)

pub joined_more : (links q numbers : List ℕ) (new : ℕ) → last_of numbers < length links → new < length links → joined (links ++ q) numbers new ≡ joined links numbers new ++ q
unfolding joined
joined_more links q numbers new h g =
    ap (λ (l : List ℕ). set l new 0) (set-append_left links q (last_of numbers) new h)
    ∙ set-append_left (set links (last_of numbers) new) q new 0 (simp length-set g)

linked_more : (l links q : List ℕ) → ((t : ℕ) → In t l → t < length links) → linked l (links ++ q) ≡ linked l links ++ q
unfolding linked
linked_more [] links q low = refl
linked_more (x ∷ []) links q low = set-append_left links q x 0 (low x first)
linked_more (x ∷ (y ∷ l)) links q low =
    ap (λ (k : List ℕ). linked (y ∷ l) k) (set-append_left links q x y (low x first))
    ∙ linked_more (y ∷ l) (set links x y) q (λ t i. simp length-set (low t (later i)))

-- ---- of nodes and links

-- with more places behind both
abbrev pub longer : List ℤ → List ℕ → TreeTables → TreeTables
longer nodes links h = tree_tables (h.nodes ++ nodes) (h.links ++ links) h.count

module _ {n c : ℕ} {nodes : List ℤ} {links : List ℕ} (space : Space n c nodes links) (ns : List ℤ) (ls : List ℕ) where
  -- a record of the c traces' nodes lies inside
  node_inside : {k : ℕ} {h : TreeTables} {tree : Tree} → Represents n c nodes links k h tree → (j : ℕ) → j < 2 * c - 1 → j * record_places + record_places ≤ length h.nodes
  node_inside {h} s j g = record_inside (2 * c - 1) j h.nodes (omega (arith, space.nodes_room, s.nodes_size)) g

  -- a node of the tree is one of them
  few_nodes : {k : ℕ} {h : TreeTables} {tree : Tree} → Represents n c nodes links k h tree → (j : ℕ) → j < length tree → j < 2 * c - 1
  few_nodes s j g = omega (arith, g, nodes_most s.shape, s.few)

  longer_represents : {k : ℕ} {h : TreeTables} {tree : Tree} → Represents n c nodes links k h tree → Represents n c (h.nodes ++ ns) (h.links ++ ls) k (longer ns ls h) tree
  longer_represents {h} s = represents_like (longer ns ls h) s refl
      (λ j g. record_more h.nodes ns j (node_inside s j g))
      (λ t g. get_or-append h.links ls 0 t (omega (arith, g, space.links_room, s.links_size)))

  pub widen_more : {k : ℕ} (x : Trace) (met : List ℕ) {h : TreeTables} {tree : Tree} → ((j : ℕ) → In j met → j < length tree) → Represents n c nodes links k h tree
      → widened_on x (h.nodes ++ ns) met ≡ widened_on x h.nodes met ++ ns
  widen_more x [] inside s = refl
  widen_more {k} x (at ∷ met) {h} {tree} inside s =
      ap (λ (l : List ℤ). widened_on x l met)
      (on_more (widen_record x) h.nodes ns at (node_inside s at (few_nodes s at (inside at first))))
      ∙ widen_more x met (λ j i. let g : j < length tree = inside j (later i) in omega (arith, length-set tree at (widen x (node_at tree at)))) (widen_one space x at (inside at first) s)

  module _ (traces : List Trace) where
    -- ---- one leaf

    side_size : (cut : Split) (numbers : List ℕ) → Fits n cut.child_ends → length (leaf_record (segments_of cut.child_ends (traces_of traces numbers)) (get_or numbers 0 0)) ≡ record_places
    unfolding new_leaf
    side_size cut numbers f =
        let segments : List Segment = segments_of cut.child_ends (traces_of traces numbers) in
        leaf_length segments (get_or numbers 0 0) (omega (arith, f.few, ap length (new_ends traces cut.child_ends numbers), length-map segments (λ (a : Segment). a.end)))

    module _ {k : ℕ} {h : TreeTables} {tree : Tree} (s : Represents n c nodes links k h tree) (at : ℕ) (numbers : List ℕ)
        (inside : at < length tree) (is : (node_at tree at).kind ≡ leaf numbers) (cut : Split) (good : GoodSplit n traces (ends (node_at tree at).segments) numbers cut) where
      abbrev m : ℕ
      m = h.count

      -- room for two more
      two_more : suc (suc m) ≤ 2 * c - 1
      two_more = omega (arith, nodes_most (split_shape s.shape traces at numbers is cut good), split_length traces tree at cut, s.few, s.count)

      abbrev N : List ℤ
      N = h.nodes

      abbrev parent_record : List ℤ
      parent_record = inner_record cut.test m (suc m) (record_of N at)

      abbrev left_record : List ℤ
      left_record = leaf_record (segments_of cut.child_ends (traces_of traces cut.left)) (get_or cut.left 0 0)

      abbrev right_record : List ℤ
      right_record = leaf_record (segments_of cut.child_ends (traces_of traces cut.right)) (get_or cut.right 0 0)

      abbrev N₁ : List ℤ
      N₁ = with_record N at parent_record

      abbrev N₂ : List ℤ
      N₂ = with_record N₁ m left_record

      room : (j : ℕ) → j < 2 * c - 1 → j * record_places + record_places ≤ length N
      room j g = node_inside s j g

      size₁ : length N₁ ≡ length N
      size₁ = with_length N at parent_record (room at (few_nodes s at inside)) (inner_length cut.test m (suc m) (record_of N at) (s.reads at inside).size)

      size₂ : length N₂ ≡ length N
      size₂ = with_length N₁ m left_record (omega (arith, room m (omega (arith, two_more)), size₁)) (side_size cut cut.left good.children_fit) ∙ size₁

      split_nodes : with_record (with_record (on_record (inner_record cut.test m (suc m)) (N ++ ns) at) m left_record) (suc m) right_record ≡ with_record N₂ (suc m) right_record ++ ns
      split_nodes =
          ap (λ (l : List ℤ). with_record (with_record l m left_record) (suc m) right_record) (on_more (inner_record cut.test m (suc m)) N ns at (room at (few_nodes s at inside)))
          ∙ ap (λ (l : List ℤ). with_record l (suc m) right_record) (with_more N₁ ns m left_record (omega (arith, room m (omega (arith, two_more)), size₁)))
          ∙ with_more N₂ ns (suc m) right_record (omega (arith, room (suc m) (omega (arith, two_more)), size₂))

      low : (t : ℕ) → In t numbers → t < length h.links
      unfolding numbers_in
      low t i =
          let g : t < k = s.shape.numbers t at (rw is (in_is i)) in
          omega (arith, g, s.few, space.links_room, s.links_size)

      split_links : linked cut.right (linked cut.left (h.links ++ ls)) ≡ linked cut.right (linked cut.left h.links) ++ ls
      split_links =
          ap (λ (l : List ℕ). linked cut.right l) (linked_more cut.left h.links ls (λ t i. low t (is_in_lem t numbers (good.left_in t (in_is i)))))
          ∙ linked_more cut.right (linked cut.left h.links) ls (λ t i. omega (arith, low t (is_in_lem t numbers (good.right_in t (in_is i))), laid_length cut.left h.links))

      split_some_more : split_to traces (longer ns ls h) at (some cut) ≡ longer ns ls (split_to traces h at (some cut))
      unfolding split_to
      split_some_more = ap₂ (λ (a : List ℤ) (b : List ℕ). tree_tables a b (suc (suc m))) split_nodes split_links

    -- ---- a split, or none

    split_to_more : {k : ℕ} {h : TreeTables} {tree : Tree} → Represents n c nodes links k h tree → (at : ℕ) (numbers : List ℕ) → at < length tree
        → (node_at tree at).kind ≡ leaf numbers → (o : Option Split) → ((cut : Split) → o ≡ some cut → GoodSplit n traces (ends (node_at tree at).segments) numbers cut)
        → split_to traces (longer ns ls h) at o ≡ longer ns ls (split_to traces h at o)
    unfolding split_to
    split_to_more s at numbers inside is none good = refl
    split_to_more s at numbers inside is (some cut) good = split_some_more s at numbers inside is cut (good cut refl)

    -- ---- a node, tried

    module _ (leaf_size : ℕ) where
      split_leaf_more : {k : ℕ} {h : TreeTables} {tree : Tree} → Represents n c nodes links k h tree → (at : ℕ) → at < length tree → (kind : Kind) → (node_at tree at).kind ≡ kind
          → split_leaf leaf_size traces (longer ns ls h) at kind ≡ longer ns ls (split_leaf leaf_size traces h at kind)
      unfolding split_leaf
      split_leaf_more s at inside (inner test left right) is = refl
      split_leaf_more {k} {h} {tree} s at inside (leaf numbers) is =
          ap (λ (r : List ℤ). if ltb leaf_size (length numbers) then split_to traces (longer ns ls h) at
          (best traces (ends (segments_in r)) numbers) else longer ns ls h) (record_more h.nodes ns at (node_inside s at (few_nodes s at inside)))
          ∙ by (ltb leaf_size (length numbers))
        where
          fits : Fits n (ends (segments_in (record_of h.nodes at)))
          fits = subst (λ (l : List Segment). Fits n (ends l)) (sym (s.reads at inside).segments) (s.shape.fits at inside)

          by : (b : Bool) → (if b then split_to traces (longer ns ls h) at (best traces (ends (segments_in (record_of
              h.nodes at))) numbers) else longer ns ls h) ≡ longer ns ls (if b then split_to traces h at (best traces (ends (segments_in (record_of h.nodes at))) numbers) else h)
          by true = split_to_more s at numbers inside is (best traces (ends (segments_in (record_of h.nodes at))) numbers)
              (λ cut e. subst (λ (l : List Segment). GoodSplit n traces (ends l) numbers cut) (s.reads at inside).segments
              (best_is_good n traces (ends (segments_in (record_of h.nodes at))) numbers fits e))
          by false = refl

      split_at_more : {k : ℕ} {h : TreeTables} {tree : Tree} → length traces ≡ k → Represents n c nodes links k h tree → (at : ℕ) → at < length tree
          → split_node leaf_size traces (longer ns ls h) at ≡ longer ns ls (split_node leaf_size traces h at)
      unfolding split_node
      split_at_more {k} {h} {tree} size s at inside =
          ap (λ (kind : Kind). split_leaf leaf_size traces (longer ns ls h) at kind) (kind_of (h.links ++ ls) (record_of (h.nodes ++ ns) at) (kind_read (longer_represents s) at inside))
          ∙ split_leaf_more s at inside (node_at tree at).kind refl
          ∙ ap (λ (kind : Kind). longer ns ls (split_leaf leaf_size traces h at kind)) (sym (kind_of h.links (record_of h.nodes at) (kind_read s at inside)))
        where
          kind_of : (l : List ℕ) (r : List ℤ) → kind_in l k r (small_at r kind_place) ≡ (node_at tree at).kind → kind_in l (length traces) r (small_at r kind_place) ≡ (node_at tree at).kind
          kind_of l r e = ap (λ (j : ℕ). kind_in l j r (small_at r kind_place)) size ∙ e

      -- ---- the pass

      split_on_more : {k : ℕ} (fuel : ℕ) {h : TreeTables} {tree : Tree} → length traces ≡ k → Represents n c nodes links k h tree → (at : ℕ)
          → split_on fuel leaf_size traces (longer ns ls h) at ≡ longer ns ls (split_on fuel leaf_size traces h at)
      unfolding split_on
      split_on_more zero size s at = refl
      split_on_more {k} (suc fuel) {h} {tree} size s at = by (ltb at h.count) refl
          (λ (inside : at < length tree). split_on_more fuel size (split_at space traces leaf_size size s at inside) (suc at))
        where
          by : (b : Bool) → ltb at h.count ≡ b
              → (at < length tree → split_on fuel leaf_size traces (longer ns ls (split_node leaf_size traces h at)) (suc at) ≡ longer ns ls
              (split_on fuel leaf_size traces (split_node leaf_size traces h at) (suc at)))
              → (if b then split_on fuel leaf_size traces (split_node leaf_size traces (longer ns ls h) at)
              (suc at) else longer ns ls h) ≡ longer ns ls (if b then split_on fuel leaf_size traces (split_node leaf_size traces h at) (suc at) else h)
          by true e ih =
              let inside : at < length tree = omega (arith, ltb-true at h.count e, s.count) in
              ap (λ (g : TreeTables). split_on fuel leaf_size traces g (suc at)) (split_at_more size s at inside) ∙ ih inside
          by false e ih = refl

      -- the joined leaf, then the new ones
      pub split_all_more : {k : ℕ} {h : TreeTables} {tree : Tree} → length traces ≡ k → Represents n c nodes links k h tree → (at : ℕ) → at < length tree
          → split_all_of leaf_size traces (longer ns ls h) at ≡ longer ns ls (split_all_of leaf_size traces h at)
      unfolding split_all_of
      split_all_more {k} {h} {tree} size s at inside =
          ap (λ (g : TreeTables). split_on (2 * length traces) leaf_size traces g h.count) (split_at_more size s at inside)
          ∙ split_on_more (2 * length traces) size (split_at space traces leaf_size size s at inside) h.count
