-- The leaves below node 0 are all leaves, and the nodes below it all nodes. Each node but 0 is a child once, so the leaves below all nodes,
-- node by node, are those below node 0 with those below all children; they are also all leaves with those below all children. What is below
-- the children cancels.
use Rattle.std.specs.Prelude.{if◌then◌else◌}
use Prim.Native.Nat.{ℕ, zero, suc, ◌+◌, ◌-◌, ◌≤◌, ◌<◌}
use mathlib.Core.Path.{◌≡◌, refl, sym, ◌∙◌, ap}
use mathlib.Core.Logic.{⊎_elim}
use mathlib.Core.List.{List, [], ◌∷◌, ◌++◌, map, flatten}
use native.Mathlib.Omega.{arith}
use lib.ListN.{length}
use Rattle.integer.specs.Words.{those, counting, times_in}
use Rattle.integer.proofs.Lists.{in_counting, from_counting, counting_up}
use Rattle.integer.proofs.Times.{times_none, up_once, counting_length}
use Rattle.heap.specs.Keys.{insert_key, pour, sorted_of}
use Rattle.heap.proofs.Sorting.{Above, SortedKeys, le_or_lt, insert_nil, insert_here, insert_past, pour_nil, pour_cons, pour_pour, pour_append, pour_cancel, sorted_same}
use Rattle.heap.proofs.Bags.{same_bag}
use Rattle.dstree.specs.Node.{Test, Kind, leaf, inner, Tree, node_at}
use Rattle.dstree.specs.Matching.{is_leaf_kind, leaves}
use Rattle.dstree.specs.WellFormed.{children_of}
use Rattle.best_first.specs.Branching.{Branching}
use Rattle.best_first.specs.Waiting.{leaf_keys, weight, keys_below, nodes_below}
use Rattle.best_first.proofs.Branching.{kids, all_kids, kids_once, kids_inside}
use Rattle.best_first.proofs.Subtree.{subtree_leaf, subtree_inner}

-- the keys of the leaves below some nodes
abbrev gather : Tree → (ℕ → ℕ) → List ℕ → List ℕ
gather tree key [] = []
gather tree key (i ∷ is) = keys_below tree key i ++ gather tree key is

-- how many nodes are below some nodes, with them
abbrev weights : Tree → List ℕ → ℕ
weights tree [] = 0
weights tree (i ∷ is) = nodes_below tree i + weights tree is

-- ---- neither depends on the order of the nodes

module _ (tree : Tree) (key : ℕ → ℕ) where
  gather_inserted : (a : ℕ) (xs r : List ℕ) → pour (gather tree key (insert_key a xs)) r ≡ pour (gather tree key (a ∷ xs)) r
  gather_inserted a [] r = rw (insert_nil a)
  gather_inserted a (x ∷ xs) r =
      let ih = gather_inserted a xs r in
      let A = keys_below tree key a in
      let X = keys_below tree key x in
      let G = gather tree key xs in
      ⊎_elim
      (λ (p : a ≤ x). rw (insert_here a x xs p))
      (λ (p : x < a).
      rw (insert_past a x xs p)
      (pour_append X (gather tree key (insert_key a xs)) r ∙ ap (pour X) (ih ∙ pour_append A G r) ∙ pour_pour X A (pour G r)
      ∙ ap (pour A) (sym (pour_append X G r)) ∙ sym (pour_append A (X ++ G) r)))
      (le_or_lt a x)

  gather_sorted : (xs r : List ℕ) → pour (gather tree key (sorted_of xs)) r ≡ pour (gather tree key xs) r
  gather_sorted [] r = rw (pour_nil [])
  gather_sorted (x ∷ xs) r =
      rw (pour_cons x xs [])
      (gather_inserted x (sorted_of xs) r ∙ pour_append (keys_below tree key x) (gather tree key (sorted_of xs)) r ∙ ap (pour (keys_below tree key x)) (gather_sorted xs r)
      ∙ sym (pour_append (keys_below tree key x) (gather tree key xs) r))

weights_inserted : (tree : Tree) (a : ℕ) (xs : List ℕ) → weights tree (insert_key a xs) ≡ nodes_below tree a + weights tree xs
weights_inserted tree a [] = rw (insert_nil a)
weights_inserted tree a (x ∷ xs) =
    let ih = weights_inserted tree a xs in
    ⊎_elim (λ (p : a ≤ x). rw (insert_here a x xs p)) (λ (p : x < a). rw (insert_past a x xs p) (omega (arith, ih))) (le_or_lt a x)

weights_sorted : (tree : Tree) (xs : List ℕ) → weights tree (sorted_of xs) ≡ weights tree xs
weights_sorted tree [] = rw (pour_nil [])
weights_sorted tree (x ∷ xs) = rw (pour_cons x xs []) (omega (arith, weights_inserted tree x (sorted_of xs), weights_sorted tree xs))

-- ---- numbers from a on are in order

above_counting : (n a m : ℕ) → m ≤ a → Above m (counting n a)
unfolding counting
above_counting zero a m h = tt
above_counting (suc n) a m h = (h, above_counting n (suc a) m (omega arith))

sorted_counting : (n a : ℕ) → SortedKeys (counting n a)
unfolding counting
sorted_counting zero a = tt
sorted_counting (suc n) a = (above_counting n (suc a) a (omega arith), sorted_counting n (suc a))

counting_suc : (n a : ℕ) → counting (suc n) a ≡ a ∷ counting n (suc a)
unfolding counting
counting_suc n a = refl

module _ (tree : Tree) (b : Branching tree) where
  -- every number but 0, once
  kids_sorted : sorted_of (all_kids tree) ≡ counting (length tree - 1) 1
  kids_sorted = same_bag (all_kids tree) (counting (length tree - 1) 1) each ∙ sorted_same (counting (length tree - 1) 1) (sorted_counting (length tree - 1) 1)
    where
      outside : (j : ℕ) → ((0 < j) × (j < length tree) → ⊥) → times_in j (all_kids tree) ≡ times_in j (counting (length tree - 1) 1)
      outside j f =
          times_none j (all_kids tree) (λ i. f (kids_inside tree b j i))
          ∙ sym (times_none j (counting (length tree - 1) 1) (λ i. let h = from_counting (length tree - 1) 1 i in f (omega (arith, h.0), omega (arith, h.1))))

      each : (j : ℕ) → times_in j (all_kids tree) ≡ times_in j (counting (length tree - 1) 1)
      each j =
          ⊎_elim
          (λ (h : 1 ≤ j).
          ⊎_elim
          (λ (k : length tree ≤ j). outside j (λ p. omega (arith, p.1)))
          (λ (k : j < length tree). kids_once tree b j h k ∙ sym (up_once (counting_up (length tree - 1) 1) (in_counting (length tree - 1) 1 j h (omega arith))))
          (le_or_lt (length tree) j))
          (λ (h : j < 1). outside j (λ p. omega (arith, p.0)))
          (le_or_lt 1 j)

  all_numbers : counting (length tree) 0 ≡ 0 ∷ sorted_of (all_kids tree)
  all_numbers =
      let e : length tree ≡ suc (length tree - 1) = omega (arith, b.some_node) in
      ap (λ (n : ℕ). counting n 0) e ∙ counting_suc (length tree - 1) 0 ∙ ap (λ (l : List ℕ). 0 ∷ l) (sym kids_sorted)

  -- ---- how many nodes

  pub nodes_leaf : (i : ℕ) {ns : List ℕ} → (node_at tree i).kind ≡ leaf ns → nodes_below tree i ≡ 1
  unfolding weight
  nodes_leaf i e = rw (subtree_leaf tree b i e)

  pub nodes_inner : (i : ℕ) {test : Test} {l r : ℕ} → (node_at tree i).kind ≡ inner test l r → nodes_below tree i ≡ suc (nodes_below tree l + nodes_below tree r)
  unfolding weight
  nodes_inner i e = ap weight (subtree_inner tree b i e)

  weights_all : (ns : List ℕ) → weights tree ns ≡ length ns + weights tree (flatten (map (kids tree) ns))
  unfolding flatten children_of
  weights_all [] = refl
  weights_all (i ∷ ns) = by (node_at tree i).kind refl (weights_all ns)
    where
      by : (kind : Kind) → (node_at tree i).kind ≡ kind → weights tree ns ≡ length ns + weights tree (flatten (map (kids tree) ns))
          → nodes_below tree i + weights tree ns ≡ suc (length ns) + weights tree (children_of kind ++ flatten (map (kids tree) ns))
      by (leaf numbers) e ih = omega (arith, nodes_leaf i e)
      by (inner test l r) e ih = omega (arith, nodes_inner i e)

  pub all_nodes : nodes_below tree 0 ≡ length tree
  all_nodes =
      let e : weights tree (0 ∷ sorted_of (all_kids tree)) ≡ length (counting (length tree) 0) + weights tree (all_kids tree) =
      ap (weights tree) (sym all_numbers) ∙ weights_all (counting (length tree) 0) in
      omega (arith, e, weights_sorted tree (all_kids tree), counting_length (length tree) 0)

  -- ---- which leaves

  module _ (key : ℕ → ℕ) where
    pub keys_leaf : (i : ℕ) {ns : List ℕ} → (node_at tree i).kind ≡ leaf ns → keys_below tree key i ≡ key i ∷ []
    unfolding leaf_keys
    keys_leaf i e = rw (subtree_leaf tree b i e)

    pub keys_inner : (i : ℕ) {test : Test} {l r : ℕ} → (node_at tree i).kind ≡ inner test l r → keys_below tree key i ≡ keys_below tree key l ++ keys_below tree key r
    unfolding leaf_keys
    keys_inner i e = ap (leaf_keys key) (subtree_inner tree b i e)

    abbrev leaves_of : List ℕ → List ℕ
    leaves_of ns = those (λ number. is_leaf_kind (node_at tree number).kind) ns

    gather_all : (ns q : List ℕ) → pour (gather tree key ns) q ≡ pour (map key (leaves_of ns)) (pour (gather tree key (flatten (map (kids tree) ns))) q)
    unfolding those flatten children_of is_leaf_kind
    gather_all [] q = sym (pour_nil (pour [] q))
    gather_all (i ∷ ns) q = by (node_at tree i).kind refl (gather_all ns q)
      where
        by : (kind : Kind) → (node_at tree i).kind ≡ kind → pour (gather tree key ns) q ≡ pour (map key (leaves_of ns)) (pour (gather tree key (flatten (map (kids tree) ns))) q)
            → pour (keys_below tree key i ++ gather tree key ns) q
            ≡ pour (map key (if is_leaf_kind kind then i ∷ leaves_of ns else leaves_of ns))
            (pour (gather tree key (children_of kind ++ flatten (map (kids tree) ns))) q)
        by (leaf numbers) e ih =
            let C = gather tree key (flatten (map (kids tree) ns)) in
            rw (keys_leaf i e)
            (pour_cons (key i) (gather tree key ns) q ∙ ap (insert_key (key i)) ih ∙ sym (pour_cons (key i) (map key (leaves_of ns)) (pour C q)))
        by (inner test l r) e ih =
            let C = gather tree key (flatten (map (kids tree) ns)) in
            let X = keys_below tree key l in
            let Y = keys_below tree key r in
            let L = map key (leaves_of ns) in
            rw (keys_inner i e)
            (pour_append (X ++ Y) (gather tree key ns) q ∙ ap (pour (X ++ Y)) ih ∙ pour_pour (X ++ Y) L (pour C q)
            ∙ ap (pour L) (pour_append X Y (pour C q) ∙ ap (pour X) (sym (pour_append Y C q)) ∙ sym (pour_append X (Y ++ C) q)))

    pub all_leaves : pour (keys_below tree key 0) [] ≡ sorted_of (map key (leaves tree))
    unfolding leaves
    all_leaves =
        let B = keys_below tree key 0 in
        let G = gather tree key (all_kids tree) in
        let L = map key (leaves_of (counting (length tree) 0)) in
        let e : pour (gather tree key (0 ∷ sorted_of (all_kids tree))) [] ≡ pour L (pour G []) =
        ap (λ (l : List ℕ). pour (gather tree key l) []) (sym all_numbers) ∙ gather_all (counting (length tree) 0) [] in
        let k : pour B (pour G []) ≡ pour L (pour G []) =
        ap (pour B) (sym (gather_sorted tree key (all_kids tree) [])) ∙ sym (pour_append B (gather tree key (sorted_of (all_kids tree))) []) ∙ e in
        pour_cancel G (pour B []) (pour L []) (pour_pour G B [] ∙ k ∙ pour_pour L G [])
