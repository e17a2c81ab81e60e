-- The keys that wait, and the leaves still to come: those below the nodes whose keys wait. The least key that waits is at most the key of
-- every leaf to come, so that a leaf with the least key is the next. A turn takes one node away from `nodes_waiting`, the nodes still to be
-- taken: it is a loop's measure, and the room that the keys need.
use Prim.Native.Nat.{ℕ, suc, ◌+◌, ◌≤◌, ◌<◌, max}
use mathlib.Core.Path.{◌≡◌, refl, sym, ◌∙◌, ap}
use mathlib.Core.Logic.{⊎_elim}
use mathlib.Core.List.{List, [], ◌∷◌, map}
use native.Mathlib.Omega.{arith}
use lib.ListN.{length}
use Rattle.heap.specs.Keys.{insert_key, pour, sorted_of}
use Rattle.heap.proofs.Sorting.{Above, SortedKeys, le_or_lt, insert_nil, insert_here, insert_past, insert_first, pour_nil, pour_cons, pour_pour, pour_append, above_less, above_pour, sorted_insert}
use Rattle.dstree.specs.Measures.{Trace}
use Rattle.dstree.specs.Node.{Test, leaf, inner, Tree, node_at}
use Rattle.dstree.specs.Matching.{own_bound, bound, leaves}
use Rattle.dstree.proofs.Bounds.{root_bound}
use Rattle.best_first.specs.NodeKeys.{key_of, key_bound, key_number, node_key, child_key, first_key, in_stead}
use Rattle.best_first.specs.Branching.{Branching}
use Rattle.best_first.specs.Waiting.{Subtree, tip, fork, weight, subtree, keys_below, nodes_below, to_come, nodes_waiting, Keyed}
use Rattle.best_first.proofs.Branching.{left_above, right_above, left_bound, right_bound}
use Rattle.best_first.proofs.Subtree.{below}
use Rattle.best_first.proofs.Gather.{nodes_leaf, nodes_inner, all_nodes, keys_leaf, keys_inner, all_leaves}

-- the keys that wait: of nodes, and in order
pub record Front (tree : Tree) (query : Trace) (xs : List ℕ) : Type 0 where
  pub sorted : SortedKeys xs
  pub keyed : Keyed tree query xs

-- ---- one more key waits

come_inserted : (tree : Tree) (query : Trace) (a : ℕ) (xs : List ℕ) → to_come tree query (insert_key a xs) ≡ pour (keys_below tree (node_key tree query) (key_number a)) (to_come tree query xs)
come_inserted tree query a [] = rw (insert_nil a)
come_inserted tree query a (x ∷ xs) =
    let ih = come_inserted tree query a xs in
    let B = keys_below tree (node_key tree query) in
    ⊎_elim
    (λ (p : a ≤ x). rw (insert_here a x xs p))
    (λ (p : x < a). rw (insert_past a x xs p) (ap (pour (B (key_number x))) ih ∙ pour_pour (B (key_number x)) (B (key_number a)) (to_come tree query xs)))
    (le_or_lt a x)

load_inserted : (tree : Tree) (a : ℕ) (xs : List ℕ)
    → nodes_waiting tree (insert_key a xs) ≡ nodes_below tree (key_number a) + nodes_waiting tree xs
load_inserted tree a [] = rw (insert_nil a)
load_inserted tree a (x ∷ xs) =
    let ih = load_inserted tree a xs in
    ⊎_elim (λ (p : a ≤ x). rw (insert_here a x xs p)) (λ (p : x < a). rw (insert_past a x xs p) (omega (arith, ih))) (le_or_lt a x)

keyed_inserted : (tree : Tree) (query : Trace) (a : ℕ) (xs : List ℕ) → key_number a < length tree → a ≡ node_key tree query (key_number a) → Keyed tree query xs → Keyed tree query (insert_key a xs)
keyed_inserted tree query a [] h e k = rw (insert_nil a) (h, e, tt)
keyed_inserted tree query a (x ∷ xs) h e k =
    let ih = keyed_inserted tree query a xs h e k.2 in
    ⊎_elim (λ (p : a ≤ x). rw (insert_here a x xs p) (h, e, k)) (λ (p : x < a). rw (insert_past a x xs p) (k.0, k.1, ih)) (le_or_lt a x)

-- ---- no more keys wait than there are nodes to take, and no more leaves come

heavy : (s : Subtree) → 1 ≤ weight s
unfolding weight
heavy (tip i) = omega arith
heavy (fork a b) = omega arith

pub length_load : (tree : Tree) (xs : List ℕ) → length xs ≤ nodes_waiting tree xs
length_load tree [] = omega arith
length_load tree (x ∷ xs) = omega (arith, heavy (subtree tree (key_number x)), length_load tree xs)

module _ (tree : Tree) (b : Branching tree) (query : Trace) where
  -- a key holds its bound and its number
  pub key_number_lem : (i : ℕ) → i < length tree → key_number (node_key tree query i) ≡ i
  key_number_lem i h = omega (arith, b.few)

  pub key_bound_lem : (i : ℕ) → i < length tree → key_bound (node_key tree query i) ≡ bound tree query i
  key_bound_lem i h = omega (arith, b.few)

  -- no leaf to come is before the least key
  come_above : (m : ℕ) (xs : List ℕ) → Above m xs → Keyed tree query xs → Above m (to_come tree query xs)
  come_above m [] a k = tt
  come_above m (x ∷ xs) a k =
      let i = key_number x in
      let key = node_key tree query in
      let e : x ≡ key i = k.1 in
      above_pour m (keys_below tree key i) (to_come tree query xs) (above_less m (key i) (keys_below tree key i) (omega (arith, e, a.0)) (below tree b query i)) (come_above m xs a.1 k.2)

  -- ---- a turn: x is the least key

  module _ (x : ℕ) (xs : List ℕ) (f : Front tree query (x ∷ xs)) where
    pub number_inside : key_number x < length tree
    number_inside = f.keyed.0

    pub bound_is : key_bound x ≡ bound tree query (key_number x)
    bound_is = ap key_bound f.keyed.1 ∙ key_bound_lem (key_number x) f.keyed.0

    pub come_first : Above x (to_come tree query (x ∷ xs))
    come_first = come_above x (x ∷ xs) (omega arith, f.sorted.0) f.keyed

    -- its node is a leaf
    module _ {ns : List ℕ} (e : (node_at tree (key_number x)).kind ≡ leaf ns) where
      pub come_leaf : to_come tree query (x ∷ xs) ≡ x ∷ to_come tree query xs
      come_leaf =
          rw (keys_leaf tree b (node_key tree query) (key_number x) e, ← f.keyed.1)
          (pour_cons x [] (to_come tree query xs) ∙ ap (insert_key x) (pour_nil (to_come tree query xs)) ∙ insert_first x (to_come tree query xs) (come_above x xs f.sorted.0 f.keyed.2))

      pub load_leaf : nodes_waiting tree (x ∷ xs) ≡ suc (nodes_waiting tree xs)
      load_leaf = omega (arith, nodes_leaf tree b (key_number x) e)

      pub front_leaf : Front tree query xs
      front_leaf = record { sorted = f.sorted.1; keyed = f.keyed.2 }

    -- its node has two children, whose keys wait then
    module _ {test : Test} {l r : ℕ} (e : (node_at tree (key_number x)).kind ≡ inner test l r) where
      -- a child's bound is the greater of its own and its parent's, which the key holds
      pub left_key : child_key tree query (key_bound x) l ≡ node_key tree query l
      left_key = ap (λ (k : ℕ). key_of k l) (ap (max (own_bound query (node_at tree l))) bound_is ∙ sym (left_bound tree b (key_number x) e query))

      pub right_key : child_key tree query (key_bound x) r ≡ node_key tree query r
      right_key = ap (λ (k : ℕ). key_of k r) (ap (max (own_bound query (node_at tree r))) bound_is ∙ sym (right_bound tree b (key_number x) e query))

      pub left_inside : l < length tree
      left_inside = (left_above tree b (key_number x) e).1

      pub right_inside : r < length tree
      right_inside = (right_above tree b (key_number x) e).1

      number_left : key_number (node_key tree query l) ≡ l
      number_left = key_number_lem l left_inside

      number_right : key_number (node_key tree query r) ≡ r
      number_right = key_number_lem r right_inside

      stead_is : in_stead tree query x l r xs ≡ insert_key (node_key tree query l) (insert_key (node_key tree query r) xs)
      stead_is = rw (left_key, right_key)

      pub come_inner : to_come tree query (x ∷ xs) ≡ to_come tree query (in_stead tree query x l r xs)
      come_inner =
          let key = node_key tree query in
          let L = keys_below tree key l in
          let R = keys_below tree key r in
          let C = to_come tree query xs in
          rw (stead_is, keys_inner tree b key (key_number x) e)
          (pour_append L R C ∙ sym (come_inserted tree query (key l) (insert_key (key r) xs)
          ∙ ap (λ (i : ℕ). pour (keys_below tree key i) (to_come tree query (insert_key (key r) xs))) number_left
          ∙ ap (pour L) (come_inserted tree query (key r) xs ∙ ap (λ (i : ℕ). pour (keys_below tree key i) C) number_right)))

      pub load_inner : nodes_waiting tree (x ∷ xs) ≡ suc (nodes_waiting tree (in_stead tree query x l r xs))
      load_inner =
          let key = node_key tree query in
          omega (
            arith,
            ap (nodes_waiting tree) stead_is,
            nodes_inner tree b (key_number x) e,
            load_inserted tree (key l) (insert_key (key r) xs),
            load_inserted tree (key r) xs,
            ap (nodes_below tree) number_left,
            ap (nodes_below tree) number_right,
          )

      pub front_inner : Front tree query (in_stead tree query x l r xs)
      front_inner =
          let key = node_key tree query in
          rw stead_is
          (record {
            sorted = sorted_insert (key l) (insert_key (key r) xs) (sorted_insert (key r) xs f.sorted.1);
            keyed = keyed_inserted tree query (key l) (insert_key (key r) xs) (rw number_left left_inside) (rw number_left refl)
                (keyed_inserted tree query (key r) xs (rw number_right right_inside) (rw number_right refl) f.keyed.2);
          })

  -- ---- where the search begins: node 0 waits

  first_is : first_key tree query ≡ node_key tree query 0
  first_is = let e = root_bound tree b.children.child b.children.one_parent query b.some_node in omega (arith, e)

  number_first : key_number (first_key tree query) ≡ 0
  number_first = omega arith

  pub come_start : to_come tree query (first_key tree query ∷ []) ≡ sorted_of (map (node_key tree query) (leaves tree))
  come_start = ap (λ (i : ℕ). pour (keys_below tree (node_key tree query) i) []) number_first ∙ all_leaves tree b (node_key tree query)

  pub load_start : nodes_waiting tree (first_key tree query ∷ []) ≡ length tree
  load_start = omega (arith, ap (nodes_below tree) number_first, all_nodes tree b)

  pub front_start : Front tree query (first_key tree query ∷ [])
  front_start = record { sorted = (tt, tt); keyed = (rw number_first b.some_node, first_is ∙ ap (node_key tree query) (sym number_first), tt) }
