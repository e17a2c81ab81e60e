-- Keys in order and leaves in order are the same: a key holds a leaf's bound and number, and the order of keys is "by bound, then by
-- number".
use Rattle.std.specs.Prelude.{if◌then◌else◌}
use Prim.Native.Nat.{ℕ, ◌≤◌, ◌<◌}
use mathlib.Core.Path.{◌≡◌, refl, sym, ◌∙◌, ap}
use mathlib.Core.Logic.{⊎_elim}
use mathlib.Core.Bool.{Bool, true, false}
use mathlib.Core.List.{List, [], ◌∷◌, map}
use native.Mathlib.Omega.{arith}
use lib.ListN.{length}
use borrow.Author.Tests.{lt-ltb, le-ltb, eq-eqb, ne_eqb}
use Rattle.integer.proofs.Lists.{All, all_none, all_more, all_in, all_map}
use Rattle.integer.specs.Sorting.{sorted_with, poured_by, sorted_by}
use Rattle.heap.specs.Keys.{insert_key, sorted_of}
use Rattle.heap.proofs.Sorting.{SortedKeys, sorted_pour, le_or_lt, insert_nil, insert_here, insert_past, insert_first, pour_nil, pour_cons}
use Rattle.dstree.specs.Measures.{Trace}
use Rattle.dstree.specs.Node.{Tree}
use Rattle.dstree.specs.Matching.{LeafBound, leaves, before, reading_order}
use Rattle.dstree.proofs.Reading.{with_bound, from_leaves}
use Rattle.best_first.specs.NodeKeys.{key_of, key_bound, key_number, key_leaf, node_key}

abbrev key_in : LeafBound → ℕ
key_in a = key_of a.bound a.number

abbrev Small : LeafBound → Type 0
Small a = a.number < 8192

-- ---- one order

before_true : (a b : LeafBound) → key_in a < key_in b → Small a → Small b → before a b ≡ true
unfolding before
before_true a b h x y =
    ⊎_elim
    (λ (p : b.bound ≤ a.bound).
    let e : a.bound ≡ b.bound = omega arith in
    let k : a.number < b.number = omega arith in
    rw (le-ltb a.bound b.bound p, eq-eqb a.bound b.bound e, lt-ltb a.number b.number k))
    (λ (p : a.bound < b.bound). rw (lt-ltb a.bound b.bound p))
    (le_or_lt b.bound a.bound)

before_false : (a b : LeafBound) → key_in b ≤ key_in a → Small a → Small b → before a b ≡ false
unfolding before
before_false a b h x y =
    let p : b.bound ≤ a.bound = omega arith in
    ⊎_elim
    (λ (q : a.bound ≤ b.bound).
    let e : a.bound ≡ b.bound = omega arith in
    let k : b.number ≤ a.number = omega arith in
    rw (le-ltb a.bound b.bound p, eq-eqb a.bound b.bound e, le-ltb a.number b.number k))
    (λ (q : b.bound < a.bound). rw (le-ltb a.bound b.bound p, ne_eqb a.bound b.bound (λ e. omega arith)))
    (le_or_lt a.bound b.bound)

small_placed : (a : LeafBound) {l : List LeafBound} → Small a → All Small l → All Small (sorted_with before a l)
unfolding sorted_with
small_placed a h all_none = all_more h all_none
small_placed a h (all_more {a = b} {rest} g gs) = by (before a b) (small_placed a h gs)
  where
    by : (t : Bool) → All Small (sorted_with before a rest) → All Small (if t then a ∷ b ∷ rest else b ∷ sorted_with before a rest)
    by true ih = all_more h (all_more g gs)
    by false ih = all_more g ih

small_sorted : {l : List LeafBound} → All Small l → All Small (sorted_by before l)
unfolding poured_by
small_sorted all_none = all_none
small_sorted (all_more {a} h hs) = small_placed a h (small_sorted hs)

inserted_keys : (a : LeafBound) {l : List LeafBound} → Small a → All Small l → SortedKeys (map key_in l) → map key_in (sorted_with before a l) ≡ insert_key (key_in a) (map key_in l)
unfolding sorted_with
inserted_keys a h all_none o = sym (insert_nil (key_in a))
inserted_keys a h (all_more {a = b} {rest = l} g gs) o =
    let ih = inserted_keys a h gs o.1 in
    ⊎_elim
    (λ (p : key_in b ≤ key_in a).
    rw (before_false a b p h g, ih)
    (⊎_elim
    (λ (q : key_in a ≤ key_in b).
    let e : key_in a ≡ key_in b = omega arith in
    rw (insert_here (key_in a) (key_in b) (map key_in l) q, e) (ap (λ (m : List ℕ). key_in b ∷ m) (insert_first (key_in b) (map key_in l) o.0)))
    (λ (q : key_in b < key_in a). sym (insert_past (key_in a) (key_in b) (map key_in l) q))
    (le_or_lt (key_in a) (key_in b))))
    (λ (p : key_in a < key_in b). rw (before_true a b p h g) (sym (insert_here (key_in a) (key_in b) (map key_in l) (omega arith))))
    (le_or_lt (key_in b) (key_in a))

sorted_keys : {l : List LeafBound} → All Small l → map key_in (sorted_by before l) ≡ sorted_of (map key_in l)
unfolding poured_by
sorted_keys all_none = sym (pour_nil [])
sorted_keys (all_more {a} {rest = l} h hs) =
    let ih = sorted_keys hs in
    inserted_keys a h (small_sorted hs) (rw ih (sorted_pour (map key_in l) [] tt)) ∙ ap (insert_key (key_in a)) ih ∙ sym (pour_cons (key_in a) (map key_in l) [])

-- ---- the leaves of a tree

module _ (tree : Tree) (query : Trace) (few : length tree ≤ 8192) where
  keys_of : (l : List ℕ) → map key_in (map (with_bound tree query) l) ≡ map (node_key tree query) l
  keys_of [] = refl
  keys_of (i ∷ l) = ap (λ (m : List ℕ). node_key tree query i ∷ m) (keys_of l)

  small_leaves : All Small (map (with_bound tree query) (leaves tree))
  small_leaves = all_map (with_bound tree query) (λ i h. h) (all_in {P = λ (i : ℕ). i < 8192} (leaves tree) (λ i j. omega (arith, (from_leaves tree j).0)))

  small_reading : All Small (reading_order tree query)
  unfolding reading_order
  small_reading = small_sorted small_leaves

  -- the leaves' keys in order are those of document 01's order of reading
  reading_keys : map key_in (reading_order tree query) ≡ sorted_of (map (node_key tree query) (leaves tree))
  unfolding reading_order
  reading_keys = sorted_keys small_leaves ∙ ap sorted_of (keys_of (leaves tree))

  -- .. and the leaves of those keys are it
  pub leaves_in_order : map key_leaf (sorted_of (map (node_key tree query) (leaves tree))) ≡ reading_order tree query
  leaves_in_order = ap (map key_leaf) (sym reading_keys) ∙ back small_reading
    where
      back : {l : List LeafBound} → All Small l → map key_leaf (map key_in l) ≡ l
      back all_none = refl
      back (all_more {a} {rest = l} h hs) =
          let p : key_number (key_in a) ≡ a.number = omega arith in
          let q : key_bound (key_in a) ≡ a.bound = omega arith in
          rw (p, q, back hs)
