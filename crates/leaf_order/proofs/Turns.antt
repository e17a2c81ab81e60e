-- A turn of `next_leaf`, by the least key: its node is past the limit, and then so are all leaves to come; or a leaf, which is the next; or
-- an inner node, in whose stead its children wait, for the same leaves.
use Prim.Native.Nat.{ℕ, suc, ◌+◌, ◌-◌, ◌≤◌, ◌<◌}
use mathlib.Core.Path.{◌≡◌, sym, ◌∙◌, ap, subst}
use mathlib.Core.Bool.{true, false}
use mathlib.Core.List.{List, [], ◌∷◌, map}
use native.Mathlib.Omega.{arith}
use lib.ListN.{length, take}
use lib.Seq.{length-take-le}
use borrow.Author.Tests.{ltb-true, lt-ltb}
use Rattle.integer.proofs.Tests.{is_true}
use Rattle.integer.proofs.Lists.{All, all_none, all_more}
use Rattle.heap.specs.Keys.{insert_key}
use Rattle.heap.specs.Heap.{Least, Pushed, Popped, Sunk}
use Rattle.heap.proofs.Sorting.{Above, sorted_pour, pour_nil, insert_nil, length_pour, length_insert}
use Rattle.heap.proofs.Popping.{sunk_among}
use Rattle.dstree.specs.Measures.{Trace}
use Rattle.dstree.specs.Node.{Test, leaf, inner, Tree, node_at}
use Rattle.dstree.specs.Matching.{is_leaf_kind}
use Rattle.best_first.specs.NodeKeys.{key_bound, key_number, key_leaf, child_key, first_key, in_stead}
use Rattle.best_first.specs.Branching.{Branching}
use Rattle.best_first.specs.Waiting.{to_come, nodes_waiting}
use Rattle.best_first.proofs.Order.{Front, length_load, number_inside, come_first, come_leaf, load_leaf, front_leaf}
use Rattle.best_first.proofs.Order.{come_inner, load_inner, front_inner, come_start, load_start, front_start}
use Rattle.best_first.proofs.Reading.{leaves_in_order}
use Rattle.std.specs.Prelude.{Option, Some, None}
use Rattle.leaf_order.specs.Waits.{keys_in, Waits, remaining, Begun}
use Rattle.leaf_order.specs.Handed.{is_past, Past, HandedLeaf}

-- ---- limits

past_more : (limit : Option ℕ) (a b : ℕ) → a ≤ b → is_past limit a ≡ true → is_past limit b ≡ true
unfolding is_past
past_more (Some limit) a b h e = lt-ltb limit b (omega (arith, ltb-true limit a e))
past_more None a b h e = absurd (is_true e)

-- ---- keys

keys_count : (n : ℕ) (l : List ℕ) → n ≤ length l → length (keys_in n l) ≡ n
keys_count n l h = omega (arith, length_pour (take n l) [], length-take-le n l h)

module _ (tree : Tree) (b : Branching tree) (query : Trace) where
  -- the first key is put into an empty heap
  pub begun : (entry work : List ℕ) → length tree ≡ length work → Pushed 0 (first_key tree query) entry work → Begun tree query work
  unfolding remaining
  begun entry work whole p =
      let keys : keys_in 1 work ≡ first_key tree query ∷ [] = p.keys ∙ ap (insert_key (first_key tree query)) (pour_nil []) ∙ insert_nil (first_key tree query) in
      record {
        waits = record {
          heap = p.heap;
          keyed = rw keys (front_start tree b query).keyed;
          fits = omega (arith, b.some_node);
          room = rw keys (omega (arith, load_start tree b query));
        };
        all = rw keys (ap (map key_leaf) (come_start tree b query) ∙ leaves_in_order tree query b.few);
      }

  -- no key waits
  pub none_remain : (work : List ℕ) (n : ℕ) → n ≤ 0 → remaining tree query n work ≡ []
  unfolding remaining
  none_remain work n h =
      let e : n ≡ 0 = omega arith in
      let keys : keys_in n work ≡ [] = rw e (pour_nil []) in
      rw keys

-- ---- the least key that waits, x

module _ {tree : Tree} {query : Trace} {n : ℕ} {work : List ℕ} (w : Waits tree query n work) {x : ℕ} {others : List ℕ} (keys : keys_in n work ≡ x ∷ others) where
  front : Front tree query (x ∷ others)
  front = subst (Front tree query) keys (record { sorted = sorted_pour (take n work) [] tt; keyed = w.keyed })

  room : nodes_waiting tree (x ∷ others) ≤ length work
  room = subst (λ (l : List ℕ). nodes_waiting tree l ≤ length work) keys w.room

  remain : remaining tree query n work ≡ map key_leaf (to_come tree query (x ∷ others))
  unfolding remaining
  remain = ap (λ (l : List ℕ). map key_leaf (to_come tree query l)) keys

  pub least_number : Branching tree → length tree ≡ length work → key_number x < length work
  least_number b whole = omega (arith, number_inside tree b query x others front, whole)

  -- if its bound is past the limit, so is that of every leaf to come
  pub least_past : Branching tree → (limit : Option ℕ) → is_past limit (key_bound x) ≡ true → All (Past limit) (remaining tree query n work)
  least_past b limit e = rw remain (by (to_come tree query (x ∷ others)) (come_first tree b query x others front))
    where
      by : (l : List ℕ) → Above x l → All (Past limit) (map key_leaf l)
      by [] a = all_none
      by (y ∷ l) a = all_more (past_more limit (key_bound x) (key_bound y) (omega (arith, a.0)) e) (by l a.1)

  -- ---- its node has two children

  module _ (b : Branching tree) {test : Test} {l r : ℕ} (e : (node_at tree (key_number x)).kind ≡ inner test l r) where
    after : List ℕ
    after = in_stead tree query x l r others

    after_load : nodes_waiting tree (x ∷ others) ≡ suc (nodes_waiting tree after)
    unfolding after
    after_load = load_inner tree b query x others front e

    after_length : length after ≡ n + 1
    unfolding after
    after_length =
        let kr = child_key tree query (key_bound x) r in
        omega (
          arith,
          length_insert (child_key tree query (key_bound x) l) (insert_key kr others),
          length_insert kr others,
          sym (ap length keys) ∙ keys_count n work w.fits,
        )

    -- there is room for one key more
    pub inner_room : n < length work
    inner_room = omega (arith, after_length, length_load tree after, after_load, room)

    module _ (some : 0 < n) (between work' : List ℕ) (long : length work' ≡ length work)
        (q : Sunk n (child_key tree query (key_bound x) r) work between)
        (t : Pushed n (child_key tree query (key_bound x) l) between work') where
      after_keys : keys_in (n + 1) work' ≡ after
      unfolding after
      after_keys =
          t.keys ∙ ap (insert_key (child_key tree query (key_bound x) l))
          (sunk_among n work some w.fits w.heap x others keys (child_key tree query (key_bound x) r) between q)

      pub inner_less : nodes_waiting tree (keys_in (n + 1) work') < nodes_waiting tree (keys_in n work)
      inner_less = rw (keys, after_keys) (omega (arith, after_load))

      pub inner_waits : Waits tree query (n + 1) work'
      unfolding after
      inner_waits = record {
        heap = t.heap;
        keyed = rw after_keys (front_inner tree b query x others front e).keyed;
        fits = omega (arith, inner_room, long);
        room = rw after_keys (omega (arith, after_load, room, long));
      }

      pub inner_same : remaining tree query (n + 1) work' ≡ remaining tree query n work
      unfolding remaining after
      inner_same = sym (remain ∙ ap (map key_leaf) (come_inner tree b query x others front e)
          ∙ ap (λ (k : List ℕ). map key_leaf (to_come tree query k)) (sym after_keys))

-- ---- .. is out

pub record KeyTaken (tree : Tree) (query : Trace) (n : ℕ) (work : List ℕ) (x : ℕ) (left : List ℕ) : Type 0 where
  pub branching : Branching tree
  pub waits : Waits tree query n work
  pub long : length left ≡ length work
  pub popped : Popped n x work left

-- the key that is taken out is the least one
pub same_least : {n x y : ℕ} {work left : List ℕ} → Least n work x → Popped n y work left → Popped n x work left
same_least {n} {x} {y} {work} {left} l p =
    let e : x ∷ l.others ≡ y ∷ keys_in (n - 1) left = sym l.keys ∙ p.keys in
    let h : x ≡ y = cc in
    rw h p

module _ {tree : Tree} {query : Trace} {n : ℕ} {work : List ℕ} {x : ℕ} {left : List ℕ} (c : KeyTaken tree query n work x left) where
  abbrev others : List ℕ
  others = keys_in (n - 1) left

  abbrev ahead : Front tree query (x ∷ others)
  ahead = front c.waits c.popped.keys

  -- its node is a leaf
  module _ {ns : List ℕ} (e : (node_at tree (key_number x)).kind ≡ leaf ns) where
    pub took_leaf : (limit : Option ℕ) → is_past limit (key_bound x) ≡ false
        → HandedLeaf tree query limit n (n - 1) work left (record { bound = key_bound x; number = key_number x })
    unfolding remaining is_leaf_kind
    took_leaf limit p = record {
      first = remain c.waits c.popped.keys ∙ ap (map key_leaf) (come_leaf tree c.branching query x others ahead e);
      inside = number_inside tree c.branching query x others ahead;
      is_leaf = rw e tt;
      within = p;
      waits = record {
        heap = c.popped.heap;
        keyed = (front_leaf tree c.branching query x others ahead e).keyed;
        fits = omega (arith, c.waits.fits, c.long);
        room = omega (arith, room c.waits c.popped.keys, c.long, load_leaf tree c.branching query x others ahead e);
      };
    }
