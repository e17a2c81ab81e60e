-- A trace that goes down, widens the records that it meets and joins a leaf keeps the shape and the invariant, over one trace more.
-- The idea: afterwards a trace is below a node if it was before, or if it is the new one and the node is on its way.
use Rattle.std.specs.Prelude.{if◌then◌else◌}
use Prim.Native.Nat.{ℕ, zero, suc, ◌≤◌, ◌<◌}
use mathlib.Core.Path.{◌≡◌, refl, sym, ◌∙◌, ap, subst}
use mathlib.Core.Logic.{◌⊎◌, inl, inr}
use mathlib.Core.Bool.{Bool, true, false}
use mathlib.Core.Option.{Option, none, some}
use mathlib.Core.List.{List, [], ◌∷◌, ◌++◌}
use native.Mathlib.Omega.{arith}
use native.Mathlib.Decide.{dec_le}
use native.Mathlib.Nat.{lt_of_not-le}
use lib.ListN.{length, get_or, length-append, get_or-append}
use lib.Seq.{get_or-append_seam}
use lib.Dec.{T}
use Rattle.integer.specs.Words.{is_in, last_of}
use Rattle.integer.proofs.Lists.{In, first, in_cons, in_is, is_in_lem, in_snoc, in_append_left, in_append_right, Up, up_append}
use Rattle.dstree.specs.Measures.{Trace}
use Rattle.dstree.specs.Node.{Test, Kind, leaf, inner, Node, Tree, node_at, sends_left, ends}
use Rattle.dstree.specs.Adding.{next_node, way_from, way, widen_all, join}
use Rattle.dstree.specs.Matching.{has_child, numbers_in}
use Rattle.dstree.specs.Formed.{Parent, Kept, Shape}
use Rattle.dstree.specs.Claims.{Below, of_leaf, of_child}
use Rattle.dstree.proofs.Ranges.{Covered}
use Rattle.dstree.proofs.Change.{next_child, has_left, has_right, ParentIn, way_closed, way_last, LeafAt, way_leaf}
use Rattle.dstree.proofs.Change.{widen_length, widen_kind, widen_keeps, widen_gets, join_length, join_segments, join_kinds}
use Rattle.dstree.proofs.Below.{below_stored}
use Rattle.dstree.proofs.Cuts.{widen_ends}
use Rattle.dstree.proofs.Exact.{AllReached, reached_by_more, widen_reached}
use Rattle.dstree.proofs.Invariant.{Sends, Ranged, Exact}

-- ---- trees that differ in the figures of their records only

pub same_shape : {n count : ℕ} {tree other : Tree} → length other ≡ length tree → ((k : ℕ) → (node_at other k).kind ≡ (node_at tree k).kind)
    → ((k : ℕ) → ends (node_at other k).segments ≡ ends (node_at tree k).segments) → Shape n count tree → Shape n count other
same_shape {n} {count} {tree} {other} size kinds same s = record {
  no_trace = λ e. s.no_trace (sym size ∙ e);
  no_node = λ e. size ∙ s.no_node e;
  children = record {
    child = λ p c. rw (kinds p, size) (s.children.child p c);
    parented = λ k h g. let p : Parent tree k = s.children.parented k h (omega arith) in record { parent = p.parent; has = rw (kinds p.parent) p.has };
    one_parent = λ p q c. rw (kinds p, kinds q) (s.children.one_parent p q c);
    children_differ = λ p test l r. rw (kinds p) (s.children.children_differ p test l r);
  };
  fits = λ k h. rw (same k) (s.fits k (omega arith));
  ends_kept_lem = λ p c. rw (kinds p, same p, same c) (s.ends_kept_lem p c);
  kept = λ t h. let o : Kept tree t = s.kept t h in record { at = o.at; holds = rw (kinds o.at) o.holds };
  one_leaf = λ t j k. rw (kinds j, kinds k) (s.one_leaf t j k);
  numbers = λ t k. rw (kinds k) (s.numbers t k);
  rises = λ k ns. rw (kinds k) (s.rises k ns);
  full = λ k h ns. rw (kinds k) (s.full k (omega arith) ns);
}

pub widen_shape : {n count : ℕ} {tree : Tree} (x : Trace) (met : List ℕ) → Shape n count tree → Shape n count (widen_all x met tree)
widen_shape {tree = tree} x met = same_shape (widen_length x met tree) (widen_kind x met tree) (widen_ends x met tree)

-- ---- the shape: a number joins a leaf, and some records are widened

module _ {n count : ℕ} {tree : Tree} (s : Shape n count tree) (x : Trace) (met : List ℕ) (at : ℕ) (ns : List ℕ) (inside : at < length tree) (is : (node_at tree at).kind ≡ leaf ns) where
  abbrev widened : Tree
  widened = widen_all x met tree

  abbrev pub joined_tree : Tree
  joined_tree = join count at widened

  pub joined_length : length joined_tree ≡ length tree
  joined_length = join_length count at widened ∙ widen_length x met tree

  -- a node's kind: the leaf has one number more
  pub joined_kinds : (P : Kind → Type 0) (k : ℕ) → (k ≡ at → P (leaf (ns ++ (count ∷ [])))) → ((k ≡ at → ⊥) → P (node_at tree k).kind) → P (node_at joined_tree k).kind
  joined_kinds P k here other =
      join_kinds count at widened ns (widen_kind x met tree at ∙ is) P k here (λ f. subst P (sym (widen_kind x met tree k)) (other f)) (rw (widen_length x met tree) inside)

  pub joined_ends : (k : ℕ) → ends (node_at joined_tree k).segments ≡ ends (node_at tree k).segments
  joined_ends k = ap ends (join_segments count at widened k) ∙ widen_ends x met tree k

  not_here : (c k : ℕ) → T (has_child c (node_at tree k).kind) → k ≡ at → ⊥
  unfolding has_child
  not_here c k h e = subst (λ (a : Kind). T (has_child c a)) (ap (λ (j : ℕ). (node_at tree j).kind) e ∙ is) h

  child_back : (c k : ℕ) → T (has_child c (node_at joined_tree k).kind) → T (has_child c (node_at tree k).kind)
  unfolding has_child
  child_back c k = joined_kinds (λ a. T (has_child c a) → T (has_child c (node_at tree k).kind)) k (λ e h. absurd h) (λ f h. h)

  child_on : (c k : ℕ) → T (has_child c (node_at tree k).kind) → T (has_child c (node_at joined_tree k).kind)
  child_on c k h = joined_kinds (λ a. T (has_child c a)) k (λ e. absurd (not_here c k h e)) (λ f. h)

  pub inner_back : (k : ℕ) (test : Test) (l r : ℕ) → (node_at joined_tree k).kind ≡ inner test l r → (node_at tree k).kind ≡ inner test l r
  inner_back k test l r = joined_kinds (λ a. a ≡ inner test l r → (node_at tree k).kind ≡ inner test l r) k (λ e q. let z : ◌≡◌ {A = ℕ} 0 1 = cc in absurd (omega arith)) (λ f q. q)

  -- a leaf's numbers: as before, or with the new one
  joined_leaf : (P : List ℕ → Type 0) (k : ℕ) → ((ls : List ℕ) → (node_at tree k).kind ≡ leaf ls → P ls) → ((ls : List ℕ) → (node_at tree k).kind ≡ leaf ls → P (ls ++ (count ∷ [])))
      → (ls : List ℕ) → (node_at joined_tree k).kind ≡ leaf ls → P ls
  joined_leaf P k old new =
      joined_kinds (λ a. (ls : List ℕ) → a ≡ leaf ls → P ls) k
      (λ e ls q. let r : ns ++ (count ∷ []) ≡ ls = cc in subst P r (new ns (ap (λ (j : ℕ). (node_at tree j).kind) e ∙ is))) (λ f. old)

  numbers_back : (t k : ℕ) → T (is_in t (numbers_in (node_at joined_tree k).kind)) → T (is_in t (numbers_in (node_at tree k).kind)) ⊎ ((t ≡ count) × (k ≡ at))
  unfolding numbers_in
  numbers_back t k =
      joined_kinds (λ a. T (is_in t (numbers_in a)) → T (is_in t (numbers_in (node_at tree k).kind)) ⊎ ((t ≡ count) × (k ≡ at))) k
      (λ e i. in_joined e (in_snoc (ns) (is_in_lem t (ns ++ (count ∷ [])) i))) (λ f i. inl i)
    where
      in_joined : k ≡ at → In t (ns) ⊎ (t ≡ count) → T (is_in t (numbers_in (node_at tree k).kind)) ⊎ ((t ≡ count) × (k ≡ at))
      in_joined e (inl i) = inl (rw (e, is) (in_is i))
      in_joined e (inr p) = inr (p, e)

  numbers_on : (t k : ℕ) → T (is_in t (numbers_in (node_at tree k).kind)) → T (is_in t (numbers_in (node_at joined_tree k).kind))
  unfolding numbers_in
  numbers_on t k i =
      joined_kinds (λ a. T (is_in t (numbers_in a))) k
      (λ e. in_is (in_append_left (count ∷ []) (is_in_lem t (ns) (subst (λ (a : Kind). T (is_in t (numbers_in a))) (ap (λ (j : ℕ). (node_at tree j).kind) e ∙ is) i)))) (λ f. i)

  holds_new : T (is_in (count) (numbers_in (node_at joined_tree at).kind))
  unfolding numbers_in
  holds_new = joined_kinds (λ a. T (is_in (count) (numbers_in a))) at (λ e. in_is (in_append_right (ns) first)) (λ f. absurd (f refl))

  in_leaf : (t k : ℕ) (ls : List ℕ) → (node_at tree k).kind ≡ leaf ls → In t ls → t < count
  unfolding numbers_in
  in_leaf t k ls e i = s.numbers t k (rw e (in_is i))

  pub join_shape : Shape n (suc count) (join count at (widen_all x met tree))
  join_shape = record {
    no_trace = λ e. absurd (omega (arith, joined_length));
    no_node = λ e. absurd (omega arith);
    children = record {
      child = λ p c h. let k : (p < c) × (c < length tree) = s.children.child p c (child_back c p h) in (k.0, rw joined_length k.1);
      parented = λ k h g. let p : Parent tree k = s.children.parented k h (rw joined_length at g) in record { parent = p.parent; has = child_on k p.parent p.has };
      one_parent = λ p q c h k. s.children.one_parent p q c (child_back c p h) (child_back c q k);
      children_differ = λ p test l r e. s.children.children_differ p test l r (inner_back p test l r e);
    };
    fits = λ k h. rw (joined_ends k) (s.fits k (rw joined_length at h));
    ends_kept_lem = λ p c h. rw (joined_ends p, joined_ends c) (s.ends_kept_lem p c (child_back c p h));
    kept = λ t h. keep t (dec_le (suc t) count) h;
    one_leaf = λ t j k h i. one t j k (numbers_back t j h) (numbers_back t k i);
    numbers = λ t k h. stored t (numbers_back t k h);
    rises = λ k. joined_leaf (Up 0) k (s.rises k) (λ ls e. up_append count (omega arith) (s.rises k ls e) (λ t i. in_leaf t k ls e i));
    full = λ k h. joined_leaf (λ ls. 0 < length ls) k (s.full k (rw joined_length at h)) (λ ls e. simp length-append (omega arith));
  }
    where
      one : (t j k : ℕ) → T (is_in t (numbers_in (node_at tree j).kind)) ⊎ ((t ≡ count) × (j ≡ at)) → T (is_in t (numbers_in (node_at tree k).kind)) ⊎ ((t ≡ count) × (k ≡ at)) → j ≡ k
      one t j k (inl h) (inl i) = s.one_leaf t j k h i
      one t j k (inl h) (inr (e, p)) = absurd (omega (arith, s.numbers t j h))
      one t j k (inr (e, p)) (inl i) = absurd (omega (arith, s.numbers t k i))
      one t j k (inr (e, p)) (inr (f, q)) = p ∙ sym q

      keep : (t : ℕ) → Dec (suc t ≤ count) → t < suc count → Kept joined_tree t
      keep t (yes g) h = let o : Kept tree t = s.kept t g in record { at = o.at; holds = numbers_on t o.at o.holds }
      keep t (no f) h = let e : t ≡ count = omega (arith, lt_of_not-le f) in record { at = at; holds = rw e holds_new }

      stored : (t : ℕ) {k : ℕ} → T (is_in t (numbers_in (node_at tree k).kind)) ⊎ ((t ≡ count) × (k ≡ at)) → t < suc count
      stored t {k} (inl i) = omega (arith, s.numbers t k i)
      stored t (inr (e, p)) = omega arith

-- ---- records and tests: the trace goes down by the tests, and joins the leaf at the end

module _ {n : ℕ} (stored : List Trace) {root : Node} {rest : Tree} (x : Trace) (s : Shape n (length stored) (root ∷ rest)) where
  abbrev tree : Tree
  tree = root ∷ rest

  abbrev met : List ℕ
  met = way tree x

  abbrev at : ℕ
  at = last_of met

  ending : LeafAt tree at
  ending = way_leaf tree x s.children.child (omega arith)

  abbrev new : Tree
  new = join (length stored) at (widen_all x met tree)

  abbrev more : List Trace
  more = stored ++ (x ∷ [])

  -- a parent of a node on the way is on the way, and the trace goes from it to the node
  came_from : (c p : ℕ) → In c met → T (has_child c (node_at tree p).kind) → In p met × (next_node (node_at tree p).kind x ≡ some c)
  came_from c p i h = by (way_closed (length tree) tree x 0 i)
    where
      by : (c ≡ 0) ⊎ ParentIn tree x c met → In p met × (next_node (node_at tree p).kind x ≡ some c)
      by (inl e) = absurd (omega (arith, (s.children.child p c h).0))
      by (inr q) =
          let e : q.parent ≡ p = s.children.one_parent q.parent p c (next_child x c (node_at tree q.parent).kind q.next) h in
          (subst (λ (j : ℕ). In j met) e q.met, subst (λ (j : ℕ). next_node (node_at tree j).kind x ≡ some c) e q.next)

  below_back : {t k : ℕ} → Below new t k → Below tree t k ⊎ ((t ≡ length stored) × In k met)
  below_back {t} (of_leaf {number} h) = by (numbers_back s x met at ending.numbers ending.inside ending.is t number h)
    where
      by : T (is_in t (numbers_in (node_at tree number).kind)) ⊎ ((t ≡ length stored) × (number ≡ at)) → Below tree t number ⊎ ((t ≡ length stored) × In number met)
      by (inl i) = inl (of_leaf i)
      by (inr (e, p)) = inr (e, subst (λ (j : ℕ). In j met) (sym p) (way_last (length rest) tree x 0))
  below_back {t} (of_child {parent} {child} h b) = by (below_back b)
    where
      by : Below tree t child ⊎ ((t ≡ length stored) × In child met) → Below tree t parent ⊎ ((t ≡ length stored) × In parent met)
      by (inl i) = inl (of_child (child_back s x met at ending.numbers ending.inside ending.is child parent h) i)
      by (inr (e, i)) = inr (e, (came_from child parent i (child_back s x met at ending.numbers ending.inside ending.is child parent h)).0)

  below_on : {t k : ℕ} → Below tree t k → Below new t k
  below_on {t} (of_leaf {number} h) = of_leaf (numbers_on s x met at ending.numbers ending.inside ending.is t number h)
  below_on (of_child {parent} {child} h b) = of_child (child_on s x met at ending.numbers ending.inside ending.is child parent h) (below_on b)

  -- the new trace is below each node of the way to a leaf that holds it
  way_below : (fuel at : ℕ) → Below new (length stored) (last_of (way_from fuel tree x at)) → {k : ℕ} → In k (way_from fuel tree x at) → Below new (length stored) k
  unfolding way_from
  way_below (suc fuel) at b {k} i = by (next_node (node_at tree at).kind x) refl b (in_cons i)
      (λ (c : ℕ) (e : Below new (length stored) (last_of (way_from fuel tree x c))) (j : ℕ) (i : In j (way_from fuel tree x c)). way_below fuel c e i)
    where
      on : (fuel c : ℕ) → T (has_child c (node_at tree at).kind) → Below new (length stored) (last_of (at ∷ way_from fuel tree x c))
          → (k ≡ at) ⊎ In k (way_from fuel tree x c) →
          ((c : ℕ) → Below new (length stored) (last_of (way_from fuel tree x c)) → (j : ℕ) → In j (way_from fuel tree x c) → Below new (length stored) j) → Below new (length stored) k
      on zero c h b (inl e) ih = rw e b
      on zero c h b (inr j) ih = elim j [ ]
      on (suc fuel) c h b (inl e) ih = rw e (of_child {child = c} (child_on s x met (last_of met) ending.numbers ending.inside ending.is c at h) (ih c b c first))
      on (suc fuel) c h b (inr j) ih = ih c b k j

      by : (o : Option ℕ) → next_node (node_at tree at).kind x ≡ o
          → Below new (length stored) (last_of (at ∷ elim o [ none ↦ [] | some child ↦ way_from fuel tree x child ])) → (k ≡ at) ⊎ In k (elim o [ none ↦ [] | some child ↦ way_from fuel tree x child ])
          → ((c : ℕ) → Below new (length stored) (last_of (way_from fuel tree x c)) → (j : ℕ) → In j (way_from fuel tree x c) → Below new (length stored) j) → Below new (length stored) k
      by none e b (inl p) ih = rw p b
      by none e b (inr j) ih = elim j [ ]
      by (some c) e b j ih = on fuel c (next_child x c (node_at tree at).kind e) b j ih
  way_below zero start b i = elim i [ ]

  -- ---- the stored traces: one more

  pub old_trace : {t : ℕ} → t < length stored → get_or more t [] ≡ get_or stored t []
  old_trace {t} h = get_or-append stored (x ∷ []) [] t h

  new_trace : {t : ℕ} → t ≡ length stored → get_or more t [] ≡ x
  new_trace e = rw e (get_or-append_seam stored x [] [])

  -- ---- tests

  -- the way leads to a child by the test of its parent
  by_test : (p : ℕ) (test : Test) (l r : ℕ) → (node_at tree p).kind ≡ inner test l r → (c : ℕ) → T (has_child c (node_at tree p).kind) → In c met → c ≡ (if sends_left test x then l else r)
  unfolding next_node
  by_test p test l r e c h i =
      let q : next_node (node_at tree p).kind x ≡ some c = (came_from c p i h).1 in
      let s : some (if sends_left test x then l else r) ≡ some c = subst (λ (a : Kind). next_node a x ≡ some c) e q in
      cc

  join_sends : Exact stored tree → (p : ℕ) (test : Test) (l r : ℕ) → (node_at new p).kind ≡ inner test l r → Sends more new test l r
  join_sends old p test l r q = record { goes_left = λ t b. left t (below_back b); goes_right = λ t b. right t (below_back b) }
    where
      is_inner : (node_at tree p).kind ≡ inner test l r
      is_inner = inner_back s x met at ending.numbers ending.inside ending.is p test l r q

      differ : l ≡ r → ⊥
      differ = s.children.children_differ p test l r is_inner

      to_left : (b : Bool) → l ≡ (if b then l else r) → b ≡ true
      to_left true e = refl
      to_left false e = absurd (differ e)

      to_right : (b : Bool) → r ≡ (if b then l else r) → b ≡ false
      to_right true e = absurd (differ (sym e))
      to_right false e = refl

      left : (t : ℕ) → Below tree t l ⊎ ((t ≡ length stored) × In l met) → sends_left test (get_or more t []) ≡ true
      left t (inl b) = rw (old_trace (below_stored s b)) ((old.sends p test l r is_inner).goes_left t b)
      left t (inr (e, i)) = rw (new_trace e) (to_left (sends_left test x) (by_test p test l r is_inner l (rw is_inner (has_left test l r)) i))

      right : (t : ℕ) → Below tree t r ⊎ ((t ≡ length stored) × In r met) → sends_left test (get_or more t []) ≡ false
      right t (inl b) = rw (old_trace (below_stored s b)) ((old.sends p test l r is_inner).goes_right t b)
      right t (inr (e, i)) = rw (new_trace e) (to_right (sends_left test x) (by_test p test l r is_inner r (rw is_inner (has_right test l r)) i))

  -- ---- records

  join_reached : Ranged stored tree → (k : ℕ) → AllReached more (λ (t : ℕ). Below new t k) 1 (node_at new k).segments
  join_reached old k =
      rw (join_segments (length stored) at (widen_all x met tree) k)
      (widen_reached more x (length stored) (new_trace refl) (λ (k t : ℕ). Below new t k) met tree
      (λ k i. way_below (length tree) 0 (of_leaf (holds_new s x met at ending.numbers ending.inside ending.is)) i)
      (λ k. reached_by_more stored more (λ (t : ℕ). Below tree t k) (λ (t : ℕ). Below new t k) (λ t b. below_on b) (λ t b. old_trace (below_stored s b)) (old.reached k)) k)

  join_ranges : Ranged stored tree → (t k : ℕ) → Below tree t k ⊎ ((t ≡ length stored) × In k met) → Covered (get_or more t []) 1 (node_at new k).segments
  join_ranges old t k (inl b) = rw (old_trace (below_stored s b), join_segments (length stored) at (widen_all x met tree) k) (widen_keeps x (get_or stored t []) met tree k (old.ranges t k b))
  join_ranges old t k (inr (e, i)) = rw (new_trace e, join_segments (length stored) at (widen_all x met tree) k) (widen_gets x tree i)

  pub join_ranged : Ranged stored (root ∷ rest) → Ranged (stored ++ (x ∷ []))
      (join (length stored) (last_of (way (root ∷ rest) x)) (widen_all x (way (root ∷ rest) x) (root ∷ rest)))
  join_ranged old = record { ranges = λ t k b. join_ranges old t k (below_back b); reached = join_reached old }

  pub join_exact : Exact stored (root ∷ rest) → Exact (stored ++ (x ∷ []))
      (join (length stored) (last_of (way (root ∷ rest) x)) (widen_all x (way (root ∷ rest) x) (root ∷ rest)))
  join_exact old = record { ranged = join_ranged old.ranged; sends = join_sends old }
