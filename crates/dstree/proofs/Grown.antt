-- Every tree that adding makes has the invariant, and no leaf over size has a candidate that parts it.
-- The second is an invariant of the pass over new leaves: it holds of all nodes before the pass's position. Each step moves the position on
-- by one, and there are fewer nodes than twice the traces, so that the pass does not end too soon.
use Rattle.std.specs.Prelude.{if◌then◌else◌}
use Prim.Native.Nat.{ℕ, zero, suc, ◌+◌, ◌*◌, ◌≤◌, ◌<◌}
use mathlib.Core.Path.{◌≡◌, refl, sym, ◌∙◌, ap, subst}
use mathlib.Core.Bool.{Bool, true, false, not}
use mathlib.Core.Option.{Option, none, some}
use mathlib.Core.List.{List, [], ◌∷◌, ◌++◌, append_assoc, append-nil}
use native.Mathlib.Omega.{arith}
use native.Mathlib.Decide.{dec_le}
use native.Mathlib.Nat.{lt_of_not-le}
use lib.ListN.{length, get_or, set, length-set, length-append, get_or-append, get_or-eq_default}
use lib.Seq.{get_or-set_other, get_or-set_same}
use lib.Dec.{T, ltb}
use Rattle.integer.specs.Words.{last_of, those, every}
use borrow.Author.Tests.{ltb-true, ltb-false}
use Rattle.integer.proofs.Lists.{same_or_not, In, first, in_is, in_append_left, in_append_right, map_agree, those_agree, every_of, from_every}
use Rattle.dstree.specs.Measures.{Trace, Measures, in_range, is_trace}
use Rattle.dstree.specs.Node.{Test, Kind, leaf, inner, Node, node, Tree, node_at, sends_left, ends}
use Rattle.dstree.specs.Adding.{way, widen_all, join, new_leaf, traces_of, Candidate, candidates, test_of, Split, split_by, parts, best}
use Rattle.dstree.specs.Adding.{split_into, split_kind, split, split_new, insertion, grown, tree_of}
use Rattle.dstree.specs.Matching.{numbers_in}
use Rattle.dstree.specs.Formed.{Shape}
use Rattle.dstree.proofs.Formed.{empty_leaf, inner_node}
use Rattle.dstree.proofs.Nodes.{nodes_most}
use Rattle.dstree.proofs.Change.{widen_kind, join_inner, LeafAt, way_leaf}
use Rattle.dstree.proofs.Invariant.{Inv}
use Rattle.dstree.proofs.Joins.{joined_kinds, joined_ends, join_shape}
use Rattle.dstree.proofs.Splits.{best_none, split_shape, split_keeps}
use Rattle.dstree.proofs.Keeps.{none_inv, insertion_inv}

-- ---- no leaf over size that could be parted

-- the leaf of this number is not over size, or no candidate parts it
abbrev pub LeafWhole : ℕ → List Trace → Tree → ℕ → Type 0
LeafWhole leaf_size stored tree k = (numbers : List ℕ) → (node_at tree k).kind ≡ leaf numbers → leaf_size < length numbers → T
    (every (λ c. not (parts (split_by stored numbers c))) (candidates (ends (node_at tree k).segments)))

past_whole : (leaf_size : ℕ) (stored : List Trace) (tree : Tree) (k : ℕ) → length tree ≤ k → LeafWhole leaf_size stored tree k
past_whole leaf_size stored tree k h numbers e g =
    let q : leaf [] ≡ leaf numbers = sym (ap (λ (a : Node). a.kind) (get_or-eq_default tree empty_leaf h)) ∙ e in
    let r : [] ≡ numbers = cc in
    absurd (omega (arith, ap length r))

same_whole : (leaf_size : ℕ) (stored : List Trace) (tree other : Tree) (k : ℕ) → node_at other k ≡ node_at tree k → LeafWhole leaf_size stored tree k → LeafWhole leaf_size stored other k
same_whole leaf_size stored tree other k e w = rw e w

-- traces that a leaf does not hold do not bear on its candidates
same_split : (stored other : List Trace) (numbers : List ℕ) (c : Candidate) → ((t : ℕ) → In t numbers → get_or other t [] ≡ get_or stored t []) → split_by other numbers c ≡ split_by stored numbers c
unfolding split_by
same_split stored other numbers c h =
    let e : traces_of other numbers ≡ traces_of stored numbers = map_agree (λ (k : ℕ). get_or other k []) (λ (k : ℕ). get_or stored k []) numbers h in
    let test : Test = test_of c (traces_of stored numbers) in
    let l : those (λ number. sends_left test (get_or other number [])) numbers ≡ those (λ number. sends_left test (get_or stored number [])) numbers = those_agree _ _ numbers (λ t i. rw (h t i)) in
    let r : those (λ number. not (sends_left test (get_or other number []))) numbers ≡ those
    (λ number. not (sends_left test (get_or stored number []))) numbers = those_agree _ _ numbers (λ t i. rw (h t i)) in
    rw (e, l, r)

more_whole : (stored other : List Trace) (numbers : List ℕ) (cs : List Candidate)
    → ((t : ℕ) → In t numbers → get_or other t [] ≡ get_or stored t []) → T (every (λ c. not (parts (split_by stored numbers c))) cs) → T (every (λ c. not (parts (split_by other numbers c))) cs)
more_whole stored other numbers cs h t = every_of (λ c. not (parts (split_by other numbers c))) cs
    (λ c i. rw (same_split stored other numbers c h) (from_every (λ c. not (parts (split_by stored numbers c))) cs t i))

-- ---- splitting, node by node

module _ (leaf_size : ℕ) (stored : List Trace) (tree : Tree) (at : ℕ) where
  into_other : (o : Option Split) (k : ℕ) → k < length tree → (k ≡ at → ⊥) → node_at (split_into stored tree at o) k ≡ node_at tree k
  unfolding split_into
  into_other none k h f = refl
  into_other (some s) k h f =
      let turned : Node = node (node_at tree at).segments (inner s.test (length tree) (suc (length tree))) in
      get_or-append (set tree at turned) _ empty_leaf k (rw (length-set tree at turned) h) ∙ get_or-set_other tree at k turned empty_leaf f

  kind_other : (a : Kind) (k : ℕ) → k < length tree → (k ≡ at → ⊥) → node_at (split_kind leaf_size stored tree at a) k ≡ node_at tree k
  unfolding split_kind
  kind_other (inner test l r) k h f = refl
  kind_other (leaf numbers) k h f = by (ltb leaf_size (length numbers))
    where
      by : (b : Bool) → node_at (if b then split_into stored tree at (best stored (ends (node_at tree at).segments) numbers) else tree) k ≡ node_at tree k
      by true = into_other (best stored (ends (node_at tree at).segments) numbers) k h f
      by false = refl

  -- no other node is changed
  split_other : (k : ℕ) → k < length tree → (k ≡ at → ⊥) → node_at (split leaf_size stored tree at) k ≡ node_at tree k
  split_other = kind_other (node_at tree at).kind

  kind_whole : at < length tree → (a : Kind) → (node_at tree at).kind ≡ a → LeafWhole leaf_size stored (split_kind leaf_size stored tree at a) at
  unfolding split_kind split_into
  kind_whole h (inner test l r) e = λ numbers q g. let z : ◌≡◌ {A = ℕ} 0 1 = cc in absurd (omega arith)
  kind_whole h (leaf ns) e = by (ltb leaf_size (length ns)) refl
    where
      es : List ℕ
      es = ends (node_at tree at).segments

      found : (o : Option Split) → best stored es ns ≡ o → LeafWhole leaf_size stored (split_into stored tree at o) at
      found none p numbers q g = let r : ns ≡ numbers = cc in subst (λ (l : List ℕ). T (every (λ c. not (parts (split_by stored l c))) (candidates es))) r (best_none stored es ns p)
      found (some s) p numbers q g =
          let turned : Node = node (node_at tree at).segments (inner s.test (length tree) (suc (length tree))) in
          let is : node_at (split_into stored tree at (some s)) at ≡ turned = get_or-append (set tree at turned) _ empty_leaf at
          (rw (length-set tree at turned) h) ∙ get_or-set_same tree at turned empty_leaf h in
          let k : inner s.test (length tree) (suc (length tree)) ≡ leaf numbers = sym (ap (λ (a : Node). a.kind) is) ∙ q in
          let z : ◌≡◌ {A = ℕ} 0 1 = cc in
          absurd (omega arith)

      by : (b : Bool) → ltb leaf_size (length ns) ≡ b → LeafWhole leaf_size stored (if b then split_into stored tree at (best stored es ns) else tree) at
      by true p = found (best stored es ns) refl
      by false p = λ numbers q g. let r : ns ≡ numbers = cc in absurd (omega (arith, ltb-false leaf_size (length ns) p, ap length r))

  -- the leaf itself is parted, or whole
  split_whole : at < length tree → LeafWhole leaf_size stored (split leaf_size stored tree at) at
  split_whole h = kind_whole h (node_at tree at).kind refl

  -- an inner node is not changed
  split_inner : (k : ℕ) (test : Test) (l r : ℕ) → (node_at tree k).kind ≡ inner test l r → (node_at (split leaf_size stored tree at) k).kind ≡ inner test l r
  unfolding split_kind
  split_inner k test l r e = by (same_or_not k at)
    where
      by : Dec (k ≡ at) → (node_at (split leaf_size stored tree at) k).kind ≡ inner test l r
      by (yes p) =
          let q : (node_at tree at).kind ≡ inner test l r = subst (λ (j : ℕ). (node_at tree j).kind ≡ inner test l r) p e in
          subst (λ (a : Kind). (node_at (split_kind leaf_size stored tree at a) k).kind ≡ inner test l r) (sym q) e
      by (no f) = ap (λ (a : Node). a.kind) (split_other k (inner_node tree k test l r e) f) ∙ e

-- ---- the pass over the new leaves

split_shapes : (n leaf_size : ℕ) (stored : List Trace) (tree : Tree) (at : ℕ) → Shape n (length stored) tree → Shape n (length stored) (split leaf_size stored tree at)
split_shapes n leaf_size stored = split_keeps n leaf_size stored (λ (tree : Tree). Shape n (length stored) tree) (λ tree s. s.fits) (λ tree s. split_shape s stored)

-- whole before the position, and steps enough for all nodes: whole everywhere behind the pass
new_whole : (n fuel leaf_size : ℕ) (stored : List Trace) (tree : Tree) (at : ℕ) → Shape n (length stored) tree
    → 2 * length stored ≤ at + fuel → ((k : ℕ) → k < at → LeafWhole leaf_size stored tree k) → (k : ℕ) → LeafWhole leaf_size stored (split_new fuel leaf_size stored tree at) k
unfolding split_new
new_whole n zero leaf_size stored tree at shape enough whole k = by (dec_le (suc k) at)
  where
    by : Dec (suc k ≤ at) → LeafWhole leaf_size stored tree k
    by (yes h) = whole k h
    by (no f) = past_whole leaf_size stored tree k (omega (arith, lt_of_not-le f, nodes_most shape))
new_whole n (suc fuel) leaf_size stored tree at shape enough whole k =
    by (ltb at (length tree)) refl (λ w. new_whole n fuel leaf_size stored (split leaf_size stored tree at) (suc at) (split_shapes n leaf_size stored tree at shape) (omega arith) w k)
  where
    before : at < length tree → (j : ℕ) → j < suc at → Dec (j ≡ at) → LeafWhole leaf_size stored (split leaf_size stored tree at) j
    before h j g (yes e) = rw e (split_whole leaf_size stored tree at h)
    before h j g (no f) =
        let l : j < at = below f in
        same_whole leaf_size stored tree (split leaf_size stored tree at) j (split_other leaf_size stored tree at j (omega arith) f) (whole j l)
      where
        below : (j ≡ at → ⊥) → j < at
        below f = less (dec_le at j)
          where
            less : Dec (at ≤ j) → j < at
            less (yes l) = absurd (f (omega arith))
            less (no l) = lt_of_not-le l

    here : length tree ≤ at → Dec (suc k ≤ at) → LeafWhole leaf_size stored tree k
    here h (yes l) = whole k l
    here h (no f) = past_whole leaf_size stored tree k (omega (arith, lt_of_not-le f))

    by : (b : Bool) → ltb at (length tree) ≡ b
        → (((j : ℕ) → j < suc at → LeafWhole leaf_size stored (split leaf_size stored tree at) j) → LeafWhole leaf_size stored
        (split_new fuel leaf_size stored (split leaf_size stored tree at) (suc at)) k)
        → LeafWhole leaf_size stored (if b then split_new fuel leaf_size stored (split leaf_size stored tree at) (suc at) else tree) k
    by true p onward = onward (λ j g. before (ltb-true at (length tree) p) j g (same_or_not j at))
    by false p onward = here (ltb-false at (length tree) p) (dec_le (suc k) at)

new_inner : (fuel leaf_size : ℕ) (stored : List Trace) (tree : Tree) (at k : ℕ) (test : Test) (l r : ℕ)
    → (node_at tree k).kind ≡ inner test l r → (node_at (split_new fuel leaf_size stored tree at) k).kind ≡ inner test l r
unfolding split_new
new_inner zero leaf_size stored tree at k test l r e = e
new_inner (suc fuel) leaf_size stored tree at k test l r e = by (ltb at (length tree))
    (new_inner fuel leaf_size stored (split leaf_size stored tree at) (suc at) k test l r (split_inner leaf_size stored tree at k test l r e))
  where
    by : (b : Bool) → (node_at (split_new fuel leaf_size stored (split leaf_size stored tree at) (suc at)) k).kind ≡ inner test l r
        → (node_at (if b then split_new fuel leaf_size stored (split leaf_size stored tree at) (suc at) else tree) k).kind ≡ inner test l r
    by true i = i
    by false i = e

-- ---- one trace more

-- "moving no threshold": an inner node keeps its test and its children, whatever the tree
pub insertion_inner : (m : Measures) (stored : List Trace) (tree : Tree) (x : Trace) (k : ℕ) (test : Test) (l r : ℕ)
    → (node_at tree k).kind ≡ inner test l r → (node_at (insertion m stored tree x) k).kind ≡ inner test l r
unfolding insertion
insertion_inner m stored [] x k test l r e = let z : ◌≡◌ {A = ℕ} 0 1 = cc in absurd (omega arith)
insertion_inner m stored (root ∷ rest) x k test l r e =
    let tree : Tree = root ∷ rest in
    let met : List ℕ = way tree x in
    let all : List Trace = stored ++ (x ∷ []) in
    let joined : Tree = join (length stored) (last_of met) (widen_all x met tree) in
    new_inner (2 * length all) m.leaf_size all (split m.leaf_size all joined (last_of met)) _ k test l r
    (split_inner m.leaf_size all joined (last_of met) k test l r (join_inner (length stored) (last_of met) (widen_all x met tree) k test l r (widen_kind x met tree k ∙ e)))

module _ (m : Measures) (stored : List Trace) (root : Node) (rest : Tree) (x : Trace) (s : Shape m.n (length stored) (root ∷ rest)) where
  abbrev all : List Trace
  all = stored ++ (x ∷ [])

  abbrev met : List ℕ
  met = way (root ∷ rest) x

  abbrev at : ℕ
  at = last_of met

  abbrev with_x : Tree
  with_x = join (length stored) at (widen_all x met (root ∷ rest))

  ending : LeafAt (root ∷ rest) at
  ending = way_leaf (root ∷ rest) x s.children.child (omega arith)

  after_split : Shape m.n (length all) (split m.leaf_size all with_x at)
  after_split =
      let e : suc (length stored) ≡ length all = omega (arith, length-append stored (x ∷ [])) in
      split_shapes m.n m.leaf_size all with_x at (subst (λ (k : ℕ). Shape m.n k with_x) e (join_shape s x met at ending.numbers ending.inside ending.is))

  -- the trace joined another leaf: this one's traces are as before
  other_whole : (k : ℕ) → (k ≡ at → ⊥) → LeafWhole m.leaf_size stored (root ∷ rest) k → LeafWhole m.leaf_size all with_x k
  unfolding numbers_in
  other_whole k f w =
      rw (joined_ends s x met at ending.numbers ending.inside ending.is k)
      (joined_kinds s x met at ending.numbers ending.inside ending.is
      (λ (a : Kind). (numbers : List ℕ) → a ≡ leaf numbers → m.leaf_size < length numbers → T
      (every (λ c. not (parts (split_by all numbers c))) (candidates (ends (node_at (root ∷ rest) k).segments)))) k (λ e. absurd (f e))
      (λ f numbers e g. more_whole stored all numbers (candidates (ends (node_at (root ∷ rest) k).segments))
      (λ t i. get_or-append stored (x ∷ []) [] t (s.numbers t k (rw e (in_is i)))) (w numbers e g)))

  added_whole : ((k : ℕ) → LeafWhole m.leaf_size stored (root ∷ rest) k) → (k : ℕ) → LeafWhole m.leaf_size all (insertion m stored (root ∷ rest) x) k
  unfolding insertion
  added_whole whole =
      new_whole m.n (2 * length all) m.leaf_size all (split m.leaf_size all with_x at) _ after_split (omega arith) (λ k h. by k (omega (arith, h)) (same_or_not k at))
    where
      by : (k : ℕ) → k < length with_x → Dec (k ≡ at) → LeafWhole m.leaf_size all (split m.leaf_size all with_x at) k
      by k h (yes e) = rw e (split_whole m.leaf_size all with_x at (omega arith))
      by k h (no f) = same_whole m.leaf_size all with_x (split m.leaf_size all with_x at) k (split_other m.leaf_size all with_x at k h f) (other_whole k f (whole k))

insertion_whole : (m : Measures) (stored : List Trace) (tree : Tree) (x : Trace) → 1 ≤ m.leaf_size → Shape m.n (length stored) tree → ((k : ℕ) → LeafWhole m.leaf_size stored tree k)
    → (k : ℕ) → LeafWhole m.leaf_size (stored ++ (x ∷ [])) (insertion m stored tree x) k
unfolding insertion new_leaf
insertion_whole m stored [] x size s whole zero numbers e g = let q : 0 ∷ [] ≡ numbers = cc in absurd (omega (arith, ap length q))
insertion_whole m stored [] x size s whole (suc k) numbers e g = let q : [] ≡ numbers = cc in absurd (omega (arith, ap length q))
insertion_whole m stored (root ∷ rest) x size s whole k numbers e g = added_whole m stored root rest x s whole k numbers e g

-- ---- all traces

-- what adding keeps holds of every tree that it makes
module _ (limit : ℕ) (m : Measures) (size : 1 ≤ m.leaf_size) where
  pub record MadeTree (stored : List Trace) (tree : Tree) : Type 0 where
    pub inv : Inv limit m stored tree
    pub whole : (k : ℕ) → LeafWhole m.leaf_size stored tree k

  grown_made : (stored : List Trace) (tree : Tree) (more : List Trace) → MadeTree stored tree → length (stored ++ more) ≤ m.capacity
      → T (every (is_trace limit m.n) (stored ++ more)) → MadeTree (stored ++ more) (grown m stored tree more)
  unfolding grown
  grown_made stored tree [] v room all = rw (append-nil stored) v
  grown_made stored tree (x ∷ more) v room all =
      let e : stored ++ (x ∷ []) ++ more ≡ stored ++ (x ∷ more) = append_assoc stored (x ∷ []) more in
      let each : (y : Trace) → In y (stored ++ (x ∷ more)) → T (is_trace limit m.n y) = λ y i. from_every (is_trace limit m.n) (stored ++ (x ∷ more)) all i in
      let next : MadeTree (stored ++ (x ∷ [])) (insertion m stored tree x) = record {
        inv = insertion_inv limit m stored tree x v.inv (omega (arith, length-append stored (x ∷ more)))
            (every_of (is_trace limit m.n) stored (λ y i. each y (in_append_left (x ∷ more) i))) (each x (in_append_right stored first));
        whole = insertion_whole m stored tree x size v.inv.formed.shape v.whole;
      } in
      rw (← e) (grown_made (stored ++ (x ∷ [])) (insertion m stored tree x) more next (rw e room) (rw e all))

  none_made : T (in_range m) → MadeTree [] []
  none_made measured = record { inv = none_inv limit m measured; whole = λ k. past_whole m.leaf_size [] [] k (omega arith) }

  pub tree_made : (traces : List Trace) → T (in_range m) → length traces ≤ m.capacity → T (every (is_trace limit m.n) traces) → MadeTree traces (tree_of m traces)
  tree_made traces measured = grown_made [] [] traces (none_made measured)
