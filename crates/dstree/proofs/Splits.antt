-- A leaf that is split keeps the shape and the invariant: its traces go to the left or the right child by the test, and all else is as
-- before. What a split must have for that is `GoodSplit`, and the best split of a node has it, as every candidate of the node that parts
-- the leaf has.
use Rattle.std.specs.Prelude.{if◌then◌else◌}
use Prim.Native.Nat.{ℕ, zero, suc, ◌+◌, ◌≤◌, ◌<◌}
use mathlib.Core.Path.{◌≡◌, refl, sym, ◌∙◌, ap, subst}
use mathlib.Core.Logic.{◌⊎◌, inl, inr}
use mathlib.Core.Bool.{Bool, true, false, not}
use mathlib.Core.Option.{Option, none, some}
use mathlib.Core.List.{List, [], ◌∷◌, map, foldl}
use native.Mathlib.Omega.{arith}
use native.Mathlib.Decide.{dec_le}
use native.Mathlib.Nat.{lt_of_not-le}
use lib.ListN.{length, get_or, set, length-set, length-append}
use lib.IntN.{ℤ, pos, ◌+ℤ◌}
use lib.Signed.{lt_z}
use lib.Dec.{T, T_not, ltb}
use Rattle.integer.specs.Words.{lesser, greater, is_in, is_empty, those, every}
use mir.Facts.{and_yes}
use borrow.Author.Tests.{ltb-true}
use Rattle.integer.proofs.Tests.{test_true, test_false}
use Rattle.integer.proofs.Lists.{not_empty, same_or_not, In, in_is, is_in_lem, in_map, in_nil, from_those, in_those, in_either, those_lengths}
use Rattle.integer.proofs.Lists.{every_of, All, all_none, all_more, all_mono, all_map, all_those, lesser_either, greater_either, Up}
use Rattle.integer.proofs.Lists.{u_none, up_those, set_cases, two_cases}
use Rattle.dstree.specs.Measures.{Trace}
use Rattle.dstree.specs.Node.{Test, Kind, leaf, inner, Node, node, Tree, node_at, figure_of, sends_left, ends}
use Rattle.dstree.specs.Adding.{new_leaf, Candidate, candidates, traces_of, threshold_of, test_of, Split, split_by, parts, gain, best_by, best, split_into, split_kind, split, split_new}
use Rattle.dstree.specs.Matching.{has_child, numbers_in}
use Rattle.dstree.specs.Claims.{Below, of_leaf, of_child}
use Rattle.dstree.proofs.Ranges.{Covered, covered_none, new_covered}
use Rattle.dstree.specs.Formed.{Fits, RunIn, Parent, Kept, Shape}
use Rattle.dstree.proofs.Formed.{empty_leaf, number_node}
use Rattle.dstree.proofs.Change.{leaf_in, has_inner, has_left, has_right}
use Rattle.dstree.proofs.Cuts.{FitsAs, candidates_fit, new_ends}
use Rattle.dstree.proofs.Exact.{Of, AllReached, reached_none, reached_by_more, of_chosen, new_reached}
use Rattle.dstree.proofs.Invariant.{Sends, Ranged, Exact}

-- a test's threshold is the sum of the figures of two traces of P
pub record Threshold (stored : List Trace) (P : ℕ → Type 0) (test : Test) : Type 0 where
  pub least : ℤ
  pub greatest : ℤ
  pub least_of : Of P (λ (t : ℕ). figure_of test.figure test.on (get_or stored t [])) least
  pub greatest_of : Of P (λ (t : ℕ). figure_of test.figure test.on (get_or stored t [])) greatest
  pub is : test.threshold ≡ least +ℤ greatest

-- what a split makes of a leaf with these right ends and numbers
pub record GoodSplit (n : ℕ) (stored : List Trace) (es numbers : List ℕ) (s : Split) : Type 0 where
  pub left_in : (t : ℕ) → T (is_in t s.left) → T (is_in t numbers)
  pub right_in : (t : ℕ) → T (is_in t s.right) → T (is_in t numbers)
  pub left_some : 0 < length s.left
  pub right_some : 0 < length s.right
  pub either : (t : ℕ) → T (is_in t numbers) → T (is_in t s.left) ⊎ T (is_in t s.right)
  pub goes_left : (t : ℕ) → T (is_in t s.left) → sends_left s.test (get_or stored t []) ≡ true
  pub goes_right : (t : ℕ) → T (is_in t s.right) → sends_left s.test (get_or stored t []) ≡ false
  pub sides_rise : Up 0 numbers → Up 0 s.left × Up 0 s.right
  pub lengths : length s.left + length s.right ≡ length numbers
  pub children_fit : Fits n s.child_ends
  pub ends_kept_lem : (e : ℕ) → In e es → In e s.child_ends
  pub run_in : RunIn n s.test.on
  pub threshold_is : Threshold stored (λ (t : ℕ). In t numbers) s.test

-- no number is on both sides
pub sides_apart : {n : ℕ} {stored : List Trace} {es numbers : List ℕ} {s : Split} → GoodSplit n stored es numbers s → (t : ℕ) → T (is_in t s.left) → T (is_in t s.right) → ⊥
sides_apart good t h i = let z : true ≡ false = sym (good.goes_left t h) ∙ good.goes_right t i in subst T z tt

-- ---- the nodes after a split

module _ (stored : List Trace) (tree : Tree) (at : ℕ) (s : Split) where
  abbrev turned : Node
  turned = node (node_at tree at).segments (inner s.test (length tree) (suc (length tree)))

  abbrev l : Node
  l = new_leaf stored s.child_ends s.left

  abbrev r : Node
  r = new_leaf stored s.child_ends s.right

  pub split_length : length (split_into stored tree at (some s)) ≡ suc (suc (length tree))
  unfolding split_into
  split_length = simp (length-append, length-set) (omega arith)

  -- the one that was split, another one, the left, the right, or none
  pub split_cases : (P : Node → Type 0) (k : ℕ) → (k ≡ at → P turned) → ((k ≡ at → ⊥) → k < length tree → P (node_at tree k))
      → (k ≡ length tree → P l) → (k ≡ suc (length tree) → P r) → (suc (suc (length tree)) ≤ k → P empty_leaf) → P (node_at (split_into stored tree at (some s)) k)
  unfolding split_into
  split_cases P k here old left right out =
      let size = length-set tree at turned in
      two_cases empty_leaf P (set tree at turned) l r k (λ h. set_cases empty_leaf P tree at turned k (λ e g. here e) old (λ g. absurd (omega arith)))
      (λ e. left (omega arith)) (λ e. right (omega arith)) (λ h. out (omega arith))

-- ---- the shape

module _ {n count : ℕ} {tree : Tree} (shape : Shape n count tree) (stored : List Trace) (at : ℕ) (its_numbers : List ℕ)
    (is_leaf : (node_at tree at).kind ≡ leaf its_numbers) (s : Split) (good : GoodSplit n stored (ends (node_at tree at).segments) its_numbers s) where
  abbrev new : Tree
  new = split_into stored tree at (some s)

  here_in : at < length tree
  here_in = leaf_in tree at its_numbers is_leaf (omega (arith, good.lengths, good.left_some))

  new_length : length new ≡ suc (suc (length tree))
  new_length = split_length stored tree at s

  new_cases : (P : Node → Type 0) (k : ℕ) → (k ≡ at → k < length tree → P (turned stored tree at s)) → ((k ≡ at → ⊥) → k < length tree → P (node_at tree k))
      → (k ≡ length tree → P (l stored tree at s)) → (k ≡ suc (length tree) → P (r stored tree at s)) → (suc (suc (length tree)) ≤ k → P empty_leaf) → P (node_at new k)
  new_cases P k here = split_cases stored tree at s P k (λ e. here e (omega (arith, here_in)))

  at_left : node_at new (length tree) ≡ l stored tree at s
  at_left = new_cases (λ (a : Node). a ≡ l stored tree at s) (length tree) (λ e h. absurd (omega arith)) (λ f h. absurd (omega arith))
      (λ e. refl) (λ e. absurd (omega arith)) (λ g. absurd (omega arith))

  at_right : node_at new (suc (length tree)) ≡ r stored tree at s
  at_right = new_cases (λ (a : Node). a ≡ r stored tree at s) (suc (length tree)) (λ e h. absurd (omega arith))
      (λ f h. absurd (omega arith)) (λ e. absurd (omega arith)) (λ e. refl) (λ g. absurd (omega arith))

  at_same : (k : ℕ) → k < length tree → (k ≡ at → ⊥) → node_at new k ≡ node_at tree k
  at_same k g f = new_cases (λ (a : Node). a ≡ node_at tree k) k (λ e h. absurd (f e)) (λ f h. refl) (λ e. absurd (omega arith)) (λ e. absurd (omega arith)) (λ h. absurd (omega arith))

  at_turned : node_at new at ≡ turned stored tree at s
  at_turned = new_cases (λ (a : Node). a ≡ turned stored tree at s) at (λ e h. refl) (λ f h. absurd (f refl))
      (λ e. absurd (omega (arith, here_in))) (λ e. absurd (omega (arith, here_in))) (λ h. absurd (omega (arith, here_in)))

  -- no old record is changed
  old_segments : (k : ℕ) → k < length tree → (node_at new k).segments ≡ (node_at tree k).segments
  old_segments k g =
      new_cases (λ (a : Node). a.segments ≡ (node_at tree k).segments) k (λ e h. ap (λ (j : ℕ). (node_at tree j).segments) (sym e))
      (λ f h. refl) (λ e. absurd (omega arith)) (λ e. absurd (omega arith)) (λ h. absurd (omega arith))

  -- ---- children

  data ChildWas (c p : ℕ) : Type 0 where
    was : T (has_child c (node_at tree p).kind) → ChildWas c p
    fresh : p ≡ at → p < length tree → (c ≡ length tree) ⊎ (c ≡ suc (length tree)) → ChildWas c p

  child_was : (c p : ℕ) → T (has_child c (node_at new p).kind) → ChildWas c p
  unfolding new_leaf has_child
  child_was c p =
      new_cases (λ (a : Node). T (has_child c a.kind) → ChildWas c p) p
      (λ e h t. fresh e h (has_inner c s.test (length tree) (suc (length tree)) t)) (λ f h t. was t) (λ e t. absurd t) (λ e t. absurd t) (λ g t. absurd t)

  inner_not : (c p : ℕ) → T (has_child c (node_at tree p).kind) → p ≡ at → ⊥
  unfolding has_child
  inner_not c p h e = subst (λ (a : Kind). T (has_child c a)) (ap (λ (j : ℕ). (node_at tree j).kind) e ∙ is_leaf) h

  -- ---- what is below a node

  -- what was below before
  record Was (t k : ℕ) : Type 0 where
    old : k < length tree → Below tree t k
    in_left : k ≡ length tree → T (is_in t s.left)
    in_right : k ≡ suc (length tree) → T (is_in t s.right)

  there : (t k : ℕ) → k ≡ at → T (is_in t its_numbers) → Below tree t k
  unfolding numbers_in
  there t k e i = of_leaf {number = k} (rw (e, is_leaf) i)

  below_was : {t k : ℕ} → Below new t k → Was t k
  unfolding new_leaf has_child numbers_in is_in
  below_was {t} (of_leaf {number = k} h) =
      new_cases (λ (a : Node). T (is_in t (numbers_in a.kind)) → Was t k) k
      (λ e h t. absurd t) (λ f h i. record { old = λ g. of_leaf i; in_left = λ e. absurd (omega arith); in_right = λ e. absurd (omega arith) })
      (λ e i. record { old = λ g. absurd (omega arith); in_left = λ e. i; in_right = λ f. absurd (omega arith) })
      (λ e i. record { old = λ g. absurd (omega arith); in_left = λ f. absurd (omega arith); in_right = λ f. i })
      (λ g i. absurd i) h
  below_was {t} (of_child {parent = p} {child = c} h b) = by (child_was c p h) (below_was b)
    where
      by : ChildWas c p → Was t c → Was t p
      by (was i) w = record {
        old = λ g. of_child i (w.old (shape.children.child p c i).1);
        in_left = λ e. absurd
            (omega (arith, shape.children.child p c i));
        in_right = λ e. absurd (omega (arith, shape.children.child p c i));
      }
      by (fresh e g (inl i)) w = record { old = λ g. there t p e (good.left_in t (w.in_left i)); in_left = λ e. absurd (omega arith); in_right = λ e. absurd (omega arith) }
      by (fresh e g (inr i)) w = record { old = λ g. there t p e (good.right_in t (w.in_right i)); in_left = λ e. absurd (omega arith); in_right = λ e. absurd (omega arith) }

  in_left_leaf : (t : ℕ) → T (is_in t s.left) → T (is_in t (numbers_in (node_at new (length tree)).kind))
  unfolding new_leaf numbers_in
  in_left_leaf t i = rw at_left i

  in_right_leaf : (t : ℕ) → T (is_in t s.right) → T (is_in t (numbers_in (node_at new (suc (length tree))).kind))
  unfolding new_leaf numbers_in
  in_right_leaf t i = rw at_right i

  -- what was below still is
  leaf_on : (t k : ℕ) → T (is_in t (numbers_in (node_at tree k).kind)) → Below new t k
  unfolding numbers_in
  leaf_on t k i = by (same_or_not k at)
    where
      side : k ≡ at → T (is_in t s.left) ⊎ T (is_in t s.right) → Below new t k
      side e (inl j) = of_child {parent = k} {child = length tree} (rw (e, at_turned) (has_left s.test (length tree) (suc (length tree)))) (of_leaf (in_left_leaf t j))
      side e (inr j) = of_child {parent = k} {child = suc (length tree)} (rw (e, at_turned) (has_right s.test (length tree) (suc (length tree)))) (of_leaf (in_right_leaf t j))

      by : Dec (k ≡ at) → Below new t k
      by (yes e) = side e (good.either t (subst (λ (a : Kind). T (is_in t (numbers_in a))) is_leaf (subst (λ (j : ℕ). T (is_in t (numbers_in (node_at tree j).kind))) e i)))
      by (no f) = of_leaf {number = k} (rw (at_same k (number_node tree t k i) f) i)

  split_on_lem : {t k : ℕ} → Below tree t k → Below new t k
  split_on_lem {t} (of_leaf {number} i) = leaf_on t number i
  split_on_lem (of_child {parent = p} {child = c} h b) = of_child {parent = p} {child = c} (rw (at_same p (omega (arith, shape.children.child p c h)) (inner_not c p h)) h) (split_on_lem b)

  -- ---- leaves

  data NumberWas (t k : ℕ) : Type 0 where
    stays : (k ≡ at → ⊥) → T (is_in t (numbers_in (node_at tree k).kind)) → NumberWas t k
    to_left : k ≡ length tree → T (is_in t s.left) → NumberWas t k
    to_right : k ≡ suc (length tree) → T (is_in t s.right) → NumberWas t k

  number_was : (t k : ℕ) → T (is_in t (numbers_in (node_at new k).kind)) → NumberWas t k
  unfolding new_leaf numbers_in is_in
  number_was t k =
      new_cases (λ (a : Node). T (is_in t (numbers_in a.kind)) → NumberWas t k) k
      (λ e h i. absurd i) (λ f h i. stays f i) (λ e i. to_left e i) (λ e i. to_right e i) (λ g i. absurd i)

  was_there : (t k : ℕ) → (k ≡ at → ⊥) → T (is_in t (numbers_in (node_at tree k).kind)) → T (is_in t its_numbers) → ⊥
  unfolding numbers_in
  was_there t k f h i = f (shape.one_leaf t k at h (rw is_leaf i))

  one_there : (t j k : ℕ) → NumberWas t j → NumberWas t k → j ≡ k
  one_there t j k (stays f h) (stays g i) = shape.one_leaf t j k h i
  one_there t j k (stays f h) (to_left e i) = absurd (was_there t j f h (good.left_in t i))
  one_there t j k (stays f h) (to_right e i) = absurd (was_there t j f h (good.right_in t i))
  one_there t j k (to_left e i) (stays f h) = absurd (was_there t k f h (good.left_in t i))
  one_there t j k (to_left e i) (to_left f h) = e ∙ sym f
  one_there t j k (to_left e i) (to_right f h) = absurd (sides_apart good t i h)
  one_there t j k (to_right e i) (stays f h) = absurd (was_there t k f h (good.right_in t i))
  one_there t j k (to_right e i) (to_left f h) = absurd (sides_apart good t h i)
  one_there t j k (to_right e i) (to_right f h) = e ∙ sym f

  stored_there : (t : ℕ) → T (is_in t its_numbers) → t < count
  unfolding numbers_in
  stored_there t i = shape.numbers t at (rw is_leaf i)

  split_kept : (t : ℕ) → Kept tree t → Kept new t
  unfolding new_leaf numbers_in
  split_kept t o = by (same_or_not o.at at)
    where
      side : T (is_in t s.left) ⊎ T (is_in t s.right) → Kept new t
      side (inl i) = record { at = length tree; holds = rw at_left i }
      side (inr i) = record { at = suc (length tree); holds = rw at_right i }

      by : Dec (o.at ≡ at) → Kept new t
      by (yes e) = side (good.either t (subst (λ (a : Kind). T (is_in t (numbers_in a))) is_leaf (subst (λ (j : ℕ). T (is_in t (numbers_in (node_at tree j).kind))) e o.holds)))
      by (no f) = record { at = o.at; holds = rw (at_same o.at (number_node tree t o.at o.holds) f) o.holds }

  split_ends : (p c : ℕ) → ChildWas c p → (e : ℕ) → In e (ends (node_at new p).segments) → In e (ends (node_at new c).segments)
  split_ends p c (was h) = rw (old_segments p (omega (arith, shape.children.child p c h)), old_segments c (shape.children.child p c h).1) (shape.ends_kept_lem p c h)
  split_ends p c (fresh e g (inl q)) = rw (e, at_turned, q, at_left, new_ends stored s.child_ends s.left) good.ends_kept_lem
  split_ends p c (fresh e g (inr q)) = rw (e, at_turned, q, at_right, new_ends stored s.child_ends s.right) good.ends_kept_lem

  split_parented : (k : ℕ) → 0 < k → k < length new → Parent new k
  split_parented k h g = by (dec_le (suc k) (length tree)) (dec_le k (length tree))
    where
      old : Parent tree k → Parent new k
      old p = record { parent = p.parent; has = rw (at_same p.parent (omega (arith, shape.children.child p.parent k p.has)) (inner_not k p.parent p.has)) p.has }

      left_one : k ≡ length tree → Parent new k
      left_one e = record { parent = at; has = rw (at_turned, e) (has_left s.test (length tree) (suc (length tree))) }

      right_one : k ≡ suc (length tree) → Parent new k
      right_one e = record { parent = at; has = rw (at_turned, e) (has_right s.test (length tree) (suc (length tree))) }

      by : Dec (suc k ≤ length tree) → Dec (k ≤ length tree) → Parent new k
      by (yes a) b = old (shape.children.parented k h a)
      by (no a) (yes b) = left_one (omega (arith, lt_of_not-le a))
      by (no a) (no b) = right_one (omega (arith, lt_of_not-le b, new_length))

  split_differ : (p : ℕ) (test : Test) (a b : ℕ) → (node_at new p).kind ≡ inner test a b → a ≡ b → ⊥
  unfolding new_leaf
  split_differ p test a b =
      new_cases (λ (o : Node). o.kind ≡ inner test a b → a ≡ b → ⊥) p
      (λ e h q d. let u : length tree ≡ a = cc in let v : suc (length tree) ≡ b = cc in omega arith) (λ f h. shape.children.children_differ p test a b)
      (λ e q. let z : ◌≡◌ {A = ℕ} 0 1 = cc in absurd (omega arith)) (λ e q. let z : ◌≡◌ {A = ℕ} 0 1 = cc in absurd (omega arith)) (λ g q. let z : ◌≡◌ {A = ℕ} 0 1 = cc in absurd (omega arith))

  pub split_shape : Shape n count (split_into stored tree at (some s))
  unfolding new_leaf numbers_in is_in
  split_shape = record {
    no_trace = λ e. absurd (omega (arith, new_length));
    no_node = λ e. absurd (omega (arith, shape.no_node e, here_in));
    children = record {
      child = λ p c h. rw new_length (above p c (child_was c p h));
      parented = split_parented;
      one_parent = λ p q c h k. one p q c (child_was c p h) (child_was c q k);
      children_differ = split_differ;
    };
    numbers = λ t k.
        new_cases (λ (a : Node). T (is_in t (numbers_in a.kind)) → t < count) k
        (λ e h i. absurd i) (λ f h i. shape.numbers t k i) (λ e i. stored_there t (good.left_in t i)) (λ e i. stored_there t (good.right_in t i)) (λ g i. absurd i);
    one_leaf = λ t j k h i. one_there t j k (number_was t j h) (number_was t k i);
    full = λ k h.
        new_cases (λ (a : Node). (ns : List ℕ) → a.kind ≡ leaf ns → 0 < length ns) k
        (λ e h ns q. let z : ◌≡◌ {A = ℕ} 0 1 = cc in absurd (omega arith)) (λ f h. shape.full k h)
        (λ e ns q. let r : s.left ≡ ns = cc in rw (sym r) good.left_some) (λ e ns q. let r : s.right ≡ ns = cc in rw (sym r) good.right_some) (λ g. absurd (omega (arith, new_length)));
    rises = λ k.
        new_cases (λ (a : Node). (ns : List ℕ) → a.kind ≡ leaf ns → Up 0 ns) k
        (λ e h ns q. let z : ◌≡◌ {A = ℕ} 0 1 = cc in absurd (omega arith)) (λ f h. shape.rises k)
        (λ e ns q. let p : s.left ≡ ns = cc in subst (Up 0) p (good.sides_rise (shape.rises at its_numbers is_leaf)).0)
        (λ e ns q. let p : s.right ≡ ns = cc in subst (Up 0) p (good.sides_rise (shape.rises at its_numbers is_leaf)).1)
        (λ g ns q. let p : [] ≡ ns = cc in subst (Up 0) p u_none);
    kept = λ t h. split_kept t (shape.kept t h);
    fits = λ k h.
        new_cases (λ (a : Node). k < suc (suc (length tree)) → Fits n (ends a.segments)) k
        (λ e h g. shape.fits at (rw (sym e) h)) (λ f h g. shape.fits k h)
        (λ e g. rw (new_ends stored s.child_ends s.left) good.children_fit)
        (λ e g. rw (new_ends stored s.child_ends s.right) good.children_fit) (λ g h. absurd (omega arith)) (rw new_length at h);
    ends_kept_lem = λ p c h. split_ends p c (child_was c p h);
  }
    where
      above : (p c : ℕ) → ChildWas c p → (p < c) × (c < suc (suc (length tree)))
      above p c (was h) = ((shape.children.child p c h).0, omega (arith, (shape.children.child p c h).1))
      above p c (fresh e g (inl h)) = (omega arith, omega arith)
      above p c (fresh e g (inr h)) = (omega arith, omega arith)

      one : (p q c : ℕ) → ChildWas c p → ChildWas c q → p ≡ q
      one p q c (was h) (was k) = shape.children.one_parent p q c h k
      one p q c (was h) (fresh e g (inl i)) = absurd (omega (arith, (shape.children.child p c h).1))
      one p q c (was h) (fresh e g (inr i)) = absurd (omega (arith, (shape.children.child p c h).1))
      one p q c (fresh e g (inl i)) (was h) = absurd (omega (arith, (shape.children.child q c h).1))
      one p q c (fresh e g (inr i)) (was h) = absurd (omega (arith, (shape.children.child q c h).1))
      one p q c (fresh e g i) (fresh f h j) = e ∙ sym f

  -- ---- records and tests

  module _ (ranged : Ranged stored tree) where
    split_reached : (k : ℕ) → AllReached stored (λ (t : ℕ). Below new t k) 1 (node_at new k).segments
    split_reached k =
        new_cases (λ (a : Node). AllReached stored (λ (t : ℕ). Below new t k) 1 a.segments) k
        (λ e h. subst (λ (j : ℕ). AllReached stored (λ (t : ℕ). Below new t k) 1 (node_at tree j).segments) e old) (λ f h. old)
        (λ e. reached_by_more stored stored (λ (t : ℕ). In t s.left) (λ (t : ℕ). Below new t k)
        (λ t i. rw e (of_leaf (in_left_leaf t (in_is i)))) (λ t i. refl) (new_reached stored s.left good.left_some s.child_ends))
        (λ e. reached_by_more stored stored (λ (t : ℕ). In t s.right) (λ (t : ℕ). Below new t k)
        (λ t i. rw e (of_leaf (in_right_leaf t (in_is i)))) (λ t i. refl) (new_reached stored s.right good.right_some s.child_ends))
        (λ g. reached_none)
      where
        old : AllReached stored (λ (t : ℕ). Below new t k) 1 (node_at tree k).segments
        old = reached_by_more stored stored (λ (t : ℕ). Below tree t k) (λ (t : ℕ). Below new t k) (λ t b. split_on_lem b) (λ t b. refl) (ranged.reached k)

    split_ranges : (t k : ℕ) → Was t k → Covered (get_or stored t []) 1 (node_at new k).segments
    split_ranges t k w =
        new_cases (λ (a : Node). Covered (get_or stored t []) 1 a.segments) k
        (λ e h. subst (λ (j : ℕ). Covered (get_or stored t []) 1 (node_at tree j).segments) e (ranged.ranges t k (w.old h)))
        (λ f h. ranged.ranges t k (w.old h)) (λ e. new_covered stored s.child_ends s.left t (w.in_left e))
        (λ e. new_covered stored s.child_ends s.right t (w.in_right e)) (λ g. covered_none)

    pub split_ranged : Ranged stored (split_into stored tree at (some s))
    split_ranged = record { ranges = λ t k b. split_ranges t k (below_was b); reached = split_reached }

  module _ (exact : Exact stored tree) where
    abbrev SendsBy : Kind → Type 0
    SendsBy (leaf ns) = Unit
    SendsBy (inner test l r) = Sends stored new test l r

    fresh_sends : Sends stored new s.test (length tree) (suc (length tree))
    fresh_sends = record { goes_left = λ t b. good.goes_left t ((below_was b).in_left refl); goes_right = λ t b. good.goes_right t ((below_was b).in_right refl) }

    old_sends : (p : ℕ) (a : Kind) → (node_at tree p).kind ≡ a → SendsBy a
    old_sends p (leaf ns) e = tt
    old_sends p (inner test l r) e =
        let fit : Sends stored tree test l r = exact.sends p test l r e in
        record {
          goes_left = λ t b. fit.goes_left t ((below_was b).old (shape.children.child p l (rw e (has_left test l r))).1);
          goes_right = λ t b. fit.goes_right t ((below_was b).old (shape.children.child p r (rw e (has_right test l r))).1);
        }

    split_sends : (p : ℕ) (a : Kind) → (node_at new p).kind ≡ a → SendsBy a
    unfolding new_leaf
    split_sends p a e = subst SendsBy e (new_cases (λ (o : Node). SendsBy o.kind) p (λ e h. fresh_sends) (λ f h. old_sends p (node_at tree p).kind refl) (λ e. tt) (λ e. tt) (λ g. tt))

    pub split_exact : Exact stored (split_into stored tree at (some s))
    split_exact = record { ranged = split_ranged exact.ranged; sends = λ p test l r e. split_sends p (inner test l r) e }

-- ---- the best split

abbrev pub OfSome : {A : Type 0} → (A → Type 0) → Option A → Type 0
OfSome P none = Unit
OfSome P (some a) = P a

best_all : {P : Split → Type 0} (gain_of : Split → ℤ) {l : List Split} → All P l → OfSome P (best_by gain_of l)
unfolding best_by
best_all gain_of all_none = tt
best_all {P} gain_of (all_more {a} p ps) = from a p ps
  where
    from : (a : Split) {l : List Split} → P a → All P l → P (foldl (λ a b. if lt_z (gain_of a) (gain_of b) then b else a) a l)
    from a p all_none = p
    from a p (all_more {a = b} q qs) = from (if lt_z (gain_of a) (gain_of b) then b else a) (by (lt_z (gain_of a) (gain_of b))) qs
      where
        by : (t : Bool) → P (if t then b else a)
        by true = q
        by false = p

module _ (n : ℕ) (stored : List Trace) (es numbers : List ℕ) where
  split_good : (c : Candidate) → FitsAs n es c → T (parts (split_by stored numbers c))
      → GoodSplit n stored es numbers (split_by stored numbers c)
  unfolding split_by parts test_of threshold_of
  split_good c f t = record {
    left_in = λ t i. in_is (from_those left? numbers (is_in_lem t _ i)).0;
    right_in = λ t i. in_is (from_those right? numbers (is_in_lem t _ i)).0;
    left_some = left_some;
    right_some = not_empty (those right? numbers) (and_yes (not (is_empty (those left? numbers))) (not (is_empty (those right? numbers))) t).1;
    either = λ t i. to_is (in_either left? (is_in_lem t numbers i));
    goes_left = λ t i. test_true (left? t) (from_those left? numbers (is_in_lem t _ i)).1;
    goes_right = λ t i. test_false (left? t) (T_not (left? t) (from_those right? numbers (is_in_lem t _ i)).1);
    sides_rise = λ u. (up_those left? u, up_those right? u);
    lengths = those_lengths left? numbers;
    children_fit = f.child_fits;
    ends_kept_lem = f.ends_kept_lem;
    run_in = f.run_in;
    threshold_is = record {
      least = _;
      greatest = _;
      least_of = of_chosen stored numbers some_number
          (figure_of c.figure c.on) lesser lesser_either (pos 0);
      greatest_of = of_chosen stored numbers some_number (figure_of c.figure c.on) greater greater_either (pos 0);
      is = refl;
    };
  }
    where
      left? : ℕ → Bool
      left? number = sends_left (test_of c (traces_of stored numbers)) (get_or stored number [])

      right? : ℕ → Bool
      right? number = not (left? number)

      left_some : 0 < length (those left? numbers)
      left_some = not_empty (those left? numbers) (and_yes (not (is_empty (those left? numbers))) (not (is_empty (those right? numbers))) t).0

      some_number : 0 < length numbers
      some_number = omega (arith, left_some, those_lengths left? numbers)

      to_is : {t : ℕ} → In t (those left? numbers) ⊎ In t (those right? numbers) → T (is_in t (those left? numbers)) ⊎ T (is_in t (those right? numbers))
      to_is (inl i) = inl (in_is i)
      to_is (inr i) = inr (in_is i)

  pub best_good : Fits n es → OfSome (GoodSplit n stored es numbers) (best stored es numbers)
  unfolding best
  best_good f =
      best_all (gain stored es numbers)
      (all_mono (λ s g. g.0 g.1) (all_those {P = λ s. T (parts s) → GoodSplit n stored es numbers s} parts (all_map (split_by stored numbers) split_good (candidates_fit n es f))))

  pub best_is_good : Fits n es → {s : Split} → best stored es numbers ≡ some s → GoodSplit n stored es numbers s
  best_is_good f e = subst (OfSome (GoodSplit n stored es numbers)) e (best_good f)

-- no split was found: no candidate parts the leaf
none_passes : {A : Type 0} (passes : A → Bool) (l : List A) → those passes l ≡ [] → {a : A} → In a l → T (not (passes a))
none_passes passes l e {a} i = by (passes a) refl
  where
    by : (b : Bool) → passes a ≡ b → T (not b)
    by true p = absurd (in_nil (subst (In a) e (in_those passes i (rw p tt))))
    by false p = tt

pub best_none : (stored : List Trace) (es numbers : List ℕ) → best stored es numbers ≡ none → T (every (λ c. not (parts (split_by stored numbers c))) (candidates es))
unfolding best best_by
best_none stored es numbers e = every_of _ (candidates es)
    (λ c i. none_passes parts (map (split_by stored numbers) (candidates es)) (empty (those parts (map (split_by stored numbers) (candidates es))) e) (in_map (split_by stored numbers) i))
  where
    empty : (l : List Split) → best_by (gain stored es numbers) l ≡ none → l ≡ []
    empty [] q = refl
    empty (s ∷ l) q = let z : ◌≡◌ {A = ℕ} 0 1 = cc in absurd (omega arith)

-- ---- what a split keeps, the pass over the leaves keeps

module _ (n leaf_size : ℕ) (stored : List Trace) (P : Tree → Type 0) (fits : (tree : Tree) → P tree → (k : ℕ) → k < length tree → Fits n (ends (node_at tree k).segments))
    (keeps : (tree : Tree) → P tree → (at : ℕ) (ns : List ℕ) → (node_at tree at).kind ≡ leaf ns → (s : Split) → GoodSplit n stored
    (ends (node_at tree at).segments) ns s → P (split_into stored tree at (some s))) where
  kind_keeps : (tree : Tree) (at : ℕ) → P tree → (k : Kind) → (node_at tree at).kind ≡ k → P (split_kind leaf_size stored tree at k)
  unfolding split_kind split_into
  kind_keeps tree at p (inner test l r) e = p
  kind_keeps tree at p (leaf numbers) e = by (ltb leaf_size (length numbers)) refl
    where
      es : List ℕ
      es = ends (node_at tree at).segments

      found : (o : Option Split) → OfSome (GoodSplit n stored es numbers) o → P (split_into stored tree at o)
      found none g = p
      found (some s) g = keeps tree p at numbers e s g

      by : (b : Bool) → ltb leaf_size (length numbers) ≡ b → P (if b then split_into stored tree at (best stored es numbers) else tree)
      by false q = p
      by true q =
          let h : leaf_size < length numbers = ltb-true leaf_size (length numbers) q in
          found (best stored es numbers) (best_good n stored es numbers (fits tree p at (leaf_in tree at numbers e (omega arith))))

  pub split_keeps : (tree : Tree) (at : ℕ) → P tree → P (split leaf_size stored tree at)
  split_keeps tree at p = kind_keeps tree at p (node_at tree at).kind refl

  pub pass_keeps : (fuel : ℕ) (tree : Tree) (at : ℕ) → P tree → P (split_new fuel leaf_size stored tree at)
  unfolding split_new
  pass_keeps zero tree at p = p
  pass_keeps (suc fuel) tree at p = by (ltb at (length tree)) (pass_keeps fuel (split leaf_size stored tree at) (suc at) (split_keeps tree at p))
    where
      by : (b : Bool) → P (split_new fuel leaf_size stored (split leaf_size stored tree at) (suc at)) → P (if b then split_new fuel leaf_size stored (split leaf_size stored tree at) (suc at) else
          tree)
      by true i = i
      by false i = p
