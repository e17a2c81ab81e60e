-- Adding keeps a tree well formed, whoever made it, and where its records and tests are those of the traces below, it keeps them so.
-- The idea: the first leaf has all of it, joining keeps it over one trace more, and so does each split.
use Rattle.std.specs.Prelude.{if◌then◌else◌}
use Prim.Native.Nat.{ℕ, zero, suc, ◌*◌, ◌≤◌, ◌<◌}
use mathlib.Core.Path.{◌≡◌, refl, sym, ◌∙◌, subst}
use mathlib.Core.Logic.{◌⊎◌, inl, inr}
use mathlib.Core.Bool.{Bool, true, false}
use mathlib.Core.Option.{some}
use mathlib.Core.List.{List, [], ◌∷◌, ◌++◌}
use native.Mathlib.Omega.{arith}
use lib.ListN.{length, get_or, length-append}
use lib.Dec.{T, eqb, leb, leb→le}
use borrow.Author.Tests.{eqb-true}
use Rattle.integer.specs.Words.{is_in, last_of, every}
use Rattle.integer.proofs.Tests.{passed}
use Rattle.integer.proofs.Lists.{In, first, later, in_is, in_snoc, in_get_or, from_every, Up, u_none, u_more}
use Rattle.dstree.specs.Measures.{Trace, Measures, within, in_range, is_trace}
use Rattle.dstree.specs.Node.{Test, leaf, inner, Node, Tree, node_at, ends}
use Rattle.dstree.specs.Adding.{way, widen_all, join, new_leaf, Split, split_into, split, insertion}
use Rattle.dstree.specs.Matching.{has_child, numbers_in}
use Rattle.dstree.specs.Formed.{p_last, Fits, Shape, AllLimited, Limits, Formed}
use Rattle.dstree.specs.Claims.{Below, of_leaf, of_child}
use Rattle.dstree.proofs.Ranges.{Covered, covered_none, new_covered}
use Rattle.dstree.proofs.Change.{LeafAt, way_leaf}
use Rattle.dstree.proofs.Cuts.{new_ends}
use Rattle.dstree.proofs.Exact.{AllReached, reached_none, reached_by_more, new_reached}
use Rattle.dstree.proofs.Invariant.{Ranged, Exact, Inv, RangedInv}
use Rattle.dstree.proofs.Joins.{join_shape, join_ranged, join_exact}
use Rattle.dstree.proofs.Splits.{GoodSplit, split_shape, split_ranged, split_exact, split_keeps, pass_keeps}
use Rattle.dstree.proofs.Limits.{leaf_limited, join_limits, split_limits}

-- ---- the first leaf

-- the tree of the first trace
abbrev pub first_tree : ℕ → Trace → Tree
first_tree n x = new_leaf (x ∷ []) (n ∷ []) (0 ∷ []) ∷ []

module _ (n : ℕ) (x : Trace) (wide : 1 ≤ n) where
  abbrev one : Tree
  one = first_tree n x

  one_fits : Fits n (n ∷ [])
  one_fits = record { parted = p_last wide; few = omega arith }

  no_child : {X : Type 0} (p c : ℕ) → T (has_child c (node_at one p).kind) → X
  unfolding new_leaf has_child
  no_child zero c h = absurd h
  no_child (suc p) c h = absurd h

  no_inner : {X : Type 0} (p : ℕ) (test : Test) (l r : ℕ) → (node_at one p).kind ≡ inner test l r → X
  unfolding new_leaf
  no_inner zero test l r e = let z : ◌≡◌ {A = ℕ} 0 1 = cc in absurd (omega arith)
  no_inner (suc p) test l r e = let z : ◌≡◌ {A = ℕ} 0 1 = cc in absurd (omega arith)

  pub first_shape : Shape n 1 (first_tree n x)
  unfolding new_leaf numbers_in is_in
  first_shape = record {
    no_trace = λ e. absurd (omega arith);
    no_node = λ e. absurd (omega arith);
    children = record {
      child = λ p c. no_child p c;
      parented = λ k h g. absurd (omega arith);
      one_parent = λ p q c h. absurd (no_child p c h);
      children_differ = λ p test l r e. no_inner p test l r e;
    };
    fits = fit;
    ends_kept_lem = λ p c h. no_child p c h;
    kept = λ t h. record { at = 0; holds = alone t h };
    one_leaf = λ t j k h i. only t j h ∙ sym (only t k i);
    numbers = nums;
    rises = rise;
    full = fulls;
  }
    where
      nums : (t k : ℕ) → T (is_in t (numbers_in (node_at one k).kind)) → t < 1
      nums t zero i = zero_only (eqb t 0) refl i
        where
          zero_only : (b : Bool) → eqb t 0 ≡ b → T (if b then true else false) → t < 1
          zero_only true e i = omega (arith, eqb-true t 0 e)
          zero_only false e i = absurd i
      nums t (suc k) i = absurd i

      fulls : (k : ℕ) → k < 1 → (ns : List ℕ) → (node_at one k).kind ≡ leaf ns → 0 < length ns
      fulls zero h ns e = let r : 0 ∷ [] ≡ ns = cc in rw (sym r) (omega arith)
      fulls (suc k) h ns e = absurd (omega arith)

      alone : (t : ℕ) → t < 1 → T (is_in t (0 ∷ []))
      alone zero h = tt
      alone (suc t) h = absurd (omega arith)

      fit : (k : ℕ) → k < 1 → Fits n (ends (node_at one k).segments)
      fit zero h = rw (new_ends (x ∷ []) (n ∷ []) (0 ∷ [])) one_fits
      fit (suc k) h = absurd (omega arith)

      only : (t k : ℕ) → T (is_in t (numbers_in (node_at one k).kind)) → k ≡ 0
      only t zero i = refl
      only t (suc k) i = absurd i

      rise : (k : ℕ) (ns : List ℕ) → (node_at one k).kind ≡ leaf ns → Up 0 ns
      rise zero ns e = let p : 0 ∷ [] ≡ ns = cc in subst (Up 0) p (u_more {k = 0} {a = 0} (omega arith) u_none)
      rise (suc k) ns e = let p : [] ≡ ns = cc in subst (Up 0) p u_none

  first_ranged : Ranged (x ∷ []) one
  unfolding new_leaf numbers_in
  first_ranged = record { ranges = covers; reached = reach }
    where
      reach : (k : ℕ) → AllReached (x ∷ []) (λ (t : ℕ). Below one t k) 1 (node_at one k).segments
      reach zero =
          reached_by_more (x ∷ []) (x ∷ []) (λ (t : ℕ). In t (0 ∷ [])) (λ (t : ℕ). Below one t 0) (λ t i. of_leaf {number = 0} (in_is i))
          (λ t i. refl)
          (new_reached (x ∷ []) (0 ∷ []) (omega arith) (n ∷ []))
      reach (suc k) = reached_none

      covers : (t k : ℕ) → Below one t k → Covered (get_or (x ∷ []) t []) 1 (node_at one k).segments
      covers t zero (of_leaf h) = new_covered (x ∷ []) (n ∷ []) (0 ∷ []) t h
      covers t zero (of_child {child} h b) = no_child zero child h
      covers t (suc k) b = covered_none

  first_exact : Exact (x ∷ []) one
  first_exact = record { ranged = first_ranged; sends = λ p test l r e. no_inner p test l r e }

  first_limits : (limit : ℕ) → T (is_trace limit n x) → Limits limit n one
  first_limits limit is_trace_lem = record { figures = figures; tests = λ k test l r e. no_inner k test l r e }
    where
      each : (t : ℕ) → t < 1 → T (is_trace limit n (get_or (x ∷ []) t []))
      each zero h = is_trace_lem
      each (suc t) h = absurd (omega arith)

      figures : (k : ℕ) → k < 1 → AllLimited limit 1 (node_at one k).segments
      figures zero h = leaf_limited limit n (x ∷ []) each (n ∷ []) (0 ∷ []) one_fits (omega arith) zero_low
        where
          zero_low : (t : ℕ) → In t (0 ∷ []) → t < 1
          zero_low t first = omega arith
          zero_low t (later i) = elim i [ ]
      figures (suc k) h = absurd (omega arith)

-- ---- no node

pub none_inv : (limit : ℕ) (m : Measures) → T (in_range m) → Inv limit m [] []
unfolding has_child numbers_in is_in
none_inv limit m measured = record {
  formed = record {
    measured = measured;
    room = omega arith;
    shape = shape;
    limits = record {
      figures = λ k h. absurd
          (omega arith);
      tests = λ k test l r e. no_inner e;
    };
  };
  exact = record { ranged = record { ranges = λ t k b. covered_none; reached = λ k. reached_none }; sends = λ k test l r e. no_inner e };
}
  where
    no_inner : {X : Type 0} {test : Test} {l r : ℕ} → leaf [] ≡ inner test l r → X
    no_inner e = let z : ◌≡◌ {A = ℕ} 0 1 = cc in absurd (omega arith)

    shape : Shape m.n 0 []
    shape = record {
      no_trace = λ e. refl;
      no_node = λ e. refl;
      children = record {
        child = λ p c h. absurd h;
        parented = λ k h g. absurd (omega arith);
        one_parent = λ p q c h. absurd h;
        children_differ = λ p test l r e. no_inner e;
      };
      fits = λ k h. absurd (omega arith);
      ends_kept_lem = λ p c h. absurd h;
      kept = λ t h. absurd (omega arith);
      one_leaf = λ t j k h. absurd h;
      numbers = λ t k h. absurd h;
      rises = λ k ns e. let q : [] ≡ ns = cc in subst (Up 0) q u_none;
      full = λ k h. absurd (omega arith);
    }

-- ---- steps

module _ (limit : ℕ) (m : Measures) where
  abbrev Traces : List Trace → Type 0
  Traces stored = (t : ℕ) → t < length stored → T (is_trace limit m.n (get_or stored t []))

  pub some_samples : T (in_range m) → 1 ≤ m.n
  unfolding in_range
  some_samples measured =
      leb→le 1 m.n (passed (leb 1 m.n) (leb m.n 256 ∷ [])
      (passed (within 1 m.n 256) (within 1 m.capacity 4096 ∷ within 1 m.leaf_size 64 ∷ []) measured).0).0

  -- the rules go on over one trace more where the shape and the limits do
  grow : {count : ℕ} {tree other : Tree} → Formed limit m count tree → count < m.capacity → Shape m.n (suc count) other
      → Limits limit m.n other → Formed limit m (suc count) other
  grow f room s l = record { measured = f.measured; room = room; shape = s; limits = l }

  first_formed : (x : Trace) → T (in_range m) → 1 ≤ m.capacity → T (is_trace limit m.n x) → Formed limit m 1 (first_tree m.n x)
  first_formed x measured room is_trace_lem = record {
    measured = measured;
    room = room;
    shape = first_shape m.n x (some_samples measured);
    limits = first_limits m.n x (some_samples measured) limit is_trace_lem;
  }

  join_formed : (stored : List Trace) (root : Node) (rest : Tree) (x : Trace) → Formed limit m (length stored) (root ∷ rest)
      → length stored < m.capacity → T (is_trace limit m.n x)
      → Formed limit m (length (stored ++ (x ∷ [])))
      (join (length stored) (last_of (way (root ∷ rest) x)) (widen_all x (way (root ∷ rest) x) (root ∷ rest)))
  join_formed stored root rest x f room is_trace_lem =
      let tree : Tree = root ∷ rest in
      let met : List ℕ = way tree x in
      let end : LeafAt tree (last_of met) = way_leaf tree x f.shape.children.child (omega arith) in
      let size : suc (length stored) ≡ length (stored ++ (x ∷ [])) = omega (arith, length-append stored (x ∷ [])) in
      subst (λ (k : ℕ). Formed limit m k (join (length stored) (last_of met) (widen_all x met tree))) size
      (grow f room (join_shape f.shape x met (last_of met) end.numbers end.inside end.is)
      (join_limits limit m.n x is_trace_lem f.shape f.limits met (last_of met) end.numbers end.inside end.is))

  module _ (stored : List Trace) (each : Traces stored) where
    split_formed : (tree : Tree) → Formed limit m (length stored) tree → (at : ℕ) (ns : List ℕ) → (node_at tree at).kind ≡ leaf ns
        → (s : Split) → GoodSplit m.n stored (ends (node_at tree at).segments) ns s → Formed limit m (length stored)
        (split_into stored tree at (some s))
    unfolding numbers_in
    split_formed tree f at ns is s good = record {
      measured = f.measured;
      room = f.room;
      shape = split_shape f.shape stored at ns is s good;
      limits = split_limits limit m.n stored each f.limits at ns is (λ t i. f.shape.numbers t at (rw is (in_is i))) s good;
    }

    split_inv : (tree : Tree) → Inv limit m stored tree → (at : ℕ) (ns : List ℕ) → (node_at tree at).kind ≡ leaf ns
        → (s : Split) → GoodSplit m.n stored (ends (node_at tree at).segments) ns s
        → Inv limit m stored (split_into stored tree at (some s))
    split_inv tree v at ns is s good =
        record {
          formed = split_formed tree v.formed at ns is s good;
          exact = split_exact v.formed.shape stored at ns is s good
              v.exact;
        }

    split_ranged_inv : (tree : Tree) → RangedInv limit m stored tree → (at : ℕ) (ns : List ℕ) → (node_at tree at).kind ≡ leaf ns
        → (s : Split) → GoodSplit m.n stored (ends (node_at tree at).segments) ns s → RangedInv limit m stored
        (split_into stored tree at (some s))
    split_ranged_inv tree v at ns is s good =
        record {
          formed = split_formed tree v.formed at ns is s good;
          ranged = split_ranged v.formed.shape stored at ns is s good
              v.ranged;
        }

  -- ---- one trace more

  -- what joining gives and each split keeps, adding keeps
  added : (P : Tree → Type 0) (stored : List Trace) (root : Node) (rest : Tree) (x : Trace)
      → ((tree : Tree) → P tree → (k : ℕ) → k < length tree → Fits m.n (ends (node_at tree k).segments))
      → ((tree : Tree) → P tree → (at : ℕ) (ns : List ℕ) → (node_at tree at).kind ≡ leaf ns → (s : Split) → GoodSplit m.n
      (stored ++ (x ∷ [])) (ends (node_at tree at).segments) ns s → P (split_into (stored ++ (x ∷ [])) tree at (some s)))
      → P (join (length stored) (last_of (way (root ∷ rest) x)) (widen_all x (way (root ∷ rest) x) (root ∷ rest))) → P
      (insertion m stored (root ∷ rest) x)
  unfolding insertion
  added P stored root rest x fits keeps p =
      let all : List Trace = stored ++ (x ∷ []) in
      let joined : Tree = join (length stored) (last_of (way (root ∷ rest) x)) (widen_all x (way (root ∷ rest) x) (root ∷ rest)) in
      pass_keeps m.n m.leaf_size all P fits keeps (2 * length all) (split m.leaf_size all joined (last_of (way (root ∷ rest) x))) _
      (split_keeps m.n m.leaf_size all P fits keeps joined (last_of (way (root ∷ rest) x)) p)

  more_traces : (stored : List Trace) (x : Trace) → T (every (is_trace limit m.n) stored) → T (is_trace limit m.n x)
      → Traces (stored ++ (x ∷ []))
  more_traces stored x all is_trace_lem t h = by (in_snoc stored (in_get_or (stored ++ (x ∷ [])) t [] h))
    where
      by : In (get_or (stored ++ (x ∷ [])) t []) stored ⊎ (get_or (stored ++ (x ∷ [])) t [] ≡ x)
          → T (is_trace limit m.n (get_or (stored ++ (x ∷ [])) t []))
      by (inl i) = from_every (is_trace limit m.n) stored all i
      by (inr e) = rw e is_trace_lem

  -- a tree without a node stores no trace
  none_stored : (stored : List Trace) → Formed limit m (length stored) [] → stored ≡ []
  none_stored [] f = refl
  none_stored (x ∷ stored) f = absurd (omega (arith, f.shape.no_trace refl))

  -- adding keeps a tree well formed
  pub insertion_formed : (stored : List Trace) (tree : Tree) (x : Trace) → Formed limit m (length stored) tree
      → length stored < m.capacity → T (every (is_trace limit m.n) stored) → T (is_trace limit m.n x)
      → Formed limit m (length (stored ++ (x ∷ []))) (insertion m stored tree x)
  unfolding insertion
  insertion_formed stored [] x f room all is_trace_lem = rw (none_stored stored f) (first_formed x f.measured (omega arith) is_trace_lem)
  insertion_formed stored (root ∷ rest) x f room all is_trace_lem =
      added (λ (tree : Tree). Formed limit m (length (stored ++ (x ∷ []))) tree) stored root rest x (λ tree f. f.shape.fits)
      (split_formed (stored ++ (x ∷ [])) (more_traces stored x all is_trace_lem)) (join_formed stored root rest x f room is_trace_lem)

  -- .. and its records and tests those of the traces below
  pub insertion_inv : (stored : List Trace) (tree : Tree) (x : Trace) → Inv limit m stored tree → length stored < m.capacity
      → T (every (is_trace limit m.n) stored) → T (is_trace limit m.n x)
      → Inv limit m (stored ++ (x ∷ [])) (insertion m stored tree x)
  unfolding insertion
  insertion_inv stored [] x v room all is_trace_lem =
      rw (none_stored stored v.formed) (record {
        formed = first_formed x v.formed.measured (omega arith) is_trace_lem;
        exact = first_exact m.n x (some_samples v.formed.measured);
      })
  insertion_inv stored (root ∷ rest) x v room all is_trace_lem =
      added (λ (tree : Tree). Inv limit m (stored ++ (x ∷ [])) tree) stored root rest x (λ tree v. v.formed.shape.fits)
      (split_inv (stored ++ (x ∷ [])) (more_traces stored x all is_trace_lem))
      (record { formed = join_formed stored root rest x v.formed room is_trace_lem; exact = join_exact stored x v.formed.shape v.exact })

  -- .. its records alone, whatever its tests: a tree whose records are those of the traces below stays one, whoever made it
  pub insertion_ranged : (stored : List Trace) (tree : Tree) (x : Trace) → RangedInv limit m stored tree → length stored < m.capacity
      → T (every (is_trace limit m.n) stored) → T (is_trace limit m.n x)
      → RangedInv limit m (stored ++ (x ∷ [])) (insertion m stored tree x)
  unfolding insertion
  insertion_ranged stored [] x v room all is_trace_lem =
      rw (none_stored stored v.formed) (record {
        formed = first_formed x v.formed.measured (omega arith) is_trace_lem;
        ranged = first_ranged m.n x (some_samples v.formed.measured);
      })
  insertion_ranged stored (root ∷ rest) x v room all is_trace_lem =
      added (λ (tree : Tree). RangedInv limit m (stored ++ (x ∷ [])) tree) stored root rest x (λ tree v. v.formed.shape.fits)
      (split_ranged_inv (stored ++ (x ∷ [])) (more_traces stored x all is_trace_lem))
      (record { formed = join_formed stored root rest x v.formed room is_trace_lem; ranged = join_ranged stored x v.formed.shape v.ranged })
