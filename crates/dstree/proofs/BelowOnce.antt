-- A trace is below a node once: nodes with a trace below them lie on one way down, so that no trace is below both children of a node. So
-- no list of the traces below a node is longer than there are traces.
use Prim.Native.Nat.{ℕ, zero, suc, ◌≤◌, ◌<◌}
use mathlib.Core.Path.{◌≡◌, refl, sym, subst}
use native.Mathlib.Omega.{arith}
use native.Mathlib.Decide.{dec_le}
use native.Mathlib.Nat.{lt_of_not-le}
use lib.ListN.{length}
use lib.Dec.{T}
use Rattle.integer.specs.Words.{is_in, counting}
use Rattle.integer.proofs.Times.{counting_length}
use Rattle.integer.proofs.Lists.{same_or_not, strict, in_counting, Apart, apart_none, up_same, apart_append, no_fewer}
use Rattle.dstree.specs.Node.{Kind, leaf, inner, Tree, node_at}
use Rattle.dstree.specs.Matching.{has_child, numbers_in}
use Rattle.dstree.specs.Formed.{Shape}
use Rattle.dstree.specs.Claims.{Below, of_leaf, of_child}
use Rattle.dstree.specs.Checking.{below_from, traces_below}
use Rattle.dstree.proofs.Change.{has_left, has_right}
use Rattle.dstree.proofs.Below.{below_stored}
use Rattle.dstree.proofs.TracesBelow.{from_leaf, from_inner, from_below}

module _ {n count : ℕ} {tree : Tree} (s : Shape n count tree) where
  -- the leaf of a trace has the greatest number of all nodes that it is below
  low : {t a b : ℕ} → T (is_in t (numbers_in (node_at tree a).kind)) → Below tree t b → b ≤ a
  low {t} {a} {b} h (of_leaf g) = omega (arith, s.one_leaf t b a g h)
  low h (of_child {parent} {child} g b) = omega (arith, s.children.child parent child g, low h b)

  -- b, numbered above a, has a parent that is a or above it too
  record Under (t a b : ℕ) : Type 0 where
    parent : ℕ
    has : T (has_child b (node_at tree parent).kind)
    above : a ≤ parent

  -- b is not between a and its child c
  between : {t a b c : ℕ} → T (has_child c (node_at tree a).kind) → Below tree t c → a < b → b < c
      → ((d : ℕ) → Below tree t d → c < d → Under t c d) → Below tree t b → ⊥
  between {t} {a} {b} {c} h below p q on (of_leaf g) = omega (arith, low g below)
  between {t} {a} {b} {c} h below p q on (of_child {child} g d) =
      by (dec_le child c) (same_or_not child c) (λ r e. between {b = child} h below r e on d)
    where
      by : Dec (child ≤ c) → Dec (child ≡ c) → (a < child → child < c → ⊥) → ⊥
      by (yes r) (yes e) ih = omega (arith, s.children.one_parent a b c h (subst (λ (k : ℕ). T (has_child k (node_at tree b).kind)) e g))
      by (yes r) (no f) ih = ih (omega (arith, s.children.child b child g)) (strict r f)
      by (no r) e ih = past (on child d (lt_of_not-le r))
        where
          past : Under t c child → ⊥
          past u = omega (arith, u.above, s.children.one_parent b u.parent child g u.has)

  under : {t a b : ℕ} → Below tree t a → Below tree t b → a < b → Under t a b
  under (of_leaf h) below p = absurd (omega (arith, low h below))
  under {t} {a} {b} (of_child {child} h c) below p = by (dec_le child b) (same_or_not b child)
      (λ (d : ℕ) (e : Below tree t d) (q : child < d). under c e q)
    where
      by : Dec (child ≤ b) → Dec (b ≡ child) → ((d : ℕ) → Below tree t d → child < d → Under t child d) → Under t a b
      by (yes q) (yes e) ih = record { parent = a; has = rw e h; above = omega arith }
      by (yes q) (no f) ih =
          let u : Under t child b = ih b below (strict q (λ e. f (sym e))) in
          record { parent = u.parent; has = u.has; above = omega (arith, u.above, s.children.child a child h) }
      by (no q) e ih = absurd (between h c p (lt_of_not-le q) ih below)

  -- no trace is below both children of a node
  apart : (p : ℕ) {t l r : ℕ} → T (has_child l (node_at tree p).kind) → T (has_child r (node_at tree p).kind) → l < r → Below tree t l
      → Below tree t r → ⊥
  apart p {t} {l} {r} h g q a b =
      let u : Under t l r = under a b q in
      omega (arith, u.above, s.children.one_parent p u.parent r g u.has, s.children.child p l h)

  once : (fuel k : ℕ) → Apart (λ (j : ℕ). j) (below_from fuel tree k)
  unfolding below_from
  once zero k = apart_none
  once (suc fuel) k = by (node_at tree k).kind refl (λ (c : ℕ). once fuel c)
    where
      by : (a : Kind) → (node_at tree k).kind ≡ a → ((c : ℕ) → Apart (λ (j : ℕ). j) (below_from fuel tree c)) → Apart (λ (j : ℕ). j)
          (below_from (suc fuel) tree k)
      by (leaf ns) e ih = subst (Apart (λ (j : ℕ). j)) (sym (from_leaf fuel tree k e)) (up_same (s.rises k ns e))
      by (inner test l r) e ih =
          subst (Apart (λ (j : ℕ). j)) (sym (from_inner fuel tree k e))
          (apart_append (λ (j : ℕ). j) (ih l) (ih r) (λ t u i j q. both t (from_below fuel tree l i)
          (subst (λ (x : ℕ). Below tree x r) q (from_below fuel tree r j))))
        where
          left : T (has_child l (node_at tree k).kind)
          left = rw e (has_left test l r)

          right : T (has_child r (node_at tree k).kind)
          right = rw e (has_right test l r)

          both : (t : ℕ) → Below tree t l → Below tree t r → ⊥
          both t a b = sides (dec_le l r) (same_or_not l r)
            where
              sides : Dec (l ≤ r) → Dec (l ≡ r) → ⊥
              sides (yes h) (yes q) = s.children.children_differ k test l r e q
              sides (yes h) (no f) = apart k left right (strict h f) a b
              sides (no h) f = apart k right left (lt_of_not-le h) b a

  -- no more traces are below a node than there are
  pub few_below : (k : ℕ) → length (traces_below tree k) ≤ count
  few_below k =
      omega (
        arith,
        no_fewer (λ (j : ℕ). j) (counting count 0) (once (length tree) k)
            (λ t i. in_counting count 0 t (omega arith) (omega (arith, below_stored s (from_below (length tree) tree k i)))),
        counting_length count 0,
      )
