-- The numbers that are listed as below a node are those of the traces below it. Of a well-formed tree: the fuel is enough, since children
-- are numbered above their parent; an inner node's list is its children's, one behind the other; and no list is empty.
use Prim.Native.Nat.{ℕ, zero, suc, ◌+◌, ◌≤◌, ◌<◌}
use mathlib.Core.Path.{◌≡◌, refl, sym, ◌∙◌, subst}
use mathlib.Core.Logic.{◌⊎◌, inl, inr}
use mathlib.Core.List.{List, ◌++◌}
use native.Mathlib.Omega.{arith}
use lib.ListN.{length, length-append}
use Rattle.integer.proofs.Lists.{In, in_nil, is_in_lem, in_is, in_append, in_append_left, in_append_right}
use Rattle.dstree.specs.Node.{Test, Kind, leaf, inner, Tree, node_at}
use Rattle.dstree.specs.Matching.{numbers_in}
use Rattle.dstree.specs.Formed.{Shape}
use Rattle.dstree.specs.Claims.{Below, of_leaf, of_child}
use Rattle.dstree.specs.Checking.{below_from, traces_below}
use Rattle.dstree.proofs.Change.{has_left, has_right}
use Rattle.dstree.proofs.Below.{below_inside, below_leaf, below_inner}

-- with fuel left, what is listed is that of a leaf, or that of both children
pub from_leaf : (fuel : ℕ) (tree : Tree) (k : ℕ) {ns : List ℕ} → (node_at tree k).kind ≡ leaf ns → below_from (suc fuel) tree k ≡ ns
unfolding below_from
from_leaf fuel tree k e = rw (e, below_from) refl

pub from_inner : (fuel : ℕ) (tree : Tree) (k : ℕ) {test : Test} {l r : ℕ} → (node_at tree k).kind ≡ inner test l r
    → below_from (suc fuel) tree k ≡ below_from fuel tree l ++ below_from fuel tree r
unfolding below_from
from_inner fuel tree k e = rw (e, below_from) refl

-- what is listed is below
pub from_below : (fuel : ℕ) (tree : Tree) {t : ℕ} (k : ℕ) → In t (below_from fuel tree k) → Below tree t k
unfolding below_from numbers_in
from_below zero tree k i = absurd (in_nil i)
from_below (suc fuel) tree {t} k i = by (node_at tree k).kind refl (λ c j. from_below fuel tree c j)
  where
    by : (a : Kind) → (node_at tree k).kind ≡ a → ((c : ℕ) → In t (below_from fuel tree c) → Below tree t c) → Below tree t k
    by (leaf ns) e ih = of_leaf {number = k} (rw e (in_is (subst (In t) (from_leaf fuel tree k e) i)))
    by (inner test l r) e ih = either (in_append (below_from fuel tree l) (subst (In t) (from_inner fuel tree k e) i))
      where
        either : In t (below_from fuel tree l) ⊎ In t (below_from fuel tree r) → Below tree t k
        either (inl j) = of_child {parent = k} {child = l} (rw e (has_left test l r)) (ih l j)
        either (inr j) = of_child {parent = k} {child = r} (rw e (has_right test l r)) (ih r j)

module _ {n count : ℕ} {tree : Tree} (s : Shape n count tree) where
  left_above : {k : ℕ} {test : Test} {l r : ℕ} → (node_at tree k).kind ≡ inner test l r → (k < l) × (l < length tree)
  left_above {k} {test} {l} {r} e = s.children.child k l (rw e (has_left test l r))

  right_above : {k : ℕ} {test : Test} {l r : ℕ} → (node_at tree k).kind ≡ inner test l r → (k < r) × (r < length tree)
  right_above {k} {test} {l} {r} e = s.children.child k r (rw e (has_right test l r))

  -- what is below is listed
  to_below : (fuel : ℕ) {t : ℕ} (k : ℕ) → length tree ≤ k + fuel → Below tree t k → In t (below_from fuel tree k)
  to_below zero k h b = absurd (omega (arith, below_inside s b))
  to_below (suc fuel) {t} k h b = by (node_at tree k).kind refl (λ c g d. to_below fuel c g d)
    where
      by : (a : Kind) → (node_at tree k).kind ≡ a
          → ((c : ℕ) → length tree ≤ c + fuel → Below tree t c → In t (below_from fuel tree c)) → In t (below_from (suc fuel) tree k)
      by (leaf ns) e ih = subst (In t) (sym (from_leaf fuel tree k e)) (is_in_lem t ns (below_leaf e b))
      by (inner test l r) e ih = subst (In t) (sym (from_inner fuel tree k e)) (either (below_inner e b))
        where
          either : Below tree t l ⊎ Below tree t r → In t (below_from fuel tree l ++ below_from fuel tree r)
          either (inl c) = in_append_left (below_from fuel tree r) (ih l (omega (arith, left_above e)) c)
          either (inr c) = in_append_right (below_from fuel tree l) (ih r (omega (arith, right_above e)) c)

  pub listed_below : {t k : ℕ} → In t (traces_below tree k) → Below tree t k
  listed_below {t} {k} i = from_below (length tree) tree k i

  pub below_listed : {t k : ℕ} → Below tree t k → In t (traces_below tree k)
  below_listed {t} {k} b = to_below (length tree) k (omega arith) b

  both : {a b c d : List ℕ} → a ≡ b → c ≡ d → a ++ c ≡ b ++ d
  both p q = rw (p, q) refl

  -- more fuel lists no more
  same_listed : (fuel more k : ℕ) → length tree ≤ k + fuel → fuel ≤ more → k < length tree → below_from fuel tree k ≡ below_from more tree k
  same_listed zero more k h g i = absurd (omega arith)
  same_listed (suc fuel) zero k h g i = absurd (omega arith)
  same_listed (suc fuel) (suc more) k h g i = by (node_at tree k).kind refl (λ c p q. same_listed fuel more c p (omega arith) q)
    where
      by : (a : Kind) → (node_at tree k).kind ≡ a
          → ((c : ℕ) → length tree ≤ c + fuel → c < length tree → below_from fuel tree c ≡ below_from more tree c)
          → below_from (suc fuel) tree k ≡ below_from (suc more) tree k
      by (leaf ns) e ih = from_leaf fuel tree k e ∙ sym (from_leaf more tree k e)
      by (inner test l r) e ih =
          from_inner fuel tree k e
          ∙ both (ih l (omega (arith, left_above e)) (left_above e).1) (ih r (omega (arith, right_above e)) (right_above e).1)
          ∙ sym (from_inner more tree k e)

  -- a leaf's own traces
  pub below_of_leaf : {k : ℕ} {ns : List ℕ} → k < length tree → (node_at tree k).kind ≡ leaf ns → traces_below tree k ≡ ns
  below_of_leaf {k} {ns} h e = by (length tree) h
    where
      by : (fuel : ℕ) → k < fuel → below_from fuel tree k ≡ ns
      by zero g = absurd (omega arith)
      by (suc fuel) g = from_leaf fuel tree k e

  -- an inner node's are those of its left child, then those of its right one
  pub below_of_inner : {k : ℕ} {test : Test} {l r : ℕ} → k < length tree → (node_at tree k).kind ≡ inner test l r
      → traces_below tree k ≡ traces_below tree l ++ traces_below tree r
  below_of_inner {k} {test} {l} {r} h e = by (length tree) refl
    where
      by : (fuel : ℕ) → length tree ≡ fuel → below_from fuel tree k ≡ below_from (length tree) tree l ++ below_from (length tree) tree r
      by zero g = absurd (omega arith)
      by (suc fuel) g =
          from_inner fuel tree k e
          ∙ both (same_listed fuel (length tree) l (omega (arith, left_above e)) (omega arith) (left_above e).1)
          (same_listed fuel (length tree) r (omega (arith, right_above e)) (omega arith) (right_above e).1)

  -- no list is empty
  some_listed : (fuel k : ℕ) → length tree ≤ k + fuel → k < length tree → 0 < length (below_from fuel tree k)
  some_listed zero k h g = absurd (omega arith)
  some_listed (suc fuel) k h g = by (node_at tree k).kind refl (λ c p q. some_listed fuel c p q)
    where
      by : (a : Kind) → (node_at tree k).kind ≡ a
          → ((c : ℕ) → length tree ≤ c + fuel → c < length tree → 0 < length (below_from fuel tree c))
          → 0 < length (below_from (suc fuel) tree k)
      by (leaf ns) e ih = subst (λ (l : List ℕ). 0 < length l) (sym (from_leaf fuel tree k e)) (s.full k g ns e)
      by (inner test l r) e ih =
          subst (λ (l : List ℕ). 0 < length l) (sym (from_inner fuel tree k e))
          (omega (
            arith,
            length-append (below_from fuel tree l) (below_from fuel tree r),
            ih l (omega (arith, left_above e)) (left_above e).1,
          ))

  pub some_below : (k : ℕ) → k < length tree → 0 < length (traces_below tree k)
  some_below k h = some_listed (length tree) k (omega arith) h
