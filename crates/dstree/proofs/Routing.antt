-- The tests lead each stored trace to the leaf that holds it: the trace is below node 0, and where it is below an inner node it is below
-- the child that the test sends it to, for the other child has only traces that the test sends there.
use Rattle.std.specs.Prelude.{if◌then◌else◌}
use Prim.Native.Nat.{ℕ, ◌<◌}
use mathlib.Core.Path.{◌≡◌, refl, sym, subst}
use mathlib.Core.Logic.{◌⊎◌, inl, inr}
use mathlib.Core.Bool.{Bool, true, false}
use mathlib.Core.Option.{some}
use mathlib.Core.List.{List, []}
use native.Mathlib.Omega.{arith}
use lib.ListN.{length, get_or}
use lib.Dec.{T}
use Rattle.integer.specs.Words.{is_in, last_of}
use Rattle.dstree.specs.Measures.{Trace}
use Rattle.dstree.specs.Node.{Kind, leaf, inner, Tree, node_at, sends_left}
use Rattle.dstree.specs.Adding.{next_node, way}
use Rattle.dstree.specs.Matching.{numbers_in}
use Rattle.dstree.specs.Formed.{Shape}
use Rattle.dstree.specs.Claims.{Below}
use Rattle.dstree.proofs.Change.{LeafAt, way_ends}
use Rattle.dstree.proofs.Below.{below_inside, below_root, below_leaf, below_inner}
use Rattle.dstree.proofs.Invariant.{Sends, Exact}

module _ {n : ℕ} {stored : List Trace} {tree : Tree} (s : Shape n (length stored) tree) (old : Exact stored tree) (t : ℕ) where
  abbrev x : Trace
  x = get_or stored t []

  -- below a node, and so below the node that the trace goes to from there
  step : (p c : ℕ) → next_node (node_at tree p).kind x ≡ some c → Below tree t p → Below tree t c
  unfolding next_node
  step p c e b = by (node_at tree p).kind refl e
    where
      by : (a : Kind) → (node_at tree p).kind ≡ a → next_node a x ≡ some c → Below tree t c
      by (leaf ns) k q = let z : ◌≡◌ {A = ℕ} 0 1 = cc in absurd (omega arith)
      by (inner test l r) k q = side (below_inner k b)
        where
          fit : Sends stored tree test l r
          fit = old.sends p test l r k

          to : (b : Bool) → sends_left test x ≡ b → (if b then l else r) ≡ c
          to b e = let u : some (if sends_left test x then l else r) ≡ some c = q in let v : (if sends_left test x then l else r) ≡ c = cc in rw e at v

          side : Below tree t l ⊎ Below tree t r → Below tree t c
          side (inl d) = subst (Below tree t) (to true (fit.goes_left t d)) d
          side (inr d) = subst (Below tree t) (to false (fit.goes_right t d)) d

  pub leads_to : t < length stored → T (is_in t (numbers_in (node_at tree (last_of (way tree x))).kind))
  unfolding numbers_in
  leads_to h = by (way_ends tree x (Below tree t) s.children.child step (length tree) 0 (below_inside s (below_root s t h)) (omega arith) (below_root s t h))
    where
      by : {k : ℕ} → LeafAt tree k × Below tree t k → T (is_in t (numbers_in (node_at tree k).kind))
      by (l, b) = subst (λ (a : Kind). T (is_in t (numbers_in a))) (sym l.is) (below_leaf l.is b)
