-- What holds of every tree that adding makes, over the traces added so far: it is well formed, and its records and tests are those of the
-- traces below. Joining (`Joins`) and splitting (`Splits`) keep it, the first leaf has it (`Keeps`). They keep the records without a word
-- of the tests, so that adding keeps them exact in any well-formed tree, whoever made it.
use Prim.Native.Nat.{ℕ}
use mathlib.Core.Path.{◌≡◌}
use mathlib.Core.Bool.{true, false}
use mathlib.Core.List.{List, []}
use lib.ListN.{length, get_or}
use Rattle.dstree.specs.Measures.{Trace, Measures}
use Rattle.dstree.specs.Node.{Test, inner, Tree, node_at, sends_left}
use Rattle.dstree.specs.Formed.{Formed}
use Rattle.dstree.specs.Claims.{Below, RangesOf}
use Rattle.dstree.proofs.Ranges.{Covered}
use Rattle.dstree.proofs.Exact.{AllReached, exact, exact_covers, exact_reached}

-- a test still sends the traces below its node as it did when the node was split
pub record Sends (stored : List Trace) (tree : Tree) (test : Test) (l r : ℕ) : Type 0 where
  pub goes_left : (t : ℕ) → Below tree t l → sends_left test (get_or stored t []) ≡ true
  pub goes_right : (t : ℕ) → Below tree t r → sends_left test (get_or stored t []) ≡ false

-- records are those of the traces below
pub record Ranged (stored : List Trace) (tree : Tree) : Type 0 where
  -- a trace below a node lies within its ranges
  pub ranges : (t k : ℕ) → Below tree t k → Covered (get_or stored t []) 1 (node_at tree k).segments
  -- each limit of its ranges is a figure of a trace below it
  pub reached : (k : ℕ) → AllReached stored (λ (t : ℕ). Below tree t k) 1 (node_at tree k).segments

-- .. and tests
pub record Exact (stored : List Trace) (tree : Tree) : Type 0 where
  pub ranged : Ranged stored tree
  pub sends : (p : ℕ) (test : Test) (l r : ℕ) → (node_at tree p).kind ≡ inner test l r → Sends stored tree test l r

pub record Inv (limit : ℕ) (m : Measures) (stored : List Trace) (tree : Tree) : Type 0 where
  pub formed : Formed limit m (length stored) tree
  pub exact : Exact stored tree

-- a well-formed tree whose records are those of the traces below, whatever its tests
pub record RangedInv (limit : ℕ) (m : Measures) (stored : List Trace) (tree : Tree) : Type 0 where
  pub formed : Formed limit m (length stored) tree
  pub ranged : Ranged stored tree

-- "the least and greatest sum and scatter of the traces below"
pub ranges_of : {stored : List Trace} {tree : Tree} → Ranged stored tree → RangesOf stored tree
ranges_of {stored} {tree} e k = exact stored (λ (t : ℕ). Below tree t k) (e.reached k) (λ t b. e.ranges t k b)

pub ranged_by : {stored : List Trace} {tree : Tree} → RangesOf stored tree → Ranged stored tree
ranged_by r = record { ranges = λ t k b. exact_covers (r k) b; reached = λ k. exact_reached (r k) }
