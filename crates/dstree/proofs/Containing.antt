-- What the laws of a query ask of a tree and its traces: the rules for well-formed tables, as far as they place nodes, segments and traces,
-- and that each record contains the figures of the traces below it. The tree that insertion makes has it, and so has any well-formed tree
-- whose ranges are those of the traces below, whoever made it. That a least or a greatest is also reached by a trace is not asked.
use Prim.Native.Nat.{ℕ}
use mathlib.Core.List.{List, []}
use lib.ListN.{length, get_or}
use Rattle.dstree.specs.Measures.{Trace, Measures}
use Rattle.dstree.specs.Node.{Tree, node_at}
use Rattle.dstree.specs.Claims.{Below, RangesOf}
use Rattle.dstree.proofs.Ranges.{Covered}
use Rattle.dstree.proofs.Exact.{exact_covers}
use Rattle.dstree.specs.Formed.{Shape, Formed}

pub record Containing (n : ℕ) (stored : List Trace) (tree : Tree) : Type 0 where
  pub shape : Shape n (length stored) tree
  -- a trace below a node lies within its ranges
  pub ranges : (t k : ℕ) → Below tree t k → Covered (get_or stored t []) 1 (node_at tree k).segments

-- ---- what has it

-- well-formed tables with "the least and greatest sum and scatter of the traces below"
pub of_exact : {limit : ℕ} {m : Measures} (stored : List Trace) (tree : Tree) → Formed limit m (length stored) tree → RangesOf stored tree → Containing m.n stored tree
of_exact stored tree f exact = record { shape = f.shape; ranges = λ t k b. exact_covers (exact k) b }
