-- Document 02, §7, for every library: the tree that insertion makes has exact ranges. And the queries of a run have n samples each.
use Prim.Native.Nat.{ℕ, ◌*◌, ◌<◌}
use mathlib.Core.Path.{◌≡◌}
use mathlib.Core.List.{List}
use native.Mathlib.Omega.{arith}
use lib.ListN.{length}
use lib.Dec.{T}
use Rattle.integer.specs.Lists.{In}
use Rattle.integer.proofs.Lists.{all_at}
use Rattle.dstree.specs.Measures.{Trace, Measures, is_library}
use Rattle.dstree.specs.Adding.{tree_of}
use Rattle.dstree.specs.Batch.{queries_in, StepsClaims, BatchClaims}
use Rattle.dstree.proofs.SheetPieces.{pieces_sized}
use Rattle.dstree.proofs.BatchSteps.{steps_of_formed}
use Rattle.dstree.proofs.BatchClosed.{batch_of_exact}
use Rattle.dstree.proofs.Laws.{exact}

-- "a run .. n times their number long"
pub query_size : (n count : ℕ) (run : Trace) → length run ≡ n * count → (query : Trace) → In query (queries_in n count run) → length query ≡ n
query_size n count run size query i = all_at (pieces_sized n count run (omega (arith, size))) i

module _ (limit : ℕ) (m : Measures) (traces : List Trace) (library : T (is_library limit m traces)) (one : 0 < length traces)
    (queries : List Trace) where
  pub batch_steps : StepsClaims traces (tree_of m traces) queries
  batch_steps = steps_of_formed limit m traces (tree_of m traces) (exact limit m traces library).well_formed_lem one queries

  pub batch : ((query : Trace) → In query queries → length query ≡ m.n) → BatchClaims traces (tree_of m traces) queries
  batch of_n = batch_of_exact limit m traces (tree_of m traces) (exact limit m traces library) one queries of_n
