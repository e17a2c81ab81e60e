-- Document 02, §1, for every well-formed tree whose ranges are exactly those of the traces below, and so for every library.
use Prim.Native.Nat.{ℕ, ◌<◌}
use mathlib.Core.Path.{◌≡◌}
use mathlib.Core.List.{List}
use lib.ListN.{length}
use lib.Dec.{T}
use Rattle.dstree.specs.Measures.{Trace, Measures, is_library}
use Rattle.dstree.specs.Node.{Tree}
use Rattle.dstree.specs.Adding.{tree_of}
use Rattle.dstree.specs.Claims.{ExactTree}
use Rattle.dstree.specs.KNearest.{KNearestClaims, OneIsMatch}
use Rattle.dstree.proofs.Formed.{formed}
use Rattle.dstree.proofs.Containing.{Containing, of_exact}
use Rattle.dstree.proofs.KClosed.{k_nearest_claims, one_is_match}
use Rattle.dstree.proofs.Laws.{exact}

-- of any tables with exact ranges, whoever made them
module _ (limit : ℕ) (m : Measures) (stored : List Trace) (tree : Tree) (e : ExactTree limit m stored tree) (query : Trace)
    (lq : length query ≡ m.n) where
  contains : Containing m.n stored tree
  contains = of_exact stored tree (formed limit m (length stored) tree e.well_formed_lem) e.ranges

  pub k_nearest_exact : (k : ℕ) → KNearestClaims k stored tree query
  k_nearest_exact = k_nearest_claims m.n stored tree contains e.of_n query lq

  pub one_exact : 0 < length stored → OneIsMatch stored tree query
  one_exact = one_is_match m.n stored tree contains e.of_n query lq

-- "claimed for libraries made by calls"
module _ (limit : ℕ) (m : Measures) (traces : List Trace) (library : T (is_library limit m traces)) (query : Trace)
    (lq : length query ≡ m.n) where
  pub k_nearest : (k : ℕ) → KNearestClaims k traces (tree_of m traces) query
  k_nearest = k_nearest_exact limit m traces (tree_of m traces) (exact limit m traces library) query lq
