-- `figures_below::nodes::node_exact` meets its contract: the segments passed are exact, and the test of those that are left is the test of
-- all.
use mathlib.Core.Path.{◌≡◌}
use Prim.Native.Nat.{◌≤◌}
use Rattle.dstree.specs.Node.{ends}
use Rattle.dstree.specs.Formed.{Rises}
use Rattle.dstree.specs.Checking.{are_exact}
use Rattle.tables.specs.Tables.{record_of}
use Rattle.figures_below.specs.Compared.{traces_under, exact_in}
use Rattle.figures_below.proofs.Segments.{left_from}
use Rattle.figures_below.proofs.nodes.node_exact.Given as goal

abbrev pub invariant-loop-i : goal.invariant-loop-i
invariant-loop-i l =
    (1 ≤ l.first)
    × (are_exact (traces_under l.samples l.n l.sizes l.starts l.order l.j) l.first (left_from (record_of l.nodes l.j) l.count l.i)
    ≡ exact_in l.samples l.nodes l.n l.sizes l.starts l.order l.j)
    × Rises l.n l.first (ends (left_from (record_of l.nodes l.j) l.count l.i))
