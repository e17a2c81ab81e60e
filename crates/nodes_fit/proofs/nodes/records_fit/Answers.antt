-- `nodes_fit::nodes::records_fit` meets its contract. The loop's invariant: each record passed fits.
use mathlib.Core.Path.{sym, ◌∙◌}
use native.Mathlib.Omega.{arith}
use Rattle.records_fit.specs.Fits.{records_fit}
use Rattle.records_fit.proofs.Loops.{all_passed, one_failed}
use Rattle.nodes_fit.proofs.nodes.records_fit.Invariants.{fits}
use Rattle.nodes_fit.proofs.nodes.records_fit.Goals as goal

pub returns-then-not-node_fits : goal.returns-then-not-node_fits
unfolding records_fit
returns-then-not-node_fits c =
    let L = c.loop-j in
    let a = c.args in
    one_failed (fits a.nodes.now a.m a.n) a.m 0 L.j (omega arith) (omega arith) (sym c.node_fits.ensures ∙ c.if-not-node_fits.true)

pub returns : goal.returns
unfolding records_fit
returns c =
    let L = c.loop-j in
    let a = c.args in
    all_passed (fits a.nodes.now a.m a.n) a.m 0 (λ x g h. L.invariant x (omega arith))
