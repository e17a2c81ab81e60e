-- `nodes_fit::nodes::ends_kept` meets its contract. The loop's invariant: the children of each node passed keep its ends.
use mathlib.Core.Path.{sym, ◌∙◌}
use native.Mathlib.Omega.{arith}
use Rattle.records_fit.specs.Fits.{kept_at, all_kept}
use Rattle.records_fit.proofs.Loops.{all_passed, one_failed}
use Rattle.nodes_fit.proofs.nodes.ends_kept.Goals as goal

pub returns-then-not-node_kept : goal.returns-then-not-node_kept
unfolding all_kept
returns-then-not-node_kept c =
    let L = c.loop-j in
    let a = c.args in
    one_failed (kept_at a.nodes.now) a.m 0 L.j (omega arith) (omega arith) (sym c.node_kept.ensures ∙ c.if-not-node_kept.true)

pub returns : goal.returns
unfolding all_kept
returns c =
    let L = c.loop-j in
    let a = c.args in
    all_passed (kept_at a.nodes.now) a.m 0 (λ x g h. L.invariant x (omega arith))
