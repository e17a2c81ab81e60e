-- `well_formed::first_look::nodes_pass` meets its contract. The loop's invariant: what visits show of the nodes passed.
use Rattle.well_formed.proofs.Looking.{visited_none, visited_more}
use Rattle.well_formed.proofs.first_look.nodes_pass.Goals as goal

pub loop-j-init : goal.loop-j-init
loop-j-init c = let a = c.args in visited_none a.n a.m a.k a.nodes.now a.marks.now a.named.now

pub loop-j-preserved : goal.loop-j-preserved
loop-j-preserved c =
    let a = c.args in
    visited_more a.n a.m a.k a.nodes.now c.loop-j.invariant (c.node_passes.ensures (c.if-not-node_passes.false))
