-- `well_formed::first_look::records_pass` meets its contract: all nodes were visited, and by the marks each but node 0 is a child
-- (`Looking`).
use mathlib.Core.Path.{sym, ◌∙◌}
use native.Mathlib.Omega.{arith}
use Rattle.well_formed.proofs.Looking.{all_visited}
use Rattle.well_formed.proofs.first_look.records_pass.Goals as goal

pub returns : goal.returns
returns c e =
    let a = c.args in
    all_visited a.n a.m a.k a.nodes.now (c.nodes_pass.ensures (c.if-not-nodes_pass.false))
    (omega (arith, c.if-m-eq0.false)) c.requires.low (sym c.segments_fit.ensures ∙ c.if-not-segments_fit.false)
    (sym c.all_marked.ensures ∙ e)
