-- `numbers_fit::leaves::leaves_hold` meets its contract: where a leaf's first number is refused the rule fails, and else the links decide.
use native.Mathlib.Omega.{arith}
use Rattle.numbers_fit.proofs.Naming.{no_leaves}
use Rattle.numbers_fit.proofs.Holding.{firsts_refused, links_decide}
use Rattle.numbers_fit.proofs.leaves.leaves_hold.Goals as goal

pub returns-then-m-eq0 : goal.returns-then-m-eq0
returns-then-m-eq0 c = let a = c.args in no_leaves a.nodes.now a.m a.links.now a.k c.if-m-eq0.true

pub returns-then-not-mark_firsts : goal.returns-then-not-mark_firsts
returns-then-not-mark_firsts c =
    firsts_refused c.args.nodes.now c.args.m c.requires.0 c.args.links.now c.args.k c.requires.3
    c.mark_firsts.ensures (c.if-not-mark_firsts.true)

pub returns : goal.returns
returns c =
    links_decide c.args.nodes.now c.args.m c.requires.0 c.args.links.now c.args.k c.requires.3 (omega (arith, c.if-m-eq0.false)) c.requires.1
    c.mark_firsts.ensures (c.if-not-mark_firsts.false) c.links_name.ensures
