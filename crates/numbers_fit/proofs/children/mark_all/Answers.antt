-- `numbers_fit::children::mark_all` meets its contract. The loop's invariant: the marks have grown by the children of the nodes passed.
use Rattle.records_fit.proofs.Children.{head_in_use}
use Rattle.numbers_fit.specs.Tests.{children_at}
use Rattle.numbers_fit.proofs.Growth.{grown_firsts, again_firsts, took_old, firsts_none}
use Rattle.numbers_fit.proofs.children.mark_all.Goals as goal

pub loop-j-init : goal.loop-j-init
loop-j-init c = firsts_none (children_at c.args.nodes.now) c.args.marks.now

pub mark_children-requires : goal.mark_children-requires
mark_children-requires c =
    let L = c.loop-j in
    head_in_use c.requires L.j c.loop-j-test.true

pub returns-then-not-mark_children : goal.returns-then-not-mark_children
returns-then-not-mark_children c =
    let L = c.loop-j in
    took_old (again_firsts (children_at c.args.nodes.now) L.invariant c.args.m c.loop-j-test.true
    (c.mark_children.ensures.old (c.if-not-mark_children.true)))

pub loop-j-preserved : goal.loop-j-preserved
loop-j-preserved c =
    let L = c.loop-j in
    grown_firsts (children_at c.args.nodes.now) L.invariant (c.mark_children.ensures.new (c.if-not-mark_children.false))
