-- `numbers_fit::leaves::mark_firsts` meets its contract. The loop's invariant: the first numbers of the leaves passed are traces' numbers,
-- and are marked.
use Rattle.records_fit.proofs.Children.{head_in_use}
use Rattle.numbers_fit.specs.Tests.{first_at}
use Rattle.numbers_fit.proofs.Taking.{marked_start, marked_more, marked_refused}
use Rattle.numbers_fit.proofs.leaves.mark_firsts.Goals as goal

pub loop-j-init : goal.loop-j-init
loop-j-init c = marked_start (first_at c.args.nodes.now) c.args.k c.args.marks.now

pub mark_first-requires : goal.mark_first-requires
mark_first-requires c =
    let L = c.loop-j in
    (head_in_use c.requires.0 L.j c.loop-j-test.true, c.requires.1)

pub returns-then-not-mark_first : goal.returns-then-not-mark_first
returns-then-not-mark_first c =
    let L = c.loop-j in
    marked_refused (first_at c.args.nodes.now) c.args.k L.invariant
    c.mark_first.ensures (c.if-not-mark_first.true) c.args.m c.loop-j-test.true

pub loop-j-preserved : goal.loop-j-preserved
loop-j-preserved c =
    let L = c.loop-j in
    marked_more (first_at c.args.nodes.now) c.args.k L.invariant
    c.mark_first.ensures (c.if-not-mark_first.false)
