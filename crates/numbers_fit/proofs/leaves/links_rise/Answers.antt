-- `numbers_fit::leaves::links_rise` meets its contract. The loop's invariant: how many of the links passed rise, and how many end a list.
use Rattle.numbers_fit.proofs.Taking.{counted_start, counted_more}
use Rattle.numbers_fit.proofs.leaves.links_rise.Goals as goal

pub loop-i-init : goal.loop-i-init
loop-i-init c = let a = c.args in counted_start a.links.now a.k

pub loop-i-preserved : goal.loop-i-preserved
loop-i-preserved c =
    let more = counted_more c.args.links.now c.args.k c.rises.result c.loop-i.invariant c.loop-i-test.true c.rises.ensures in
    rw (c.from-fit.ensures, c.from-ends.ensures) more
