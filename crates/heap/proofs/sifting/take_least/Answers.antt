-- `heap::sifting::take_least` meets its contract: `sink` on what is left without the last key.
use mathlib.Core.Path.{◌∙◌}
use lib.ListN.{length-set}
use Rattle.heap.proofs.Popping.{sink_ready, pop_more, pop_one}
use Rattle.heap.proofs.sifting.take_least.Goals as goal

pub sink-requires : goal.sink-requires
sink-requires c =
    sink_ready c.args.n c.args.s.now c.requires.0 c.requires.1 c.requires.2 c.if-last-gt0.true

pub shape_of-s-then-last-gt0 : goal.shape_of-s-then-last-gt0
shape_of-s-then-last-gt0 c = c.sink.auto.s ∙ simp length-set

pub returns-then-last-gt0 : goal.returns-then-last-gt0
returns-then-last-gt0 c =
    pop_more c.args.n c.args.s.now c.requires.0 c.requires.1 c.requires.2 c.sink.new.s c.if-last-gt0.true c.sink.ensures

pub returns : goal.returns
returns c =
    pop_one c.args.n c.args.s.now c.requires.0 c.requires.1 c.requires.2 c.if-last-gt0.false
