-- `leaf_order::leaves::begin` meets its contract: node 0's key stands for all leaves (`Turns`).
use mathlib.Core.Path.{◌≡◌, ◌∙◌, sym}
use native.Mathlib.Omega.{arith}
use lib.ListN.{length}
use Rattle.segment.specs.Stored.{samples_of}
use Rattle.heap.specs.Heap.{Pushed}
use Rattle.best_first.specs.NodeKeys.{first_key}
use Rattle.tables.specs.View.{shape_in}
use Rattle.tables.proofs.Views.{shape_size}
use Rattle.leaf_order.proofs.Records.{key_is, bounded_words, some_node}
use Rattle.leaf_order.proofs.Turns.{begun}
use Rattle.leaf_order.proofs.leaves.begin.Goals as goal

pub node_key-root-requires : goal.node_key-root-requires
node_key-root-requires c =
    let m = length c.args.heap.now.keys.now in
    let h = some_node c.args.nodes.now m (samples_of c.args.query.now.trace.now) c.requires.0 in
    let bounded = bounded_words c.args.nodes.now m c.args.query.now.trace.now c.requires.0 0 h in
    (c.requires.0.record_room 0 h, omega arith, omega arith, bounded)

pub push-requires : goal.push-requires
push-requires c =
    let h = some_node c.args.nodes.now (length c.args.heap.now.keys.now) (samples_of c.args.query.now.trace.now) c.requires.0 in
    omega (arith, h)

pub returns : goal.returns
returns c =
    let nodes = c.args.nodes.now in
    let work = c.args.heap.now.keys.now in
    let m = length work in
    let query = samples_of c.args.query.now.trace.now in
    let none : c.args.heap.now.len ≡ 0 = c.requires.1 in
    let h = some_node nodes m query c.requires.0 in
    let e = c.node_key-root.ensures ∙ key_is nodes m query 0 0 h in
    let work' = c.push.new.self.keys.now in
    let first : Pushed 0 (first_key (shape_in nodes m) query) work work' = rw (← e, ← none) c.push.ensures.pushed in
    record {
      room = c.push.ensures.room;
      one = omega (arith, c.push.ensures.more);
      begun = begun (shape_in nodes m) c.requires.0.branching query work work' (shape_size nodes m ∙ sym c.push.ensures.room.long) first;
    }
