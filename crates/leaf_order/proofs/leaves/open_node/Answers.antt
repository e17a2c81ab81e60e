-- `leaf_order::leaves::open_node` meets its contract: the children that the record names are nodes, and their keys are put in.
use mathlib.Core.Path.{◌≡◌, ◌∙◌, ap}
use Prim.Native.Nat.{ℕ, ◌≤◌, ◌<◌}
use native.Mathlib.Omega.{arith}
use mathlib.Core.List.{List}
use lib.IntN.{ℤ}
use lib.ListN.{length}
use Rattle.segment.specs.Stored.{samples_of}
use Rattle.tables.specs.Layout.{kind_place, first_place, right_place}
use Rattle.tables.specs.Tables.{record_of}
use Rattle.tables.specs.View.{small_at, shape_in}
use Rattle.query.specs.Bounded.{Bounded}
use Rattle.best_first.specs.NodeKeys.{child_key}
use Rattle.leaf_order.specs.Waits.{Walkable}
use Rattle.leaf_order.proofs.Records.{key_is, bounded_words, number_fits, left_in, right_in, right_over}
use Rattle.leaf_order.proofs.leaves.open_node.Goals as goal

-- a node's number is below 8192, and its record is one that may be asked for a bound
module _ {nodes : List ℤ} {m : ℕ} (query : List ℤ) (w : Walkable nodes m (samples_of query)) where
  fits : (j : ℕ) → j < m → j ≤ 8191
  fits j h = number_fits nodes m (samples_of query) w j h

  bounded : (j : ℕ) → j < m → Bounded (record_of nodes j) (length query)
  bounded j h = bounded_words nodes m query w j h

  -- the children of inner node j
  module _ {j : ℕ} (h : j < m) (inner_kind : 1 ≤ small_at (record_of nodes j) kind_place) where
    right_inside : {k : ℕ} → k ≡ small_at (record_of nodes j) right_place → k < m
    right_inside e = rw e (right_in nodes m (samples_of query) w j h inner_kind)

    left_inside : {k : ℕ} → k ≡ small_at (record_of nodes j) first_place → k < m
    left_inside e = rw e (left_in nodes m (samples_of query) w j h inner_kind)

pub node_small-first-requires : goal.node_small-first-requires
node_small-first-requires c =
    let w = c.requires.walkable.0 in
    let h = c.requires.inner.0 in
    (w.record_room c.args.j h, fits c.args.query.now.trace.now w c.args.j h, omega arith)

pub node_small-second-requires : goal.node_small-second-requires
node_small-second-requires c =
    let w = c.requires.walkable.0 in
    let h = c.requires.inner.0 in
    (w.record_room c.args.j h, fits c.args.query.now.trace.now w c.args.j h, omega arith)

pub node_key-right-requires : goal.node_key-right-requires
node_key-right-requires c =
    let w = c.requires.walkable.0 in
    let j = c.node_small-second.result in
    let h = right_inside c.args.query.now.trace.now w c.requires.inner.0 c.requires.inner.2 c.node_small-second.ensures in
    (w.record_room j h, omega (arith, fits c.args.query.now.trace.now w j h), c.requires.inner.1, bounded c.args.query.now.trace.now w j h)

pub node_key-left-requires : goal.node_key-left-requires
node_key-left-requires c =
    let w = c.requires.walkable.0 in
    let j = c.node_small-first.result in
    let h = left_inside c.args.query.now.trace.now w c.requires.inner.0 c.requires.inner.2 c.node_small-first.ensures in
    (w.record_room j h, omega (arith, fits c.args.query.now.trace.now w j h), c.requires.inner.1, bounded c.args.query.now.trace.now w j h)

-- the right child's key is not below its parent's
pub replace_least-requires : goal.replace_least-requires
replace_least-requires c =
    let r = c.requires.walkable in
    let m = length c.args.heap.now.keys.now in
    let over = right_over c.args.nodes.now m (samples_of c.args.query.now.trace.now) r.0 c.args.j c.requires.inner.0 c.requires.inner.2 in
    (r.1, omega (arith, c.requires.inner.3, c.node_key-right.ensures, c.node_small-second.ensures, over))

pub push-requires : goal.push-requires
push-requires c = omega (arith, c.requires.walkable.2, c.replace_least.ensures.room.long, c.replace_least.ensures.as_many)

pub returns : goal.returns
returns c =
    let nodes = c.args.nodes.now in
    let m = length c.args.heap.now.keys.now in
    let query = samples_of c.args.query.now.trace.now in
    let above = c.args.above in
    let w = c.requires.walkable.0 in
    let second = right_inside c.args.query.now.trace.now w c.requires.inner.0 c.requires.inner.2 c.node_small-second.ensures in
    let first = left_inside c.args.query.now.trace.now w c.requires.inner.0 c.requires.inner.2 c.node_small-first.ensures in
    let r = c.node_key-right.ensures ∙ (key_is nodes m query c.node_small-second.result above second ∙ ap (child_key (shape_in nodes m) query above) c.node_small-second.ensures) in
    let l = c.node_key-left.ensures ∙ (key_is nodes m query c.node_small-first.result above first ∙ ap (child_key (shape_in nodes m) query above) c.node_small-first.ensures) in
    let t = c.replace_least.ensures in
    let p = c.push.ensures in
    record {
      room = record { same = p.room.same ∙ t.room.same; long = p.room.long ∙ t.room.long };
      more = omega (arith, p.more, t.as_many);
      pushed = record {
        between = c.replace_least.new.self.keys.now;
        long = t.room.long;
        right = rw (← r) t.sunk;
        left = rw (← l, ← t.as_many) p.pushed;
      };
    }
