-- `leaf_order::leaves::next_leaf` meets its contract: the keys that wait stand for the same leaves in every turn, and the nodes below them
-- are the measure.
use mathlib.Core.Path.{◌≡◌, sym, ◌∙◌, subst}
use Prim.Native.Nat.{ℕ, ◌+◌, ◌-◌, ◌≤◌, ◌<◌}
use mathlib.Core.List.{List}
use native.Mathlib.Omega.{arith}
use lib.IntN.{ℤ}
use lib.ListN.{length, get_or}
use Rattle.integer.proofs.Lists.{All, all_none}
use Rattle.heap.specs.Heap.{Least}
use Rattle.heap.proofs.Popping.{least_at}
use Rattle.segment.specs.Stored.{samples_of}
use Rattle.dstree.specs.Measures.{Trace}
use Rattle.tables.specs.Layout.{kind_place}
use Rattle.tables.specs.Tables.{record_of}
use Rattle.tables.specs.View.{small_at, shape_in}
use Rattle.tables.proofs.Views.{shape_size}
use Rattle.best_first.specs.NodeKeys.{key_bound, key_number}
use Rattle.best_first.specs.Waiting.{nodes_waiting}
use Rattle.leaf_order.specs.Waits.{Walkable, keys_in, Waits, remaining, ChildrenPushed}
use Rattle.leaf_order.specs.Handed.{Past, Handed}
use Rattle.leaf_order.proofs.Records.{InnerAt, is_leaf, number_fits, inner_at}
use Rattle.leaf_order.proofs.Turns.{none_remain, least_number, least_past, KeyTaken, same_least, took_leaf}
use Rattle.leaf_order.proofs.Turns.{inner_room, inner_less, inner_waits, inner_same}
use Rattle.leaf_order.proofs.leaves.next_leaf.Goals as goal

-- ---- the node of the least key that waits
module _ {nodes : List ℤ} {places : ℕ} {query : Trace} (walkable : Walkable nodes places query) {n : ℕ} {work : List ℕ} {key : ℕ}
    (waits : Waits (shape_in nodes places) query n work) (long : length work ≡ places) (least : Least n work key) where
  number_in : key_number key < places
  number_in = omega (arith, least_number waits least.keys walkable.branching (shape_size nodes places ∙ sym long), long)

  -- an inner node: its children's keys wait in the stead of its own
  module _ (inner_kind : 1 ≤ small_at (record_of nodes (key_number key)) kind_place) where
    here : InnerAt nodes places (key_number key)
    here = inner_at nodes places query walkable (key_number key) number_in inner_kind

    -- there is room for one key more
    more : n < places
    more = omega (arith, inner_room waits least.keys walkable.branching here.is_inner, long)

  first_key : 0 < n → get_or work 0 0 ≡ key
  first_key some = least_at n work some waits.fits waits.heap key least.others least.keys

pub returns-then-is_past-clause-handed : goal.returns-then-is_past-clause-handed
unfolding Handed
returns-then-is_past-clause-handed c =
    let i = c.loop-x.invariant in
    let past =
    least_past i.0 c.in-Some.ensures.0.keys c.requires.0.branching c.args.limit (sym c.is_past.ensures ∙ c.if-is_past.true) in
    record { past = subst (All (Past c.args.limit)) i.1 past; same = i.1; waits = i.0 }

pub is_leaf-requires : goal.is_leaf-requires
is_leaf-requires c =
    let w = c.requires.0 in
    let i = c.loop-x.invariant in
    let j = key_number c.in-Some.x in
    let h = number_in w i.0 i.2 c.in-Some.ensures.0 in
    let fits = number_fits c.args.nodes.now (length c.args.heap.now.keys.now) (samples_of c.args.query.now.trace.now) w j h in
    (w.record_room j h, fits)

-- ---- a leaf: its key is taken out

pub returns-then-is_leaf-clause-handed : goal.returns-then-is_leaf-clause-handed
unfolding Handed
returns-then-is_leaf-clause-handed c =
    let w = c.requires.0 in
    let i = c.loop-x.invariant in
    let key = c.in-Some.x in
    let n = c.loop-x.heap.len in
    let least = c.in-Some.ensures.0 in
    let m = length c.args.heap.now.keys.now in
    let kind = c.if-is_leaf.ensures in
    let at = is_leaf c.args.nodes.now m (key_number key) (number_in w i.0 i.2 least) kind in
    let took : KeyTaken (shape_in c.args.nodes.now m) (samples_of c.args.query.now.trace.now) n c.loop-x.heap.keys.now key c.pop.new.self.keys.now =
    record {
      branching = w.branching;
      waits = i.0;
      long = c.pop.ensures.room.long;
      popped = same_least least c.pop.ensures.popped;
    } in
    let h = took_leaf took at c.args.limit (sym c.is_past.ensures ∙ c.if-is_past.false) in
    let left : c.pop.new.self.len ≡ n - 1 = omega (arith, c.pop.ensures.less) in
    rw left (record { first = sym i.1 ∙ h.first; inside = h.inside; is_leaf = h.is_leaf; within = h.within; waits = h.waits })

pub open_node-requires-clause-walkable : goal.open_node-requires-clause-walkable
open_node-requires-clause-walkable c =
    let w = c.requires.0 in
    let i = c.loop-x.invariant in
    let inner_kind : 1 ≤ small_at (record_of c.args.nodes.now (key_number c.in-Some.x)) kind_place =
    c.if-is_leaf.ensures in
    (rw i.2 w, c.in-Some.ensures.1, omega (arith, more w i.0 i.2 c.in-Some.ensures.0 inner_kind, i.2))

pub open_node-requires-clause-inner : goal.open_node-requires-clause-inner
open_node-requires-clause-inner c =
    let w = c.requires.0 in
    let i = c.loop-x.invariant in
    let least = c.in-Some.ensures.0 in
    let inner_kind : 1 ≤ small_at (record_of c.args.nodes.now (key_number c.in-Some.x)) kind_place =
    c.if-is_leaf.ensures in (
      omega (arith, number_in w i.0 i.2 least, i.2),
      omega arith,
      inner_kind,
      omega (arith, first_key w i.0 i.2 least c.in-Some.ensures.1),
    )

-- both keys are in
module _ {nodes : List ℤ} {places : ℕ} {query : Trace} (walkable : Walkable nodes places query) {n : ℕ} {work work' : List ℕ} {key : ℕ}
    (waits : Waits (shape_in nodes places) query n work) (long : length work ≡ places) (least : Least n work key)
    (inner_kind : 1 ≤ small_at (record_of nodes (key_number key)) kind_place) (some : 0 < n) (kept : length work' ≡ length work)
    (pushed : ChildrenPushed (shape_in nodes (length work)) query n (record_of nodes (key_number key)) (key_bound key) work work') where
  opened : ChildrenPushed (shape_in nodes places) query n (record_of nodes (key_number key)) (key_bound key) work work'
  opened =
      subst (λ (m : ℕ). ChildrenPushed (shape_in nodes m) query n (record_of nodes (key_number key)) (key_bound key) work work') long pushed

  less : nodes_waiting (shape_in nodes places) (keys_in (n + 1) work') < nodes_waiting (shape_in nodes places) (keys_in n work)
  less =
      let h = opened in
      inner_less waits least.keys walkable.branching (here walkable waits long least inner_kind).is_inner some h.between work' kept h.right h.left

  still_waits : Waits (shape_in nodes places) query (n + 1) work'
  still_waits =
      let h = opened in
      inner_waits waits least.keys walkable.branching (here walkable waits long least inner_kind).is_inner some h.between work' kept h.right h.left

  same : remaining (shape_in nodes places) query (n + 1) work' ≡ remaining (shape_in nodes places) query n work
  same =
      let h = opened in
      inner_same waits least.keys walkable.branching (here walkable waits long least inner_kind).is_inner some h.between work' kept h.right h.left

pub loop-x-smaller : goal.loop-x-smaller
loop-x-smaller c =
    let i = c.loop-x.invariant in
    let inner_kind : 1 ≤ small_at (record_of c.args.nodes.now (key_number c.in-Some.x)) kind_place =
    c.if-is_leaf.ensures in
    rw c.open_node.ensures.more
    (less c.requires.0 i.0 i.2 c.in-Some.ensures.0 inner_kind c.in-Some.ensures.1 c.open_node.ensures.room.long c.open_node.ensures.pushed)

pub loop-x-preserved : goal.loop-x-preserved
loop-x-preserved c =
    let w = c.requires.0 in
    let i = c.loop-x.invariant in
    let least = c.in-Some.ensures.0 in
    let o = c.open_node.ensures in
    let inner_kind : 1 ≤ small_at (record_of c.args.nodes.now (key_number c.in-Some.x)) kind_place =
    c.if-is_leaf.ensures in
    rw o.more (
      still_waits w i.0 i.2 least inner_kind c.in-Some.ensures.1 o.room.long o.pushed,
      same w i.0 i.2 least inner_kind c.in-Some.ensures.1 o.room.long o.pushed ∙ i.1,
      o.room.long ∙ i.2,
      o.room.same ∙ i.3,
    )

-- ---- no key waits

pub returns-clause-handed : goal.returns-clause-handed
unfolding Handed
returns-clause-handed c =
    let i = c.loop-x.invariant in
    let heap = c.loop-x.heap in
    let m = length c.args.heap.now.keys.now in
    let none =
    sym i.1 ∙ none_remain (shape_in c.args.nodes.now m) c.requires.0.branching (samples_of c.args.query.now.trace.now) heap.keys.now heap.len
    (omega (arith, c.in_default.ensures)) in
    record { past = subst (All (Past c.args.limit)) (sym none) all_none; same = i.1; waits = i.0 }
