-- `pair_search::leaf_ahead::read_ahead` meets its contract: what is read is the leaf's list (`OneLeaf`).
use mathlib.Core.Path.{◌≡◌, refl, sym, ◌∙◌}
use mathlib.Core.List.{List}
use Prim.Native.Nat.{ℕ, ◌≤◌, ◌<◌}
use native.Mathlib.Omega.{arith}
use lib.ListN.{length}
use Rattle.segment.specs.Stored.{samples_of}
use Rattle.segment.proofs.Stored.{samples_length}
use Rattle.dstree.specs.Measures.{Trace}
use Rattle.tables.specs.Tables.{Tables, node_count}
use Rattle.reading.proofs.Meaning.{LeafInTables}
use Rattle.leaf_order.specs.Waits.{Walkable}
use Rattle.leaf_order.proofs.Records.{number_fits, leaf_kind}
use Rattle.search.specs.Lent.{stored_tables}
use Rattle.search.proofs.Facts.{walkable, leaf_at}
use Rattle.search.proofs.Turns.{stored_as}
use Rattle.pair_search.specs.Reading.{MayRead}
use Rattle.std.specs.Prelude.{Some}
use Rattle.leaf_order.specs.declared.leaves.Leaf.{Leaf}
use Rattle.pair_search.specs.Sides.{next_of}
use Rattle.pair_search.specs.declared.sides.Side.{Side}
use Rattle.pair_search.proofs.OneLeaf.{out_few, trail_place, one_read}
use Rattle.pair_search.proofs.leaf_ahead.read_ahead.Goals as goal

-- the leaf ahead
module _ {t : Tables} {query : Trace} {trail list : List ℕ} {side : Side} (may : MayRead t query trail list side) {leaf : Leaf}
    (ahead : side.ahead ≡ Some leaf) where
  leaf_is : next_of side ≡ leaf
  leaf_is = rw ahead

  inside : leaf.number < node_count t
  inside = rw leaf_is at may.inside

  walks : Walkable t.nodes (node_count t) query
  walks = walkable t query (length trail) may.ready

  fits : leaf.number ≤ 8191
  fits = number_fits t.nodes (node_count t) query walks leaf.number inside

  at_leaf : LeafInTables t leaf.number
  at_leaf =
      leaf_at t query (length trail) may.ready leaf.number inside
      (leaf_kind t.nodes (node_count t) query walks leaf.number inside (rw leaf_is at may.is_leaf))

pub node_small-first-requires : goal.node_small-first-requires
node_small-first-requires c =
    let may = c.requires in
    let is = c.in-Some.is in
    ((walks may is).record_room c.in-Some.leaf.number (inside may is), fits may is, omega arith)

pub read_leaf-r-requires : goal.read_leaf-r-requires
read_leaf-r-requires c =
    let a = c.args in
    let may = c.requires in
    let t = stored_tables a.stored in (
      stored_as t c.in-Some.leaf.number (at_leaf may c.in-Some.is) (length a.query.now) c.wide-count.result c.node_small-first.result
          (sym (samples_length a.query.now) ∙ may.ready.same_length) (c.wide-count.ensures ∙ c.field.ensures) c.node_small-first.ensures,
      refl,
      may.room,
    )

pub overflow_cast-trail : goal.overflow_cast-trail
overflow_cast-trail c = omega (arith, fits c.requires c.in-Some.is)

pub bounds-trail-out : goal.bounds-trail-out
bounds-trail-out c = omega (arith, trail_place _ _ _ _ _ c.requires)

pub overflow_add-result : goal.overflow_add-result
overflow_add-result c = record { fits = omega (arith, out_few _ _ _ _ _ c.requires) }

pub overflow_add-result-2 : goal.overflow_add-result-2
overflow_add-result-2 c =
    let may = c.requires in
    let few : c.read_leaf-r.result.traces ≤ 4096 =
    omega (arith, c.read_leaf-r.ensures.size, c.wide-count.ensures ∙ c.field.ensures, (at_leaf may c.in-Some.is).stored.few) in
    record { fits = omega (arith, few, may.few, out_few _ _ _ _ _ may) }

pub returns : goal.returns
returns c =
    let a = c.args in
    let may = c.requires in
    let r = c.read_leaf-r in
    let t = stored_tables a.stored in
    let e = leaf_is may c.in-Some.is in
    let read =
    one_read t (samples_of a.query.now) a.trail.now a.list.now a.side may (rw e (at_leaf may c.in-Some.is)) (length a.query.now)
    c.wide-count.result c.node_small-first.result r.result.traces r.result.listed r.new.list
    (sym (samples_length a.query.now) ∙ may.ready.same_length)
    (c.wide-count.ensures ∙ c.field.ensures) (rw e c.node_small-first.ensures) r.ensures.list r.auto.list r.ensures.traces r.ensures.size in
    rw e at read
