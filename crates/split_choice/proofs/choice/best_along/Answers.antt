-- `split_choice::choice::best_along` meets its contract: what is found, and what the segments that are left find, is the best of all.
use mathlib.Core.Path.{ap, subst, ◌∙◌}
use mathlib.Core.List.{◌∷◌}
use Prim.Native.Nat.{ℕ, ◌+◌, ◌<◌}
use native.Mathlib.Omega.{arith}
use lib.ListN.{get_or, drop}
use Rattle.std.specs.Prelude.{Option}
use Rattle.dstree.specs.Adding.{spread}
use Rattle.leaf_figures.specs.Ends.{ends_of, EndsRoom}
use Rattle.leaf_figures.specs.Rows.{stored_of}
use Rattle.leaf_figures.specs.declared.ends.Ends.{Ends}
use Rattle.leaf_figures.specs.declared.listed.Listed.{Listed}
use Rattle.leaf_figures.proofs.Placed.{end_at, no_end}
use Rattle.split_choice.specs.declared.choice.Choice.{Choice}
use Rattle.candidate.proofs.Sided.{list_traces}
use Rattle.split_choice.proofs.Going.{Going, SegmentTurn, going_start, going_end, turn}
use Rattle.split_choice.proofs.choice.best_along.Goals as goal

module _ (l : Listed) (e : Ends) (room : EndsRoom e) (found : Option Choice) (first i : ℕ) (here : i < e.count)
    (g : Going l.n (stored_of l) (ends_of e) l.list.now found first (drop i (ends_of e))) where
  -- what a turn of the loop starts from
  going : Going l.n (stored_of l) (ends_of e) l.list.now found first (get_or e.at i 0 ∷ drop (i + 1) (ends_of e))
  going = subst (Going l.n (stored_of l) (ends_of e) l.list.now found first) (end_at e.at e.count (omega (arith, room.places, room.few)) i here) g

  turn_at : SegmentTurn l.n (stored_of l) (ends_of e) l.list.now first (get_or e.at i 0) (drop (i + 1) (ends_of e))
  turn_at = turn l.n (stored_of l) (ends_of e) l.list.now going

pub loop-i-init : goal.loop-i-init
loop-i-init c = let l = c.args.rows.traces in going_start l.n (stored_of l) (ends_of c.args.e) l.list.now c.requires.1

pub try_segment-found-requires : goal.try_segment-found-requires
try_segment-found-requires c =
    let l = c.args.rows.traces in
    let e = c.args.e in
    let p = c.requires in
    let t = turn_at l e p.0 c.loop-i.found c.loop-i.first c.loop-i.i c.loop-i-test.true c.loop-i.invariant in (
      record {
        room = p.0;
        rise = p.1;
        spread_is = c.spread_along.ensures.value ∙ ap (spread (ends_of e)) (list_traces l.samples.now l.n l.k l.list.now l.inside.below);
        size = c.spread_along.ensures.size;
      },
      t.inside,
      t.cuts,
      omega (arith, p.0.few, c.loop-i-test.true),
      c.loop-i.invariant.sound,
    )

pub overflow_add-first : goal.overflow_add-first
overflow_add-first c =
    let l = c.args.rows.traces in
    omega (arith, (turn_at l c.args.e c.requires.0 c.loop-i.found c.loop-i.first c.loop-i.i c.loop-i-test.true c.loop-i.invariant).inside.to_n, l.inside.narrow)

pub loop-i-preserved : goal.loop-i-preserved
loop-i-preserved c =
    let l = c.args.rows.traces in
    let e = c.args.e in
    let next = c.try_segment-found in
    (turn_at l e c.requires.0 c.loop-i.found c.loop-i.first c.loop-i.i c.loop-i-test.true c.loop-i.invariant).on c.loop-i.found next.result
    (going l e c.requires.0 c.loop-i.found c.loop-i.first c.loop-i.i c.loop-i-test.true c.loop-i.invariant) next.ensures.is next.ensures.sound

pub returns : goal.returns
returns c =
    let l = c.args.rows.traces in
    let e = c.args.e in
    let p = c.requires.0 in
    let none_left = no_end e.at e.count (omega (arith, p.places, p.few)) c.loop-i.i c.loop-i-test.false in
    let g = subst (Going l.n (stored_of l) (ends_of e) l.list.now c.loop-i.found c.loop-i.first) none_left c.loop-i.invariant in
    record { result_value = going_end l.n (stored_of l) (ends_of e) l.list.now g; sound = c.loop-i.invariant.sound }
