-- `leaf_figures::ends::with_cut` meets its contract: the ends before the place stay, the new one is put there, and after each turn one more
-- of those behind it has moved up.
use mathlib.Core.Path.{◌≡◌, subst, ◌∙◌}
use Prim.Native.Nat.{ℕ, ◌+◌}
use native.Mathlib.Omega.{arith}
use lib.ListN.{get_or, take, length-set}
use Rattle.leaf_figures.specs.Ends.{place_in}
use Rattle.leaf_figures.proofs.Placed.{EndsMoved, moved_none, moved_more, moved_all}
use Rattle.leaf_figures.proofs.ends.with_cut.Goals as goal

pub place_of-place-requires : goal.place_of-place-requires
place_of-place-requires c = c.requires.0

pub offset_bounds-at-place : goal.offset_bounds-at-place
offset_bounds-at-place c = omega (arith, c.place_of-place.ensures.inside, c.requires.1)

pub bounds-at-place : goal.bounds-at-place
bounds-at-place c = omega (arith, c.place_of-place.ensures.inside, c.requires.1)

pub loop-i-init : goal.loop-i-init
loop-i-init c =
    let place = c.place_of-place in (
      omega arith,
      place.ensures.inside,
      length-set c.args.e.at place.result c.args.middle ∙ c.requires.0.places,
      moved_none c.args.e.at c.args.middle place.result (omega (arith, c.requires.0.places, c.requires.1, place.ensures.inside)),
    )

pub offset_bounds-from-i : goal.offset_bounds-from-i
offset_bounds-from-i c = omega (arith, c.requires.1)

pub bounds-from-i : goal.bounds-from-i
bounds-from-i c = omega (arith, c.requires.1)

pub overflow_add-at : goal.overflow_add-at
overflow_add-at c = omega (arith, c.requires.1)

pub offset_bounds-at-i : goal.offset_bounds-at-i
offset_bounds-at-i c = omega (arith, c.requires.1)

pub bounds-at-i : goal.bounds-at-i
bounds-at-i c = omega (arith, c.requires.1)

pub loop-i-preserved : goal.loop-i-preserved
loop-i-preserved c =
    let from = c.args.e.at in
    let l = c.loop-i in (
      omega arith,
      omega arith,
      length-set l.at (l.i + 1) (get_or from l.i 0) ∙ l.invariant.2,
      moved_more from c.args.middle c.place_of-place.result l.at l.i l.invariant.0 (omega (arith, c.requires.0.places, c.requires.1))
          (omega (arith, l.invariant.2, c.requires.1)) l.invariant.3,
    )

pub overflow_add-result : goal.overflow_add-result
overflow_add-result c = omega (arith, c.requires.1)

pub returns : goal.returns
returns c =
    let from = c.args.e.at in
    let l = c.loop-i in
    let place = c.place_of-place in
    let p = place_in c.args.middle (take c.args.e.count from) in
    let all : l.i ≡ c.args.e.count = omega arith in
    let m : EndsMoved from c.args.middle p l.at c.args.e.count =
    subst (λ (i : ℕ). EndsMoved from c.args.middle p l.at i) all (subst (λ (q : ℕ). EndsMoved from c.args.middle q l.at l.i) place.ensures.value l.invariant.3) in record {
      result_value = moved_all from c.args.middle c.args.e.count l.at (omega (arith, place.ensures.value, place.ensures.inside)) m;
      room = record
          { places = l.invariant.2; few = omega (arith, c.requires.1) };
    }
