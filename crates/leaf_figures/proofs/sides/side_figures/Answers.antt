-- `leaf_figures::sides::side_figures` meets its contract: what is taken, and what the rest of the walk takes, is what all of the walk
-- takes. The links rise, and the measure is how far the walk is from k.
use Rattle.std.specs.Prelude.{Option, None}
use mathlib.Core.Path.{◌≡◌, sym, ap, subst, ap₂, ◌∙◌}
use mathlib.Core.List.{foldl}
use Prim.Native.Nat.{ℕ, ◌<◌}
use native.Mathlib.Omega.{arith}
use Rattle.dstree.specs.Figures.{run}
use Rattle.tables.specs.Walk.{stored_in, numbers_of}
use Rattle.tables.proofs.Listed.{met_from, met_start, behind_rises, fold_more, fold_end, stored_at, run_in}
use Rattle.leaf_figures.specs.Sides.{or_none, SmallFigures, segment_by}
use Rattle.leaf_figures.specs.declared.sides.SideRange.{SideRange}
use Rattle.leaf_figures.proofs.Taken.{side_taking, side_taken}
use Rattle.leaf_figures.proofs.sides.side_figures.Goals as goal

pub loop-t-init : goal.loop-t-init
loop-t-init c =
    let a = c.args in
    let p = c.requires.0 in (
      omega (arith, p.inside),
      ap (foldl (side_taking (stored_in a.leaf.samples.now a.leaf.n a.leaf.k) (run a.on.first a.on.last) a.marks.now a.mark) None) (met_start a.leaf.links.now a.leaf.k a.leaf.head p.inside),
      record { least_sum_lem = omega arith; greatest_sum_lem = omega arith; least_scatter_lem = omega arith; greatest_scatter_lem = omega arith },
    )

pub bounds-marks-t : goal.bounds-marks-t
bounds-marks-t c = omega (arith, c.requires.0.few)

pub with_trace-f-requires : goal.with_trace-f-requires
with_trace-f-requires c =
    let p = c.requires in
    let l = c.loop-t in
    (run_in p.0 p.1 l.t c.loop-t-test.true, l.invariant.2)

pub behind-t-requires : goal.behind-t-requires
behind-t-requires c = omega (arith, c.requires.0.links_room)

pub loop-t-smaller : goal.loop-t-smaller
loop-t-smaller c =
    let p = c.requires.0 in
    let l = c.loop-t in
    omega (
      arith,
      c.behind-t.ensures,
      behind_rises c.args.leaf.links.now
          c.args.leaf.k p.rising l.t c.loop-t-test.true,
    )

pub loop-t-preserved : goal.loop-t-preserved
loop-t-preserved c =
    let a = c.args in
    let l = c.loop-t in
    let h : l.t < a.leaf.k = c.loop-t-test.true in
    let stored = stored_in a.leaf.samples.now a.leaf.n a.leaf.k in
    let on = run a.on.first a.on.last in
    let step = side_taking stored on a.marks.now a.mark in
    let e : c.with_trace-f.result ≡ step l.f l.t = rw (stored_at a.leaf.samples.now a.leaf.n a.leaf.k l.t h) c.with_trace-f.ensures.value in (
      omega (arith, c.behind-t.ensures, behind_rises a.leaf.links.now a.leaf.k c.requires.0.rising l.t h),
      ap₂ (λ (f : Option SideRange) (u : ℕ). foldl step f (met_from a.leaf.links.now a.leaf.k u)) e c.behind-t.ensures
          ∙ (sym (fold_more step a.leaf.links.now a.leaf.k c.requires.0.rising l.f l.t h) ∙ l.invariant.1),
      c.with_trace-f.ensures.small,
    )

pub returns : goal.returns
returns c =
    let a = c.args in
    let l = c.loop-t in
    let stored = stored_in a.leaf.samples.now a.leaf.n a.leaf.k in
    let on = run a.on.first a.on.last in
    let step = side_taking stored on a.marks.now a.mark in
    let e : l.f ≡ foldl step None (numbers_of a.leaf.links.now a.leaf.k a.leaf.head) = sym (fold_end step a.leaf.links.now a.leaf.k l.f l.t c.loop-t-test.false) ∙ l.invariant.1 in record {
      result_value = ap (segment_by on.last) (c.unwrap_or.ensures ∙ ap or_none e) ∙ side_taken stored on a.marks.now a.mark (numbers_of a.leaf.links.now a.leaf.k a.leaf.head);
      small = subst SmallFigures (sym c.unwrap_or.ensures) l.invariant.2;
    }
