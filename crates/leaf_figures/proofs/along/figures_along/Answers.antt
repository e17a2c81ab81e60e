-- `leaf_figures::along::figures_along` meets its contract: what is taken is what the first traces of the list give.
use Rattle.std.specs.Prelude.{Option, Some, None}
use mathlib.Core.Path.{◌≡◌, refl, sym, ap, ap₂, subst, ◌∙◌}
use mathlib.Core.List.{foldl}
use Prim.Native.Nat.{ℕ}
use native.Mathlib.Omega.{arith}
use lib.IntN.{ℤ}
use lib.ListN.{get_or, take}
use Rattle.std.proofs.lemmas.List.{take_all}
use mir.Syntax.{w64}
use mir.Facts.{to_z-of_z}
use Rattle.integer.proofs.Width.{small}
use Rattle.integer.proofs.Lists.{In, in_get_or}
use Rattle.dstree.specs.Figures.{run}
use Rattle.leaf_figures.specs.Sides.{or_none, with_figures, SmallFigures, segment_by}
use Rattle.leaf_figures.specs.declared.sides.SideRange.{SideRange}
use Rattle.leaf_figures.proofs.Listing.{listed_run, listed_row}
use Rattle.leaf_figures.proofs.Taken.{with_small, fold_more, taking_at, along_taken}
use Rattle.leaf_figures.proofs.along.figures_along.Goals as goal

pub figures_at-own-requires : goal.figures_at-own-requires
figures_at-own-requires c =
    let a = c.args in
    let l = a.rows.traces in
    let t = c.from.result in
    let listed = subst (λ (u : ℕ). In u l.list.now) (sym c.from.ensures) (in_get_or l.list.now c.loop-number.number-index 0 c.loop-number-test.true) in
    (listed_run l a.on t listed c.requires, listed_row l a.rows.place.now a.on c.kept_on-kept.result t listed c.kept_on-kept.ensures)

pub loop-number-preserved : goal.loop-number-preserved
loop-number-preserved c =
    let traces = c.args.rows.traces in
    let l = c.loop-number in
    let own = c.figures_at-own in
    let r = own.result in
    let step = taking_at traces.samples.now traces.n (run c.args.on.first c.args.on.last) in
    let back = to_z-of_z (small {w = w64} {z = r.sum} (omega (arith, own.ensures.sum_small))) in
    let e : c.widened.result ≡ with_figures l.f r.sum r.scatter = c.widened.ensures ∙ ap₂ (with_figures l.f) back refl in
    let taken : Some c.widened.result ≡ step l.f (get_or traces.list.now l.number-index 0) =
    ap Some e ∙ (ap₂ (λ (s : ℤ) (v : ℕ). Some (with_figures l.f s v)) own.ensures.sum_is own.ensures.scatter_is ∙ ap (step l.f) c.from.ensures) in (
      taken ∙ (ap (λ (f : Option SideRange). step f (get_or traces.list.now l.number-index 0)) l.invariant.0
          ∙ sym (fold_more step None traces.list.now l.number-index c.loop-number-test.true)),
      subst SmallFigures (sym e) (with_small l.f r.sum r.scatter l.invariant.1 own.ensures.sum_small own.ensures.scatter_small),
    )

pub returns : goal.returns
returns c =
    let traces = c.args.rows.traces in
    let l = c.loop-number in
    let on = run c.args.on.first c.args.on.last in
    let step = taking_at traces.samples.now traces.n on in
    let all : take l.number-index traces.list.now ≡ traces.list.now = take_all l.number-index traces.list.now c.loop-number-test.false in
    let e = c.unwrap_or.ensures ∙ ap or_none (l.invariant.0 ∙ ap (foldl step None) all) in record {
      result_value = ap (segment_by on.last) e ∙ along_taken traces.samples.now traces.n on traces.list.now;
      small = subst SmallFigures (sym c.unwrap_or.ensures) l.invariant.1;
    }
