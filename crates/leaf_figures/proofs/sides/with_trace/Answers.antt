-- `leaf_figures::sides::with_trace` meets its contract: the figures that it adds are those of the trace, which are small.
use Rattle.std.specs.Prelude.{Some}
use mathlib.Core.Path.{◌≡◌, refl, sym, ap, ap₂, subst, ◌∙◌}
use native.Mathlib.Omega.{arith}
use mir.Syntax.{w64}
use mir.Facts.{to_z-of_z}
use Rattle.integer.proofs.Width.{small}
use Rattle.dstree.specs.Figures.{run, sum_on, scatter_on}
use Rattle.tables.proofs.Parts.{run_of_words}
use Rattle.leaf_figures.specs.Sides.{with_figures, SmallFigures}
use Rattle.leaf_figures.proofs.Taken.{with_small}
use Rattle.leaf_figures.proofs.sides.with_trace.Goals as goal

pub returns-then-not-on_side : goal.returns-then-not-on_side
returns-then-not-on_side c = record { value = rw c.if-not-on_side.true refl; small = c.requires.1 }

pub figures_on-own-requires : goal.figures_on-own-requires
figures_on-own-requires c = run_of_words c.trace_at.result.now c.trace_at.ensures c.requires.0

pub returns : goal.returns
returns c =
    let own = c.figures_on-own in
    let r = own.result in
    let f = c.args.so_far in
    let on = run c.args.on.first c.args.on.last in
    let back = to_z-of_z (small {w = w64} {z = r.sum} (omega (arith, own.ensures.sum.1))) in
    let e : c.widened.result ≡ with_figures f r.sum r.scatter = c.widened.ensures ∙ ap₂ (with_figures f) back refl in
    let small = with_small f r.sum r.scatter c.requires.1 own.ensures.sum.1 own.ensures.scatter.1 in
    record {
      value = rw c.if-not-on_side.false
          (ap Some (e ∙ ap₂ (with_figures f) (own.ensures.sum.0 ∙ ap (sum_on on) c.trace_at.ensures) (own.ensures.scatter.0 ∙ ap (scatter_on on) c.trace_at.ensures)));
      small = subst SmallFigures (sym e) small;
    }
