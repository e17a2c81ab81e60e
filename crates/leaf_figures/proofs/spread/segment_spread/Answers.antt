-- `leaf_figures::spread::segment_spread` meets its contract: the figures are the segment's, and small enough for its term.
use mathlib.Core.Path.{◌≡◌, ap, ◌∙◌}
use Prim.Native.Nat.{suc, ◌+◌, ◌-◌}
use native.Mathlib.Omega.{arith}
use Rattle.segment.specs.Terms.{spread_term}
use Rattle.dstree.specs.Figures.{run}
use Rattle.dstree.specs.Adding.{spread_on}
use Rattle.leaf_figures.proofs.Taken.{least_back, greatest_back}
use Rattle.leaf_figures.proofs.spread.segment_spread.Goals as goal

pub spread_term-requires : goal.spread_term-requires
spread_term-requires c =
    let f = c.figures_along-f.result in
    let m = c.figures_along-f.ensures.small in
    rw (least_back f m, greatest_back f m) (
      omega arith,
      omega (arith, c.args.rows.traces.inside.narrow, c.requires.from_1, c.requires.to_n),
      omega (arith, m.least_sum_lem),
      omega (arith, m.greatest_sum_lem),
      omega (arith, m.greatest_scatter_lem),
    )

pub returns : goal.returns
unfolding spread_on
returns c =
    let f = c.figures_along-f.result in
    let m = c.figures_along-f.ensures.small in
    let on = run c.args.on.first c.args.on.last in
    let w : c.args.on.last - c.args.on.first + 1 ≡ suc c.args.on.last - c.args.on.first = omega (arith, c.requires.rises) in
    let e : c.spread_term.result ≡ spread_term (c.args.on.last - c.args.on.first + 1) f.least_sum f.greatest_sum f.greatest_scatter =
    rw (least_back f m, greatest_back f m) at c.spread_term.ensures.value in record { value = e ∙ (rw w (ap (spread_on on) c.figures_along-f.ensures.result_value)); size = c.spread_term.ensures.size }
