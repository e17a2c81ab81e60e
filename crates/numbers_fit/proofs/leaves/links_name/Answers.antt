-- `numbers_fit::leaves::links_name` meets its contract: links that rise are marked, and what is marked then was marked before or is a link
-- (`Holding`).
use mathlib.Core.Path.{sym, ◌∙◌}
use native.Mathlib.Omega.{arith}
use Rattle.integer.proofs.Tests.{clash}
use Rattle.numbers_fit.proofs.Holding.{all_named, never_named, first_named}
use Rattle.numbers_fit.proofs.leaves.links_name.Goals as goal

pub returns-then-marks-ne1 : goal.returns-then-marks-ne1
returns-then-marks-ne1 c = let a = c.args in (λ e. clash (sym e), λ _ w. first_named a.links.now a.k a.m (λ p. omega (arith, p, c.if-marks-ne1.true)) w)

pub returns : goal.returns
returns c =
    let a = c.args in (
      λ e. all_named a.links.now a.k a.m c.mark_links.ensures (c.links_rise.ensures.0 c.if-not-links_rise.false) (omega (arith, c.if-marks-ne1.false)) (sym c.all_marked.ensures ∙ e),
      λ e. never_named a.links.now a.k a.m c.mark_links.ensures (sym c.all_marked.ensures ∙ e),
    )
