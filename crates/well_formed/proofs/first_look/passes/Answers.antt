-- `well_formed::first_look::passes` meets its contract: with records that passed, the links decide.
use mathlib.Core.Path.{◌≡◌, refl, sym, ◌∙◌}
use mathlib.Core.Bool.{true}
use Rattle.numbers_fit.specs.Tests.{leaves_hold}
use Rattle.well_formed.specs.Whole.{tree_fits}
use Rattle.numbers_fit.proofs.Holding.{links_decide}
use Rattle.well_formed.proofs.first_look.passes.Goals as goal

pub returns : goal.returns
unfolding tree_fits
returns c e =
    let a = c.args in
    let w = c.records_pass.ensures (c.if-not-records_pass.false) in
    let leaves : leaves_hold a.m a.nodes.now a.k a.links.now ≡ true =
    sym (links_decide a.nodes.now a.m (record { n = a.n; short = c.requires.short; fit = w.fit; room = c.requires.room; low = c.requires.low })
    a.links.now a.k c.requires.few w.some w.once w.firsts refl c.links_name.ensures) ∙ e in
    rw (w.fit, w.kept, w.once, leaves)
