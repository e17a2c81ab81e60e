-- `well_formed::one_by_one` meets its contract: the first test that fails decides, and else the last.
use mathlib.Core.Bool.{false}
use mathlib.Core.Path.{◌≡◌, sym, ◌∙◌}
use mathlib.Core.Bool.{true}
use Rattle.records_fit.specs.Fits.{records_fit, all_kept}
use Rattle.numbers_fit.specs.Tests.{children_once}
use Rattle.well_formed.specs.Whole.{tree_fits}
use Rattle.well_formed.proofs.one_by_one.Goals as goal

pub returns-then-not-records_fit : goal.returns-then-not-records_fit
unfolding tree_fits
returns-then-not-records_fit c = rw (sym c.records_fit.ensures ∙ c.if-not-records_fit.true)

pub returns-then-not-ends_kept : goal.returns-then-not-ends_kept
unfolding tree_fits
returns-then-not-ends_kept c =
    let a = c.args in
    let records : records_fit a.n a.m a.nodes.now ≡ true = sym c.records_fit.ensures ∙ c.if-not-records_fit.false in
    let ends : all_kept a.m a.nodes.now ≡ false = sym c.ends_kept.ensures ∙ c.if-not-ends_kept.true in
    rw (records, ends)

pub returns-then-not-children_once : goal.returns-then-not-children_once
unfolding tree_fits
returns-then-not-children_once c =
    let a = c.args in
    let records : records_fit a.n a.m a.nodes.now ≡ true = sym c.records_fit.ensures ∙ c.if-not-records_fit.false in
    let ends : all_kept a.m a.nodes.now ≡ true = sym c.ends_kept.ensures ∙ c.if-not-ends_kept.false in
    let children : children_once a.m a.nodes.now ≡ false = sym c.children_once.ensures ∙ c.if-not-children_once.true in
    rw (records, ends, children)

pub returns : goal.returns
unfolding tree_fits
returns c =
    let a = c.args in
    let records : records_fit a.n a.m a.nodes.now ≡ true = sym c.records_fit.ensures ∙ c.if-not-records_fit.false in
    let ends : all_kept a.m a.nodes.now ≡ true = sym c.ends_kept.ensures ∙ c.if-not-ends_kept.false in
    let children : children_once a.m a.nodes.now ≡ true = sym c.children_once.ensures ∙ c.if-not-children_once.false in
    c.leaves_hold.ensures ∙ rw (records, ends, children)
