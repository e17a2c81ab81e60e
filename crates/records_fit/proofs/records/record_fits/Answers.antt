-- `records_fit::records::record_fits` meets its contract: the head, then the segments.
use mathlib.Core.Path.{◌≡◌, sym, ◌∙◌}
use mathlib.Core.Bool.{true, false}
use Rattle.records_fit.specs.Fits.{head_fits, record_fits}
use Rattle.records_fit.proofs.records.record_fits.Goals as goal

pub returns-then-not-head_fits : goal.returns-then-not-head_fits
unfolding record_fits
returns-then-not-head_fits c =
    let a = c.args in
    let e : head_fits a.n a.m a.j a.places.now ≡ false = sym c.head_fits.ensures ∙ c.if-not-head_fits.true in
    rw e

pub returns : goal.returns
unfolding record_fits
returns c =
    let a = c.args in
    let e : head_fits a.n a.m a.j a.places.now ≡ true = sym c.head_fits.ensures ∙ c.if-not-head_fits.false in
    rw e c.segments_fit.ensures
