-- `leaf_figures::sides::widened` meets its contract: field by field what the four calls answer, the numbers with a sign being read back.
use mathlib.Core.Path.{◌≡◌, ap₂, ◌∙◌}
use mir.Syntax.{w64}
use mir.Facts.{to_z-of_z}
use Rattle.integer.specs.Words.{lesser, greater}
use Rattle.integer.proofs.Width.{of_mag, read}
use Rattle.leaf_figures.specs.Sides.{with_figures}
use Rattle.leaf_figures.proofs.sides.widened.Goals as goal

pub returns-in-Some : goal.returns-in-Some
unfolding with_figures
returns-in-Some c =
    let low = c.min in
    let high = c.max in
    let f = c.in-Some.f in
    let least = to_z-of_z {w = w64} {z = f.least_sum} (of_mag {w = w64} f.least_sum c.struct_told-1.given.0.1) in
    let greatest = to_z-of_z {w = w64} {z = f.greatest_sum} (of_mag {w = w64} f.greatest_sum c.struct_told-in-Some-1.given.1.0.1) in
    let sum = to_z-of_z {w = w64} c.ranges.sum in
    let e : read w64 low.result ≡ lesser f.least_sum c.args.sum = to_z-of_z (of_mag {w = w64} low.result low.type_inv) ∙ (low.ensures.value ∙ ap₂ lesser least sum) in
    let g : read w64 high.result ≡ greater f.greatest_sum c.args.sum = to_z-of_z (of_mag {w = w64} high.result high.type_inv) ∙ (high.ensures.value ∙ ap₂ greater greatest sum) in
    rw (e, g, c.min-in-Some.ensures, c.max-in-Some.ensures, c.in-Some.is)

pub returns-in-None : goal.returns-in-None
unfolding with_figures
returns-in-None c = rw (to_z-of_z c.ranges.sum, c.in-None.is)
