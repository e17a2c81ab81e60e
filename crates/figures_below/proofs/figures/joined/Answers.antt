-- `figures_below::figures::joined` meets its contract: field by field what the four calls answer, the numbers with a sign being read back.
use mathlib.Core.Path.{◌≡◌, ap₂, ◌∙◌}
use native.Mathlib.Omega.{arith}
use mir.Syntax.{w64}
use mir.Facts.{to_z-of_z}
use Rattle.integer.specs.Words.{lesser, greater}
use Rattle.integer.proofs.Width.{of_mag, read}
use Rattle.figures_below.specs.Compared.{joined_figures}
use Rattle.figures_below.proofs.figures.joined.Goals as goal

pub returns : goal.returns
unfolding joined_figures
returns c =
    let a = c.args.a in
    let b = c.args.b in
    let low = c.min in
    let high = c.max in
    let a1 = to_z-of_z {w = w64} {z = a.least_sum} (of_mag {w = w64} a.least_sum (omega arith)) in
    let b1 = to_z-of_z {w = w64} {z = b.least_sum} (of_mag {w = w64} b.least_sum (omega arith)) in
    let a2 = to_z-of_z {w = w64} {z = a.greatest_sum} (of_mag {w = w64} a.greatest_sum (omega arith)) in
    let b2 = to_z-of_z {w = w64} {z = b.greatest_sum} (of_mag {w = w64} b.greatest_sum (omega arith)) in
    let e : read w64 low.result ≡ lesser a.least_sum b.least_sum =
    to_z-of_z (of_mag {w = w64} low.result low.type_inv) ∙ (low.ensures.value ∙ ap₂ lesser a1 b1) in
    let f : read w64 high.result ≡ greater a.greatest_sum b.greatest_sum =
    to_z-of_z (of_mag {w = w64} high.result high.type_inv) ∙ (high.ensures.value ∙ ap₂ greater a2 b2) in
    rw (e, f, c.min-2.ensures, c.max-2.ensures)
