-- `figures_below::figures::recorded` meets its contract: its fields are the record's, as they are read back.
use mathlib.Core.Path.{ap, ◌∙◌}
use native.Mathlib.Omega.{arith}
use mir.Syntax.{w64}
use mir.Facts.{to_z-of_z}
use Rattle.integer.proofs.Width.{of_mag}
use Rattle.tables.specs.View.{scatter_in, segment_in}
use Rattle.figures_below.proofs.figures.recorded.Goals as goal

pub value_at-requires : goal.value_at-requires
value_at-requires c = (c.requires.0, omega arith)

pub value_at-requires-2 : goal.value_at-requires-2
value_at-requires-2 c = (c.requires.0, omega arith)

pub value_at-requires-3 : goal.value_at-requires-3
value_at-requires-3 c = (c.requires.0, omega arith)

pub value_at-requires-4 : goal.value_at-requires-4
value_at-requires-4 c = (c.requires.0, omega arith)

pub returns : goal.returns
unfolding segment_in
returns c =
    let v1 = c.value_at in
    let v2 = c.value_at-2 in
    let v3 = c.value_at-3 in
    let v4 = c.value_at-4 in
    let a = to_z-of_z (of_mag {w = w64} v1.result v1.type_inv) ∙ v1.ensures in
    let b = to_z-of_z (of_mag {w = w64} v2.result v2.type_inv) ∙ v2.ensures in
    let d = c.scatter.ensures ∙ ap scatter_in (to_z-of_z (of_mag {w = w64} v3.result v3.type_inv) ∙ v3.ensures) in
    let e = c.scatter-2.ensures ∙ ap scatter_in (to_z-of_z (of_mag {w = w64} v4.result v4.type_inv) ∙ v4.ensures) in
    rw (a, b, d, e)
