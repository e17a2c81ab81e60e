-- `records_fit::records::segment_fits` meets its contract: the four fields that it reads are those of the segment.
use mathlib.Core.Path.{◌∙◌}
use mir.Syntax.{w64}
use mir.ValLaws.{to_z-of_z}
use borrow.Author.Rules.{sfits_of}
use Rattle.tables.specs.Layout.{segment_at}
use Rattle.tables.specs.View.{small_at}
use Rattle.records_fit.proofs.Segments.{figures_are}
use Rattle.records_fit.proofs.records.segment_fits.Goals as goal

pub returns : goal.returns
returns c =
    let v1 = c.value_at-least_sum in
    let v2 = c.value_at-greatest_sum in
    let v3 = c.value_at-least_scatter in
    let v4 = c.value_at-greatest_scatter in
    c.figures_fit.ensures (small_at c.args.places.now (segment_at c.args.i))
    ∙ figures_are c.args.w c.args.places.now c.args.i
    (to_z-of_z w64 v1.result (sfits_of {w = w64} {z = v1.result} v1.type_inv) ∙ v1.ensures)
    (to_z-of_z w64 v2.result (sfits_of {w = w64} {z = v2.result} v2.type_inv) ∙ v2.ensures)
    (to_z-of_z w64 v3.result (sfits_of {w = w64} {z = v3.result} v3.type_inv) ∙ v3.ensures)
    (to_z-of_z w64 v4.result (sfits_of {w = w64} {z = v4.result} v4.type_inv) ∙ v4.ensures)
