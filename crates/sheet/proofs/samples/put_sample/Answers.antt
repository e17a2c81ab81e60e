-- `sheet::samples::put_sample` meets its contract: the bytes that the library makes of a sample are the definition's.
use mathlib.Core.Path.{ap, ◌∙◌}
use lib.IntN.{ℤ, negsuc}
use lib.ListN.{take}
use lib.Seq.{sets}
use mir.Syntax.{w32}
use mir.Val.{of_z}
use mir.Facts.{to_z-of_z}
use Rattle.std.specs.Int.{to_le_bytes, int_max}
use Rattle.integer.proofs.Width.{of_mag}
use Rattle.sheet.proofs.Coded.{wide_bytes, narrow_bytes}
use Rattle.sheet.proofs.samples.put_sample.Goals as goal

pub returns-in-Narrow : goal.returns-in-Narrow
returns-in-Narrow c =
    let low = c.max.result in
    let near = to_z-of_z (of_mag {w = w32} low c.max.type_inv) ∙ c.max.ensures.value
    ∙ ap (λ (z : ℤ). int_max z (negsuc 65535)) (to_z-of_z c.ranges.sample) in
    let bytes = c.to_le_bytes.ensures ∙ ap (λ (z : ℤ). to_le_bytes w32 (of_z w32 z)) near in
    rw c.in-Narrow.is (c.put_bytes.ensures ∙ ap (sets c.args.bytes.now c.args.place) (ap (take 2) bytes ∙ narrow_bytes c.args.sample))

pub returns-in-Wide : goal.returns-in-Wide
returns-in-Wide c =
    let bytes = c.to_le_bytes-in-Wide.ensures ∙ ap (λ (z : ℤ). to_le_bytes w32 (of_z w32 z)) (to_z-of_z c.ranges.sample) in
    rw c.in-Wide.is (c.put_bytes-in-Wide.ensures ∙ ap (sets c.args.bytes.now c.args.place) (bytes ∙ wide_bytes c.args.sample))
