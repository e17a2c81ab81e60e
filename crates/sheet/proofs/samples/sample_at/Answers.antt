-- `sheet::samples::sample_at` meets its contract: what the library reads is what the definition has.
use mathlib.Core.Path.{refl, subst, ◌∙◌}
use Prim.Native.Nat.{◌+◌, ◌≤◌}
use native.Mathlib.Omega.{arith}
use lib.ListN.{length}
use mir.Syntax.{w16, w32}
use mir.Facts.{to_z-of_z}
use Rattle.integer.proofs.Width.{of_mag}
use Rattle.dstree.specs.Sheet.{part, narrow, wide}
use Rattle.sheet.specs.Formats.{format_by}
use Rattle.sheet.specs.declared.formats.Format.{Format}
use Rattle.sheet.proofs.Numbers.{number_is, four_is}
use Rattle.sheet.proofs.Decoded.{signed_is}
use Rattle.sheet.proofs.samples.sample_at.Goals as goal

pub returns-in-Narrow-clause-value : goal.returns-in-Narrow-clause-value
returns-in-Narrow-clause-value c =
    let bytes = c.args.bytes.now in
    let at = c.args.place in
    let room : at + 2 ≤ length bytes = subst (λ (f : Format). at + (format_by f).sample_bytes ≤ length bytes) c.in-Narrow.is c.requires in
    rw c.in-Narrow.is
    (to_z-of_z (of_mag {w = w32} c.from.result c.from.type_inv) ∙ c.from.ensures
    ∙ to_z-of_z (of_mag {w = w16} c.from_le_bytes.result c.from_le_bytes.type_inv) ∙ c.from_le_bytes.ensures
    ∙ signed_is narrow w16 32768 refl refl refl _ (part at 2 bytes) (omega (arith, number_is bytes at room)))

pub returns-in-Wide-clause-value : goal.returns-in-Wide-clause-value
returns-in-Wide-clause-value c =
    let bytes = c.args.bytes.now in
    let at = c.args.place in
    let room : at + 4 ≤ length bytes = subst (λ (f : Format). at + (format_by f).sample_bytes ≤ length bytes) c.in-Wide.is c.requires in
    rw c.in-Wide.is
    (to_z-of_z (of_mag {w = w32} c.from_le_bytes-in-Wide.result c.from_le_bytes-in-Wide.type_inv) ∙ c.from_le_bytes-in-Wide.ensures
    ∙ signed_is wide w32 2147483648 refl refl refl _ (part at 4 bytes) (omega (arith, four_is bytes at room)))
