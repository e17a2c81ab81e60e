-- `tables::records::small_at` meets its contract: the field that is read is the one of the list.
use mathlib.Core.Path.{◌≡◌, ap, ◌∙◌}
use lib.IntN.{ℤ, pos}
use lib.ListN.{get_or}
use mir.Syntax.{w64}
use mir.Val.{to_z, of_z}
use mir.ValLaws.{to_z-of_z}
use borrow.Author.Rules.{sfits_of}
use Rattle.tables.specs.View.{small_of}
use Rattle.tables.proofs.records.small_at.Goals as goal

pub returns : goal.returns
returns c =
    let a = c.args in
    let z : ℤ = get_or a.«record».now a.place (pos 0) in
    let e : c.small.result ≡ small_of (to_z w64 (of_z w64 z)) = c.small.ensures in
    e ∙ ap small_of (to_z-of_z w64 z (sfits_of {w = w64} {z = z} c.small-arg-1.given))
