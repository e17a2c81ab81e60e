-- `nodes_fit::twins::ends_at` meets its contract: a field that holds a small number reads as that number.
use mathlib.Core.Path.{◌≡◌, sym, ap, ◌∙◌}
use native.Mathlib.Omega.{arith}
use lib.IntN.{pos}
use mir.Syntax.{w64}
use mir.Val.{to_z, of_z}
use mir.ValLaws.{to_z-of_z}
use borrow.Author.Rules.{sfits_of}
use borrow.Author.Tests.{eqb-true, le-ltb}
use Rattle.tables.specs.View.{small_of, segment_in}
use Rattle.nodes_fit.proofs.twins.ends_at.Goals as goal

pub returns : goal.returns
unfolding segment_in
returns c e =
    let a = c.args in
    let z = c.value_at.result in
    let p : of_z w64 z ≡ a.end = eqb-true (of_z w64 z) a.end e in
    let q : z ≡ pos a.end =
    sym (to_z-of_z w64 z (sfits_of {w = w64} {z = z} c.value_at.type_inv)) ∙ (ap (to_z w64) p ∙ to_z-of_z w64 (pos a.end) (record { sfits = omega (arith, c.requires.2) })) in
    ap small_of (sym c.value_at.ensures ∙ q) ∙ rw (le-ltb 65535 a.end (omega (arith, c.requires.2)))
