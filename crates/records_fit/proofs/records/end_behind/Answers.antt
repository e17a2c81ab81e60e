-- `records_fit::records::end_behind` meets its contract: the field that it reads is the segment's first.
use mathlib.Core.Path.{ap, ◌∙◌}
use native.Mathlib.Omega.{arith}
use lib.IntN.{ℤ}
use mir.Syntax.{w64}
use mir.ValLaws.{to_z-of_z}
use borrow.Author.Rules.{sfits_of}
use Rattle.tables.specs.View.{small_of, segment_in}
use Rattle.records_fit.specs.Fits.{between}
use Rattle.records_fit.proofs.records.end_behind.Goals as goal

pub value_at-requires : goal.value_at-requires
value_at-requires c = (c.requires.0, omega arith)

pub between-requires : goal.between-requires
between-requires c = (c.requires.2, c.requires.3)

pub returns : goal.returns
unfolding segment_in
returns c =
    let v = c.value_at in
    c.between.ensures
    ∙ ap (λ (z : ℤ). between c.args.before c.args.n (small_of z)) (to_z-of_z w64 v.result (sfits_of {w = w64} {z = v.result} v.type_inv) ∙ v.ensures)
