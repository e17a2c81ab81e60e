-- `leaf_figures::rows::column_of` meets its contract: the column that is answered has passed the tests.
use Rattle.std.specs.Prelude.{Option, Some, unwrap_or, ◌&&◌, slice_get}
use Rattle.std.proofs.lemmas.Option.{slice_get_read}
use Rattle.std.proofs.lemmas.Bool.Decides.{nat_tests}
use mathlib.Core.Path.{◌≡◌, refl, ap, ap₂, ◌∙◌}
use mathlib.Core.Bool.{true}
use Prim.Native.Nat.{ℕ}
use native.Mathlib.Omega.{arith}
use lib.Dec.{eqb}
use Rattle.leaf_figures.specs.declared.table.Run.{Run}
use Rattle.leaf_figures.proofs.rows.column_of.Goals as goal

both_same : (a b c d : ℕ) → true ≡ (eqb a b && eqb c d) → (a ≡ b) × (c ≡ d)
both_same a b c d e = (grind (arith, nat_tests), grind (arith, nat_tests))

same_run : (a b : Run) → true ≡ (eqb a.first b.first && eqb a.last b.last) → a ≡ b
same_run a b e = let s = both_same a.first b.first a.last b.last e in ap₂ (λ (x y : ℕ). record { first = x; last = y }) s.0 s.1

pub returns-then-eq : goal.returns-then-eq
returns-then-eq c =
    let f = c.in_ok-guess.field-0 in
    let column = c.in_ok-column.column.now in
    let look = c.in_ok-column.ensures.lookup.3 in
    let is = slice_get_read c.args.columns.now _ f column refl look.0 (look.1 column) in
    let on = same_run c.in_ok-column-2.field-0 c.args.on c.if-eq.ensures in
    record { at_guess = ap (λ (g : Option ℕ). slice_get c.args.columns.now (unwrap_or g 0)) c.in_ok-guess.was ∙ is; of_run = c.in_ok-column-2.was ∙ ap Some on }
