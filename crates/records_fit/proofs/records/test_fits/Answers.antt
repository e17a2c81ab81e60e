-- `records_fit::records::test_fits` meets its contract: the tests are the definition's, in its order.
use mathlib.Core.Path.{◌≡◌, refl, ap, ◌∙◌}
use Prim.Native.Nat.{◌+◌, ◌-◌}
use native.Mathlib.Omega.{arith}
use lib.IntN.{ℤ}
use mir.Syntax.{w64}
use mir.ValLaws.{to_z-of_z}
use Rattle.dstree.specs.Measures.{sample_limit}
use Rattle.dstree.specs.Node.{by_sum, by_scatter}
use Rattle.dstree.specs.WellFormed.{threshold_fits}
use Rattle.tables.specs.declared.kinds.Kind.{Kind}
use Rattle.tables.specs.declared.kinds.Kind.TheVariants as v
use Rattle.tables.specs.Kinds.{number_of}
use Rattle.records_fit.specs.Fits.{figure_named}
use Rattle.records_fit.proofs.Heads.{test_early, test_falls, test_late, test_threshold}
use Rattle.records_fit.proofs.records.test_fits.Goals as goal

pub returns-then-first-lt1 : goal.returns-then-first-lt1
returns-then-first-lt1 c left right = let a = c.args in test_early a.n a.first a.last (figure_named (number_of a.kind)) a.threshold left right (omega arith)

pub returns-then-last-first : goal.returns-then-last-first
returns-then-last-first c left right = let a = c.args in test_falls a.n a.first a.last (figure_named (number_of a.kind)) a.threshold left right (omega arith) (omega arith)

pub returns-then-n-last : goal.returns-then-n-last
returns-then-n-last c left right =
    let a = c.args in
    test_late a.n a.first a.last (figure_named (number_of a.kind)) a.threshold left right (omega arith) (omega arith) (omega arith)

pub returns-in-BySum : goal.returns-in-BySum
returns-in-BySum c left right =
    let a = c.args in
    c.sum_threshold_fits.ensures
    ∙ (ap (λ (z : ℤ). threshold_fits sample_limit by_sum (a.last + 1 - a.first) z) (to_z-of_z w64 a.threshold c.ranges.threshold)
    ∙ rw c.in-BySum.is (test_threshold a.n a.first a.last by_sum a.threshold left right (omega arith) (omega arith) (omega arith)))

pub returns-in_default : goal.returns-in_default
returns-in_default c left right =
    let a = c.args in
    let figure : figure_named (number_of a.kind) ≡ by_scatter = by a.kind c.in_default.not-BySum in
    c.scatter_threshold_fits.ensures
    ∙ (ap (λ (z : ℤ). threshold_fits sample_limit by_scatter (a.last + 1 - a.first) z) (to_z-of_z w64 a.threshold c.ranges.threshold)
    ∙ rw figure (test_threshold a.n a.first a.last by_scatter a.threshold left right (omega arith) (omega arith) (omega arith)))
  where
    by : (k : Kind) → (k ≡ v.BySum → ⊥) → figure_named (number_of k) ≡ by_scatter
    by v.Leaf f = refl
    by v.BySum f = absurd (f refl)
    by v.ByScatter f = refl
