-- `insertion::way::goes_left` meets its contract: the test is the one that the record's four fields name, and the trace's figures on its
-- run are what it compares.
use Rattle.std.specs.Prelude.{if◌then◌else◌}
use mathlib.Core.Path.{◌≡◌, ap₂, ◌∙◌}
use Prim.Native.Nat.{◌≤◌}
use native.Mathlib.Omega.{arith}
use lib.IntN.{ℤ, pos, ◌*ℤ◌}
use lib.Signed.{le_z}
use mir.Syntax.{w64}
use mir.Facts.{to_z-of_z}
use borrow.Author.Rules.{sfits_of}
use Rattle.integer.proofs.Width.{read, small}
use Rattle.segment.specs.Roots.{floor_root}
use Rattle.segment.specs.Stored.{samples_of}
use Rattle.segment.proofs.Stored.{samples_length}
use Rattle.dstree.specs.Figures.{run, width}
use Rattle.tables.specs.Layout.{run_first_place, run_last_place, threshold_place}
use Rattle.tables.specs.View.{value_at, small_at, test_in}
use Rattle.tables.proofs.Compared.{left_is}
use Rattle.prefixes.proofs.Cut.{sum_most_lem}
use Rattle.insertion.proofs.way.goes_left.Goals as goal

-- the run's figures: at most 256 samples have a small sum, and it is handed on as it is
pub is_left-requires : goal.is_left-requires
is_left-requires c =
    let on = c.requires.on in
    let narrow : width (run c.small_at-first.result c.small_at-last.result) ≤ 256 =
    omega (arith, on.from_1, on.to_n, c.args.trace.now.summed.few, samples_length c.args.trace.now.trace.now, c.small_at-first.ensures, c.small_at-last.ensures) in
    let most = sum_most_lem narrow c.figures_on-own.ensures.size.0 in
    let sum = c.figures_on-own.result.sum in
    let sum_read : read w64 sum ≡ sum = to_z-of_z (small {w = w64} {z = sum} (omega (arith, most))) in
    rw sum_read (omega (arith, most))

pub returns : goal.returns
unfolding test_in
returns c =
    let r = c.args.«record».now in
    let x = samples_of c.args.trace.now.trace.now in
    let g = c.figures_on-own in
    let value = c.value_at-threshold in
    let first : c.small_at-first.result ≡ small_at r run_first_place = c.small_at-first.ensures in
    let last : c.small_at-last.result ≡ small_at r run_last_place = c.small_at-last.ensures in
    let on = c.requires.on in
    let narrow : width (run c.small_at-first.result c.small_at-last.result) ≤ 256 =
    omega (arith, on.from_1, on.to_n, c.args.trace.now.summed.few, samples_length c.args.trace.now.trace.now, c.small_at-first.ensures, c.small_at-last.ensures) in
    let sum_read : read w64 g.result.sum ≡ g.result.sum = to_z-of_z (small {w = w64} {z = g.result.sum} (omega (arith, sum_most_lem narrow g.ensures.size.0))) in
    let threshold : read w64 value.result ≡ value_at r threshold_place = to_z-of_z (sfits_of {w = w64} {z = value.result} value.type_inv) ∙ value.ensures in
    c.is_left.ensures
    ∙ ap₂ (λ (z t : ℤ). le_z (pos 2 *ℤ (if c.is_kind-by_scatter.result then pos (floor_root g.result.scatter) else z)) t) sum_read threshold
    ∙ left_is c.small_at-first.result c.small_at-last.result x g.ensures.sum g.ensures.scatter c.is_kind-by_scatter.result (value_at r threshold_place)
    ∙ rw (c.is_kind-by_scatter.ensures, first, last)
