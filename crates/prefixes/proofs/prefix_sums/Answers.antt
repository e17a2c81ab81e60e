-- `prefixes::prefix_sums` meets its contract: after i turns the places 0 to i hold the sums of the first samples (`Passed`).
use mathlib.Core.Path.{ap, ap₂, ◌∙◌}
use native.Mathlib.Omega.{arith}
use Prim.Native.Nat.{◌+◌}
use lib.IntN.{ℤ, pos, ◌+ℤ◌}
use lib.ListN.{get_or}
use mir.Syntax.{w64}
use mir.Val.{SFits}
use mir.Facts.{to_z-of_z}
use Rattle.std.proofs.Common.{rules}
use Rattle.integer.specs.Words.{square}
use Rattle.integer.proofs.Width.{of_mag, small}
use Rattle.segment.proofs.Steps.{read_word}
use Rattle.prefixes.proofs.Passed.{passed_none, sum_size, squares_size, passed_more, passed_all}
use Rattle.prefixes.proofs.prefix_sums.Goals as goal

pub loop-i-init : goal.loop-i-init
loop-i-init c = passed_none c.args.trace.now c.args.sums.now c.args.squares.now (search rules) (search rules)

pub with_sample-requires : goal.with_sample-requires
with_sample-requires c =
    let l = c.loop-i in
    let size = sum_size l.invariant in
    rw (to_z-of_z (small {w = w64} {z = get_or l.sums l.i (pos 0)} (omega (arith, size, l.invariant.inside, c.requires)))) (omega (arith, size, l.invariant.inside, c.requires))

pub with_square-requires : goal.with_square-requires
with_square-requires c =
    let l = c.loop-i in
    omega (arith, squares_size l.invariant, l.invariant.inside, c.requires)

pub loop-i-preserved : goal.loop-i-preserved
loop-i-preserved c =
    let l = c.loop-i in
    let here = read_word c.args.trace.now l.i (search rules) in
    let a = get_or l.sums l.i (pos 0) in
    let sum : SFits w64 a = small (omega (arith, sum_size l.invariant, l.invariant.inside, c.requires)) in
    let t = c.with_sample in
    passed_more l.invariant c.requires c.loop-i-test.true _ _
    (to_z-of_z (of_mag {w = w64} t.result t.type_inv) ∙ (t.ensures ∙ ap₂ ◌+ℤ◌ (to_z-of_z sum) here))
    (c.with_square.ensures ∙ ap (λ (z : ℤ). get_or l.squares l.i 0 + square z) here)

pub returns : goal.returns
returns c =
    let l = c.loop-i in
    passed_all l.invariant c.requires c.loop-i-test.false
