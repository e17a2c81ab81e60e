-- `figures_below::figures::segment_on` meets its contract: each segment starts behind the end of the one before it.
use mathlib.Core.Path.{refl, sym, ap, ◌∙◌}
use Prim.Native.Nat.{suc}
use native.Mathlib.Omega.{arith}
use native.Mathlib.Numerals.{add-one}
use Rattle.tables.specs.Layout.{segment_at}
use Rattle.tables.specs.View.{value_at}
use Rattle.tables.proofs.Views.{end_at}
use Rattle.figures_below.specs.Compared.{first_on}
use Rattle.figures_below.proofs.Steps.{small_most}
use Rattle.figures_below.proofs.figures.segment_on.Goals as goal

pub small_at-count-requires : goal.small_at-count-requires
small_at-count-requires c = (c.requires.0, omega arith)

pub loop-i-init : goal.loop-i-init
unfolding first_on
loop-i-init c = (c.small_at-count.ensures, omega (arith, c.small_at-count.ensures, c.requires.1), refl)

pub overflow_mul-i : goal.overflow_mul-i
overflow_mul-i c = omega (arith, c.loop-i.invariant.1)

pub overflow_add-i : goal.overflow_add-i
overflow_add-i c = omega (arith, c.loop-i.invariant.1)

pub small_at-end-requires : goal.small_at-end-requires
small_at-end-requires c = (c.requires.0, omega (arith, c.loop-i.invariant.1))

pub returns-then-end-last : goal.returns-then-end-last
returns-then-end-last c =
    let l = c.loop-i in (
      omega (arith, c.loop-i-test.true, l.invariant.0),
      sym l.invariant.2 ∙ c.if-from-first.true,
      sym (c.small_at-end.ensures ∙ sym (end_at c.args.«record».now c.loop-i.i)) ∙ c.if-end-last.true,
    )

pub overflow_add-from : goal.overflow_add-from
overflow_add-from c = omega (arith, c.small_at-end.ensures, small_most (value_at c.args.«record».now (segment_at c.loop-i.i)))

pub loop-i-preserved : goal.loop-i-preserved
unfolding first_on
loop-i-preserved c =
    let l = c.loop-i in
    (l.invariant.0, l.invariant.1, rw (add-one l.i) (add-one c.small_at-end.result ∙ ap suc (c.small_at-end.ensures ∙ sym (end_at c.args.«record».now c.loop-i.i))))
