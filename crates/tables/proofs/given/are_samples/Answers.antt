-- `tables::given::are_samples` meets its contract: the samples passed are within the limits.
use mathlib.Core.Path.{sym, ap, ◌∙◌}
use native.Mathlib.Omega.{arith}
use lib.Dec.{ltb}
use lib.ListN.{get_or}
use lib.Seq.{take_all}
use lib.IntN.{ℤ, pos}
use lib.Signed.{mag}
use borrow.Author.Tests.{ltb-true}
use Rattle.segment.specs.Limits.{sample_most}
use Rattle.segment.proofs.Limits.{within_more}
use Rattle.segment.proofs.Steps.{read_plain}
use Rattle.dstree.specs.Measures.{sample_limit}
use Rattle.tables.proofs.Samples.{one_outside, within_samples}
use Rattle.tables.proofs.given.are_samples.Goals as goal

pub loop-z-init : goal.loop-z-init
loop-z-init c = (omega arith, λ i h. omega arith)

pub returns-then-not-is_sample : goal.returns-then-not-is_sample
unfolding sample_limit
returns-then-not-is_sample c =
    let trace = c.args.trace.now in
    let said = c.is_sample.ensures ∙ ap (λ (z : ℤ). ltb (mag z) sample_most) (read_plain trace c.loop-z.z-index c.is_sample-arg-1.given) in
    sym (one_outside trace c.loop-z.z-index c.loop-z-test.true (sym said ∙ c.if-not-is_sample.true))

pub loop-z-preserved : goal.loop-z-preserved
loop-z-preserved c =
    let trace = c.args.trace.now in
    let said = c.is_sample.ensures ∙ ap (λ (z : ℤ). ltb (mag z) sample_most) (read_plain trace c.loop-z.z-index c.is_sample-arg-1.given) in (
      omega arith,
      within_more trace c.loop-z.z-index c.loop-z.invariant.1
          (ltb-true (mag (get_or trace c.loop-z.z-index (pos 0))) sample_most (sym said ∙ c.if-not-is_sample.false)),
    )

pub returns : goal.returns
unfolding sample_limit
returns c =
    let l = c.loop-z in
    let trace = c.args.trace.now in
    sym (within_samples trace (rw (take_all l.z-index trace (omega arith)) at l.invariant.1))
