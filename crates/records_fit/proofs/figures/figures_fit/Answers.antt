-- `records_fit::figures::figures_fit` meets its contract: its tests together are the definition's, so that the first that fails decides,
-- and else the last.
use mathlib.Core.Path.{◌≡◌, sym, ◌∙◌}
use mathlib.Core.Bool.{true, false}
use Prim.Native.Nat.{◌*◌}
use lib.IntN.{pos, neg_ℤ}
use lib.Signed.{le_z}
use mir.Syntax.{w64}
use mir.ValLaws.{to_z-of_z}
use Rattle.segment.specs.Limits.{sample_most}
use Rattle.records_fit.proofs.Limits.{segment_is}
use Rattle.records_fit.proofs.figures.figures_fit.Goals as goal

pub returns-then-not-in_order : goal.returns-then-not-in_order
returns-then-not-in_order c end =
    let a = c.args in
    let least_sum = to_z-of_z w64 a.least_sum c.ranges.least_sum in
    let greatest_sum = to_z-of_z w64 a.greatest_sum c.ranges.greatest_sum in
    let least_scatter = to_z-of_z w64 a.least_scatter c.ranges.least_scatter in
    let greatest_scatter = to_z-of_z w64 a.greatest_scatter c.ranges.greatest_scatter in
    let t1 : le_z a.least_sum a.greatest_sum ≡ false = cc in
    sym (segment_is a.w end a.least_sum a.greatest_sum a.least_scatter a.greatest_scatter c.requires ∙ rw t1)

pub returns-then-not-not_above : goal.returns-then-not-not_above
returns-then-not-not_above c end =
    let a = c.args in
    let least_sum = to_z-of_z w64 a.least_sum c.ranges.least_sum in
    let greatest_sum = to_z-of_z w64 a.greatest_sum c.ranges.greatest_sum in
    let least_scatter = to_z-of_z w64 a.least_scatter c.ranges.least_scatter in
    let greatest_scatter = to_z-of_z w64 a.greatest_scatter c.ranges.greatest_scatter in
    let t1 : le_z a.least_sum a.greatest_sum ≡ true = cc in
    let t2 : le_z a.greatest_sum (pos (a.w * sample_most)) ≡ false = cc in
    sym (segment_is a.w end a.least_sum a.greatest_sum a.least_scatter a.greatest_scatter c.requires ∙ rw (t1, t2))

pub returns-then-not-not_below : goal.returns-then-not-not_below
returns-then-not-not_below c end =
    let a = c.args in
    let least_sum = to_z-of_z w64 a.least_sum c.ranges.least_sum in
    let greatest_sum = to_z-of_z w64 a.greatest_sum c.ranges.greatest_sum in
    let least_scatter = to_z-of_z w64 a.least_scatter c.ranges.least_scatter in
    let greatest_scatter = to_z-of_z w64 a.greatest_scatter c.ranges.greatest_scatter in
    let t1 : le_z a.least_sum a.greatest_sum ≡ true = cc in
    let t2 : le_z a.greatest_sum (pos (a.w * sample_most)) ≡ true = cc in
    let t3 : le_z (neg_ℤ (pos (a.w * sample_most))) a.least_sum ≡ false = cc in
    sym (segment_is a.w end a.least_sum a.greatest_sum a.least_scatter a.greatest_scatter c.requires ∙ rw (t1, t2, t3))

pub returns-then-not-in_order-2 : goal.returns-then-not-in_order-2
returns-then-not-in_order-2 c end =
    let a = c.args in
    let least_sum = to_z-of_z w64 a.least_sum c.ranges.least_sum in
    let greatest_sum = to_z-of_z w64 a.greatest_sum c.ranges.greatest_sum in
    let least_scatter = to_z-of_z w64 a.least_scatter c.ranges.least_scatter in
    let greatest_scatter = to_z-of_z w64 a.greatest_scatter c.ranges.greatest_scatter in
    let t1 : le_z a.least_sum a.greatest_sum ≡ true = cc in
    let t2 : le_z a.greatest_sum (pos (a.w * sample_most)) ≡ true = cc in
    let t3 : le_z (neg_ℤ (pos (a.w * sample_most))) a.least_sum ≡ true = cc in
    let t4 : le_z (pos 0) a.least_scatter ≡ false = cc in
    sym (segment_is a.w end a.least_sum a.greatest_sum a.least_scatter a.greatest_scatter c.requires ∙ rw (t1, t2, t3, t4))

pub returns-then-not-in_order-3 : goal.returns-then-not-in_order-3
returns-then-not-in_order-3 c end =
    let a = c.args in
    let least_sum = to_z-of_z w64 a.least_sum c.ranges.least_sum in
    let greatest_sum = to_z-of_z w64 a.greatest_sum c.ranges.greatest_sum in
    let least_scatter = to_z-of_z w64 a.least_scatter c.ranges.least_scatter in
    let greatest_scatter = to_z-of_z w64 a.greatest_scatter c.ranges.greatest_scatter in
    let t1 : le_z a.least_sum a.greatest_sum ≡ true = cc in
    let t2 : le_z a.greatest_sum (pos (a.w * sample_most)) ≡ true = cc in
    let t3 : le_z (neg_ℤ (pos (a.w * sample_most))) a.least_sum ≡ true = cc in
    let t4 : le_z (pos 0) a.least_scatter ≡ true = cc in
    let t5 : le_z a.least_scatter a.greatest_scatter ≡ false = cc in
    sym (segment_is a.w end a.least_sum a.greatest_sum a.least_scatter a.greatest_scatter c.requires ∙ rw (t1, t2, t3, t4, t5))

pub returns : goal.returns
returns c end =
    let a = c.args in
    let least_sum = to_z-of_z w64 a.least_sum c.ranges.least_sum in
    let greatest_sum = to_z-of_z w64 a.greatest_sum c.ranges.greatest_sum in
    let least_scatter = to_z-of_z w64 a.least_scatter c.ranges.least_scatter in
    let greatest_scatter = to_z-of_z w64 a.greatest_scatter c.ranges.greatest_scatter in
    let t1 : le_z a.least_sum a.greatest_sum ≡ true = cc in
    let t2 : le_z a.greatest_sum (pos (a.w * sample_most)) ≡ true = cc in
    let t3 : le_z (neg_ℤ (pos (a.w * sample_most))) a.least_sum ≡ true = cc in
    let t4 : le_z (pos 0) a.least_scatter ≡ true = cc in
    let t5 : le_z a.least_scatter a.greatest_scatter ≡ true = cc in
    c.not_above-2.ensures ∙ rw greatest_scatter (sym (segment_is a.w end a.least_sum a.greatest_sum a.least_scatter a.greatest_scatter c.requires ∙ rw (t1, t2, t3, t4, t5)))
