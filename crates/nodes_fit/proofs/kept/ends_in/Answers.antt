-- `nodes_fit::kept::ends_in` meets its contract. The loop's invariant: all ends of the parent are the child's exactly if what is left
-- of them is among what is left of the child's, of which there is as much.
use mathlib.Core.Path.{sym, ◌∙◌}
use native.Mathlib.Omega.{arith}
use Rattle.nodes_fit.proofs.Ends.{too_few, merged_done, merged_same, merged_other, merged_short}
use Rattle.nodes_fit.proofs.kept.ends_in.Goals as goal

pub returns-then-count-many : goal.returns-then-count-many
returns-then-count-many c =
    too_few c.args.child.now c.args.count c.args.parent.now c.args.many c.requires.1 c.requires.3 c.if-count-many.true

pub loop-p-preserved-then-end_at : goal.loop-p-preserved-then-end_at
loop-p-preserved-then-end_at c =
    merged_same c.loop-p.invariant c.loop-p-test.true (sym c.end_at.ensures ∙ (c.if-end_at.true ∙ c.end_at-in-loop-p.ensures))

pub returns-then-count-p : goal.returns-then-count-p
returns-then-count-p c =
    merged_short c.loop-p.invariant c.loop-p-test.true (λ e. c.if-end_at.false (c.end_at.ensures ∙ (e ∙ sym c.end_at-in-loop-p.ensures))) c.if-count-p.true

pub loop-p-preserved : goal.loop-p-preserved
loop-p-preserved c =
    merged_other c.loop-p.invariant c.loop-p-test.true (λ e. c.if-end_at.false (c.end_at.ensures ∙ (e ∙ sym c.end_at-in-loop-p.ensures))) (omega (arith, c.if-count-p.false))

pub returns : goal.returns
returns c = merged_done c.loop-p.invariant c.loop-p-test.false
