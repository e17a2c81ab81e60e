-- `sheet_judging::labels::labels_zero` meets its contract. The loop's invariant: all labels are zero exactly if those from number i on are.
use mathlib.Core.Path.{refl, sym, ◌∙◌}
use native.Mathlib.Numerals.{add-one}
use native.Mathlib.Omega.{arith}
use Rattle.dstree.specs.Sheet.{labels_in_blocks}
use Rattle.sheet_judging.specs.LabelBlocks.{label_blocks}
use Rattle.sheet_judging.proofs.LabelsIn.{label_some, label_zero, labels_end, labels_length}
use Rattle.sheet_judging.proofs.labels.labels_zero.Goals as goal

pub loop-i-init : goal.loop-i-init
loop-i-init c = refl

pub read_label-requires : goal.read_label-requires
read_label-requires c = (c.requires.0, c.requires.1, omega (arith, c.requires.2), λ f. omega (arith, c.requires.3 f))

pub returns-then-read_label-ne0 : goal.returns-then-read_label-ne0
returns-then-read_label-ne0 c =
    let a = c.args in
    let t = c.loop-i in
    let blocks = label_blocks a.sheet.now in
    sym (t.invariant ∙ label_some (labels_in_blocks a.count blocks) t.i (omega (arith, labels_length a.count blocks))
    (λ e. c.if-read_label-ne0.true (c.read_label.ensures a.count c.loop-i-test.true ∙ e)))

pub loop-i-preserved : goal.loop-i-preserved
loop-i-preserved c =
    let a = c.args in
    let t = c.loop-i in
    let blocks = label_blocks a.sheet.now in
    rw (add-one t.i) (t.invariant ∙ label_zero (labels_in_blocks a.count blocks) t.i (omega (arith, labels_length a.count blocks))
    (sym (c.read_label.ensures a.count c.loop-i-test.true) ∙ c.if-read_label-ne0.false))

pub returns : goal.returns
returns c =
    let a = c.args in
    let blocks = label_blocks a.sheet.now in
    sym (c.loop-i.invariant ∙ labels_end (labels_in_blocks a.count blocks) c.loop-i.i (omega (arith, labels_length a.count blocks)))
