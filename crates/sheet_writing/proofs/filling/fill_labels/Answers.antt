-- `sheet_writing::filling::fill_labels` meets its contract: before turn i, i blocks of labels stand.
use mathlib.Core.Path.{◌≡◌, refl, ap, subst, ◌∙◌}
use mathlib.Core.List.{List}
use Prim.Native.Nat.{ℕ, ◌+◌}
use native.Mathlib.Omega.{arith}
use lib.ListN.{take}
use Rattle.sheet_writing.specs.Filled.{with_block, label_block, with_label_blocks}
use Rattle.sheet_writing.proofs.BlockByBlock.{none_labelled, labels_more}
use Rattle.sheet_writing.proofs.filling.fill_labels.Goals as goal

pub loop-i-init : goal.loop-i-init
loop-i-init c = let a = c.args in (none_labelled (take a.total a.labels.now) a.first a.sheet.now, refl)

pub fill_label_block-requires : goal.fill_label_block-requires
fill_label_block-requires c = (omega arith, omega arith, omega arith, omega arith)

pub loop-i-preserved : goal.loop-i-preserved
loop-i-preserved c =
    let l = c.loop-i in
    let a = c.args in
    let all = take a.total a.labels.now in (
      c.fill_label_block.ensures
          ∙ ap (λ (x : List ℕ). with_block x (a.first + l.i) (label_block all a.first l.i)) l.invariant.0
          ∙ labels_more all a.first a.sheet.now l.i (omega arith),
      c.fill_label_block.auto.sheet ∙ l.invariant.1,
    )

pub returns : goal.returns
returns c =
    let l = c.loop-i in
    let a = c.args in
    let e : l.i ≡ a.labelled = omega arith in
    subst (λ (k : ℕ). l.sheet ≡ with_label_blocks a.sheet.now a.first k (take a.total a.labels.now)) e l.invariant.0
