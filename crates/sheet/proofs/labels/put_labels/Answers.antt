-- `sheet::labels::put_labels` meets its contract: after j turns the bytes of the first j labels are put.
use mathlib.Core.Path.{refl, ap, ◌∙◌}
use mathlib.Core.List.{List, flatten}
use Prim.Native.Nat.{ℕ, ◌+◌, ◌*◌}
use native.Mathlib.Omega.{arith}
use lib.ListN.{get_or}
use lib.Seq.{sets}
use Rattle.dstree.specs.Labels.{label_at}
use Rattle.dstree.specs.Sheet.{label_bytes}
use Rattle.sheet.proofs.LabelsCoded.{label_codes_put}
use Rattle.sheet.proofs.labels.put_labels.Goals as goal

pub loop-j-init : goal.loop-j-init
unfolding flatten
loop-j-init c = (refl, refl)

pub loop-j-preserved : goal.loop-j-preserved
loop-j-preserved c =
    let l = c.loop-j in
    let a = c.args in (
      c.put_label.ensures
          ∙ ap (λ (x : List ℕ). sets x (a.place + 6 * l.j) (label_bytes (label_at (get_or a.labels.now l.j 0)))) l.invariant.0
          ∙ label_codes_put a.bytes.now a.place a.labels.now l.j (omega arith),
      c.put_label.auto.bytes ∙ l.invariant.1,
    )
