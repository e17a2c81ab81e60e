-- `sheet::blocks::write_labels` meets its contract: number and kind, the labels behind them, the check.
use mathlib.Core.Path.{ap, ◌∙◌}
use mathlib.Core.List.{List}
use Prim.Native.Nat.{ℕ}
use native.Mathlib.Omega.{arith}
use lib.ListN.{take}
use lib.Seq.{sets}
use Rattle.dstree.specs.Sheet.{checked_size, label_kind, sealed}
use Rattle.sheet.specs.LabelCodes.{label_codes}
use Rattle.sheet.proofs.Laid.{block_is}
use Rattle.sheet.proofs.LabelsCoded.{label_codes_length}
use Rattle.sheet.proofs.blocks.write_labels.Goals as goal

pub returns : goal.returns
returns c =
    let a = c.args in
    let carried = label_codes a.labels.now in
    let begun = c.begin.ensures in
    let put = c.put_labels.ensures ∙ ap (λ (l : List ℕ). sets l 4 carried) begun in
    c.seal.ensures
    ∙ ap (λ (l : List ℕ). sealed (take checked_size l)) put
    ∙ block_is label_kind a.number carried (omega (arith, label_codes_length a.labels.now, c.requires.1))
