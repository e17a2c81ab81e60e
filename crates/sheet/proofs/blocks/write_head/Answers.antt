-- `sheet::blocks::write_head` meets its contract: number and kind, the letters, the measures, the check.
use mathlib.Core.Path.{ap, ◌∙◌}
use mathlib.Core.List.{List}
use Prim.Native.Nat.{ℕ}
use native.Mathlib.Omega.{arith}
use lib.ListN.{take}
use lib.Seq.{sets}
use Rattle.dstree.specs.Measures.{measures}
use Rattle.dstree.specs.Sheet.{checked_size, letters, measure_bytes, head_of, sealed}
use Rattle.dstree.proofs.SheetWritten.{head_length}
use Rattle.dstree.specs.SheetWidths.{format_by}
use Rattle.sheet.specs.Formats.{says_wide}
use Rattle.sheet.proofs.Laid.{block_is, head_put}
use Rattle.sheet.proofs.blocks.write_head.Goals as goal

pub returns : goal.returns
unfolding letters
returns c =
    let a = c.args in
    let m = measures a.n a.capacity a.leaf_size in
    let lettered = c.put_bytes.ensures ∙ ap (λ (x : List ℕ). sets x 4 letters) c.begin.ensures in
    let put =
    c.put_measures.ensures
    ∙ ap (λ (x : List ℕ). sets x 8 (measure_bytes m a.count)) lettered ∙ head_put m a.count _ in
    c.seal.ensures
    ∙ ap (λ (x : List ℕ). sealed (take checked_size x)) put
    ∙ block_is (format_by (says_wide a.format)).head_kind 0 (head_of m a.count) (omega (arith, head_length m a.count))
