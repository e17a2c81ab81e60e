-- `sheet::blocks::put_measures` meets its contract: four fields, one behind another.
use mathlib.Core.Path.{ap, ◌∙◌}
use mathlib.Core.List.{List}
use Prim.Native.Nat.{ℕ}
use lib.Seq.{sets}
use Rattle.dstree.specs.Sheet.{bytes_of}
use Rattle.sheet.proofs.blocks.put_measures.Goals as goal

pub returns : goal.returns
unfolding bytes_of
returns c =
    let a = c.args in
    let one = c.put_two.ensures in
    let two = c.put_two-2.ensures ∙ ap (λ (l : List ℕ). sets l 10 (bytes_of 2 a.capacity)) one in
    let three = c.put_two-3.ensures ∙ ap (λ (l : List ℕ). sets l 12 (bytes_of 2 a.leaf_size)) two in
    c.put_two-4.ensures ∙ ap (λ (l : List ℕ). sets l 14 (bytes_of 2 a.count)) three
