-- `sheet::blocks::begin` meets its contract: the zeros, two bytes over the first of them, and one behind these.
use mathlib.Core.Path.{ap, ap₂, ◌∙◌}
use mathlib.Core.List.{List}
use Prim.Native.Nat.{ℕ}
use lib.ListN.{set, length-set, replicate}
use lib.Seq.{sets}
use Rattle.dstree.specs.Sheet.{bytes_of, filled_to}
use Rattle.sheet.proofs.blocks.begin.Goals as goal

pub shape_of-part : goal.shape_of-part
shape_of-part c = length-set c.put_two.new.bytes 2 c.from.result ∙ c.put_two.auto.bytes ∙ c.zero.auto.part

pub returns : goal.returns
unfolding bytes_of filled_to
returns c =
    let zeros = c.zero.ensures ∙ ap (λ (n : ℕ). replicate n 0) c.requires in
    ap₂ (λ (l : List ℕ) (kind : ℕ). set l 2 kind)
    (c.put_two.ensures ∙ ap (λ (l : List ℕ). sets l 0 (bytes_of 2 c.args.number)) zeros)
    c.from.ensures
