-- `query_judging::is_short` meets its contract.
use mathlib.Core.Path.{ap, ◌∙◌}
use Prim.Native.Nat.{ℕ}
use lib.ListN.{length}
use lib.Dec.{ltb}
use Rattle.query_judging.specs.LeafCount.{leaf_count}
use Rattle.query_judging.proofs.is_short.Goals as goal

pub leaf_count-requires : goal.leaf_count-requires
leaf_count-requires c = rw (c.wide-m.ensures ∙ c.field.ensures) c.requires

pub returns : goal.returns
returns c =
    let a = c.args in
    ap (ltb (length a.trail.now))
    (c.leaf_count.ensures ∙ ap (λ (m : ℕ). leaf_count a.nodes.now m 0) (c.wide-m.ensures ∙ c.field.ensures))
