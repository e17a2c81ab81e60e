-- `splitting::splits::write_sides` meets its contract: one record, then the next.
use mathlib.Core.Path.{◌≡◌, ap₂, ◌∙◌}
use mathlib.Core.List.{List}
use Prim.Native.Nat.{ℕ, ◌+◌}
use native.Mathlib.Numerals.{add-one}
use lib.IntN.{ℤ}
use Rattle.tables.specs.Tables.{with_record}
use Rattle.leaf_figures.specs.Ends.{ends_of}
use Rattle.splitting.specs.Leaves.{side_record}
use Rattle.splitting.proofs.splits.write_sides.Goals as goal

pub returns : goal.returns
returns c =
    let g = c.args in
    let left = side_record g.leaf g.marks.now 1 (ends_of g.e) in
    let right = side_record g.leaf g.marks.now 2 (ends_of g.e) in
    let e : c.write_leaf-2.new.nodes ≡ with_record c.write_leaf.new.nodes (g.count + 1) right = c.write_leaf-2.ensures in
    e ∙ ap₂ (λ (l : List ℤ) (j : ℕ). with_record l j right) c.write_leaf.ensures (add-one g.count)
