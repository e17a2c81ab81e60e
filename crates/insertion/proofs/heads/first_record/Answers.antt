-- `insertion::heads::first_record` meets its contract: what the three writers leave is the first leaf's record (`First`).
use mathlib.Core.Path.{◌≡◌, ap, ◌∙◌}
use mathlib.Core.List.{List, ◌++◌}
use Prim.Native.Nat.{ℕ, ◌≤◌}
use native.Mathlib.Nat.{mul-le-mul}
use native.Mathlib.Omega.{arith}
use lib.IntN.{ℤ, pos}
use lib.ListN.{length, drop}
use mir.Syntax.{w64}
use mir.Facts.{to_z-of_z}
use borrow.Author.Rules.{rules}
use Rattle.integer.proofs.Width.{read, small}
use Rattle.segment.specs.Figures.{sum, scatter}
use Rattle.segment.specs.Limits.{scatter_most, scatter_room}
use Rattle.segment.specs.Stored.{samples_of}
use Rattle.segment.proofs.Stored.{samples_length}
use Rattle.dstree.specs.Measures.{most_samples}
use Rattle.tables.specs.Layout.{head_places, record_places}
use Rattle.tables.specs.Tables.{filled}
use Rattle.insertion.specs.Widening.{with_segment}
use Rattle.insertion.specs.Heads.{leaf_head, segment_of_parts}
use Rattle.insertion.proofs.First.{first_is}
use Rattle.insertion.proofs.heads.first_record.Goals as goal

pub write_segment-requires : goal.write_segment-requires
write_segment-requires c =
    let f = c.figures_of-f in
    let w : ℕ = length c.args.trace.now in
    let few : w ≤ most_samples = c.requires.1 in
    let m : f.result.scatter ≤ scatter_most w = f.ensures.size in
    let most : f.result.scatter ≤ scatter_room = omega (arith, mul-le-mul few few) in
    (search rules, omega arith, omega arith, most, most)

pub returns : goal.returns
returns c =
    let f = c.figures_of-f.result in
    let r = c.args.«record».now in
    let words = c.args.trace.now in
    let x = samples_of words in
    let zero = c.fill_first in
    let zeros : zero.new.table ≡ filled record_places (pos 0) r = zero.ensures in
    let headed : c.write_leaf_head.new.record ≡ leaf_head 1 0 ++ drop head_places (filled record_places (pos 0) r) =
    c.write_leaf_head.ensures ∙ ap (λ (l : List ℤ). leaf_head 1 0 ++ drop head_places l) zeros in
    let z : read w64 f.sum ≡ sum x =
    to_z-of_z (small {w = w64} {z = f.sum} (omega (arith, c.figures_of-f.ensures.sum.1, c.requires.1))) ∙ c.figures_of-f.ensures.sum.0 in
    let v : f.scatter ≡ scatter x = c.figures_of-f.ensures.scatter in
    let e : c.write_segment.new.record ≡ with_segment c.write_leaf_head.new.record 0
    (segment_of_parts (length words) (read w64 f.sum) (read w64 f.sum) f.scatter f.scatter) = c.write_segment.ensures in
    e ∙ rw (headed, z, v, ← samples_length words) (first_is r x c.requires.0)
