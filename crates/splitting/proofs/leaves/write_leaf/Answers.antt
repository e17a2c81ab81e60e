-- `splitting::leaves::write_leaf` meets its contract: the part is node j's record, and zeros, the head and the segments are the record of a
-- new leaf (`Written`).
use mathlib.Core.Path.{◌≡◌, sym, ap, ap₂, ◌∙◌}
use mathlib.Core.List.{List, ◌++◌}
use Prim.Native.Nat.{ℕ, ◌-◌}
use native.Mathlib.Omega.{arith}
use lib.IntN.{ℤ, pos}
use lib.ListN.{length, get_or, take, drop}
use lib.Seq.{length-take-le}
use Rattle.dstree.specs.Measures.{Trace}
use Rattle.dstree.specs.Node.{Segment}
use Rattle.dstree.specs.Adding.{segments_of}
use Rattle.tables.specs.Layout.{head_places, record_places}
use Rattle.tables.specs.Tables.{with_record, filled}
use Rattle.leaf_figures.specs.Sides.{side_numbers, side_traces}
use Rattle.leaf_figures.specs.Ends.{ends_of}
use Rattle.tables.proofs.Frame.{part_is, put_is, record_length}
use Rattle.insertion.specs.Heads.{leaf_head}
use Rattle.splitting.specs.Leaves.{with_segments}
use Rattle.splitting.proofs.Walks.{first_of_some}
use Rattle.splitting.proofs.Written.{segments_length, leaf_is}
use Rattle.splitting.proofs.leaves.write_leaf.Goals as goal

pub returns : goal.returns
returns c =
    let a = c.args in
    let nodes = a.nodes.now in
    let from = c.record_start.result in
    let to = c.record_end.result in
    let starts = c.record_start.ensures in
    let ends = c.record_end.ensures in
    let r : List ℤ = take (to - from) (drop from nodes) in
    let size : length r ≡ record_places = ap length (part_is nodes a.j from to starts ends) ∙ record_length nodes a.j c.requires.0 in
    let side = c.requires.2 in
    let numbers : List ℕ = side_numbers a.leaf a.marks.now a.mark in
    let traces : List Trace = side_traces a.leaf a.marks.now a.mark in
    let segments : List Segment = segments_of (ends_of a.e) traces in
    let count : length segments ≡ a.e.count = segments_length 1 (ends_of a.e) traces ∙ length-take-le a.e.count a.e.at (omega (arith, side.room.places, side.room.few)) in
    let first : c.first_on_side-first.result ≡ get_or numbers 0 0 = c.first_on_side-first.ensures.value ∙ first_of_some numbers a.leaf.k 0 side.some in
    let headed : c.write_leaf_head.new.record ≡ leaf_head (length segments) (get_or numbers 0 0) ++ drop head_places (filled record_places (pos 0) r) =
    c.write_leaf_head.ensures
    ∙ (ap (λ (l : List ℤ). leaf_head a.e.count c.first_on_side-first.result ++ drop head_places l) c.fill_first.ensures
    ∙ ap₂ (λ (m u : ℕ). leaf_head m u ++ drop head_places (filled record_places (pos 0) r)) (sym count) first) in
    put_is nodes a.j from to starts ends c.write_segments.new.record
    ∙ ap (with_record nodes a.j)
    (c.write_segments.ensures
    ∙ (ap (λ (l : List ℤ). with_segments l segments) headed ∙ leaf_is r segments (get_or numbers 0 0) size (omega (arith, count, side.room.few))))
