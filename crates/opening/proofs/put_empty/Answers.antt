-- `opening::put_empty` meets its contract: the tables have room for every place that it writes.
use mathlib.Core.Path.{◌≡◌, ap, ◌∙◌}
use Prim.Native.Nat.{ℕ, ◌*◌}
use lib.IntN.{pos}
use Rattle.dstree.specs.Measures.{measures, samples_needed, records_needed, links_needed, work_needed, labels_needed}
use Rattle.tables.specs.Layout.{record_places}
use Rattle.tables.specs.Tables.{labelled_tables, filled}
use Rattle.opening.proofs.Answered.{opened_tables}
use Rattle.opening.proofs.put_empty.Goals as goal

pub fill_first-requires-3 : goal.fill_first-requires-3
unfolding links_needed
fill_first-requires-3 c = c.requires.room.long.links_long

pub fill_first-requires-4 : goal.fill_first-requires-4
unfolding records_needed work_needed
fill_first-requires-4 c = rw (c.records_needed-records.ensures c.args.n c.args.leaf_size) c.requires.room.work_room

pub fill_first-requires-5 : goal.fill_first-requires-5
unfolding labels_needed
fill_first-requires-5 c = c.requires.room.labels_room

pub returns : goal.returns
unfolding links_needed records_needed work_needed labels_needed
returns c =
    let a = c.args in
    let m = measures a.n a.capacity a.leaf_size in
    let samples_are : c.samples_needed.result ≡ samples_needed m = c.samples_needed.ensures a.leaf_size in
    let records_are : c.records_needed-records.result ≡ records_needed m = c.records_needed-records.ensures a.n a.leaf_size in
    opened_tables (labelled_tables a.control.now a.samples.now a.nodes.now a.links.now a.work.now a.labels.now) m _ _ _ _ _ _
    c.write_control.ensures
    (c.fill_first.ensures ∙ ap (λ (x : ℕ). filled x (pos 0) a.samples.now) samples_are)
    (c.fill_first-2.ensures ∙ ap (λ (x : ℕ). filled (x * record_places) (pos 0) a.nodes.now) records_are)
    c.fill_first-3.ensures
    (c.fill_first-4.ensures ∙ ap (λ (x : ℕ). filled x 0 a.work.now) records_are)
    c.fill_first-5.ensures
