-- `tables::records::record_at` meets its contract: the part is node j's record.
use Rattle.tables.proofs.Frame.{part_is}
use Rattle.tables.proofs.records.record_at.Goals as goal

pub returns : goal.returns
returns c =
    part_is c.args.nodes.now c.args.j c.record_start-a.result c.record_end-e.result c.record_start-a.ensures c.record_end-e.ensures
