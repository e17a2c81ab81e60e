-- `insertion::heads::first_leaf` meets its contract: the part that is lent is record 0, and what lies behind it comes back as it was.
use mathlib.Core.Path.{refl, ap, ◌∙◌}
use Rattle.tables.specs.Tables.{with_record}
use Rattle.tables.proofs.Frame.{put_is}
use Rattle.insertion.proofs.heads.first_leaf.Goals as goal

pub returns : goal.returns
returns c =
    let nodes = c.args.nodes.now in record {
      nodes_after = put_is nodes 0 c.record_start-a.result c.record_end-e.result c.record_start-a.ensures c.record_end-e.ensures c.first_record.new.record
          ∙ ap (with_record nodes 0) c.first_record.ensures;
      linked = refl;
    }
