-- `tables::kinds::node_kind` meets its contract: the kind is that of node j's record.
use mathlib.Core.Path.{ap, ◌∙◌}
use lib.ListN.{length}
use Rattle.tables.proofs.Frame.{record_length}
use Rattle.tables.proofs.kinds.node_kind.Goals as goal

pub kind_at-requires : goal.kind_at-requires
kind_at-requires c = ap length c.record_at.ensures ∙ record_length c.args.nodes.now c.args.j c.requires.0

pub returns : goal.returns
returns c = rw c.record_at.ensures at c.kind_at.ensures
