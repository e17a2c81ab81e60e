-- `nodes_fit::nodes::segments_fit` meets its contract: the part that is lent is node j's record.
use mathlib.Core.Path.{ap, ◌∙◌}
use lib.ListN.{length}
use Rattle.tables.proofs.Frame.{record_length}
use Rattle.nodes_fit.proofs.nodes.segments_fit.Goals as goal

pub segments_fit-requires : goal.segments_fit-requires
segments_fit-requires c =
    (ap length c.record_at.ensures ∙ record_length c.args.nodes.now c.args.j c.requires.0, c.requires.2)
