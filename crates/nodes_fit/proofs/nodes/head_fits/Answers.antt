-- `nodes_fit::nodes::head_fits` meets its contract: the part that is lent is node j's record.
use mathlib.Core.Path.{ap, ◌∙◌}
use lib.ListN.{length}
use Rattle.tables.proofs.Frame.{record_length}
use Rattle.nodes_fit.proofs.nodes.head_fits.Goals as goal

pub head_fits-requires : goal.head_fits-requires
head_fits-requires c =
    (ap length c.record_at.ensures ∙ record_length c.args.nodes.now c.args.j c.requires.0, c.requires.2)
