-- `tables::records::node_small` meets its contract: the field is one of node j's record.
use mathlib.Core.Path.{ap, ◌∙◌}
use mathlib.Core.List.{List}
use lib.IntN.{ℤ}
use lib.ListN.{length}
use Rattle.tables.specs.View.{small_at}
use Rattle.tables.proofs.Frame.{record_length}
use Rattle.tables.proofs.records.node_small.Goals as goal

pub small_at-requires : goal.small_at-requires
small_at-requires c =
    (ap length c.record_at.ensures ∙ record_length c.args.nodes.now c.args.j c.requires.0, c.requires.2)

pub returns : goal.returns
returns c = c.small_at.ensures ∙ ap (λ (r : List ℤ). small_at r c.args.place) c.record_at.ensures
