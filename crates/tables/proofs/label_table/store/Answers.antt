-- `tables::label_table::store` meets its contract: the low 48 bits are the label.
use Rattle.tables.proofs.Labels.{label_stored}
use Rattle.tables.proofs.label_table.store.Goals as goal

pub returns : goal.returns
returns c = label_stored c.args.labels.now c.args.at c.args.place c.requires
