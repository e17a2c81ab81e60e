-- `leaf_figures::filling::fill_run` meets its contract: the run's column is right, and the other columns are as they were.
use Rattle.leaf_figures.proofs.Filled.{columns_more}
use Rattle.leaf_figures.proofs.filling.fill_run.Goals as goal

pub returns : goal.returns
returns c = columns_more c.args.traces c.args.columns.now c.args.f c.fill_column.new.column c.requires.2 c.fill_column.ensures c.requires.3
