-- `replay::rows::lengths` meets its contract: a number for each table.
use Rattle.replay.proofs.rows.lengths.Goals as goal

pub returns : goal.returns
returns c = cc
