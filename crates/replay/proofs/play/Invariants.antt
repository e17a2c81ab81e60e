-- `replay::play` meets its contract: after some rows the lent slices are in the state that these leave.
use Rattle.tables.specs.Tables.{labelled_tables}
use Rattle.replay.specs.Script.{rows_left}
use Rattle.replay.proofs.Played.{Playing}
use Rattle.replay.proofs.play.Given as goal

abbrev pub invariant-loop-row : goal.invariant-loop-row
invariant-loop-row l =
    Playing (labelled_tables l.initial.control l.initial.samples l.initial.nodes l.initial.links l.initial.work l.initial.labels) l.script l.pool l.initial.trails l.initial.sheets l.initial.replies
    (labelled_tables l.control l.samples l.nodes l.links l.work l.labels) l.trails l.sheets l.replies l.at (rows_left l.row-iterator) l.count
