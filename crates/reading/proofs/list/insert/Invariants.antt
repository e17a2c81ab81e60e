-- `reading::list::insert` meets its contract: `RecordsMoved` is the invariant (`Records`).
use Rattle.reading.specs.Nearest.{near}
use Rattle.reading.proofs.Records.{RecordsMoved}
use Rattle.reading.proofs.list.insert.Given as goal

abbrev pub invariant-loop-i : goal.invariant-loop-i
invariant-loop-i l = RecordsMoved l.m (near l.trace l.distance) l.initial.list l.list l.i
