-- `insertion::widening::widen_record` meets its contract: after i turns the first i segments are widened, and the rest of the record is as
-- it was (`Widened`), so that the next segment is still readable.
use mathlib.Core.Path.{◌≡◌}
use Rattle.segment.specs.Stored.{samples_of}
use Rattle.insertion.specs.Widening.{start_in}
use Rattle.insertion.proofs.Widened.{partly}
use Rattle.insertion.proofs.widening.widen_record.Given as goal

abbrev pub invariant-loop-i : goal.invariant-loop-i
invariant-loop-i l = (l.first ≡ start_in l.initial.record l.i) × (l.«record» ≡ partly (samples_of l.trace.trace.now) l.initial.record l.i)
