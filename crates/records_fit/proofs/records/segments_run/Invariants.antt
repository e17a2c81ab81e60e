-- `records_fit::records::segments_run` meets its contract. The loop's invariant: the whole list holds exactly if the rest does, behind the
-- end before it.
use mathlib.Core.Path.{◌≡◌}
use Prim.Native.Nat.{◌-◌, ◌≤◌}
use Rattle.records_fit.specs.Fits.{segments_in_from, rest_holds}
use Rattle.records_fit.proofs.records.segments_run.Given as goal

abbrev pub invariant-loop-i : goal.invariant-loop-i
invariant-loop-i l = (l.before ≤ l.n) × (rest_holds l.n l.before (segments_in_from l.places (l.count - l.i) l.i) ≡ rest_holds l.n 0 (segments_in_from l.places l.count 0))
