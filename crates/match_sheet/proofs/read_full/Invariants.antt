-- What `match_sheet::read_full` keeps: what was read lies within the places; and fewer are left each time.
use Rattle.std.proofs.Common.{◌≤◌, ◌-◌, length}
use Rattle.match_sheet.proofs.read_full.Given as goal

abbrev pub invariant-loop-size : goal.invariant-loop-size
invariant-loop-size g l = l.size ≤ length l.out

abbrev pub decreases-loop-size : goal.decreases-loop-size
decreases-loop-size g l = length l.out - l.size
