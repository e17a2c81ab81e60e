-- `insertion::heads::write_segment` meets its contract: five stores, one behind the other.
use Prim.Native.Nat.{◌+◌, ◌*◌}
use native.Mathlib.Omega.{arith}
use lib.ListN.{length-set}
use mir.Syntax.{w64}
use mir.Facts.{to_z-of_z}
use Rattle.insertion_memory.specs.Records.{segment_fields}
use Rattle.insertion.specs.Widening.{with_segment}
use Rattle.insertion.proofs.Plain.{plain, segment_stored}
use Rattle.insertion.proofs.heads.write_segment.Goals as goal

pub bounds-record-at-2 : goal.bounds-record-at-2
bounds-record-at-2 c = simp length-set (omega arith)

pub bounds-record-at-3 : goal.bounds-record-at-3
bounds-record-at-3 c = simp length-set (omega arith)

pub bounds-record-at-4 : goal.bounds-record-at-4
bounds-record-at-4 c = simp length-set (omega arith)

pub bounds-record-at-5 : goal.bounds-record-at-5
bounds-record-at-5 c = simp length-set (omega arith)

pub returns : goal.returns
unfolding with_segment segment_fields
returns c =
    let a = c.args in
    rw (
      plain {n = a.end} (omega arith),
      plain {n = a.least_scatter} (omega arith),
      plain {n = a.greatest_scatter} (omega arith),
      to_z-of_z {w = w64} c.ranges.least_sum,
      to_z-of_z {w = w64} c.ranges.greatest_sum,
    )
    (segment_stored a.«record».now (7 + a.i * 5) _ _ _ _ _ (omega arith))
