-- `match_sheet::main` is safe and ends: what is written of the line lies in its memory.
use Rattle.std.proofs.Common.{sym}
use Rattle.std.proofs.Math.Seq.{length-take-le}
use Rattle.sheet_line.proofs.Room.{written_inside}
use Rattle.match_sheet.proofs.main.Goals as goal

pub slice_bounds-out-end : goal.slice_bounds-out-end
slice_bounds-out-end c = let l = c.line-written in written_inside _ _ l.result l.new.out l.ensures

pub slice_bounds-write_all-end : goal.slice_bounds-write_all-end
slice_bounds-write_all-end c =
    let l = c.line-written in
    sym (length-take-le l.result l.new.out (written_inside _ _ l.result l.new.out l.ensures))
