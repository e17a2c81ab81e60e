-- `sheet_judging::traces::read_samples` meets its contract. The loop's invariant: the first i places hold the first i samples, and the
-- cursor is at the next one. A turn reads those that lie in the cursor's block.
use mathlib.Core.Path.{◌≡◌}
use Prim.Native.Nat.{◌+◌, ◌-◌, ◌≤◌}
use lib.ListN.{length, take}
use Rattle.segment.specs.Stored.{words_of}
use Rattle.sheet.specs.Formats.{format_by}
use Rattle.sheet_blocks.specs.Traces.{sample_number, IsAt, samples_from}
use Rattle.sheet_judging.proofs.traces.read_samples.Given as goal

abbrev pub invariant-loop-i : goal.invariant-loop-i
invariant-loop-i l =
    (l.i ≤ l.n)
    × (length l.places ≡ l.n)
    × (take l.i l.places
    ≡ words_of (samples_from (format_by l.format) l.sheet (sample_number (format_by l.format) l.initial.cursor.number l.initial.cursor.used) l.i))
    × IsAt (format_by l.format) l.cursor.number l.cursor.used
    (sample_number (format_by l.format) l.initial.cursor.number l.initial.cursor.used + l.i)

abbrev pub decreases-loop-i : goal.decreases-loop-i
decreases-loop-i l = l.n - l.i
