-- `sheet_writing::filling::fill_blocks` meets its contract: before turn i, i blocks of samples stand behind block 0.
use mathlib.Core.Path.{◌≡◌}
use lib.ListN.{length, take}
use Rattle.segment.specs.Stored.{samples_of}
use Rattle.sheet.specs.Formats.{format_by}
use Rattle.sheet_writing.specs.Filled.{with_samples}
use Rattle.sheet_writing.proofs.filling.fill_blocks.Given as goal

abbrev pub invariant-loop-i : goal.invariant-loop-i
invariant-loop-i l =
    (l.sheet ≡ with_samples (format_by l.format) l.initial.sheet l.i (samples_of (take l.total l.samples))) × (length l.sheet ≡ length l.initial.sheet)
