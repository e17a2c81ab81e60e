-- `sheet::samples::copy_samples` meets its contract: the first i places hold the first i samples' words.
use mathlib.Core.Path.{◌≡◌}
use Prim.Native.Nat.{◌≤◌}
use lib.ListN.{length, take}
use Rattle.segment.specs.Stored.{samples_of, words_of}
use Rattle.dstree.specs.SheetWidths.{format_by}
use Rattle.sheet.specs.Codes.{samples_in}
use Rattle.sheet.specs.Formats.{says_wide}
use Rattle.sheet.proofs.samples.copy_samples.Given as goal

abbrev pub invariant-loop-i : goal.invariant-loop-i
invariant-loop-i l =
    (l.i ≤ length l.places) × (length l.places ≡ length l.initial.places) × (take l.i l.places ≡ words_of (samples_in (format_by (says_wide l.format)) l.i l.bytes))
    × (samples_of (words_of (samples_in (format_by (says_wide l.format)) l.i l.bytes)) ≡ samples_in (format_by (says_wide l.format)) l.i l.bytes)
