-- `sheet::samples::put_samples` meets its contract: after j turns the bytes of the first j samples are put.
use mathlib.Core.Path.{◌≡◌}
use lib.ListN.{length, take}
use lib.Seq.{sets}
use Rattle.segment.specs.Stored.{samples_of}
use Rattle.dstree.specs.Sheet.{coded_all}
use Rattle.sheet.specs.Formats.{format_by}
use Rattle.sheet.proofs.samples.put_samples.Given as goal

abbrev pub invariant-loop-j : goal.invariant-loop-j
invariant-loop-j l =
    (l.bytes ≡ sets l.initial.bytes l.place (coded_all (format_by l.format) (take l.j (samples_of l.words)))) × (length l.bytes ≡ length l.initial.bytes)
