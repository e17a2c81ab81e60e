-- `sheet_judging::range::all_fit` meets its contract: the first i samples fit.
use mathlib.Core.Path.{◌≡◌}
use mathlib.Core.Bool.{true}
use lib.ListN.{take}
use Rattle.dstree.specs.Measures.{are_within}
use Rattle.sheet.specs.Formats.{format_by}
use Rattle.sheet_blocks.specs.Traces.{samples_from}
use Rattle.sheet_judging.proofs.range.all_fit.Given as goal

abbrev pub invariant-loop-i : goal.invariant-loop-i
invariant-loop-i l = are_within l.limit (take l.i (samples_from (format_by l.format) l.sheet 0 l.count)) ≡ true
