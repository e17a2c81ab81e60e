-- `sheet::samples::all_narrow` meets its contract: the samples of the words passed fit.
use mathlib.Core.Path.{◌≡◌}
use mathlib.Core.Bool.{true}
use lib.ListN.{take}
use Rattle.segment.specs.Stored.{samples_of}
use Rattle.dstree.specs.Measures.{are_within}
use Rattle.dstree.specs.Sheet.{narrow_limit}
use Rattle.sheet.proofs.samples.all_narrow.Given as goal

abbrev pub invariant-loop-word : goal.invariant-loop-word
invariant-loop-word l = are_within narrow_limit (take l.word-index (samples_of l.words)) ≡ true
