-- `tables::loops::copy_trace` meets its contract: after j turns the first j samples of the trace are copied.
use mathlib.Core.Path.{◌≡◌}
use mathlib.Core.List.{List}
use Prim.Native.Nat.{◌≤◌}
use lib.IntN.{ℤ}
use lib.ListN.{length}
use lib.Seq.{paste}
use Rattle.segment.specs.Stored.{samples_of, words_of}
use Rattle.tables.proofs.loops.copy_trace.Given as goal

-- the words that are written
abbrev pub cleared : List ℤ → List ℤ
cleared trace = words_of (samples_of trace)

abbrev pub invariant-loop-j : goal.invariant-loop-j
invariant-loop-j l = (l.j ≤ length l.trace) × (l.samples ≡ paste l.initial.samples l.at (cleared l.trace) l.j) × (length l.samples ≡ length l.initial.samples)
