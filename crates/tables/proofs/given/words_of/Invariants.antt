-- `tables::given::words_of` meets its contract: after j turns the first j words stand for the first j samples.
use mathlib.Core.Path.{◌≡◌}
use Prim.Native.Nat.{◌≤◌}
use lib.ListN.{length, take}
use Rattle.segment.specs.Stored.{samples_of}
use Rattle.tables.proofs.given.words_of.Given as goal

abbrev pub invariant-loop-j : goal.invariant-loop-j
invariant-loop-j l = (l.j ≤ length l.trace) × (samples_of (take l.j l.words) ≡ take l.j l.trace) × (length l.words ≡ length l.initial.words)
