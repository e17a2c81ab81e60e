-- `segment::figures::sum` meets its contract: the total is the sum of the samples passed, which 32 bits hold.
use mathlib.Core.Path.{◌≡◌}
use mathlib.Core.List.{List}
use Prim.Native.Nat.{ℕ, ◌≤◌}
use lib.ListN.{length, take}
use lib.IntN.{ℤ}
use Rattle.segment.specs.Figures.{sum}
use Rattle.segment.specs.Limits.{sample_most, SamplesWithin}
use Rattle.segment.specs.Stored.{samples_of}
use Rattle.segment.proofs.figures.sum.Given as goal

-- the samples passed
abbrev pub Passed : List ℤ → ℤ → ℕ → Type 0
Passed words total i =
    (i ≤ length words) × (total ≡ sum (take i (samples_of words))) × SamplesWithin sample_most (take i (samples_of words))

abbrev pub invariant-loop-word : goal.invariant-loop-word
invariant-loop-word l = Passed l.samples l.total l.word-index
