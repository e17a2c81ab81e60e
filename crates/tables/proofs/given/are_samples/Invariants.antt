-- `tables::given::are_samples` meets its contract: the samples passed are within the limits.
use Prim.Native.Nat.{◌≤◌}
use lib.ListN.{length, take}
use Rattle.segment.specs.Limits.{sample_most, SamplesWithin}
use Rattle.tables.proofs.given.are_samples.Given as goal

abbrev pub invariant-loop-z : goal.invariant-loop-z
invariant-loop-z l = (l.z-index ≤ length l.trace) × SamplesWithin sample_most (take l.z-index l.trace)
