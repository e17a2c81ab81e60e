-- `prefixes::Summed::of` meets its contract: the lent arrays have the trace's sums.
use Rattle.prefixes.proofs.Summed.of.Goals as goal

pub invariant_of-result : goal.invariant_of-result
invariant_of-result c = record { summed = c.prefix_sums.ensures }
