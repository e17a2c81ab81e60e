-- `sheet::formats::Format::blocks_for` meets its contract.
use mathlib.Core.Path.{ap}
use Prim.Native.Nat.{ℕ, ◌+◌, ◌-◌, ◌/◌}
use Rattle.integer.specs.Words.{rounded_up}
use Rattle.dstree.specs.Sheet.{cell_blocks_needed}
use Rattle.sheet.proofs.formats.Format.blocks_for.Goals as goal

pub returns : goal.returns
unfolding cell_blocks_needed rounded_up
returns c = ap (λ (k : ℕ). (c.args.samples + (k - 1)) / k) c.block_samples-each.ensures.value
