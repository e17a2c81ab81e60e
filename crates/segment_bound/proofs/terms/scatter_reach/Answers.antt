-- `segment_bound::terms::scatter_reach` meets its contract: two ceiling roots of numbers of 54 bits have at most 28 bits together.
use mathlib.Core.Path.{ap₂}
use Prim.Native.Nat.{◌+◌}
use native.Mathlib.Omega.{arith}
use Rattle.segment.specs.Limits.{sum_room}
use Rattle.segment.specs.Upper.{scatter_reach}
use Rattle.segment.proofs.Newton.{ceiling_root_lem}
use Rattle.segment_bound.proofs.terms.scatter_reach.Goals as goal

pub overflow_add-result : goal.overflow_add-result
overflow_add-result c =
    omega (
      arith,
      c.ceiling_root.ensures,
      c.ceiling_root-2.ensures,
      (ceiling_root_lem c.args.greatest).is_least sum_room c.requires.1,
      (ceiling_root_lem c.args.u).is_least sum_room c.requires.0,
    )

pub returns : goal.returns
unfolding scatter_reach
returns c = ap₂ ◌+◌ c.ceiling_root.ensures c.ceiling_root-2.ensures
