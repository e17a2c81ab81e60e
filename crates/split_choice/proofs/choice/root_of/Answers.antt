-- `split_choice::choice::root_of` meets its contract: the root of the widest scatter is the widest sum.
use mathlib.Core.Path.{ap}
use Prim.Native.Nat.{◌≤◌}
use native.Mathlib.Omega.{arith}
use lib.IntN.{pos}
use mir.Syntax.{w64}
use mir.Val.{SFits}
use mir.Facts.{to_z-of_z}
use Rattle.integer.proofs.Width.{small}
use Rattle.segment.specs.Limits.{sum_most}
use Rattle.segment.proofs.Newton.{floor_bound}
use Rattle.dstree.specs.Measures.{most_samples}
use Rattle.split_choice.proofs.choice.root_of.Goals as goal

root_small : (c : goal.After-floor_root) → c.floor_root.result ≤ sum_most most_samples
root_small c = omega (arith, c.floor_root.ensures, floor_bound {v = c.args.scatter} {k = sum_most most_samples} (omega (arith, c.requires)))

root_fits : (c : goal.After-floor_root) → SFits w64 (pos c.floor_root.result)
root_fits c = small (omega (arith, root_small c))

pub overflow_cast-result : goal.overflow_cast-result
overflow_cast-result c = root_fits c

pub returns : goal.returns
returns c = rw (to_z-of_z {w = w64} (root_fits c)) (ap pos c.floor_root.ensures, omega (arith, root_small c))
