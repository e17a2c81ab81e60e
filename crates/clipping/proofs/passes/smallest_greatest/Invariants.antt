-- `clipping::passes::smallest_greatest` meets its contract: in each turn it is the smallest of the traces passed (`Smallest`).
use mathlib.Core.Path.{◌≡◌}
use Rattle.clipping.proofs.Smallest.{smallest_to}
use Rattle.clipping.proofs.passes.smallest_greatest.Given as goal

abbrev pub invariant-loop-t : goal.invariant-loop-t
invariant-loop-t l = l.smallest ≡ smallest_to l.samples l.n l.lows l.highs l.t
