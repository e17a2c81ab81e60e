-- `clipping::judging::is_crossed` meets its contract: those from a place on are crossed exactly if all are (`Crossed`).
use mathlib.Core.Path.{◌≡◌}
use lib.ListN.{drop}
use Rattle.segment.specs.Clipped.{is_crossed}
use Rattle.clipping.proofs.judging.is_crossed.Given as goal

abbrev pub invariant-loop-i : goal.invariant-loop-i
invariant-loop-i l = is_crossed l.lows l.highs ≡ is_crossed (drop l.i l.lows) (drop l.i l.highs)
