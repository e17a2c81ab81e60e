-- `splitting::lists::lay` meets its contract: laying what is left of the list, from where the loop stands, makes the links of the whole.
use mathlib.Core.Path.{◌≡◌}
use lib.ListN.{length, drop}
use Rattle.insertion_memory.specs.Links.{linked}
use Rattle.splitting.proofs.lists.lay.Given as goal

abbrev pub invariant-loop-i : goal.invariant-loop-i
invariant-loop-i l = (length l.links ≡ length l.initial.links) × (linked (drop l.i l.order) l.links ≡ linked l.order l.initial.links)
