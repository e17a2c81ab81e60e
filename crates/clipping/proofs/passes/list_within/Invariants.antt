-- `clipping::passes::list_within` meets its contract: what is written and those still to come are all that are within the limit
-- (`integer`, `Written`).
use Rattle.integer.proofs.Written.{Writing}
use Rattle.clipping.specs.Compared.{is_within}
use Rattle.clipping.proofs.passes.list_within.Given as goal

abbrev pub invariant-loop-t : goal.invariant-loop-t
invariant-loop-t l = Writing (is_within l.samples l.n l.lows l.highs l.limit) l.count l.initial.list l.list l.out l.t
