-- `pair_search::limits::limit_in` meets its contract: of a list of one the first record is the nearest, if it is filled.
use native.Mathlib.Omega.{arith}
use Rattle.search.proofs.Turns.{past_is}
use Rattle.pair_search.proofs.limits.limit_in.Goals as goal

pub returns : goal.returns
returns c = λ bound. rw c.kth_distance.ensures (past_is 1 c.args.listed c.args.list.now (omega arith) c.requires.0 bound)
