-- `pair_search::limits::nearer_of` meets its contract, arm by arm (`Nearer`).
use Rattle.pair_search.proofs.Nearer.{none_first, none_second, lesser}
use Rattle.pair_search.proofs.limits.nearer_of.Goals as goal

pub returns-in-Some-Some : goal.returns-in-Some-Some
returns-in-Some-Some c = λ bound. rw (c.in-Some-Some.is-0, c.in-Some-Some.is-1, c.min.ensures) (lesser c.in-Some-Some.first c.in-Some-Some.second bound)

pub returns-in-Some-None : goal.returns-in-Some-None
returns-in-Some-None c = λ bound. rw c.in-Some-None.is-1 (none_second c.args.a bound)

pub returns-in-None-default : goal.returns-in-None-default
returns-in-None-default c = λ bound. rw c.in-None-default.is-0 (none_first c.args.b bound)
