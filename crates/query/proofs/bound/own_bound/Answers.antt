-- `query::bound::own_bound` meets its contract: a term is at most so much for each of its samples (`bound_limit`), and so is the total.
use Rattle.query.proofs.Own.{bound_small}
use Rattle.query.proofs.bound.own_bound.Goals as goal

pub returns : goal.returns
returns c =
    let query = c.args.query.now in
    let e = c.terms_total.ensures in
    record { value = e; size = rw e (bound_small query.trace.now query.summed c.args.«record».now c.requires) }
