-- `search::searching::search_all` meets its contract: the one nearest, and it is the match (`One`).
use native.Mathlib.Omega.{arith}
use Rattle.segment.specs.Stored.{samples_of}
use Rattle.search.specs.Lent.{stored_tables}
use Rattle.search.proofs.One.{one_found}
use Rattle.search.proofs.searching.search_all.Goals as goal

pub search_list-seen-requires : goal.search_list-seen-requires
search_list-seen-requires c = record { ready = c.requires; list = (omega arith, omega arith) }

pub returns : goal.returns
returns c =
    let a = c.args in
    let l = c.search_list-seen in
    one_found (stored_tables a.stored) (samples_of a.query.now) a.work.now
    l.new.work a.trail.now l.new.trail l.new.list
    l.result.listed l.result.out l.result.traces l.auto.trail l.ensures
