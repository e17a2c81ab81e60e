-- `search::searching::search_within` meets its contract: the one nearest in the first leaves, and it is the match with this limit (`One`).
use native.Mathlib.Omega.{arith}
use Rattle.segment.specs.Stored.{samples_of}
use Rattle.search.specs.Lent.{stored_tables}
use Rattle.search.proofs.One.{one_within}
use Rattle.search.proofs.searching.search_within.Goals as goal

pub search_first-seen-requires : goal.search_first-seen-requires
search_first-seen-requires c = record { ready = c.requires; list = (omega arith, omega arith) }

pub returns : goal.returns
returns c =
    let a = c.args in
    let l = c.search_first-seen in
    one_within (stored_tables a.stored) (samples_of a.query.now) a.work.now
    l.new.work a.trail.now l.new.trail l.new.list
    l.result.listed l.result.out l.result.traces l.auto.trail a.most l.result.unread
    l.ensures
