-- `search::visiting::visit` meets its contract: as many leaves may be read as a tree can have (`Whole`).
use lib.ListN.{length}
use Rattle.segment.specs.Stored.{samples_of}
use Rattle.search.specs.Lent.{stored_tables}
use Rattle.search.proofs.Whole.{whole_visited}
use Rattle.search.proofs.visiting.visit.Goals as goal

pub visit_first-requires : goal.visit_first-requires
visit_first-requires c = record { ready = c.requires.ready; list = c.requires.list }

pub returns : goal.returns
returns c =
    let a = c.args in
    whole_visited a.k (stored_tables a.stored) (samples_of a.query.now.trace.now)
    (length a.trail.now) c.requires.ready.0 c.visit_first.ensures
