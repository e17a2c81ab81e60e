-- `search::searching::search_list` meets its contract: as many leaves may be read as a tree can have (`Whole`).
use lib.ListN.{length}
use Rattle.segment.specs.Stored.{samples_of}
use Rattle.search.specs.Lent.{stored_tables}
use Rattle.search.proofs.Whole.{whole}
use Rattle.search.proofs.searching.search_list.Goals as goal

pub search_first-requires : goal.search_first-requires
search_first-requires c = record { ready = c.requires.ready; list = c.requires.list }

pub returns : goal.returns
returns c =
    let a = c.args in
    whole a.k (stored_tables a.stored) (samples_of a.query.now)
    (length a.trail.now) c.requires.ready.0 c.search_first.ensures
