-- `checking::check_tables` meets its contract: what the judge found says which way the call ends.
use Rattle.tables.specs.Tables.{labelled_tables}
use Rattle.checking.proofs.Ends.{checked_answer}
use Rattle.checking.proofs.check_tables.Goals as goal

pub returns : goal.returns
returns c =
    let s = c.args in
    checked_answer (labelled_tables s.control.now s.samples.now s.nodes.now s.links.now s.work.now s.labels.now) c.judge.result c.judge.ensures
