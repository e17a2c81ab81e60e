-- The tables that a call is lent to read, as one value.
use Rattle.tables.specs.Tables.{Tables, labelled_tables}
use Rattle.tables.specs.declared.lent.Lent.{Lent}

abbrev pub tables_lent : Lent → Tables
tables_lent l = labelled_tables l.control.now l.samples.now l.nodes.now l.links.now l.work.now l.labels.now
