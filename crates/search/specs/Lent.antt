-- The tables that a search is lent to read, as one value.
use Rattle.tables.specs.Tables.{Tables}
use Rattle.search.specs.declared.stored.Stored.{Stored}
use Rattle.search.specs.Searched.{without_work}

abbrev pub stored_tables : Stored → Tables
stored_tables s = without_work s.control.now s.samples.now s.nodes.now s.links.now
