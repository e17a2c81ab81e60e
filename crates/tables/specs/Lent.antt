-- The tables of a call, named once for every contract: what the lent slices held before the call, and what they hold after one that wrote
-- all of them, all but search work, or search work alone. What a call does not write it is lent to read, and it stays.
use Rattle.std.specs.Prelude.{ℕ, List, ℤ}
use Rattle.std.specs.Borrow.{Bor, MutBor}
use denote.Triple.Both.{Both}
use Rattle.tables.specs.Tables.{Tables, labelled_tables}

-- a lent slice of numbers, and one of numbers with a sign
abbrev pub Words : Type 0
Words = Bor (List ℕ)

abbrev pub Signed : Type 0
Signed = Bor (List ℤ)

-- .. and those that a call is lent to write
abbrev pub WordsToWrite : Type 0
WordsToWrite = MutBor (List ℕ)

abbrev pub SignedToWrite : Type 0
SignedToWrite = MutBor (List ℤ)

-- a call that writes no table
module _ (control : Both Words Words) (samples nodes : Both Signed Signed) (links work labels : Both Words Words) where
  abbrev pub tables_before : Tables
  tables_before =
      labelled_tables control.entry.now samples.entry.now nodes.entry.now links.entry.now work.entry.now
      labels.entry.now

-- opening and reading write all six
module _ (control : Both WordsToWrite WordsToWrite) (samples nodes : Both SignedToWrite SignedToWrite)
    (links work labels : Both WordsToWrite WordsToWrite) where
  abbrev pub tables_before_all : Tables
  tables_before_all =
      labelled_tables control.entry.now samples.entry.now nodes.entry.now links.entry.now work.entry.now
      labels.entry.now

  abbrev pub tables_after : Tables
  tables_after =
      labelled_tables control.exit.now samples.exit.now nodes.exit.now links.exit.now work.exit.now
      labels.exit.now

-- adding and importing leave search work
module _ (control : Both WordsToWrite WordsToWrite) (samples nodes : Both SignedToWrite SignedToWrite)
    (links : Both WordsToWrite WordsToWrite) (work : Both Words Words)
    (labels : Both WordsToWrite WordsToWrite) where
  abbrev pub tables_before_adding : Tables
  tables_before_adding =
      labelled_tables control.entry.now samples.entry.now nodes.entry.now links.entry.now work.entry.now
      labels.entry.now

  abbrev pub tables_after_adding : Tables
  tables_after_adding =
      labelled_tables control.exit.now samples.exit.now nodes.exit.now links.exit.now work.entry.now
      labels.exit.now

-- "A call that takes a query leaves the needed search work zero", and writes no other table
module _ (control : Both Words Words) (samples nodes : Both Signed Signed) (links : Both Words Words)
    (work : Both WordsToWrite WordsToWrite) (labels : Both Words Words) where
  abbrev pub tables_before_search : Tables
  tables_before_search =
      labelled_tables control.entry.now samples.entry.now nodes.entry.now links.entry.now work.entry.now
      labels.entry.now

  abbrev pub tables_after_search : Tables
  tables_after_search =
      labelled_tables control.entry.now samples.entry.now nodes.entry.now links.entry.now work.exit.now
      labels.entry.now
