-- The memory of a library is one, and a call is lent the first so many places of each table: "lengths of tables included"
-- (docs/DECISIONS.md, T11).
use Rattle.std.specs.Prelude.{◌≤◌, ◌≡◌, take}
use Rattle.dstree.specs.Book.{Lent}
pub use Rattle.dstree.specs.Book.{over}
use Rattle.tables.specs.Tables.{Tables, labelled_tables, lent_of}

-- what a call is lent of a memory
abbrev pub first_places : Lent → Tables → Tables
first_places lent memory =
    labelled_tables (take lent.control memory.control)
    (take lent.samples memory.samples)
    (take lent.nodes memory.nodes)
    (take lent.links memory.links)
    (take lent.work memory.work)
    (take lent.labels memory.labels)

-- the memory after a call that left this where it was lent
abbrev pub left : Tables → Tables → Tables
left part memory =
    labelled_tables (over part.control memory.control)
    (over part.samples memory.samples)
    (over part.nodes memory.nodes)
    (over part.links memory.links)
    (over part.work memory.work)
    (over part.labels memory.labels)

-- these tables are the first places of a memory
abbrev pub Begins : Tables → Tables → Type 0
Begins part memory = first_places (lent_of part) memory ≡ part

-- no table longer
pub record LentWithin (short long : Lent) : Type 0 where
  pub control_within : short.control ≤ long.control
  pub samples_within : short.samples ≤ long.samples
  pub nodes_within : short.nodes ≤ long.nodes
  pub links_within : short.links ≤ long.links
  pub work_within : short.work ≤ long.work
  pub labels_within : short.labels ≤ long.labels
