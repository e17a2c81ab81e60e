-- The tables of a library in exactly the places that its measures need. They are what "the same library" means.
use Rattle.std.specs.Prelude.{◌*◌, List, pos, length, drop, replicate, T}
use Rattle.dstree.specs.Measures.{Trace, Measures, sample_limit, is_library, samples_needed, records_needed, links_needed, work_needed}
use Rattle.dstree.specs.Measures.{labels_needed}
use Rattle.dstree.specs.Labels.{Label, are_labels}
use Rattle.dstree.specs.Book.{Book}
use Rattle.tables.specs.Layout.{record_places, control_fields}
use Rattle.tables.specs.Tables.{Tables, labelled_tables}
use Rattle.tables.specs.Beginning.{Begins}
use Rattle.tables.specs.Answers.{opened}
use Rattle.insertion_memory.specs.Memory.{added_with}

-- as many places as the measures need
unfoldable pub blank : Measures → Tables
blank m =
    labelled_tables (replicate control_fields 0)
    (replicate (samples_needed m) (pos 0))
    (replicate (records_needed m * record_places) (pos 0))
    (replicate (links_needed m) 0)
    (replicate (work_needed m) 0)
    (replicate (labels_needed m) 0)

-- "Reading opens the library and adds the traces in order", each with its label
unfoldable pub loaded : Tables → Measures → List Trace → List Label → Tables
loaded t m traces labels = added_with (opened t m) traces labels

-- what an opening and addings leave there
abbrev pub library_tables : Measures → List Trace → List Label → Tables
library_tables m traces labels = loaded (blank m) m traces labels

-- a memory keeps what a book says: all needed places of all six tables, search work included, are those of the book's library
pub record Keeps (memory : Tables) (b : Book) : Type 0 where
  pub library : T (is_library sample_limit b.measures b.traces)
  -- document 02, §8: "Each trace gets a 16-bit fault code and a 32-bit machine serial"
  pub labelled : T (are_labels (length b.traces) b.labels)
  pub needed_places : Begins (library_tables b.measures b.traces b.labels) memory

-- the places beyond those that the measures need
abbrev pub beyond : Measures → Tables → Tables
beyond m t =
    labelled_tables (drop control_fields t.control)
    (drop (samples_needed m) t.samples)
    (drop (records_needed m * record_places) t.nodes)
    (drop (links_needed m) t.links)
    (drop (work_needed m) t.work)
    (drop (labels_needed m) t.labels)
