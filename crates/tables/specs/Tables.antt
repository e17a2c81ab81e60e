-- The lent tables as a record of lists, and the parts of them that calls read and write.
use Rattle.std.specs.Prelude.{ℕ, ◌+◌, ◌*◌, List, [], ◌++◌, ℤ, length, get_or, take, drop, replicate}
use Rattle.dstree.specs.Measures.{Measures, measures}
use Rattle.dstree.specs.Book.{Lent}
use Rattle.tables.specs.Layout.{n_place, capacity_place, leaf_size_place, trace_count_place, node_count_place, record_places}

-- control record and links are 16-bit numbers, samples words of 32 bits and node records 64-bit numbers with a sign, search work and labels
-- 64-bit numbers
pub record Tables : Type 0 where
  pub control : List ℕ
  pub samples : List ℤ
  pub nodes : List ℤ
  pub links : List ℕ
  pub work : List ℕ
  -- document 02, §8: "Labels lie in a table of c places"
  pub labels : List ℕ

abbrev pub labelled_tables : List ℕ → List ℤ → List ℤ → List ℕ → List ℕ → List ℕ → Tables
labelled_tables control samples nodes links work labels =
    record { control = control; samples = samples; nodes = nodes; links = links; work = work; labels = labels }

-- what sees no labels: the tree's functions
abbrev pub tables : List ℕ → List ℤ → List ℤ → List ℕ → List ℕ → Tables
tables control samples nodes links work = labelled_tables control samples nodes links work []

-- these tables with other labels
abbrev pub with_labels : List ℕ → Tables → Tables
with_labels labels t = labelled_tables t.control t.samples t.nodes t.links t.work labels

-- the lengths that a call is lent
abbrev pub lent_of : Tables → Lent
lent_of t = record {
  control = length t.control;
  samples = length t.samples;
  nodes = length t.nodes;
  links = length t.links;
  work = length t.work;
  labels = length t.labels;
}

-- a field of the control record (0 behind its end)
abbrev pub field : List ℕ → ℕ → ℕ
field control place = get_or control place 0

abbrev pub measures_of : Tables → Measures
measures_of t = measures (field t.control n_place) (field t.control capacity_place) (field t.control leaf_size_place)

abbrev pub trace_count : Tables → ℕ
trace_count t = field t.control trace_count_place

abbrev pub node_count : Tables → ℕ
node_count t = field t.control node_count_place

-- node j's record
unfoldable pub record_of : List ℤ → ℕ → List ℤ
record_of nodes j = take record_places (drop (j * record_places) nodes)

-- the table with another record for node j
unfoldable pub with_record : List ℤ → ℕ → List ℤ → List ℤ
with_record nodes j r = take (j * record_places) nodes ++ (r ++ drop (j * record_places + record_places) nodes)

-- the first k places hold z; "places beyond the needed ones untouched"
abbrev pub filled : {A : Type 0} → ℕ → A → List A → List A
filled k z l = replicate k z ++ drop k l
