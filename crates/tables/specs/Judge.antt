-- What lengths and measures alone refuse: all that opening refuses, and the first conditions of every call that is lent made tables.
use Rattle.std.specs.Prelude.{ℕ, ◌*◌, ◌≤◌, not, List, [], ◌∷◌}
use Rattle.dstree.specs.Measures.{Measures, measures, most_samples, most_traces, most_leaf, in_range}
use Rattle.dstree.specs.Measures.{samples_needed, records_needed, links_needed, work_needed, labels_needed}
use Rattle.dstree.specs.Refusals as word
use Rattle.dstree.specs.Refusals.{Condition, ◌refuses◌}
use Rattle.dstree.specs.Book.{Lent, control_short, tables_short}
use Rattle.tables.specs.declared.Lengths.{Lengths}
use Rattle.tables.specs.declared.Measures as declared
use Rattle.tables.specs.Layout.{layout, record_places, control_fields}

-- lengths of control record, samples, nodes, links, search work and labels, as a call has them
abbrev pub lent : ℕ → ℕ → ℕ → ℕ → ℕ → ℕ → Lent
lent control samples nodes links work labels =
    record { control = control; samples = samples; nodes = nodes; links = links; work = work; labels = labels }

-- .. and as a judge takes them, with the measures
abbrev pub lengths_by : Lengths → Lent
lengths_by l = lent l.control l.samples l.nodes l.links l.work l.labels

abbrev pub measures_by : declared.Measures → Measures
measures_by m = measures m.n m.capacity m.leaf_size

-- opening: 1, then 2
unfoldable pub opening_conditions_of : Lent → Measures → List Condition
opening_conditions_of lengths m =
    not (in_range m) refuses word.measure
    ∷ control_short layout lengths refuses word.short_table
    ∷ tables_short layout lengths m refuses word.short_table
    ∷ []

-- made tables, with the measures that their control record has: "control record too short (2); its measures (3); other tables (2)"
unfoldable pub lent_conditions_of : Lent → Measures → List Condition
lent_conditions_of lengths m =
    control_short layout lengths refuses word.short_table
    ∷ not (in_range m) refuses word.spoiled
    ∷ tables_short layout lengths m refuses word.short_table
    ∷ []

-- ---- what holds where nothing of that refuses

-- "n from 1 to 256. Capacity is 1 to 4,096 traces, leaf size 1 to 64"
pub record InRange (m : Measures) : Type 0 where
  pub n_low : 1 ≤ m.n
  pub n_high : m.n ≤ most_samples
  pub capacity_low : 1 ≤ m.capacity
  pub capacity_high : m.capacity ≤ most_traces
  pub leaf_low : 1 ≤ m.leaf_size
  pub leaf_high : m.leaf_size ≤ most_leaf

-- control record, samples, nodes and links, of these lengths, have the places that the measures need. (Search work holds nothing of a
-- library)
pub record LongFor (m : Measures) (control samples nodes links : ℕ) : Type 0 where
  pub control_long : control_fields ≤ control
  pub samples_long : samples_needed m ≤ samples
  pub nodes_long : records_needed m * record_places ≤ nodes
  pub links_long : links_needed m ≤ links

-- .. and search work and labels, too
pub record Room (lengths : Lent) (m : Measures) : Type 0 where
  pub long : LongFor m lengths.control lengths.samples lengths.nodes lengths.links
  pub work_room : work_needed m ≤ lengths.work
  pub labels_room : labels_needed m ≤ lengths.labels

pub record LongEnough (lengths : Lent) (m : Measures) : Type 0 where
  pub range : InRange m
  pub room : Room lengths m
