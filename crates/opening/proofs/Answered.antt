-- What an opening that nothing refuses knows, and what it leaves, table by table.
use mathlib.Core.Path.{◌≡◌}
use mathlib.Core.Bool.{not}
use mathlib.Core.List.{List, ◌∷◌}
use mathlib.Core.Option.{none}
use Prim.Native.Nat.{ℕ, ◌*◌}
use borrow.Author.Tests.{not-false}
use lib.IntN.{ℤ, pos}
use lib.ListN.{drop}
use Rattle.dstree.specs.Measures.{Measures, in_range, samples_needed, records_needed, links_needed, work_needed, labels_needed}
use Rattle.dstree.specs.Refusals.{first_of}
use Rattle.dstree.specs.Book.{Lent, control_short, tables_short}
use Rattle.dstree.proofs.Conditions.{none_first}
use Rattle.tables.specs.Layout.{layout, record_places, control_fields}
use Rattle.tables.specs.Tables.{Tables, labelled_tables, filled}
use Rattle.tables.specs.Judge.{opening_conditions_of, LongEnough}
use Rattle.tables.specs.Answers.{opened}
use Rattle.tables.proofs.Range.{in_range_lem}
use Rattle.tables.proofs.Judged.{room_of}

-- what it says of lengths and measures that opening refuses nothing
pub opening_long_enough : (lengths : Lent) (m : Measures) → first_of (opening_conditions_of lengths m) ≡ none → LongEnough lengths m
unfolding opening_conditions_of
opening_long_enough lengths m e =
    let one = none_first (not (in_range m)) _ _ e in
    let two = none_first (control_short layout lengths) _ _ one.1 in
    let three = none_first (tables_short layout lengths m) _ _ two.1 in
    record { range = in_range_lem m (not-false _ one.0); room = room_of lengths m two.0 three.0 }

-- the opened tables, table by table
pub opened_tables : (t : Tables) (m : Measures) (control : List ℕ) (samples nodes : List ℤ) (links work labels : List ℕ)
    → control ≡ m.n ∷ m.capacity ∷ m.leaf_size ∷ 0 ∷ 0 ∷ drop control_fields t.control
    → samples ≡ filled (samples_needed m) (pos 0) t.samples
    → nodes ≡ filled (records_needed m * record_places) (pos 0) t.nodes
    → links ≡ filled (links_needed m) 0 t.links
    → work ≡ filled (work_needed m) 0 t.work
    → labels ≡ filled (labels_needed m) 0 t.labels
    → labelled_tables control samples nodes links work labels ≡ opened t m
unfolding opened
opened_tables t m control samples nodes links work labels c s n l w b = rw (c, s, n, l, w, b)
