-- An opened library is empty, whatever the search work holds.
use mathlib.Core.Path.{◌≡◌, sym, subst}
use mathlib.Core.List.{List, []}
use Prim.Native.Nat.{ℕ}
use lib.IntN.{ℤ}
use lib.Dec.{T}
use Rattle.dstree.specs.Measures.{Measures, in_range}
use Rattle.tables.specs.Tables.{Tables, tables, labelled_tables, lent_of}
use Rattle.tables.specs.View.{tree_in, traces_in, kinds_named, well_formed}
use Rattle.tables.specs.Answers.{opened}
use Rattle.tables.specs.Judge.{Room}
use Rattle.insertion_memory.proofs.Made.{Holds, holds_none}

without_work : (control : List ℕ) (samples nodes : List ℤ) (links work labels : List ℕ) (m : Measures)
    → Holds (labelled_tables control samples nodes links work labels) m [] → Holds (tables control samples nodes links []) m []
unfolding well_formed kinds_named tree_in traces_in
without_work control samples nodes links work labels m h = record {
  formed = h.formed;
  long = h.long;
  measures_are = h.measures_are;
  traces_are = h.traces_are;
  tree_is = h.tree_is;
}

pub opened_empty : (t : Tables) (m : Measures) → T (in_range m) → Room (lent_of t) m
    → (control : List ℕ) (samples nodes : List ℤ) (links work labels : List ℕ)
    → labelled_tables control samples nodes links work labels ≡ opened t m
    → Holds (tables control samples nodes links []) m []
opened_empty t m range room control samples nodes links work labels e =
    without_work control samples nodes links work labels m (subst (λ (u : Tables). Holds u m []) (sym e) (holds_none t m range room))
