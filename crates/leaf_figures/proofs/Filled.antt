-- The table of figures while it is filled: a column gets a row more, and a run gets its column.
use Rattle.std.specs.Prelude.{Some, None, map, slice_get, option_map}
use Rattle.std.proofs.lemmas.Option.{none-some, slice_get-map, get_or_from_slice_get}
use mathlib.Core.Path.{◌≡◌, refl, sym, ap, subst, ◌∙◌}
use mathlib.Core.List.{List}
use Prim.Native.Nat.{ℕ, zero, suc, ◌+◌, ◌≤◌, ◌<◌}
use native.Mathlib.Omega.{arith}
use native.Mathlib.Decide.{dec_le}
use lib.ListN.{length, get_or, set, replicate, length-set, length-replicate}
use lib.Seq.{get_or-set_same, get_or-set_other}
use borrow.Author.Count.{below_more}
use Rattle.integer.proofs.Lists.{same_or_not}
use Rattle.segment.specs.declared.figures.Figures.{Figures}
use Rattle.leaf_figures.specs.Rows.{no_figures_yet, no_column, FiguresOf, FiguresAt, RowsOn, HasRows, HasViewedRows, PlacesInList, FirstRows, FullColumn, Columns, trace_of, viewed}
use Rattle.leaf_figures.specs.declared.listed.Listed.{Listed}
use Rattle.leaf_figures.specs.declared.table.Run.{Run}
use Rattle.leaf_figures.specs.declared.table.Column.{Column}
use Rattle.leaf_figures.specs.declared.table.ColumnView.{ColumnView}
use Rattle.leaf_figures.specs.declared.table.Table.{Table}

-- one row more
pub rows_more : (l : Listed) (on : Run) (figures : List Figures) (p : ℕ) (own : Figures) → p < length figures → FiguresOf (trace_of l (get_or l.list.now p 0)) on own
    → FirstRows l on figures p → FirstRows l on (set figures p own) (p + 1)
rows_more l on figures p own here is rows =
    below_more _ p
    (λ q h. record {
      in_column = simp length-set (rows q h).in_column;
      own = subst (FiguresOf (trace_of l (get_or l.list.now q 0)) on) (sym (get_or-set_other figures p q own no_figures_yet (λ e. omega arith))) (rows q h).own;
    })
    (record {
      in_column = simp length-set here;
      own = subst (FiguresOf (trace_of l (get_or l.list.now p 0)) on) (sym (get_or-set_same figures p own no_figures_yet here)) is;
    })

-- a run with its column
pub columns_more : (l : Listed) (columns : List Column) (f : ℕ) (new : Column) → f < 48 → FullColumn l new → Columns l columns → Columns l (set columns f new)
columns_more l columns f new h full c = record { places = simp length-set c.places; column = λ g. by g (same_or_not f g) }
  where
    by : (g : ℕ) → Dec (f ≡ g) → FullColumn l (get_or (set columns f new) g no_column)
    by g (yes e) = subst (λ (j : ℕ). FullColumn l (get_or (set columns f new) j no_column)) e
        (subst (FullColumn l) (sym (get_or-set_same columns f new no_column (omega (arith, c.places)))) full)
    by g (no d) = subst (FullColumn l) (sym (get_or-set_other columns f g new no_column (λ e. d (sym e)))) (c.column g)

-- no run has a column at first
no_run : (m i : ℕ) → get_or (replicate m no_column) i no_column ≡ no_column
no_run zero i = refl
no_run (suc m) zero = refl
no_run (suc m) (suc i) = no_run m i

pub no_columns : (l : Listed) → Columns l (replicate 48 no_column)
no_columns l = record { places = length-replicate {A = Column} 48 no_column; column = λ f. subst (FullColumn l) (sym (no_run 48 f)) none }
  where
    none : FullColumn l no_column
    none = record { places = length-replicate {A = Figures} 65 no_figures_yet; rows = λ on some. absurd (cc some) }

-- what a fill leaves of columns without runs
pub filled_columns : (l : Listed) (columns : List Column) → (length l.list.now ≤ 65 → Columns l columns) → (65 < length l.list.now → columns ≡ replicate 48 no_column) → Columns l columns
filled_columns l columns few many = by (dec_le (length l.list.now) 65)
  where
    by : Dec (length l.list.now ≤ 65) → Columns l columns
    by (yes h) = few h
    by (no f) = subst (Columns l) (sym (many (omega (arith, f)))) (no_columns l)

-- a table in which no column has a run serves any list
pub no_rows : (l : Listed) (place : List ℕ) → HasRows l (record { place = place; columns = replicate 48 no_column })
no_rows l place = record {
  places = length-replicate {A = Column} 48 no_column;
  rows = λ f on some. absurd (none-some on (sym (ap (λ (x : Column). x.run) (no_run 48 f)) ∙ some));
}

-- lent columns of which none has a run serve any list
pub no_viewed_rows : (l : Listed) (place : List ℕ) (columns : List ColumnView) → ((f : ℕ) (c : ColumnView) → slice_get columns f ≡ Some c → c.run ≡ None)
    → HasViewedRows l place columns
no_viewed_rows l place columns none = record { rows = λ f c on at has. absurd (none-some on (sym (none f c at) ∙ has)) }

-- a table's columns in the list's order are rows by its numbers
pub rows_of : (l : Listed) (table : Table) → PlacesInList l.list.now table.place → Columns l table.columns → HasRows l table
rows_of l table p c = record {
  places = c.places;
  rows = λ f on some. record {
    placed = λ t i. omega (arith, p.inside t i, p.places);
    kept = λ t i. subst (λ (u : ℕ). FiguresAt (trace_of l u) on (get_or table.columns f no_column).figures (get_or table.place t 0)) (p.back t i)
        ((c.column f).rows on some (get_or table.place t 0) (p.row t i));
  };
}

-- a table's rows stand in the views of its columns too
pub viewed_rows : (l : Listed) (table : Table) (views : List ColumnView) → HasRows l table → map viewed views ≡ table.columns → HasViewedRows l table.place views
viewed_rows l table views h lent = record {
  rows = λ f v on at has.
      let here : slice_get table.columns f ≡ Some (viewed v) = subst (λ (m : List Column). slice_get m f ≡ Some (viewed v)) lent (slice_get-map viewed views f ∙ ap (option_map viewed) at) in
      let is : get_or table.columns f no_column ≡ viewed v = get_or_from_slice_get table.columns f (viewed v) no_column here in
      subst (λ (x : Column). RowsOn l table.place on x.figures) is (h.rows f on (ap (λ (x : Column). x.run) is ∙ has));
}

-- the views of columns in the list's order have rows by its numbers
pub viewed_rows_of : (l : Listed) (table : Table) (views : List ColumnView) → PlacesInList l.list.now table.place → Columns l table.columns → map viewed views ≡ table.columns
    → HasViewedRows l table.place views
viewed_rows_of l table views p c = viewed_rows l table views (rows_of l table p c)
