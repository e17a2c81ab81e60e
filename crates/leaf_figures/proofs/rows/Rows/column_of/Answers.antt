-- `leaf_figures::rows::Rows::column_of` meets its contract: a column that has the run has the traces' figures on it.
use Rattle.std.specs.Prelude.{Option, Some, None, IfSome, unwrap_or, slice_get}
use Rattle.std.specs.Borrow.{Bor}
use mathlib.Core.Path.{◌≡◌}
use mathlib.Core.List.{List}
use Prim.Native.Nat.{ℕ}
use Rattle.leaf_figures.specs.Rows.{HasViewedRows, RowsOn}
use Rattle.leaf_figures.specs.declared.listed.Listed.{Listed}
use Rattle.leaf_figures.specs.declared.table.Run.{Run}
use Rattle.leaf_figures.specs.declared.table.ColumnView.{ColumnView}
use Rattle.leaf_figures.proofs.rows.Rows.column_of.Goals as goal

-- what is at the guess and has the run has the figures
rows_in : (l : Listed) (place : List ℕ) (columns : List ColumnView) (f : ℕ) (on : Run) → HasViewedRows l place columns → (column : Option (Bor ColumnView))
    → IfSome column (λ c. slice_get columns f ≡ Some c.now) → IfSome column (λ c. c.now.run ≡ Some on) → IfSome column (λ c. RowsOn l place on c.now.figures.now)
rows_in l place columns f on h None is has = tt
rows_in l place columns f on h (Some c) is has = h.rows f c.now on is has

pub returns : goal.returns
returns c =
    let a = c.args in
    let g = c.column_of in
    record {
      at_guess = g.ensures.at_guess;
      rows = rows_in a.self.traces a.self.place.now a.self.columns.now (unwrap_or a.guess 0) a.on a.self.rows g.result g.ensures.at_guess g.ensures.of_run;
      of_run = g.ensures.of_run;
    }
