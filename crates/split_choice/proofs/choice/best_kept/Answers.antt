-- `split_choice::choice::best_kept` meets its contract: what is kept are the figures of the list's traces.
use native.Mathlib.Omega.{arith}
use Rattle.leaf_figures.specs.declared.table.Table.{Table}
use Rattle.leaf_figures.proofs.Filled.{no_columns, filled_columns, rows_of, viewed_rows_of}
use Rattle.split_choice.proofs.choice.best_kept.Goals as goal

pub place_list-requires : goal.place_list-requires
place_list-requires c =
    let l = c.args.traces.inside in
    (l.few, omega arith, λ t i. omega (arith, l.below t i, c.requires.0))

pub fill_rows-requires : goal.fill_rows-requires
fill_rows-requires c = (c.requires.1, c.requires.2, λ h. no_columns c.args.traces)

pub invariant_of-kept : goal.invariant_of-kept
invariant_of-kept c =
    let l = c.args.traces in
    let f = c.fill_rows in
    let filled = filled_columns l f.new.columns f.ensures.filled f.ensures.stays in
    let table : Table = record { place = c.place_list.new.place; columns = f.new.columns } in
    record { rows = rows_of l table c.place_list.ensures filled }

pub invariant_of-rows : goal.invariant_of-rows
invariant_of-rows c =
    let l = c.args.traces in
    let f = c.fill_rows in
    let filled = filled_columns l f.new.columns f.ensures.filled f.ensures.stays in
    let table : Table = record { place = c.place_list.new.place; columns = f.new.columns } in
    record { rows = viewed_rows_of l table c.view_columns.new.views c.place_list.ensures filled c.view_columns.ensures }
