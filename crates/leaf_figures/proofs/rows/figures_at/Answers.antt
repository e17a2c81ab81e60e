-- `leaf_figures::rows::figures_at` meets its contract: what stands in the row, or what the samples give, are the trace's figures.
use Rattle.tables.proofs.Parts.{run_of_words}
use Rattle.leaf_figures.proofs.rows.figures_at.Goals as goal

pub bounds-place-t : goal.bounds-place-t
bounds-place-t c = (rw c.in-Some.is at c.requires.1).placed

pub figures_on-requires : goal.figures_on-requires
figures_on-requires c = run_of_words c.trace_at.result.now c.trace_at.ensures c.requires.0
