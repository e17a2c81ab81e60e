-- `split_choice::choice::best_along` meets its contract: what is found, and what the segments that are left find, is the best of all.
use lib.ListN.{take, drop}
use Rattle.leaf_figures.specs.Rows.{stored_of}
use Rattle.split_choice.proofs.Going.{Going}
use Rattle.split_choice.proofs.choice.best_along.Given as goal

abbrev pub invariant-loop-i : goal.invariant-loop-i
invariant-loop-i l =
    Going l.rows.traces.n (stored_of l.rows.traces) (take l.e.count l.e.at) l.rows.traces.list.now l.found l.first (drop l.i (take l.e.count l.e.at))
