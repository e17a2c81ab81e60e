-- `batch_search::marked::write_trail` meets its contract: what is written and the marked nodes still to come are all marked nodes
-- (`Written`).
use Rattle.integer.proofs.Written.{Writing}
use Rattle.batch_leaves.specs.LeavesRead.{is_marked}
use Rattle.batch_search.proofs.marked.write_trail.Given as goal

abbrev pub invariant-loop-j : goal.invariant-loop-j
invariant-loop-j l = Writing (is_marked l.marks) l.count l.initial.trail l.trail l.out l.j
