-- `well_formed::counts_fit` meets its contract, case by case.
use mathlib.Core.Path.{sym}
use native.Mathlib.Omega.{arith}
use Rattle.well_formed.proofs.Counts.{too_many, no_trace, no_node, some_nodes}
use Rattle.well_formed.proofs.counts_fit.Goals as goal

pub returns-then-capacity-k : goal.returns-then-capacity-k
returns-then-capacity-k c = let a = c.args in sym (too_many a.m a.k a.capacity (omega arith))

pub returns-then-k-eq0 : goal.returns-then-k-eq0
returns-then-k-eq0 c = let a = c.args in sym (no_trace a.m a.k a.capacity (omega arith) c.if-k-eq0.true)

pub returns-then-m-eq0 : goal.returns-then-m-eq0
returns-then-m-eq0 c = let a = c.args in sym (no_node a.m a.k a.capacity (omega arith) c.if-k-eq0.false c.if-m-eq0.true)

pub returns : goal.returns
returns c = let a = c.args in sym (some_nodes a.m a.k a.capacity (omega arith) c.if-k-eq0.false c.if-m-eq0.false)
