-- `tables::control::measures_fit` meets its contract: each return rewrites with the definition's comparisons as the tests before it decide
-- them.
use native.Mathlib.Omega.{arith}
use borrow.Author.Tests.{le-leb, lt-leb}
use Rattle.dstree.specs.Measures.{in_range}
use Rattle.tables.proofs.control.measures_fit.Goals as goal

pub returns-then-n-lt1 : goal.returns-then-n-lt1
unfolding in_range
returns-then-n-lt1 c = let a = c.args.measures in simp (lt-leb 1 a.n (omega arith))

pub returns-then-n-gt256 : goal.returns-then-n-gt256
unfolding in_range
returns-then-n-gt256 c = let a = c.args.measures in simp (le-leb 1 a.n (omega arith), lt-leb a.n 256 (omega arith))

pub returns-then-capacity-lt1 : goal.returns-then-capacity-lt1
unfolding in_range
returns-then-capacity-lt1 c = let a = c.args.measures in simp (le-leb 1 a.n (omega arith), le-leb a.n 256 (omega arith), lt-leb 1 a.capacity (omega arith))

pub returns-then-capacity-gt4096 : goal.returns-then-capacity-gt4096
unfolding in_range
returns-then-capacity-gt4096 c = let a = c.args.measures in
    simp (le-leb 1 a.n (omega arith), le-leb a.n 256 (omega arith), le-leb 1 a.capacity (omega arith), lt-leb a.capacity 4096 (omega arith))

pub returns-then-leaf_size-lt1 : goal.returns-then-leaf_size-lt1
unfolding in_range
returns-then-leaf_size-lt1 c = let a = c.args.measures in
    simp (le-leb 1 a.n (omega arith), le-leb a.n 256 (omega arith), le-leb 1 a.capacity (omega arith), le-leb a.capacity 4096 (omega arith), lt-leb 1 a.leaf_size (omega arith))

pub returns : goal.returns
unfolding in_range
returns c = let a = c.args.measures in
    simp (le-leb 1 a.n (omega arith), le-leb a.n 256 (omega arith), le-leb 1 a.capacity (omega arith), le-leb a.capacity 4096 (omega arith), le-leb 1 a.leaf_size (omega arith))
