-- `figures_below::nodes::all_exact` meets its contract: from the last node down, each is exact, or the test of all fails at one that is not.
use Prim.Native.Nat.{ℕ, ◌≤◌, ◌<◌}
use lib.Dec.{T}
use Rattle.figures_below.specs.Compared.{exact_in}
use Rattle.figures_below.proofs.nodes.all_exact.Given as goal

abbrev pub invariant-loop-j : goal.invariant-loop-j
invariant-loop-j l = (c : ℕ) → l.j ≤ c → c < l.m → T (exact_in l.samples l.nodes l.n l.sizes l.starts l.order c)
