-- `figures_below::nodes::all_exact` meets its contract: from the last node down, each is exact, or the test of all fails at one that is not.
use mathlib.Core.Path.{◌≡◌, sym, subst, ◌∙◌}
use mathlib.Core.Bool.{Bool}
use Prim.Native.Nat.{ℕ, ◌-◌, ◌≤◌, ◌<◌}
use native.Mathlib.Omega.{arith}
use lib.Dec.{T}
use Rattle.integer.specs.Words.{every, counting}
use Rattle.integer.proofs.Tests.{is_true, test_true, test_false}
use Rattle.integer.proofs.Lists.{every_of, from_every, in_counting, from_counting, same_or_not, strict}
use Rattle.figures_below.specs.Compared.{exact_in}
use Rattle.figures_below.proofs.nodes.all_exact.Goals as goal

-- node j passes, and those above it
and_above : (test : ℕ → Bool) (j m : ℕ) → 0 < j → T (test (j - 1)) → ((c : ℕ) → j ≤ c → c < m → T (test c)) → (i : ℕ) → j - 1 ≤ i → i < m → T (test i)
and_above test j m some t above i h g = by (same_or_not i (j - 1))
  where
    by : Dec (i ≡ j - 1) → T (test i)
    by (yes e) = rw e t
    by (no f) = above i (omega (arith, strict h (λ e. f (sym e)))) g

pub loop-j-init : goal.loop-j-init
loop-j-init c = λ i h g. absurd (omega arith)

pub node_exact-requires : goal.node_exact-requires
node_exact-requires c = record {
  m = c.args.m;
  ready = c.requires;
  inside = omega (arith, c.loop-j-test.true);
  above = λ i h g. c.loop-j.invariant i (omega (arith, c.loop-j-test.true)) g;
}

pub returns-then-not-node_exact : goal.returns-then-not-node_exact
returns-then-not-node_exact c =
    let a = c.args in
    let test = exact_in a.samples.now a.nodes.now a.n a.sizes.now a.starts.now a.order.now in
    sym (test_false (every test (counting a.m 0))
    (λ t. subst T (sym c.node_exact.ensures ∙ c.if-not-node_exact.true)
    (from_every test (counting a.m 0) t (in_counting a.m 0 (c.loop-j.j - 1) (omega arith) (omega (arith, c.loop-j-test.true))))))

pub loop-j-smaller : goal.loop-j-smaller
loop-j-smaller c = omega (arith, c.loop-j-test.true)

pub loop-j-preserved : goal.loop-j-preserved
loop-j-preserved c =
    let a = c.args in
    let test = exact_in a.samples.now a.nodes.now a.n a.sizes.now a.starts.now a.order.now in
    and_above test c.loop-j.j a.m c.loop-j-test.true (is_true (sym c.node_exact.ensures ∙ c.if-not-node_exact.false)) c.loop-j.invariant

pub returns : goal.returns
returns c =
    let a = c.args in
    let l = c.loop-j in
    let test = exact_in a.samples.now a.nodes.now a.n a.sizes.now a.starts.now a.order.now in
    sym (test_true (every test (counting a.m 0))
    (every_of test (counting a.m 0) (λ i h. l.invariant i (omega arith) (omega (arith, from_counting a.m 0 h)))))
