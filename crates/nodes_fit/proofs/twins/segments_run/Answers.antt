-- `nodes_fit::twins::segments_run` meets its contract. The loop's invariant: each child's segments were passed so far, and so many of the
-- parent's ends met.
use mathlib.Core.Path.{◌≡◌, sym, ◌∙◌}
use mathlib.Core.Logic.{◌⊎◌, inl, inr}
use Prim.Native.Nat.{ℕ, ◌+◌, ◌≤◌}
use native.Mathlib.Omega.{arith}
use borrow.Author.Tests.{eqb-true}
use Rattle.nodes_fit.proofs.Siblings.{passing_more, passing_all}
use Rattle.nodes_fit.proofs.twins.segments_run.Goals as goal

-- one end more is met, or none
met_most : {q p i : ℕ} {X : Type 0} → p ≤ i → (q ≡ p) ⊎ ((q ≡ p + 1) × X) → q ≤ i + 1
met_most h (inl e) = omega (arith, h, e)
met_most h (inr e) = omega (arith, h, e.0)

pub loop-i-preserved : goal.loop-i-preserved
loop-i-preserved c =
    let w = c.loop-i.invariant in
    let a = c.args in
    let here = c.loop-i-test.true in
    let both = c.segments_fit.ensures c.if-not-segments_fit.false in (
      omega (arith, c.end_at-before.ensures, both.0.inside),
      met_most w.1 c.met-p.ensures,
      passing_more a.n a.count a.left.now a.parent.now w.2 here both.0 c.end_at-before.ensures c.met-p.ensures,
      passing_more a.n a.count a.right.now a.parent.now w.3 here both.1 (c.end_at-before.ensures ∙ sym both.2) c.met-p.ensures,
    )

pub returns : goal.returns
returns c e =
    let L = c.loop-i in
    let a = c.args in
    let p = c.requires in
    let done = c.loop-i-test.false in
    let z = eqb-true L.before a.n e in (
      passing_all a.n a.count a.left.now a.parent.now L.invariant.2 p.3 (c.if-p-many.false ∙ p.5) p.6 p.7 done z,
      passing_all a.n a.count a.right.now a.parent.now L.invariant.3 p.4 (c.if-p-many.false ∙ p.5) p.6 p.7 done z,
    )
