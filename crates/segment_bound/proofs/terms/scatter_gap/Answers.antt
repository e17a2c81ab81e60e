-- `segment_bound::terms::scatter_gap` meets its contract: its two differences are the definition's; of a range in order one of them is 0.
use mathlib.Core.Path.{◌≡◌, ap₂, ◌∙◌}
use Prim.Native.Nat.{ℕ, ◌-◌, ◌≤◌, ◌<◌, min, max}
use native.Mathlib.Decide.{dec_lt}
use native.Mathlib.Omega.{arith}
use Rattle.segment.specs.Roots.{floor_root, ceiling_root}
use Rattle.segment.specs.Terms.{scatter_gap}
use Rattle.segment.proofs.Newton.{floor_below_ceiling}
use Rattle.segment_bound.proofs.terms.scatter_gap.Goals as goal

ordered : (u least greatest : ℕ) → least ≤ greatest → floor_root (max u least) - ceiling_root (min u greatest) ≡ scatter_gap u least greatest
unfolding scatter_gap
ordered u least greatest h = by (dec_lt u least) (dec_lt greatest u)
  where
    by : Dec (u < least) → Dec (greatest < u)
        → floor_root (max u least) - ceiling_root (min u greatest) ≡ max (floor_root least - ceiling_root u) (floor_root u - ceiling_root greatest)
    by (yes a) d =
        let e : max u least ≡ least = omega arith in
        let f : min u greatest ≡ u = omega arith in
        rw (e, f) (omega (arith, floor_below_ceiling {a = u} {b = greatest} (omega arith)))
    by (no a) (yes d) =
        let e : max u least ≡ u = omega (arith, a) in
        let f : min u greatest ≡ greatest = omega arith in
        rw (e, f) (omega (arith, floor_below_ceiling {a = least} {b = u} (omega (arith, a))))
    by (no a) (no d) =
        let e : max u least ≡ u = omega (arith, a) in
        let f : min u greatest ≡ u = omega (arith, d) in
        rw (e, f)
        (omega (
          arith,
          floor_below_ceiling {a = u} {b = u} (omega arith),
          floor_below_ceiling {a = least} {b = u} (omega (arith, a)),
          floor_below_ceiling {a = u} {b = greatest} (omega (arith, d)),
        ))

pub returns-then-greatest-least : goal.returns-then-greatest-least
unfolding scatter_gap
returns-then-greatest-least c = c.max.ensures ∙ ap₂ max c.root_excess.ensures c.root_excess-then-greatest-least.ensures

pub returns : goal.returns
returns c =
    c.root_excess-2.ensures
    ∙ ap₂ (λ (a b : ℕ). floor_root a - ceiling_root b) c.max-2.ensures c.min.ensures
    ∙ ordered c.args.u c.args.least c.args.greatest (omega arith)
