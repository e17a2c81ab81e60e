-- `segment_bound::roots::falling_from` meets its contract: no estimate is below the root, and the one whose square is at most v is not above it
-- (`Newton`), so that it is the last of the falling ones. An estimate whose square is above v is followed by a lower one.
use mathlib.Core.Path.{sym, subst, ◌∙◌}
use Prim.Native.Nat.{ℕ, ◌-◌, ◌^◌, ◌≤◌}
use native.Mathlib.Nat.{mul-le-mul}
use native.Mathlib.Omega.{arith}
use Rattle.segment.proofs.Newton.{Estimate, after_start, after_one, quotient_below, between, floor_unique, floor_from}
use Rattle.segment_bound.proofs.roots.falling_from.Goals as goal

first : (c : goal.After-lower) → Estimate c.args.v c.lower.result
first c =
    let v : ℕ = c.args.v in
    let p = c.requires in
    subst (Estimate v) (sym c.lower.ensures) (after_start v c.args.start p.0 p.1 p.2)

pub lower-requires : goal.lower-requires
lower-requires c = (c.requires.1, c.requires.2)

pub lower_or_same-est-requires : goal.lower_or_same-est-requires
lower_or_same-est-requires c = ((first c).0, omega (arith, (first c).1))

pub loop-est-init : goal.loop-est-init
loop-est-init c =
    let v : ℕ = c.args.v in
    subst (Estimate v) (sym c.lower_or_same-est.ensures) (after_one v c.lower.result c.requires.0 (first c.before))

pub overflow_mul-est : goal.overflow_mul-est
overflow_mul-est c =
    let h : c.loop-est.est ≤ 2 ^ 32 - 1 = omega arith in
    omega (arith, mul-le-mul h h)

pub lower-est-requires : goal.lower-est-requires
lower-est-requires c = (omega (arith, c.loop-est.invariant.1), c.if-est-v.false)

pub loop-est-smaller : goal.loop-est-smaller
loop-est-smaller c =
    let v : ℕ = c.args.v in
    omega (arith, c.lower-est.ensures, quotient_below v c.loop-est.est c.if-est-v.false)

pub loop-est-preserved : goal.loop-est-preserved
loop-est-preserved c =
    subst (Estimate c.args.v) (sym c.lower-est.ensures) (after_one c.args.v c.loop-est.est c.requires.0 c.loop-est.invariant)

pub returns : goal.returns
returns c =
    floor_unique (between c.if-est-v.true c.loop-est.invariant.2) ∙ sym (floor_from c.args.v c.args.start c.requires.0 c.requires.2)
