-- `segment_bound::terms::quotient` meets its contract: where w is 2 ^ s, a shift by s divides by w.
use mathlib.Core.Path.{◌≡◌, sym, ap, ◌∙◌}
use Prim.Native.Nat.{ℕ, ◌*◌, ◌/◌, ◌%◌, ◌^◌, ◌≤◌}
use native.Mathlib.Nat.{one-mul}
use native.Mathlib.Omega.{arith}
use lib.Pow.{shl_exact}
use lib.Dec.{lit<}
use Rattle.segment_bound.proofs.terms.quotient.Goals as goal

-- 1 << s
power : (s : ℕ) → s ≤ 63 → (1 * 2 ^ s) % 2 ^ 64 ≡ 2 ^ s
power s h = shl_exact 1 s 64 (lit< tt) (omega arith) ∙ one-mul (2 ^ s)

pub returns-then-power-w : goal.returns-then-power-w
returns-then-power-w c =
    let e = power c.ilog2-s.result (omega (arith, c.ilog2-s.ensures.bound)) in
    ap (λ (p : ℕ). c.args.v / p) (sym e ∙ c.if-power-w.true)
