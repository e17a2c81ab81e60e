-- `segment_bound::roots::line` meets its contract: v is below x p, where p is 2 ^ s and x is v / p and one, and the line at x lies above the root
-- of that (`Newton`). With v of m bits s is half of m, rounded down, so that v / p has at most 32.
use mathlib.Core.Path.{◌≡◌, sym, subst, ◌∙◌}
use Prim.Native.Nat.{ℕ, ◌+◌, ◌-◌, ◌*◌, ◌/◌, ◌%◌, ◌^◌, ◌≤◌, ◌<◌}
use native.Mathlib.Nat.{one-mul, div-add-mod', mod-lt}
use native.Mathlib.Decide.{dec_le}
use native.Mathlib.Omega.{arith}
use lib.Pow.{pow_mono, pow_pos, shl_exact, shr_lt}
use lib.Dec.{lit<}
use lib.Count.{count_leading_zeros, leading_le, leading_length}
use Rattle.segment.proofs.Newton.{line_above, lower_line, upper_line}
use Rattle.segment_bound.proofs.roots.line.Goals as goal

abbrev half : ℕ → ℕ
half v = (64 - count_leading_zeros 64 v) / 2

-- a number below 2 ^ 63 has at most 63 bits
half_most : (v : ℕ) → v < 2 ^ 63 → half v ≤ 31
half_most v h = let l = leading_length 64 v (omega arith) in by l.0 l.1 l.3 (dec_le 64 l.0)
  where
    by : (m : ℕ) → count_leading_zeros 64 v + m ≡ 64 → 2 ^ m ≤ 2 * v + 1 → Dec (64 ≤ m) → half v ≤ 31
    by m e k (yes l) = absurd (omega (arith, pow_mono l))
    by m e k (no f) = omega arith

-- 1 << s
power : (s : ℕ) → s ≤ 31 → (1 * 2 ^ s) % 2 ^ 64 ≡ 2 ^ s
power s h = shl_exact 1 s 64 (lit< tt) (omega arith) ∙ one-mul (2 ^ s)

abbrev one : ℕ → ℕ
one v = (1 * 2 ^ half v) % 2 ^ 64

-- (v >> s) + 1
abbrev part : ℕ → ℕ
part v = v / 2 ^ half v + 1

module _ (v : ℕ) (small : v < 2 ^ 63) where
  one_small : one v ≤ 2 ^ 31
  one_small = omega (arith, power (half v) (half_most v small), pow_mono (half_most v small))

  part_small : part v ≤ 2 ^ 32
  part_small =
      let l = leading_length 64 v (omega arith) in
      let enough : l.0 ≤ 32 + half v = omega (arith, l.1) in
      let below : v / 2 ^ half v < 2 ^ 32 = shr_lt 32 (half v) (omega (arith, l.2, pow_mono enough)) in
      omega (arith, below)

  inside : v < part v * one v
  inside =
      let e : ℕ = 2 ^ half v in
      let below : v < part v * e = omega (arith, div-add-mod' v e, mod-lt v (pow_pos (half v))) in
      subst (λ (p : ℕ). v < part v * p) (sym (power (half v) (half_most v small))) below

  above : (y : ℕ) → 65536 * (part v * one v) ≤ y * y → v < (y / 256 + 1) * (y / 256 + 1)
  above y h = line_above v (part v) (one v) (y / 256 + 1) y inside (omega arith) h

-- where v is below 2 ^ 63
module _ (c : goal.Else-v-ge9223372036854775808) where
  small : c.args.v < 2 ^ 63
  small = c.if-v-ge9223372036854775808.false

  one_most : one c.args.v ≤ 2 ^ 31
  one_most = one_small c.args.v small

  part_most : part c.args.v ≤ 2 ^ 32
  part_most = part_small c.args.v small

pub returns-then-v-ge9223372036854775808 : goal.returns-then-v-ge9223372036854775808
returns-then-v-ge9223372036854775808 c = (omega arith, omega (arith, c.ranges.v.fits))

pub overflow_sub-s : goal.overflow_sub-s
overflow_sub-s c = omega (arith, leading_le 64 c.args.v)

pub overflow_add-x : goal.overflow_add-x
overflow_add-x c = omega (arith, part_most c)

pub overflow_mul-result : goal.overflow_mul-result
overflow_mul-result c = omega (arith, part_most c.before)

pub overflow_mul-result-then-x-one : goal.overflow_mul-result-then-x-one
overflow_mul-result-then-x-one c = omega (arith, one_most c.before)

pub overflow_add-result : goal.overflow_add-result
overflow_add-result c = omega (arith, one_most c.before, part_most c.before)

pub overflow_add-result-then-x-one : goal.overflow_add-result-then-x-one
overflow_add-result-then-x-one c = omega (arith, one_most c.before, part_most c.before)

pub returns-then-x-one : goal.returns-then-x-one
returns-then-x-one c =
    let v : ℕ = c.args.v in
    (omega (arith, one_most c.before, part_most c.before, c.if-x-one.true), above v (small c.before) (151 * part v + 109 * one v) (lower_line (part v) (one v)))

pub overflow_mul-result-2 : goal.overflow_mul-result-2
overflow_mul-result-2 c = omega (arith, part_most c.before)

pub overflow_mul-result-3 : goal.overflow_mul-result-3
overflow_mul-result-3 c = omega (arith, one_most c.before)

pub overflow_add-result-2 : goal.overflow_add-result-2
overflow_add-result-2 c = omega (arith, one_most c.before, part_most c.before)

pub overflow_add-result-3 : goal.overflow_add-result-3
overflow_add-result-3 c = omega (arith, one_most c.before, part_most c.before)

pub returns : goal.returns
returns c =
    let v : ℕ = c.args.v in
    (omega (arith, one_most c.before, part_most c.before), above v (small c.before) (107 * part v + 154 * one v) (upper_line (part v) (one v)))
