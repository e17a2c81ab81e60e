-- `sheet_blocks::blocks::is_torn` meets its contract: each return answers for one part of the condition, the ones before it being false.
use Prim.Native.Nat.{ℕ}
use mathlib.Core.Path.{◌≡◌, sym, ap, ◌∙◌}
use mathlib.Core.Bool.{true, not}
use native.Mathlib.Omega.{arith}
use lib.Dec.{eqb}
use borrow.Author.Tests.{eq-eqb, ne_eqb}
use Rattle.dstree.specs.Sheet.{checked_size, part, number_in, check_of, is_torn}
use Rattle.sheet_blocks.proofs.blocks.is_torn.Goals as goal

-- the test of the check, and of the number
module _ (t : goal.Then-two_bytes-check) where
  abbrev start : goal.Then-two_bytes-check
  start = t

  abbrev right : ℕ
  right = check_of start.args.block.now

  check_is : t.check_of-check.result ≡ right
  check_is = t.check_of-check.ensures

  abbrev stated : ℕ
  stated = number_in (part checked_size 2 start.args.block.now)

  stated_is : t.two_bytes.result ≡ stated
  stated_is = t.two_bytes.ensures.0

-- the test of the check, and of the number
module _ (t : goal.Then-two_bytes-number) where
  abbrev start_2 : goal.Then-two_bytes-number
  start_2 = t

  abbrev right_2 : ℕ
  right_2 = check_of start_2.args.block.now

  check_is_2 : t.check_of-check.result ≡ right_2
  check_is_2 = t.check_of-check.ensures

  abbrev stated_2 : ℕ
  stated_2 = number_in (part checked_size 2 start_2.args.block.now)

  stated_is_2 : t.two_bytes.result ≡ stated_2
  stated_is_2 = t.two_bytes.ensures.0

whole_check : (c : goal.Then-two_bytes-number) → let b = (start_2 c).args.block.now in eqb (number_in (part checked_size 2 b)) (check_of b) ≡ true
whole_check c = eq-eqb (stated_2 c) (right_2 c) (omega (arith, stated_is_2 c, c.if-two_bytes-check.false, check_is_2 c))

-- the test of the check, and of the number
module _ (t : goal.After-kind_fits) where
  abbrev start_3 : goal.After-kind_fits
  start_3 = t

  abbrev right_3 : ℕ
  right_3 = check_of start_3.args.block.now

  check_is_3 : t.check_of-check.result ≡ right_3
  check_is_3 = t.check_of-check.ensures

  abbrev stated_3 : ℕ
  stated_3 = number_in (part checked_size 2 start_3.args.block.now)

  stated_is_3 : t.two_bytes.result ≡ stated_3
  stated_is_3 = t.two_bytes.ensures.0

whole_check_2 : (c : goal.After-kind_fits) → let b = (start_3 c).args.block.now in eqb (number_in (part checked_size 2 b)) (check_of b) ≡ true
whole_check_2 c = eq-eqb (stated_3 c) (right_3 c) (omega (arith, stated_is_3 c, c.if-two_bytes-check.false, check_is_3 c))

pub returns-then-two_bytes-check : goal.returns-then-two_bytes-check
unfolding is_torn
returns-then-two_bytes-check c =
    simp (ne_eqb (stated c) (right c) (λ e. c.if-two_bytes-check.true (omega (arith, stated_is c, e, check_is c))))

pub returns-then-two_bytes-number : goal.returns-then-two_bytes-number
unfolding is_torn
returns-then-two_bytes-number c =
    simp (whole_check c, ne_eqb _ _ (λ p. c.if-two_bytes-number.true (c.two_bytes-2.ensures.0 ∙ p)))

pub returns : goal.returns
unfolding is_torn
returns c =
    let a = (start_3 c).args in
    simp (whole_check_2 c, eq-eqb _ _ (sym c.two_bytes-2.ensures.0 ∙ c.if-two_bytes-number.false))
    (ap not (c.kind_fits.ensures))
