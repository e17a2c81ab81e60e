-- What it says that it is a library's turn, or that no leaf ahead is within the limit.
use Rattle.std.specs.Prelude.{if◌then◌else◌, Option, Some, None}
use Prim.Native.Nat.{ℕ, ◌≤◌, ◌<◌}
use mathlib.Core.Path.{◌≡◌, refl}
use mathlib.Core.Bool.{Bool, true, false, not, ◌&&◌, ◌||◌}
use native.Mathlib.Omega.{arith}
use lib.Dec.{leb}
use borrow.Author.Tests.{ltb-true, lt-ltb, leb-true, leb-false}
use Rattle.integer.proofs.Tests.{is_true}
use Rattle.leaf_order.specs.Handed.{is_past}
use Rattle.pair_search.specs.Limits.{Limit, past}
use Rattle.pair_search.specs.Sides.{has_ahead, next_of}
use Rattle.pair_search.specs.declared.turns.Whose.{Whose}
use Rattle.pair_search.specs.declared.turns.Whose.TheVariants.{Factory, Bench}
use Rattle.pair_search.specs.Turns.{turn_of}
use Rattle.pair_search.specs.declared.sides.Side.{Side}

-- by what is ahead in each, whether the factory's bound is no higher, and which of the bounds is past the limit
abbrev whose : Bool → Bool → Bool → Bool → Bool → Option Whose
whose x y z p q = if x && (not y || z) then (if p then None else Some Factory) else (if y then (if q then None else Some Bench) else None)

-- where a bound is past the limit, no lower one is
past_more : (w : Limit) (j k : ℕ) → j ≤ k → past w j ≡ true → past w k ≡ true
unfolding is_past
past_more None j k h e = e
past_more (Some distance) j k h e = lt-ltb distance k (omega (arith, ltb-true distance j e))

module _ (f b : Side) (w : Limit) where
  -- the factory's leaf is ahead, within the limit, and no higher than the bench's
  pub factorys_turn : turn_of f b w ≡ Some Factory
      → (has_ahead f ≡ true) × (past w (next_of f).bound ≡ false) × (has_ahead b ≡ true → (next_of f).bound ≤ (next_of b).bound)
  factorys_turn e =
      let h = by (has_ahead f) (has_ahead b) (leb (next_of f).bound (next_of b).bound) (past w (next_of f).bound) (past w (next_of b).bound) e in
      (h.0, h.1, λ a. leb-true (next_of f).bound (next_of b).bound (h.2 a))
    where
      by : (x y z p q : Bool) → whose x y z p q ≡ Some Factory → (x ≡ true) × (p ≡ false) × (y ≡ true → z ≡ true)
      by true true true false q e = (refl, refl, λ a. refl)
      by true false z false q e = (refl, refl, λ a. absurd (is_true a))
      by true true true true q e = absurd (cc)
      by true true false p true e = absurd (cc)
      by true true false p false e = absurd (cc)
      by true false z true q e = absurd (cc)
      by false true z p true e = absurd (cc)
      by false true z p false e = absurd (cc)
      by false false z p q e = absurd (cc)

  -- the bench's is, and lower than the factory's
  pub benchs_turn : turn_of f b w ≡ Some Bench → (has_ahead b ≡ true) × (past w (next_of b).bound ≡ false) × (has_ahead f ≡ true → (next_of b).bound < (next_of f).bound)
  benchs_turn e =
      let h = by (has_ahead f) (has_ahead b) (leb (next_of f).bound (next_of b).bound) (past w (next_of f).bound) (past w (next_of b).bound) e in
      (h.0, h.1, λ a. leb-false (next_of f).bound (next_of b).bound (h.2 a))
    where
      by : (x y z p q : Bool) → whose x y z p q ≡ Some Bench → (y ≡ true) × (q ≡ false) × (x ≡ true → z ≡ false)
      by true true false p false e = (refl, refl, λ a. refl)
      by false true z p false e = (refl, refl, λ a. absurd (is_true a))
      by true true true true q e = absurd (cc)
      by true true true false q e = absurd (cc)
      by true true false p true e = absurd (cc)
      by true false z true q e = absurd (cc)
      by true false z false q e = absurd (cc)
      by false true z p true e = absurd (cc)
      by false false z p q e = absurd (cc)

  -- neither is, so that what is ahead is past the limit
  pub no_turn : turn_of f b w ≡ None → (has_ahead f ≡ true → past w (next_of f).bound ≡ true) × (has_ahead b ≡ true → past w (next_of b).bound ≡ true)
  no_turn e =
      by (has_ahead f) (has_ahead b) (leb (next_of f).bound (next_of b).bound) (past w (next_of f).bound) (past w (next_of b).bound)
      (λ z. past_more w (next_of f).bound (next_of b).bound (leb-true (next_of f).bound (next_of b).bound z))
      (λ z. past_more w (next_of b).bound (next_of f).bound (omega (arith, leb-false (next_of f).bound (next_of b).bound z))) e
    where
      by : (x y z p q : Bool) → (z ≡ true → p ≡ true → q ≡ true) → (z ≡ false → q ≡ true → p ≡ true) → whose x y z p q ≡ None
          → (x ≡ true → p ≡ true) × (y ≡ true → q ≡ true)
      by true true true true q m n e = (λ a. refl, λ a. m refl refl)
      by true true false p true m n e = (λ a. n refl refl, λ a. refl)
      by true false z true q m n e = (λ a. refl, λ a. absurd (is_true a))
      by false true z p true m n e = (λ a. absurd (is_true a), λ a. refl)
      by false false z p q m n e = (λ a. absurd (is_true a), λ a. absurd (is_true a))
      by true true true false q m n e = absurd (cc)
      by true true false p false m n e = absurd (cc)
      by true false z false q m n e = absurd (cc)
      by false true z p false m n e = absurd (cc)
