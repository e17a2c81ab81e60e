-- The counts, test by test.
use Prim.Native.Nat.{ℕ, zero, suc, ◌*◌, ◌-◌, ◌≤◌, ◌<◌}
use mathlib.Core.Path.{◌≡◌, refl}
use mathlib.Core.Bool.{true, false, ◌&&◌, beq}
use native.Mathlib.Omega.{arith}
use lib.Dec.{leb, ltb, eqb, leb→le, ltb→lt, le→leb, lt→ltb, eqb-suc-zero}
use borrow.Author.Tests.{le-leb, lt-leb, eq-eqb, ne_eqb}
use Rattle.integer.proofs.Tests.{same_test}
use Rattle.well_formed.specs.Whole.{counts_fit}

module _ (m k capacity : ℕ) where
  pub too_many : capacity < k → counts_fit m k capacity ≡ false
  unfolding counts_fit
  too_many h = rw (lt-leb k capacity h)

  pub no_trace : k ≤ capacity → k ≡ 0 → counts_fit m k capacity ≡ eqb m 0
  unfolding counts_fit
  no_trace h e = rw (le-leb k capacity h, e) (by m)
    where
      by : (x : ℕ) → beq (eqb x 0) true && leb x 0 ≡ eqb x 0
      by zero = refl
      by (suc x) = rw (eqb-suc-zero x)

  module _ (h : k ≤ capacity) (f : k ≡ 0 → ⊥) where
    pub no_node : m ≡ 0 → counts_fit m k capacity ≡ false
    unfolding counts_fit
    no_node e = rw (le-leb k capacity h, ne_eqb k 0 f, eq-eqb m 0 e)

    pub some_nodes : (m ≡ 0 → ⊥) → counts_fit m k capacity ≡ ltb m (2 * k)
    unfolding counts_fit
    some_nodes g = rw (le-leb k capacity h, ne_eqb k 0 f, ne_eqb m 0 g) (same_test
        (λ t. lt→ltb m (2 * k) (omega (arith, leb→le m (2 * k - 1) t, f)))
        (λ t. le→leb m (2 * k - 1) (omega (arith, ltb→lt m (2 * k) t))))
