-- A test of every number below m, as a loop makes it.
use Prim.Native.Nat.{ℕ, ◌+◌, ◌≤◌, ◌<◌}
use mathlib.Core.Path.{◌≡◌, sym, subst}
use mathlib.Core.Bool.{Bool, true, false}
use lib.Dec.{T}
use Rattle.integer.specs.Words.{every, counting}
use Rattle.integer.proofs.Lists.{every_of, from_every, in_counting, from_counting}
use Rattle.integer.proofs.Tests.{is_true}
use Rattle.records_fit.proofs.Limits.{passing, failing}

module _ (passes : ℕ → Bool) (m from : ℕ) where
  -- each passed
  pub all_passed : ((x : ℕ) → from ≤ x → x < from + m → passes x ≡ true) → true ≡ every passes (counting m from)
  all_passed h = passing (every_of passes (counting m from) (λ x i. is_true (h x (from_counting m from i).0 (from_counting m from i).1)))

  -- one failed
  pub one_failed : (x : ℕ) → from ≤ x → x < from + m → passes x ≡ false → false ≡ every passes (counting m from)
  one_failed x g h e = failing (λ t. subst T e (from_every passes (counting m from) t (in_counting m from x g h)))

  -- what all passed, each passes
  pub each_passes : every passes (counting m from) ≡ true → (x : ℕ) → from ≤ x → x < from + m → passes x ≡ true
  each_passes e x g h = sym (passing (from_every passes (counting m from) (is_true e) (in_counting m from x g h)))
