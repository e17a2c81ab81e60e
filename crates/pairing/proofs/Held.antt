-- When a table holds a trace, as `stored_part` asks and as code tests it, by a division.
use mathlib.Core.Path.{◌≡◌}
use Prim.Native.Nat.{ℕ, suc, ◌*◌, ◌/◌, ◌≤◌, ◌<◌}
use native.Mathlib.Nat.{le-div_iff_mul-le, div-lt_iff_lt-mul, mul-zero, zero-add}
use native.Mathlib.Omega.{arith}
use lib.ListN.{length}
use borrow.Author.Tests.{le-leb, lt-leb}
use Rattle.pairing.specs.Parts.{LentPart, no_words, trace_part, stored_part}

-- the quotient is above t exactly where t + 1 traces fit
pub above : (n t size : ℕ) → 0 < n → t < size / n → suc t * n ≤ size
above n t size pos less = (le-div_iff_mul-le {k = n} {x = suc t} {y = size} pos).0 less

pub beyond : (n t size : ℕ) → 0 < n → size / n ≤ t → size < suc t * n
beyond n t size pos less = (div-lt_iff_lt-mul {k = n} {x = size} {y = suc t} pos).0 (omega arith)

module _ (table : LentPart) (n t : ℕ) where
  pub held : suc t * n ≤ length table.contents → trace_part table n t ≡ stored_part table n t
  unfolding stored_part
  held fits = rw (le-leb _ _ fits)

  pub not_held : length table.contents < suc t * n → no_words table ≡ stored_part table n t
  unfolding stored_part
  not_held short = rw (lt-leb _ _ short)

  -- traces of no words: each is empty, at the table's start
  pub none_held : n ≡ 0 → no_words table ≡ stored_part table n t
  unfolding stored_part trace_part
  none_held none = rw (none, mul-zero, le-leb 0 (length table.contents) (omega arith), mul-zero, zero-add)
