-- `records_fit::records::segments_fit` meets its contract: none or more than 16 do not hold, and any others as their loop finds.
use mathlib.Core.Path.{sym, ap, ◌∙◌}
use Prim.Native.Nat.{ℕ}
use native.Mathlib.Omega.{arith}
use Rattle.records_fit.specs.Fits.{segments_in_from, rest_holds}
use Rattle.records_fit.proofs.Segments.{none_hold, many_hold, some_hold}
use Rattle.records_fit.proofs.records.segments_fit.Goals as goal

pub returns-then-count-lt1 : goal.returns-then-count-lt1
returns-then-count-lt1 c = let a = c.args in sym (none_hold a.n a.places.now (omega (arith, c.small_at-count.ensures, c.if-count-lt1.true)))

pub returns-then-count-gt16 : goal.returns-then-count-gt16
returns-then-count-gt16 c = let a = c.args in sym (many_hold a.n a.places.now (omega (arith, c.small_at-count.ensures, c.if-count-gt16.true)))

pub segments_run-requires : goal.segments_run-requires
segments_run-requires c = (c.requires.0, omega arith, c.requires.1)

pub returns : goal.returns
returns c =
    let a = c.args in
    c.segments_run.ensures
    ∙ (ap (λ (count : ℕ). rest_holds a.n 0 (segments_in_from a.places.now count 0)) c.small_at-count.ensures
    ∙ sym (some_hold a.n a.places.now (omega (arith, c.small_at-count.ensures, c.if-count-lt1.false)) (omega (arith, c.small_at-count.ensures, c.if-count-gt16.false))))
