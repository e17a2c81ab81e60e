-- A write that failed stays so through two calls, where it stays through each.
use Rattle.std.proofs.Common.{◌≡◌, Result, IsErr, ◌∙◌, sym, subst}

pub stays_through : {A B : Type 0} {before between after : Result A B} → (IsErr before → between ≡ before)
    → (IsErr between → after ≡ between) → IsErr before → after ≡ before
stays_through first second failed =
    let same = first failed in second (subst IsErr (sym same) failed) ∙ same
