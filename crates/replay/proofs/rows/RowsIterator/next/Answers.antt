-- The next row of a script: it ends with the script, if it says that it is longer.
use native.Mathlib.Omega.{arith}
use mathlib.Core.Path.{ap, ◌∙◌}
use Prim.Native.Nat.{ℕ, min}
use lib.ListN.{length}
use Rattle.replay.proofs.ReadBack.{first_row}
use Rattle.replay.proofs.rows.RowsIterator.next.Goals as goal

pub returns-clause-steps : goal.returns-clause-steps
returns-clause-steps c =
    first_row _ _ _ _ _ _ c.in_ok-size.ensures.cases.0
    (c.min.ensures ∙ ap (λ (k : ℕ). min k (length c.in_ok-size.rest.now)) c.places.ensures) c.split_at.ensures.front c.split_at.ensures.back

pub returns-clause-goes : goal.returns-clause-goes
returns-clause-goes c =
    let steps = first_row _ _ _ _ _ _ c.in_ok-size.ensures.cases.0
    (c.min.ensures ∙ ap (λ (k : ℕ). min k (length c.in_ok-size.rest.now)) c.places.ensures) c.split_at.ensures.front c.split_at.ensures.back in
    record { on = λ _. (tt, tt, omega (arith, ap length steps)); keeps = tt; rests = λ _. tt }
