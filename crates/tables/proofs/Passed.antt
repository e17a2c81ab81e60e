-- A refusal that `?` hands on is the one that it was given.
use Rattle.std.proofs.Common.{◌≡◌, ap, Result, Ok, Err}
use Rattle.std.specs.Result.{IsErrAnd}
use Rattle.tables.specs.declared.Refusal.{Refusal}

pub passed : {A : Type 0} (r : Result A Refusal) (why : Refusal) → IsErrAnd r (λ y. y ≡ why) → r ≡ Err why
passed (Err y) why e = ap Err e
passed (Ok _) why e = absurd e
