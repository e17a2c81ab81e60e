-- A call's own equation, with what is returned of its answer, is the exported call's.
use Prim.Native.Nat.{ℕ}
use mathlib.Core.Path.{◌≡◌, ap, ◌∙◌}
use mathlib.Core.List.{List}
use Rattle.dstree.specs.Book.{Answer}
use Rattle.tables.specs.Tables.{Tables}
use Rattle.calls.specs.Outcome.{Outcome, outcome}
use Rattle.telling.specs.COutcome.{Returned, returned, returned_of, COutcome, c_outcome, c_outcome_of}

pub exported_call : (code : ℕ) (out out' : List ℕ) (answer : Answer) (after : Tables) (beside : List (List ℕ)) (o : Outcome)
    → returned code out' ≡ returned_of answer out → outcome answer after beside ≡ o → c_outcome code out' after beside ≡ c_outcome_of o out
exported_call code out out' answer after beside o e f =
    ap {B = COutcome} (λ (x : Returned). record { answer = x; after = after; beside = beside }) e ∙ ap (λ (x : Outcome). c_outcome_of x out) f
