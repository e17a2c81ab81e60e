-- What a caller in another language gets: an answer's code, and its values over the first places of a lent slice.
use Rattle.std.specs.Prelude.{ℕ, List}
use Rattle.dstree.specs.Book.{Answer}
use Rattle.tables.specs.Tables.{Tables}
use Rattle.calls.specs.Outcome.{Outcome}
use Rattle.calls.specs.Numbers.{code_of, values_of, laid}

-- ---- what a caller gets: the code, and the slice `out`

pub record Returned : Type 0 where
  pub code : ℕ
  pub out : List ℕ

abbrev pub returned : ℕ → List ℕ → Returned
returned code out = record { code = code; out = out }

unfoldable pub returned_of : Answer → List ℕ → Returned
returned_of answer out = returned (code_of answer) (laid (values_of answer) out)

-- ---- .. and what is left in the tables and beside them

pub record COutcome : Type 0 where
  pub answer : Returned
  pub after : Tables
  pub beside : List (List ℕ)

abbrev pub c_outcome : ℕ → List ℕ → Tables → List (List ℕ) → COutcome
c_outcome code out after beside = record { answer = returned code out; after = after; beside = beside }

abbrev pub c_outcome_of : Outcome → List ℕ → COutcome
c_outcome_of o out = record { answer = returned_of o.answer out; after = o.after; beside = o.beside }
