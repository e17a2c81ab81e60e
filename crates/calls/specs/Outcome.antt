-- One shape for every call: the table's conditions, in order, and the work that is done if none holds.
use Rattle.std.specs.Prelude.{ℕ, List}
use Rattle.std.proofs.Math.Option.{Option, none, some}
use Rattle.dstree.specs.Refusals.{Refusal, Condition, first_of}
use Rattle.dstree.specs.Book.{Result, Answer, refusing, answering}
use Rattle.tables.specs.Tables.{Tables}

-- what a call does that is lent some tables, and slices beside them
pub record Effect : Type 0 where
  -- "Order: .." 3 is among them: these tables hold anything
  pub conditions : List Condition
  -- if none holds: the answer, the tables after the call, and what is then in the slices beside them
  pub result : Result
  pub after : Tables
  pub beside : List (List ℕ)

-- what a call answers and leaves
pub record Outcome : Type 0 where
  pub answer : Answer
  pub after : Tables
  pub beside : List (List ℕ)

abbrev pub outcome : Answer → Tables → List (List ℕ) → Outcome
outcome answer after beside = record { answer = answer; after = after; beside = beside }

-- demand 1: "does its work or gives the one refusal that document 01 fixes, with all lent memory then as before the call"
unfoldable pub unless_refused : Option Refusal → Tables → List (List ℕ) → Effect → Outcome
unless_refused (some why) before beside e = outcome (refusing why) before beside
unless_refused none before beside e = outcome (answering e.result) e.after e.beside

-- "No condition, no refusal"
abbrev pub outcome_of : Tables → List (List ℕ) → Effect → Outcome
outcome_of before beside e = unless_refused (first_of e.conditions) before beside e
