-- A call on a memory that holds anything, by its definition. The memory of a library is one, and a call is lent the first so many places of
-- each table.
use Rattle.std.specs.Prelude.{◌≡◌, List, [], ◌∷◌, ℕ, T}
use Rattle.dstree.specs.Labels.{is_label}
use Rattle.dstree.specs.Sheet.{are_bytes}
use Rattle.dstree.specs.Pair.{Other}
use Rattle.dstree.specs.Book.{Ask, opening, adding, searching, writing, reading, importing, exporting, checking, labelling, pairing}
use Rattle.dstree.specs.Book.{Call, Reply}
use Rattle.tables.specs.Tables.{Tables, lent_of}
use Rattle.tables.specs.Beginning.{first_places, left}
use Rattle.calls.specs.Outcome.{Outcome, outcome}
use Rattle.calls.specs.Effects.{other_in, outcome_on}

-- another library that a call is lent is what some tables hold, with a trail. Nothing is said of these
pub record FromTables (other : Other) : Type 0 where
  pub of : Tables
  pub trail : List ℕ
  pub is : other ≡ other_in of trail

-- what types say of what a call brings, as far as it bears. The label of a trace that is added is a code of 16 bits and a serial of 32. A
-- sheet that is read is bytes, and so is a recording that is imported. Of samples nothing is asked: a call refuses those outside the limits
-- (15), and the words of a samples table stand for samples, whatever they are. Another library comes as its tables
unfoldable pub Typed : Ask → Type 0
Typed (opening m) = Unit
Typed (adding x l) = T (is_label l)
Typed (searching q) = Unit
Typed (writing sheet) = Unit
Typed (reading bytes) = T (are_bytes bytes)
Typed (importing bytes) = T (are_bytes bytes)
Typed (exporting number rate buffer) = Unit
Typed checking = Unit
Typed (labelling number) = Unit
Typed (pairing which other query trail) = FromTables other

-- what a call answers, and what it leaves in the memory and in what it is lent beside the tables. Places behind those that it is lent stay
abbrev pub outcome_in : Call → Tables → Outcome
outcome_in c memory =
    let o = outcome_on c.ask (first_places c.lent memory) in
    outcome o.answer (left o.after memory) o.beside

-- a call that follows its definition, what it answered, and the memory after it
pub record Follows (c : Call) (memory : Tables) (said : Reply) (memory' : Tables) : Type 0 where
  -- the memory has the places that are lent
  pub has_places : lent_of (first_places c.lent memory) ≡ c.lent
  pub typed : Typed c.ask
  pub follows : outcome said.answer memory' said.beside ≡ outcome_in c memory

-- ---- a list of calls, "in any order, with any arguments, any of them refused"; "Each call gets the tables as the last one left them", and
-- "nobody else writes" them "meanwhile"

pub data Ran : Tables → List Call → List Reply → Tables → Type 0 where
  no_call : {memory : Tables} → Ran memory [] [] memory
  a_call : {memory between after : Tables} {c : Call} {said : Reply} {rest : List Call} {others : List Reply}
      → Follows c memory said between → Ran between rest others after → Ran memory (c ∷ rest) (said ∷ others) after
