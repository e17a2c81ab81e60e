-- Answer records in the caller's list: what storing a batch's records leaves, and a list as the definitions have it.
use Rattle.std.specs.Prelude.{Bool, true, false, List, map, length, eqb}
use Rattle.dstree.specs.Matching.{Near}
use Rattle.batching.specs.Answered.{answer_at}
use Rattle.batching.specs.declared.AnswerRecord.{AnswerRecord}
use Rattle.batching.specs.declared.BatchFound.{BatchFound}
use Rattle.batch_answers.specs.Over.{with_first_values}

-- ---- storing

-- what storing says and leaves
pub record StoreOutcome : Type 0 where
  pub done : Bool
  pub list : List AnswerRecord

abbrev pub store_outcome : Bool → List AnswerRecord → StoreOutcome
store_outcome done list = record { done = done; list = list }

abbrev pub store_if : Bool → BatchFound → List AnswerRecord → StoreOutcome
store_if true found list = store_outcome true (with_first_values (answer_at found) found.count list)
store_if false found list = store_outcome false list

-- a list of another length than the batch is left as it was
unfoldable pub store_of : BatchFound → List AnswerRecord → StoreOutcome
store_of found list = store_if (eqb (length list) found.count) found list

-- ---- the caller's list

-- a record is a trace with its distance
abbrev pub as_near : AnswerRecord → Near
as_near a = record { trace = a.trace; distance = a.distance }

abbrev pub nears_of : List AnswerRecord → List Near
nears_of list = map as_near list
