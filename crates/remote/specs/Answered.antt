-- What `remote_match` answers, in document 02's terms: with the trail's beginning, which code leaves in the trail.
use Rattle.std.specs.Prelude.{ℕ, List, take, Result, Ok, Err}
use Rattle.dstree.specs.Book.{Answer, answering, refusing, remote_matched}
use Rattle.tables.specs.Answers.{word_of}
use Rattle.remote.specs.declared.RemoteFound.{RemoteFound}
use Rattle.tables.specs.declared.Refusal.{Refusal}

-- "a match whose answer adds the fault code and nothing else"
unfoldable pub answer_by : Result RemoteFound Refusal → List ℕ → Answer
answer_by (Ok f) trail = answering (remote_matched
    (record { trace = f.trace; distance = f.distance; leaves = f.leaves; traces = f.traces; trail = take f.leaves trail }) f.code)
answer_by (Err why) trail = refusing (word_of why)
