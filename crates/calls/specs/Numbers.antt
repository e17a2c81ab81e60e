-- An answer as numbers: a code, and values.
use Rattle.std.specs.Prelude.{ℕ, List, [], ◌∷◌, length}
use Rattle.dstree.specs.Pair.{by_which}
use Rattle.dstree.specs.Refusals.{number_of, place_of}
use Rattle.dstree.specs.LeafLimit.{settled, unsettled}
use Rattle.dstree.specs.Book.{Result, done, added, matched, written, neighbours, imported, exported, accepted, batched, labelled}
use Rattle.dstree.specs.Book.{remote_matched, banded, paired, limited, possible, Answer, refusing, answering}

-- "A refusal gives its number": 0 is no refusal
unfoldable pub code_of : Answer → ℕ
code_of (answering result) = 0
code_of (refusing why) = number_of why

-- "Opening and sheet reading answer only that they succeeded, adding the new trace's number, writing the number of blocks"; "The answer is
-- trace number, distance, leaves read and traces read"; of the k nearest, leaves read, traces read, and how many are listed; of an import
-- how many traces, of an export how many bytes; of a check nothing, as of an opening; of a batch leaves read; of the bench's call for a
-- label code and serial; of the remote's the match's, and the code; of a report nothing, since it stands in the caller's list. Of two
-- libraries it is which of them, 0 the factory's and 1 the bench's, then as of a match, and how many of the leaves are the factory's. Of a
-- match with a limit it is as of a match, then 1 if it is settled, else 0, and the bound of the first unread leaf; for a clipped sweep how
-- many are listed
unfoldable pub result_values : Result → List ℕ
result_values done = []
result_values (added number) = number ∷ []
result_values (matched m) = m.trace ∷ m.distance ∷ m.leaves ∷ m.traces ∷ []
result_values (written blocks sheet) = blocks ∷ []
result_values (neighbours m) = m.leaves ∷ m.traces ∷ length m.list ∷ []
result_values (imported count) = count ∷ []
result_values (exported size bytes) = size ∷ []
result_values accepted = []
result_values (batched m) = m.leaves ∷ []
result_values (labelled l) = l.code ∷ l.serial ∷ []
result_values (remote_matched m code) = m.trace ∷ m.distance ∷ m.leaves ∷ m.traces ∷ code ∷ []
result_values (banded report) = []
result_values (paired m) =
    by_which m.which 0 1 ∷ m.trace ∷ m.distance ∷ m.leaves ∷ m.traces ∷ length m.factory_trail ∷ []
result_values (limited (settled m)) = m.trace ∷ m.distance ∷ m.leaves ∷ m.traces ∷ 1 ∷ 0 ∷ []
result_values (limited (unsettled next m)) = m.trace ∷ m.distance ∷ m.leaves ∷ m.traces ∷ 0 ∷ next ∷ []
result_values (possible m) = m.count ∷ []

-- a refusal gives "a place"
unfoldable pub values_of : Answer → List ℕ
values_of (answering result) = result_values result
values_of (refusing why) = place_of why ∷ []

-- numbers over the first places of a slice: places behind them stay, and numbers for which there is no place are left out
unfoldable pub laid : List ℕ → List ℕ → List ℕ
laid [] out = out
laid (x ∷ values) [] = []
laid (x ∷ values) (place ∷ out) = x ∷ laid values out
