-- What `match_within` answers, in document 02's terms: with the trail's beginning, which code leaves in the trail.
use Rattle.std.specs.Prelude.{ℕ, List, Result, Ok, Err, Option, Some, None}
use Rattle.dstree.specs.Matching.{Match}
use Rattle.dstree.specs.LeafLimit.{LimitedMatch, settled, unsettled}
use Rattle.dstree.specs.Book.{Answer, answering, refusing, limited}
use Rattle.tables.specs.Answers.{word_of}
use Rattle.tables.specs.declared.Refusal.{Refusal}
use Rattle.search.specs.Searched.{match_by}
use Rattle.limiting.specs.declared.Limited.{Limited}

-- "If the whole trail was read the answer is settled and is the match. Else it is the best so far, with the bound of the first unread
-- leaf"
unfoldable pub limited_by : Option ℕ → Match → LimitedMatch
limited_by None m = settled m
limited_by (Some bound) m = unsettled bound m

unfoldable pub answer_by : Result Limited Refusal → List ℕ → Answer
answer_by (Ok l) trail = answering (limited (limited_by l.unread (match_by l.trace l.distance l.leaves l.traces trail)))
answer_by (Err why) trail = refusing (word_of why)
