-- What `match_both` answers, in document 02's terms: with the beginnings of both trails, which code leaves in them.
use Rattle.std.specs.Prelude.{ℕ, ◌+◌, List, Result, Ok, Err}
use Rattle.dstree.specs.Book.{Answer, answering, refusing, paired}
use Rattle.tables.specs.Answers.{word_of}
use Rattle.tables.specs.declared.Refusal.{Refusal}
use Rattle.pair_search.specs.BothSearched.{pair_match_by}
use Rattle.pairing.specs.declared.Paired.{Paired}

-- "It says which library"; "Each has its own trail, by bound, then number; counts are over both"
unfoldable pub answer_by : Result Paired Refusal → List ℕ → List ℕ → Answer
answer_by (Ok p) trail bench_trail =
    answering (paired (pair_match_by p.library p.trace p.distance p.leaves p.bench_leaves p.traces trail bench_trail))
answer_by (Err why) trail bench_trail = refusing (word_of why)

-- the leaves that are told: over both, and of them the factory's
unfoldable pub leaves_by : Result Paired Refusal → ℕ
leaves_by (Ok p) = p.leaves + p.bench_leaves
leaves_by (Err why) = 0

unfoldable pub factory_leaves_by : Result Paired Refusal → ℕ
factory_leaves_by (Ok p) = p.leaves
factory_leaves_by (Err why) = 0
