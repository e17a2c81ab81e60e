-- What was found in each library, and the winner of the two, are what the steps answer.
use Prim.Native.Nat.{ℕ, ◌+◌, ◌≤◌}
use mathlib.Core.List.{List}
use mathlib.Core.Path.{◌≡◌, ◌∙◌, ap}
use lib.ListN.{length, take}
use lib.Seq.{length-take-le}
use Rattle.dstree.specs.Measures.{Trace}
use Rattle.dstree.specs.KNearest.{kth}
use Rattle.dstree.specs.Pair.{PairSearch, pair_search, Winner, winner_of, pair_from, pair_along, pair_by_steps}
use Rattle.tables.specs.Tables.{Tables}
use Rattle.reading.specs.Listed.{nears_in}
use Rattle.pair_search.specs.BothSearched.{indexed_in, pair_match_by}
use Rattle.pair_search.specs.Visiting.{search_in, BothVisited}
use Rattle.pair_search.specs.Winning.{winner_by}
use Rattle.pair_search.specs.declared.sides.Side.{Side}
use Rattle.pair_search.specs.declared.winning.Won.{Won}

module _ (tf tb : Tables) (query : Trace) (trail trail' list list' bench_trail bench_trail' bench_list bench_list' : List ℕ) (f b : Side)
    (v : BothVisited tf tb query trail trail' list list' bench_trail bench_trail' bench_list bench_list' f b)
    (within : f.out ≤ length trail') (bench_within : b.out ≤ length bench_trail') (r : Won)
    (wins : winner_by r ≡ winner_of (kth 1 (nears_in f.listed list')) (kth 1 (nears_in b.listed bench_list'))) where
  abbrev seen : PairSearch
  seen = pair_search (search_in f trail' list') (search_in b bench_trail' bench_list')

  as_found : pair_match_by r.library r.trace r.distance f.out b.out (f.traces + b.traces) trail' bench_trail'
      ≡ pair_from (winner_by r) seen
  unfolding pair_from
  as_found =
      let e : length (take f.out trail') ≡ f.out = length-take-le f.out trail' within in
      let g : length (take b.out bench_trail') ≡ b.out = length-take-le b.out bench_trail' bench_within in
      rw (e, g)

  pub joined : pair_match_by r.library r.trace r.distance f.out b.out (f.traces + b.traces) trail' bench_trail'
      ≡ pair_by_steps (indexed_in tf) (indexed_in tb) query
  unfolding pair_by_steps pair_along
  joined =
      as_found ∙ (ap (λ (w : Winner). pair_from w seen) wins
      ∙ ap (λ (s : PairSearch). pair_from (winner_of s.in_factory.best s.in_bench.best) s) v.found)
