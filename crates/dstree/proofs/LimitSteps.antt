-- A match with a limit on leaves, on any tree: the steps read the first ones of the leaves that the match reads, and the next bound tells
-- whether one of these is left. `reads` are the leaves that a search reads; of the first k leaves in order it reads the first k of them
-- (`reads_limited`), and the leaf behind is still to be read exactly if it is one of them (`next_is`).
use Rattle.std.specs.Prelude.{if◌then◌else◌}
use Prim.Native.Nat.{ℕ, zero, suc, ◌≤◌, ◌<◌}
use mathlib.Core.Path.{◌≡◌, refl, sym, ◌∙◌, ap}
use mathlib.Core.Bool.{Bool, true, false}
use mathlib.Core.Option.{Option, none, some, some-injective}
use mathlib.Core.List.{List, [], ◌∷◌, map, foldl, flatten}
use native.Mathlib.Omega.{arith}
use lib.ListN.{length, take, drop, length-map, length-take, length-append, drop_of_length-le}
use lib.Seq.{take_all, take-take}
use Rattle.integer.specs.Words.{total}
use Rattle.integer.specs.Sorting.{at_place}
use Rattle.integer.proofs.Lists.{In, first, some_in, in_get_or, InMap, of, from_map, in_flat, InFlat, flat, from_flat, map_take}
use Rattle.integer.proofs.Sorting.{from_take}
use Rattle.dstree.specs.Measures.{Trace}
use Rattle.dstree.specs.Node.{Tree, node_at}
use Rattle.dstree.specs.Formed.{Shape}
use Rattle.dstree.specs.Matching.{LeafBound, numbers_in, leaves, reading_order, read_on, Near, near_at, best_with, Search, distances_in}
use Rattle.dstree.specs.Matching.{read_leaf, is_above, search_on, searched, Match}
use Rattle.dstree.specs.KNearest.{list_on, distances_among, SameIn}
use Rattle.dstree.specs.Batch.{best_among, near_or_zero, match_seen, answer_in, NearestOf}
use Rattle.dstree.specs.LeafLimit.{settled, unsettled, match_so_far, full_trail, leaf_numbers, best_in, limited_by, limited_match}
use Rattle.dstree.specs.LeafLimit.{limited_search, next_bound, limited_from, limited_by_steps, LimitSteps, LimitAnywhere}
use Rattle.dstree.specs.LeafLimit.{LimitFormed, LimitOfFormed}
use Rattle.dstree.proofs.Formed.{formed}
use Rattle.dstree.proofs.Reading.{kept_leaf, leaf_full, reading_of, reading_length}
use Rattle.dstree.proofs.Search.{read_all, nears_read, read_trail, read_traces, read_best}
use Rattle.dstree.proofs.Ranks.{nearer_no}
use Rattle.dstree.proofs.OffTrail.{alike_in, same_reading}
use Rattle.dstree.proofs.KSteps.{as_listing, one_on}
use Rattle.dstree.proofs.BatchSteps.{best_of}

-- ---- answers

-- what a search has found, as a match
abbrev pub seen_by : Search → Match
seen_by s = match_seen s s.best

-- the bound of the first of some leaves
first_bound : List LeafBound → Option ℕ
first_bound [] = none
first_bound (a ∷ rest) = some a.bound

by_first : (m : Match) (l : List LeafBound) → limited_from m (first_bound l) ≡ limited_by m l
unfolding first_bound limited_from limited_by
by_first m [] = refl
by_first m (a ∷ l) = refl

-- what was found does not hang on what is left
pub found_by : (m : Match) (l : List LeafBound) → match_so_far (limited_by m l) ≡ m
unfolding limited_by
found_by m [] = refl
found_by m (a ∷ l) = refl

-- with a next one it is not settled
place_left : (m : Match) (k : ℕ) (l : List LeafBound) (next : LeafBound) → at_place k l ≡ some next
    → limited_by m (drop k l) ≡ unsettled next.bound m
unfolding limited_by at_place
place_left m k [] next e = let z : ◌≡◌ {A = ℕ} 0 1 = cc in absurd (omega arith)
place_left m zero (a ∷ l) next e = ap (λ (b : LeafBound). unsettled b.bound m) (some-injective a next e)
place_left m (suc k) (a ∷ l) next e = place_left m k l next e

match_of : (s : Search) (best : Option Near) (trail : List ℕ) (traces : ℕ) → s.best ≡ best → s.trail ≡ trail → s.traces ≡ traces
    → seen_by s ≡ record {
      trace = (near_or_zero best).trace;
      distance = (near_or_zero best).distance;
      leaves = length trail;
      traces = traces;
      trail = trail;
    }
match_of s best trail traces b t n = rw (b, t, n)

-- ---- the leaves that a search reads

module _ (stored : List Trace) (tree : Tree) (query : Trace) where
  abbrev pub start : Search
  start = record { best = none; traces = 0; trail = [] }

  abbrev pub order : List LeafBound
  order = reading_order tree query

  abbrev reading : Search → LeafBound → Search
  reading s a = read_leaf stored tree query s a.number

  -- from some state on
  pub reads : Search → List LeafBound → List LeafBound
  reads s [] = []
  reads s (a ∷ rest) = let more = reads (reading s a) rest in if is_above a.bound s.best then [] else a ∷ more

  reading_is : (s : Search) (l : List LeafBound) → search_on stored tree query s l ≡ read_all stored tree query 0 s (reads s l)
  unfolding reads read_on
  reading_is s [] = refl
  reading_is s (a ∷ rest) = by (is_above a.bound s.best) (reading_is (reading s a) rest)
    where
      by : (t : Bool)
          → search_on stored tree query (reading s a) rest ≡ read_all stored tree query 0 (reading s a) (reads (reading s a) rest)
          → (if t then s else search_on stored tree query (reading s a) rest) ≡ read_all stored tree query 0 s
          (if t then [] else a ∷ reads (reading s a) rest)
      by true ih = refl
      by false ih = ih

  -- they are the first ones
  pub reads_first : (s : Search) (l : List LeafBound) → reads s l ≡ take (length (reads s l)) l
  unfolding reads
  reads_first s [] = refl
  reads_first s (a ∷ rest) = by (is_above a.bound s.best) (reads_first (reading s a) rest)
    where
      by : (t : Bool) → reads (reading s a) rest ≡ take (length (reads (reading s a) rest)) rest
          → (if t then [] else a ∷ reads (reading s a) rest) ≡ take (length (if t then [] else a ∷ reads (reading s a) rest)) (a ∷ rest)
      by true ih = refl
      by false ih = ap (λ (m : List LeafBound). a ∷ m) ih

  -- of the first k leaves it reads the first k of those
  reads_limited : (k : ℕ) (s : Search) (l : List LeafBound) → reads s (take k l) ≡ take k (reads s l)
  unfolding reads
  reads_limited zero s l = refl
  reads_limited (suc k) s [] = refl
  reads_limited (suc k) s (a ∷ rest) = by (is_above a.bound s.best) (reads_limited k (reading s a) rest)
    where
      by : (t : Bool) → reads (reading s a) (take k rest) ≡ take k (reads (reading s a) rest)
          → (if t then [] else a ∷ reads (reading s a) (take k rest)) ≡ take (suc k) (if t then [] else a ∷ reads (reading s a) rest)
      by true ih = refl
      by false ih = ap (λ (m : List LeafBound). a ∷ m) ih

  -- with k leaves read, the next one's bound is above the best exactly if none of those is left
  next_is : (k : ℕ) (s : Search) (l : List LeafBound)
      → next_bound (search_on stored tree query s (take k l)).best (drop (length (take k (reads s l))) l) ≡ first_bound (drop k (reads s l))
  unfolding reads read_on next_bound first_bound
  next_is zero s [] = refl
  next_is zero s (a ∷ rest) = by (is_above a.bound s.best)
    where
      by : (t : Bool) → (if t then none else some a.bound) ≡ first_bound (if t then [] else a ∷ reads (reading s a) rest)
      by true = refl
      by false = refl
  next_is (suc k) s [] = refl
  next_is (suc k) s (a ∷ rest) = by (is_above a.bound s.best) refl (next_is k (reading s a) rest)
    where
      by : (t : Bool) → is_above a.bound s.best ≡ t
          → next_bound (search_on stored tree query (reading s a) (take k rest)).best
          (drop (length (take k (reads (reading s a) rest))) rest) ≡ first_bound (drop k (reads (reading s a) rest))
          → next_bound (if t then s else search_on stored tree query (reading s a) (take k rest)).best
          (drop (length (take (suc k) (if t then [] else a ∷ reads (reading s a) rest))) (a ∷ rest)) ≡ first_bound
          (drop (suc k) (if t then [] else a ∷ reads (reading s a) rest))
      by true e ih = rw e
      by false e ih = ih

  -- ---- the match's trail

  abbrev pub all : List LeafBound
  all = reads start order

  trail_of : (l : List LeafBound) → (read_all stored tree query 0 start l).trail ≡ leaf_numbers l
  trail_of l = read_trail stored tree query 0 start l

  searched_is : searched stored tree query ≡ read_all stored tree query 0 start all
  unfolding searched
  searched_is = reading_is start order

  trail_is : (searched stored tree query).trail ≡ leaf_numbers all
  trail_is = ap (λ (s : Search). s.trail) searched_is ∙ trail_of all

  -- the full trail is what the match reads
  pub full_is : full_trail stored tree query ≡ all
  unfolding full_trail
  full_is =
      ap (λ (k : ℕ). take k order) (ap length trail_is ∙ length-map all (λ (a : LeafBound). a.number)) ∙ sym (reads_first start order)

  pub full_numbers : leaf_numbers (full_trail stored tree query) ≡ (searched stored tree query).trail
  full_numbers = ap leaf_numbers full_is ∙ sym trail_is

  nears_are : (l : List LeafBound) → nears_read stored tree query 0 l ≡ distances_among stored tree query (leaf_numbers l)
  unfolding distances_among flatten
  nears_are [] = refl
  nears_are (a ∷ l) = let e = nears_are l in rw e

  -- leaves read: the best of them, and what they count
  read_match : (l : List LeafBound) → seen_by (read_all stored tree query 0 start l) ≡ best_in stored tree query (leaf_numbers l)
  unfolding best_in best_among
  read_match l =
      match_of (read_all stored tree query 0 start l) (foldl best_with none (distances_among stored tree query (leaf_numbers l))) (leaf_numbers l)
      (total (map (λ number. length (numbers_in (node_at tree number).kind)) (leaf_numbers l)))
      (read_best stored tree query 0 start l ∙ ap (foldl best_with none) (nears_are l)) (trail_of l)
      (read_traces stored tree query 0 start l ∙ omega arith)

  pub among_length : (set : List ℕ)
      → length (distances_among stored tree query set) ≡ total (map (λ number. length (numbers_in (node_at tree number).kind)) set)
  unfolding distances_among flatten distances_in total
  among_length [] = refl
  among_length (k ∷ set) =
      length-append (map (near_at stored query) (numbers_in (node_at tree k).kind)) (distances_among stored tree query set)
      ∙ (let e = among_length set in let f = length-map (numbers_in (node_at tree k).kind) (near_at stored query) in rw (e, f))

  -- ---- the first k of it

  module _ (most : ℕ) where
    abbrev limited : Search
    limited = search_on stored tree query start (take most order)

    limited_is : limited ≡ read_all stored tree query 0 start (take most all)
    limited_is = reading_is start (take most order) ∙ ap (read_all stored tree query 0 start) (reads_limited most start order)

    limited_trail : limited.trail ≡ leaf_numbers (take most all)
    limited_trail = ap (λ (s : Search). s.trail) limited_is ∙ trail_of (take most all)

    pub limited_first : limited.trail ≡ take most (searched stored tree query).trail
    limited_first = limited_trail ∙ map_take (λ (a : LeafBound). a.number) most all ∙ ap (take most) (sym trail_is)

    steps_give_it : limited_by_steps most stored tree query ≡ limited_match most stored tree query
    unfolding limited_by_steps limited_match limited_search
    steps_give_it =
        ap (λ (j : ℕ). limited_from (seen_by limited) (next_bound limited.best (drop j order)))
        (ap length limited_trail ∙ length-map (take most all) (λ (a : LeafBound). a.number))
        ∙ ap (limited_from (seen_by limited)) (next_is most start order) ∙ by_first (seen_by limited) (drop most all)
        ∙ ap (λ (m : Match). limited_by m (drop most all)) (ap seen_by limited_is ∙ read_match (take most all))
        ∙ ap (λ (l : List LeafBound). limited_by (best_in stored tree query (leaf_numbers (take most l))) (drop most l)) (sym full_is)

    -- as the search for the one nearest finds it, in a list of its own
    pub limited_listing : list_on 1 stored tree query (record { list = []; traces = 0; trail = [] }) (take most order) ≡ as_listing
        (limited_search most stored tree query)
    unfolding limited_search
    limited_listing = one_on stored tree query start (take most order)

    -- the leaves read
    abbrev read : List ℕ
    read = take most (searched stored tree query).trail

    read_is : leaf_numbers (take most (full_trail stored tree query)) ≡ read
    read_is = map_take (λ (a : LeafBound). a.number) most (full_trail stored tree query) ∙ ap (take most) full_numbers

    pub found_is : match_so_far (limited_match most stored tree query) ≡ best_in stored tree query read
    unfolding limited_match
    found_is =
        found_by (best_in stored tree query (leaf_numbers (take most (full_trail stored tree query)))) (drop most (full_trail stored tree query))
        ∙ ap (best_in stored tree query) read_is

    whole_settled : length (searched stored tree query).trail ≤ most
        → limited_match most stored tree query ≡ settled (seen_by (searched stored tree query))
    unfolding limited_match limited_by
    whole_settled h =
        let full = full_trail stored tree query in
        let k : length full ≤ most =
        omega (arith, length-map full (λ (a : LeafBound). a.number), ap length full_numbers) in
        let d : drop most full ≡ [] = drop_of_length-le full k in
        rw (d, take_all most full k, full_is) (ap settled (sym (ap seen_by searched_is ∙ read_match all)))

    else_next : (next : LeafBound) → at_place most (full_trail stored tree query) ≡ some next
        → limited_match most stored tree query ≡ unsettled next.bound (best_in stored tree query read)
    unfolding limited_match
    else_next next e =
        place_left (best_in stored tree query (leaf_numbers (take most (full_trail stored tree query)))) most (full_trail stored tree query) next e
        ∙ ap (λ (l : List ℕ). unsettled next.bound (best_in stored tree query l)) read_is

    off_trail : (other : List Trace) → SameIn tree read stored other → limited_by_steps most other tree query
        ≡ limited_by_steps most stored tree query
    unfolding limited_by_steps limited_search read_leaf
    off_trail other e =
        let same : search_on other tree query start (take most order) ≡ limited =
        same_reading (λ (s : Search) (bound : ℕ). is_above bound s.best) (read_leaf stored tree query) (read_leaf other tree query)
        (λ (s : Search). s.trail) (λ s number. refl) start (take most order)
        (λ k i s. rw (alike_in stored other tree query read e k (rw limited_first at i))) in
        ap (λ (s : Search). limited_from (seen_by s) (next_bound s.best (drop (length s.trail) order))) same

    pub limit_steps : LimitSteps most stored tree query
    unfolding best_in
    limit_steps = record {
      steps_give_it = steps_give_it;
      full_is = full_numbers;
      first_of_trail = ap (λ (m : Match). m.trail) found_is;
      leaf_count = ap (λ (m : Match). m.leaves) found_is;
      no_more = ap (λ (m : Match). m.leaves) found_is ∙ length-take most (searched stored tree query).trail;
      trace_count_lem = ap (λ (m : Match). m.traces) found_is ∙ sym (among_length read);
      whole_settled = whole_settled;
      else_next = else_next;
      off_trail = off_trail;
    }

pub limit_anywhere : LimitAnywhere
limit_anywhere most stored tree query = limit_steps stored tree query most

-- ---- well-formed tables with a trace, one leaf or more

module _ (n : ℕ) (stored : List Trace) (tree : Tree) (shape : Shape n (length stored) tree) (one : 0 < length stored) (query : Trace)
  where
    abbrev trail : List ℕ
    trail = (searched stored tree query).trail

    -- the first leaf is read
    reads_some : (l : List LeafBound) → 0 < length l → 0 < length (reads stored tree query (start stored tree query) l)
    unfolding reads is_above
    reads_some [] h = h
    reads_some (a ∷ l) h = omega arith

    trail_some : 0 < length trail
    trail_some =
        omega (
          arith,
          reads_some (reading_order tree query) (omega (arith, reading_length tree query, some_in (kept_leaf (shape.kept 0 one)))),
          ap length (trail_is stored tree query),
          length-map (all stored tree query) (λ (a : LeafBound). a.number),
        )

    -- the leaves of the trail are leaves, with their bounds
    pub trail_leaves : {k : ℕ} → In k trail → In k (leaves tree)
    unfolding full_trail
    trail_leaves {k} i = by (from_map (λ (a : LeafBound). a.number) (full_trail stored tree query) (rw (← full_numbers stored tree query) at i))
      where
        by : InMap (λ (a : LeafBound). a.number) k (full_trail stored tree query) → In k (leaves tree)
        by (of a j e) = rw e (reading_of tree query (from_take (length trail) (reading_order tree query) j)).0

    -- some leaves, one or more: a trace is in them
    nears_some : (set : List ℕ) → 0 < length set → ((k : ℕ) → In k set → In k (leaves tree))
        → 0 < length (distances_among stored tree query set)
    unfolding distances_among distances_in
    nears_some [] h g = absurd (omega arith)
    nears_some (k ∷ set) h g =
        let numbers = numbers_in (node_at tree k).kind in
        let full : 0 < length (map (near_at stored query) numbers) =
        omega (arith, leaf_full shape (g k first), length-map numbers (near_at stored query)) in
        some_in (in_flat (distances_in stored tree query) (first {rest = set})
        (in_get_or (map (near_at stored query) numbers) 0 (near_at stored query 0) full))

    -- the distances of the traces read
    abbrev nears : ℕ → List Near
    nears most = distances_among stored tree query (take most trail)

    module _ (most : ℕ) (at_least_lem : 0 < most) where
      pub nearest : NearestOf (nears most) (near_or_zero (best_among stored tree query (take most trail)))
      unfolding best_among
      nearest =
          best_of (nears most) (nears_some (take most trail) (omega (arith, length-take most trail, trail_some))
          (λ k i. trail_leaves (from_take most trail i)))

      -- the answer is that nearest
      pub answer_is : answer_in (match_so_far (limited_match most stored tree query)) ≡ near_or_zero (best_among stored tree query (take most trail))
      unfolding best_in
      answer_is = ap answer_in (found_is stored tree query most)

      pub best_so_far : NearestOf (distances_among stored tree query (match_so_far (limited_match most stored tree query)).trail)
          (answer_in (match_so_far (limited_match most stored tree query)))
      best_so_far = rw ((limit_steps stored tree query most).first_of_trail, answer_is) nearest

    -- what is read with a lesser limit is read with a greater one
    more_near : (most more : ℕ) → most ≤ more → (b : Near) → In b (nears most) → In b (nears more)
    unfolding distances_among
    more_near most more h b i = by (from_flat (distances_in stored tree query) (take most trail) i)
      where
        by : InFlat (distances_in stored tree query) b (take most trail) → In b (nears more)
        by (flat k j g) = in_flat (distances_in stored tree query) (from_take most (take more trail) (rw (take-take most more trail h) j)) g

    larger : (most : ℕ) (at_least_lem : 0 < most) (more : ℕ) → most ≤ more
        → (match_so_far (limited_match more stored tree query)).distance ≤ (match_so_far (limited_match most stored tree query)).distance
    larger most at_least_lem more h =
        let N : ℕ → Near = λ k. near_or_zero (best_among stored tree query (take k trail)) in
        let e : (match_so_far (limited_match most stored tree query)).distance ≡ (N most).distance =
        ap (λ (a : Near). a.distance) (answer_is most at_least_lem) in
        let f : (match_so_far (limited_match more stored tree query)).distance ≡ (N more).distance =
        ap (λ (a : Near). a.distance) (answer_is more (omega arith)) in
        rw (e, f)
        (nearer_no (N most) (N more)
        ((nearest more (omega arith)).none_nearer (N most) (more_near most more h (N most) (nearest most at_least_lem).among)))

    pub limit_formed : (most : ℕ) → 0 < most → LimitFormed most stored tree query
    limit_formed most at_least_lem = record { best_so_far = best_so_far most at_least_lem; larger = larger most at_least_lem }

pub limit_of_formed : LimitOfFormed
limit_of_formed limit m stored tree w one query = limit_formed m.n stored tree (formed limit m (length stored) tree w).shape one query
