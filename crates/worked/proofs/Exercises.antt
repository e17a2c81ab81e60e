-- Every definition at work in small examples, which hold by computation: a record for each heading of document 01, its sentence above each
-- fact. The starred examples stand in `specs/Examples`, whole libraries in `Cases`.
use Prim.Native.Nat.{ℕ, ◌^◌, ◌*◌, ◌-◌}
use mathlib.Core.Path.{◌≡◌, refl}
use mathlib.Core.Bool.{Bool, true, false}
use mathlib.Core.Option.{none, some}
use mathlib.Core.List.{List, [], ◌∷◌, ◌++◌, map, foldl}
use lib.ListN.{length, get_or, set, take, replicate}
use lib.IntN.{pos}
use Rattle.integer.specs.Words.{counting}
use Rattle.integer.specs.Sorting.{sorted_by}
use Rattle.segment.specs.Figures.{sum, sum_of_squares, scatter, distance}
use Rattle.segment.specs.Roots.{floor_root, ceiling_root}
use Rattle.segment.specs.Terms.{sum_gap, scatter_gap, bound_term, spread_term}
use Rattle.segment.specs.Limits.{sum_limit, scatter_limit, largest_distance}
use Rattle.segment.specs.Partition.{Ranges, total_bound}
use Rattle.dstree.specs.Measures.{Trace, measures, sample_limit, in_range, samples_needed, records_needed, links_needed, work_needed, is_trace, is_library}
use Rattle.dstree.specs.Figures.{run, width, samples_on}
use Rattle.dstree.specs.Node.{Segment, by_sum, by_scatter, Test, Kind, leaf, inner, Node, node, Tree, node_at, change_at, sends_left}
use Rattle.dstree.specs.Adding.{way, widen, join, by_either, cut_at, left_half_end, candidates, spread, threshold_of, test_of, split_by, parts, best, split_into, tree_of}
use Rattle.dstree.specs.Adding.{Candidate, traces_of, goes_by, show_sides, fewest_first}
use Rattle.dstree.specs.Matching.{own_bound, parent_from, bound, LeafBound, leaves, before, reading_order, Near, best_with, is_above, match_by_steps, least_distance, lowest_at}
use Rattle.dstree.specs.Claims.{numbers_among}
use Rattle.dstree.specs.WellFormed.{well_formed_tree}
use Rattle.dstree.specs.Refusals.{Refusal, measure, short_table, spoiled, wrong_trace, full, empty, short_trail, sheet_length, torn_block}
use Rattle.dstree.specs.Refusals.{bad_sheet, bad_k, bad_recording, loose_record, bad_batch, sample_range, bad_edges, unlike_libraries, no_leaves, crossed_range, number_of, place_of, ◌refuses◌, first_of}
use Rattle.dstree.specs.Sheet.{bytes_of, number_in, part, narrow, is_kind, weighted, check_of, block, head_of, coded, blocks_needed_as}
use Rattle.dstree.specs.Sheet.{blocks_of, decoded, is_wrong_length, is_torn, refused}
use Rattle.dstree.specs.SheetWidths.{judge_sheet}
use Rattle.dstree.specs.Program as program
use Rattle.dstree.specs.Examples.{level, ABC, tree, gains, match_with, twins}
use Rattle.dstree.proofs.Notation.{+, −, seg, test, unlabelled, plain_sheet, holds_plain}
use Rattle.dstree.proofs.Everything.{everything}

-- ---- "Measures"

pub record MeasureExamples : Type 0 where
  -- "n 256, capacity 4,096, leaf size 64 open"
  pub at_limits : map in_range (measures 256 4096 64 ∷ measures 1 1 1 ∷ []) ≡ true ∷ true ∷ []
  -- "257, 4,097, 65 and 0 do not"
  pub above_limits : map in_range (measures 257 4096 64 ∷ measures 256 4097 64 ∷ measures 256 4096 65 ∷ []) ≡ false ∷ false ∷ false ∷ []
  pub below_limits : map in_range (measures 0 1 1 ∷ measures 1 0 1 ∷ measures 1 1 0 ∷ []) ≡ false ∷ false ∷ false ∷ []
  -- "A capacity of c needs c × n samples, 2c − 1 node records, c links .. and 2c − 1 places of search work"
  pub samples : map samples_needed (measures 4 8 2 ∷ measures 256 1 64 ∷ measures 256 4096 64 ∷ []) ≡ 32 ∷ 256 ∷ 1048576 ∷ []
  pub records : map records_needed (measures 4 8 2 ∷ measures 256 1 64 ∷ measures 256 4096 64 ∷ []) ≡ 15 ∷ 1 ∷ 8191 ∷ []
  pub links : map links_needed (measures 4 8 2 ∷ measures 256 1 64 ∷ measures 256 4096 64 ∷ []) ≡ 8 ∷ 1 ∷ 4096 ∷ []
  pub work : map work_needed (measures 4 8 2 ∷ measures 256 1 64 ∷ measures 256 4096 64 ∷ []) ≡ 15 ∷ 1 ∷ 8191 ∷ []
  -- document 02, §9, "−524,288 to 524,287": the least and the greatest sample; one less, one more; a sample too few, one too many
  pub traces_of_2 : map (is_trace sample_limit 2) ((− 524288 ∷ + 524287 ∷ []) ∷ (+ 0 ∷ − 524289 ∷ []) ∷ (+ 524288 ∷ + 0 ∷ []) ∷ (+ 0 ∷ []) ∷ (+ 0 ∷ + 0 ∷ + 0 ∷ []) ∷ [])
      ≡ true ∷ false ∷ false ∷ false ∷ false ∷ []
  -- a library may be empty, and full
  pub libraries : map (is_library sample_limit (measures 1 2 1)) ([] ∷ ((+ 524287 ∷ []) ∷ (− 524288 ∷ []) ∷ []) ∷ []) ≡ true ∷ true ∷ []
  -- one trace above the capacity; a trace of another length; a sample past its limit; measures out of range
  pub no_libraries : map (is_library sample_limit (measures 1 2 1)) (((+ 0 ∷ []) ∷ (+ 0 ∷ []) ∷ (+ 0 ∷ []) ∷ []) ∷ ((+ 0 ∷ + 0 ∷ []) ∷ []) ∷ ((+ 524288 ∷ []) ∷ []) ∷ []) ≡ false ∷ false ∷ false ∷ []
  pub out_of_range : is_library sample_limit (measures 1 2 65) [] ≡ false

pub measure_examples : MeasureExamples
unfolding everything
measure_examples = record {
  at_limits = refl;
  above_limits = refl;
  below_limits = refl;
  samples = refl;
  records = refl;
  links = refl;
  work = refl;
  traces_of_2 = refl;
  libraries = refl;
  no_libraries = refl;
  out_of_range = refl;
}

-- ---- "Sum, scatter, root"

pub record FigureExamples : Type 0 where
  -- "Samples are numbered from 1. A segment is a run of w consecutive samples"
  pub second_and_third : samples_on (run 2 3) (+ 5 ∷ + 6 ∷ + 7 ∷ + 8 ∷ []) ≡ + 6 ∷ + 7 ∷ []
  pub its_width : width (run 2 3) ≡ 2
  -- "Its sum is s. Its scatter is V = w × (sum of squares) − s²": 3 × 35 − 3²
  pub sum_of_three : sum (+ 5 ∷ − 3 ∷ + 1 ∷ []) ≡ + 3
  pub squares_of_three : sum_of_squares (+ 5 ∷ − 3 ∷ + 1 ∷ []) ≡ 35
  pub scatter_of_three : scatter (+ 5 ∷ − 3 ∷ + 1 ∷ []) ≡ 96
  -- one sample, or equal ones, have no scatter
  pub no_scatter : map scatter ((− 32768 ∷ []) ∷ (− 7 ∷ − 7 ∷ − 7 ∷ []) ∷ []) ≡ 0 ∷ 0 ∷ []
  -- "The floor root of V is the largest whole r with r² ≤ V"
  pub floor_roots : map floor_root (0 ∷ 1 ∷ 2 ∷ 3 ∷ 4 ∷ 8 ∷ 9 ∷ (2 ^ 54 - 1) ∷ (2 ^ 54) ∷ []) ≡ 0 ∷ 1 ∷ 1 ∷ 1 ∷ 2 ∷ 2 ∷ 3 ∷ 134217727 ∷ 134217728 ∷ []
  -- "the ceiling root is the least r with r² ≥ V"
  pub ceiling_roots : map ceiling_root (0 ∷ 1 ∷ 2 ∷ 3 ∷ 4 ∷ 8 ∷ 9 ∷ (2 ^ 54 - 1) ∷ (2 ^ 54) ∷ []) ≡ 0 ∷ 1 ∷ 2 ∷ 2 ∷ 2 ∷ 3 ∷ 3 ∷ 134217728 ∷ 134217728 ∷ []
  -- "Distance is the sum of squared differences, never its root"
  pub distance_of_three : distance (+ 5 ∷ − 3 ∷ + 1 ∷ []) (+ 3 ∷ + 3 ∷ + 1 ∷ []) ≡ 40
  -- document 02, §9: "the largest distance becomes 281,474,439,840,000"; with two samples it is that between the least and the greatest ones
  pub largest : largest_distance sample_limit 256 ≡ 281474439840000
  pub largest_of_two : distance (− 524288 ∷ − 524288 ∷ []) (+ 524287 ∷ + 524287 ∷ []) ≡ largest_distance sample_limit 2
  -- "The well-formed limits become w × 524,288 and w² × 2^38"
  pub limits_of_four : sum_limit sample_limit 4 ∷ scatter_limit sample_limit 4 ∷ [] ≡ 2097152 ∷ 4398046511104 ∷ []
  pub sum_at_limit : sum (− 524288 ∷ − 524288 ∷ − 524288 ∷ − 524288 ∷ []) ≡ − 2097152

pub figure_examples : FigureExamples
unfolding everything
figure_examples = record {
  second_and_third = refl;
  its_width = refl;
  sum_of_three = refl;
  squares_of_three = refl;
  scatter_of_three = refl;
  no_scatter = refl;
  floor_roots = refl;
  ceiling_roots = refl;
  distance_of_three = refl;
  largest = refl;
  largest_of_two = refl;
  limits_of_four = refl;
  sum_at_limit = refl;
}

-- ---- "A node's record" and "Adding"

-- one sample other than 0 in each of two segments of three
abbrev ones : Trace
ones = + 1 ∷ + 0 ∷ + 0 ∷ + 1 ∷ + 0 ∷ + 0 ∷ []

-- fifteen right ends, two samples apart; sixteen, one apart, with the rest of 256 samples in the last segment
abbrev fifteen : List ℕ
fifteen = map (λ k. 2 * k) (counting 15 1)

abbrev sixteen : List ℕ
sixteen = counting 15 1 ++ (256 ∷ [])

-- traces of one sample, 0, 1 and 9
abbrev nine : List Trace
nine = (+ 0 ∷ []) ∷ (+ 1 ∷ []) ∷ (+ 9 ∷ []) ∷ []

-- which of a leaf's traces go left by a candidate
abbrev sides_of : List Trace → List ℕ → Candidate → ℕ → Bool
sides_of stored numbers c = goes_by stored (test_of c (traces_of stored numbers))

pub record AddingExamples : Type 0 where
  -- "A trace goes left if twice its figure is at most T, else right": samples 2 to 3 by sum, of (9,k,0,9)
  pub left_or_right : map (λ (k : ℕ). sends_left (test 2 3 by_sum (+ 5)) (+ 9 ∷ pos k ∷ + 0 ∷ + 9 ∷ [])) (2 ∷ 3 ∷ []) ≡ true ∷ false ∷ []
  pub just_at_T : map (λ (k : ℕ). sends_left (test 2 3 by_sum (+ 6)) (+ 9 ∷ pos k ∷ + 0 ∷ + 9 ∷ [])) (2 ∷ 3 ∷ 4 ∷ []) ≡ true ∷ true ∷ false ∷ []
  pub below_zero : map (sends_left (test 1 1 by_sum (− 3))) ((− 2 ∷ []) ∷ (− 1 ∷ []) ∷ []) ≡ true ∷ false ∷ []
  -- .. and document 02's floor roots: samples 2 to 4 by scatter, which is 2k² here, 8 and 18: roots 2 and 4
  pub by_scatter_lem : map (λ (k : ℕ). sends_left (test 2 4 by_scatter (+ 4)) (+ 9 ∷ pos k ∷ + 0 ∷ + 0 ∷ [])) (2 ∷ 3 ∷ []) ≡ true ∷ false ∷ []
  pub half_rounded_down : map (λ (t : ℕ). sends_left (test 2 4 by_scatter (pos t)) (+ 9 ∷ + 3 ∷ + 0 ∷ + 0 ∷ [])) (7 ∷ 8 ∷ 9 ∷ []) ≡ false ∷ true ∷ true ∷ []
  -- "its first trace makes leaf 0 with one segment"
  pub first_trace : tree_of (measures 4 8 2) (level 9 ∷ []) ≡ node (seg 4 (+ 36) (+ 36) 0 0 ∷ []) (leaf (0 ∷ [])) ∷ []
  -- "Otherwise the trace goes down by the tests"
  pub ways : map (way tree) (level 2 ∷ level 3 ∷ []) ≡ (0 ∷ 1 ∷ []) ∷ (0 ∷ 2 ∷ []) ∷ []
  -- "widening least and greatest at every node it meets", upward and downward, and scatter too
  pub widened : (widen (level 9) (node_at tree 2)).segments ≡ seg 4 (+ 16) (+ 36) 0 256 ∷ []
  pub widened_down : (widen (− 50 ∷ + 0 ∷ + 0 ∷ + 0 ∷ []) (node_at tree 2)).segments ≡ seg 4 (− 50) (+ 16) 0 7500 ∷ []
  -- "and joins a leaf"
  pub joined : (node_at (join 3 2 tree) 2).kind ≡ leaf (1 ∷ 2 ∷ 3 ∷ [])
  -- candidates "in this order": the whole segment, "a left half of w/2 rounded down and the rest", each by sum and by scatter
  pub by_either_lem : by_either (run 1 5) (5 ∷ []) ≡ record { on = run 1 5; figure = by_sum; child_ends = 5 ∷ [] } ∷ record { on = run 1 5; figure = by_scatter; child_ends = 5 ∷ [] } ∷ []
  pub of_five_samples : candidates (5 ∷ []) ≡ by_either (run 1 5) (5 ∷ []) ++ by_either (run 1 2) (2 ∷ 5 ∷ []) ++ by_either (run 3 5) (2 ∷ 5 ∷ [])
  -- "for each segment, left to right"; a segment of one sample is not cut
  pub of_one_and_three : candidates (1 ∷ 4 ∷ []) ≡ by_either (run 1 1) (1 ∷ 4 ∷ []) ++ by_either (run 2 4) (1 ∷ 4 ∷ []) ++ by_either (run 2 2) (1 ∷ 2 ∷ 4 ∷ []) ++ by_either (run 3 4)
      (1 ∷ 2 ∷ 4 ∷ [])
  pub half_ends : map left_half_end (run 1 4 ∷ run 1 5 ∷ run 7 8 ∷ run 7 9 ∷ []) ≡ 2 ∷ 2 ∷ 7 ∷ 7 ∷ []
  pub cut_ends : map (λ (k : ℕ). cut_at k (4 ∷ 8 ∷ [])) (2 ∷ 6 ∷ []) ≡ (2 ∷ 4 ∷ 8 ∷ []) ∷ (4 ∷ 6 ∷ 8 ∷ []) ∷ []
  -- "if the node has fewer than 16 segments": six candidates of each of 15 segments, two of each of 16
  pub of_15_segments : length (candidates fifteen) ≡ 90
  pub of_16_segments : length (candidates sixteen) ≡ 32
  -- "T is the least plus the greatest figure among the leaf's traces"
  pub thresholds : threshold_of by_sum (run 1 4) ABC ∷ threshold_of by_sum (run 1 1) ABC ∷ [] ≡ + 16 ∷ + 4 ∷ []
  -- .. by scatter "the floor root of the least scatter plus that of the greatest": 0 and 16; 2 and 3, of 4 and 9; 1 and 1, of 2 and 2
  pub scatter_thresholds : threshold_of by_scatter (run 1 4) ABC ∷ threshold_of by_scatter (run 1 2) ((+ 0 ∷ + 2 ∷ []) ∷ (+ 1 ∷ − 2 ∷ []) ∷ [])
      ∷ threshold_of by_scatter (run 1 3) ((+ 1 ∷ + 0 ∷ + 0 ∷ []) ∷ (+ 1 ∷ + 1 ∷ + 0 ∷ []) ∷ []) ∷ [] ≡ + 16 ∷ + 5 ∷ + 2 ∷ []
  -- "A candidate parts the leaf if both sides receive a trace": all six do with A, B, C; none with (1,2,1,2) and (2,1,2,1)
  pub parting : map (λ c. parts (split_by ABC (0 ∷ 1 ∷ 2 ∷ []) c)) (candidates (4 ∷ [])) ≡ replicate 6 true
  pub not_parting : map (λ c. parts (split_by twins (0 ∷ 1 ∷ []) c)) (candidates (4 ∷ [])) ≡ replicate 6 false
  pub no_best : best twins (4 ∷ []) (0 ∷ 1 ∷ []) ≡ none
  -- document 02, §3, "the fewest first ones that show both sides, or all when none do": 0, 1, 9 with T = 9 go left, left, right; by
  -- scatter, and (1,2,1,2) and (2,1,2,1), all go left; of 9, 0, 1 two are enough, and of no trace there is none to take
  pub seen : map (λ c. show_sides (sides_of nine (0 ∷ 1 ∷ 2 ∷ []) c) (0 ∷ 1 ∷ 2 ∷ [])) (candidates (1 ∷ [])) ≡ true ∷ false ∷ []
  pub taken : map (λ c. fewest_first (sides_of nine (0 ∷ 1 ∷ 2 ∷ []) c) (0 ∷ 1 ∷ 2 ∷ [])) (candidates (1 ∷ [])) ≡ 3 ∷ 3 ∷ []
  pub taken_twins : map (λ c. fewest_first (sides_of twins (0 ∷ 1 ∷ []) c) (0 ∷ 1 ∷ [])) (candidates (4 ∷ [])) ≡ replicate 6 2
  pub taken_early : map (λ c. fewest_first (sides_of nine (2 ∷ 0 ∷ 1 ∷ []) c) (2 ∷ 0 ∷ 1 ∷ [])) (candidates (1 ∷ [])) ≡ 2 ∷ 3 ∷ []
  pub taken_none : fewest_first (λ number. true) [] ≡ 0
  -- "((greatest sum − least sum)² + greatest scatter) / w, each term rounded down": 2/3 twice
  pub spread_terms : spread_term 3 (− 2) (+ 1) 0 ∷ spread_term 3 (+ 1) (+ 1) 2 ∷ [] ≡ 3 ∷ 0 ∷ []
  pub spread_of_two : spread (3 ∷ 6 ∷ []) (ones ∷ []) ≡ 0
  -- the gains of A, B, C: all six
  pub six_gains : gains ≡ + 192 ∷ + 128 ∷ + 192 ∷ + 128 ∷ + 192 ∷ + 128 ∷ []
  -- "A leaf that no candidate parts stays whole"
  pub stays_whole : split_into ABC tree 1 none ≡ tree

pub adding_examples : AddingExamples
unfolding everything
adding_examples = record {
  left_or_right = refl;
  just_at_T = refl;
  below_zero = refl;
  by_scatter_lem = refl;
  half_rounded_down = refl;
  first_trace = refl;
  ways = refl;
  widened = refl;
  widened_down = refl;
  joined = refl;
  by_either_lem = refl;
  of_five_samples = refl;
  of_one_and_three = refl;
  half_ends = refl;
  cut_ends = refl;
  of_15_segments = refl;
  of_16_segments = refl;
  thresholds = refl;
  scatter_thresholds = refl;
  parting = refl;
  not_parting = refl;
  no_best = refl;
  seen = refl;
  taken = refl;
  taken_twins = refl;
  taken_early = refl;
  taken_none = refl;
  spread_terms = refl;
  spread_of_two = refl;
  six_gains = refl;
  stays_whole = refl;
}

-- ---- "Matching"

-- a node of two segments of three samples, sums 0, scatters up to 100
abbrev two_of_three : Node
two_of_three = node (seg 3 (+ 0) (+ 0) 0 100 ∷ seg 6 (+ 0) (+ 0) 0 100 ∷ []) (leaf (0 ∷ []))

-- the same as ranges with a width
abbrev ranges : Ranges
ranges = record { width = 3; least_sum = + 0; greatest_sum = + 0; least_scatter = 0; greatest_scatter = 100 }

abbrev leaf_at : ℕ → ℕ → LeafBound
leaf_at number bound = record { number = number; bound = bound }

abbrev near : ℕ → ℕ → Near
near trace distance = record { trace = trace; distance = distance }

-- the tree of A, B, C with other sums recorded in leaf 1, then in leaf 2 as well: well formed, but not what adding makes
abbrev altered : Tree
altered = change_at tree 1 (λ a. node (seg 4 (+ 100) (+ 100) 0 0 ∷ []) a.kind)

abbrev both_altered : Tree
both_altered = change_at altered 2 (λ a. node (seg 4 (+ 100) (+ 100) 0 0 ∷ []) a.kind)

pub record MatchingExamples : Type 0 where
  -- "g is the distance from t to [least sum, greatest sum]": below it, inside, above
  pub sum_gaps : map (λ t. sum_gap t (− 5) (+ 9)) (− 7 ∷ − 5 ∷ + 0 ∷ + 9 ∷ + 12 ∷ []) ≡ 2 ∷ 0 ∷ 0 ∷ 0 ∷ 3 ∷ []
  -- "h is the largest of 0, floor root of least scatter − ceiling root of U, and floor root of U − ceiling root of greatest scatter";
  -- scatters 100 to 200 here
  pub scatter_gaps : map (λ u. scatter_gap u 100 200) (0 ∷ 5 ∷ 99 ∷ 150 ∷ 200 ∷ 400 ∷ []) ≡ 10 ∷ 7 ∷ 0 ∷ 0 ∷ 0 ∷ 5 ∷ []
  -- "(g² + h²) / w, each rounded up": 2/3, 2/1, 4/3
  pub bound_terms : bound_term 3 1 1 ∷ bound_term 1 1 1 ∷ bound_term 3 2 0 ∷ [] ≡ 1 ∷ 2 ∷ 2 ∷ []
  -- "The node's own bound totals" them: 1/3 rounded up, twice
  pub own_bound_lem : own_bound ones two_of_three ≡ 2
  pub same_total : total_bound (ranges ∷ ranges ∷ []) ones ≡ 2
  -- "from node 0 down to it"
  pub parents : map (parent_from 0 tree) (0 ∷ 1 ∷ 2 ∷ []) ≡ none ∷ some 0 ∷ some 0 ∷ []
  -- "Leaves are read by bound, then by number"
  pub leaf_numbers : leaves tree ≡ 1 ∷ 2 ∷ []
  pub in_order : sorted_by before (leaf_at 1 7 ∷ leaf_at 4 3 ∷ leaf_at 6 7 ∷ leaf_at 2 3 ∷ leaf_at 8 0 ∷ [])
      ≡ leaf_at 8 0 ∷ leaf_at 2 3 ∷ leaf_at 4 3 ∷ leaf_at 1 7 ∷ leaf_at 6 7 ∷ []
  pub orders : map (reading_order tree) (level 2 ∷ level 4 ∷ []) ≡ (leaf_at 1 16 ∷ leaf_at 2 16 ∷ []) ∷ (leaf_at 2 0 ∷ leaf_at 1 64 ∷ []) ∷ []
  -- ".. until the next bound is above the best distance found. An equal bound is still read"
  pub above : map (λ bound. is_above bound (some (near 0 16))) (15 ∷ 16 ∷ 17 ∷ []) ≡ false ∷ false ∷ true ∷ []
  pub nothing_found : is_above 17 none ≡ false
  -- "the lowest trace number at distance d", in whatever order they are read
  pub nearest : foldl best_with none (near 3 9 ∷ near 5 4 ∷ near 2 4 ∷ near 7 4 ∷ []) ≡ some (near 2 4)
  pub least_of_all : least_distance ABC (level 2) ≡ 16
  pub lowest_of_all : lowest_at 0 16 ABC (level 2) ≡ 0
  -- nothing stored: no answer
  pub no_answer : match_by_steps [] [] (level 1) ≡ none
  -- the traces in the leaves of a trail
  pub on_the_trail : map (numbers_among tree) ((1 ∷ []) ∷ (2 ∷ 1 ∷ []) ∷ []) ≡ (0 ∷ []) ∷ (1 ∷ 2 ∷ 0 ∷ []) ∷ []
  -- "Samples in leaves off the trail don't bear on a search": B and C replaced
  pub off_the_trail : match_by_steps (level 0 ∷ level 1 ∷ level 1 ∷ []) tree (level 1) ≡ match_by_steps ABC tree (level 1)
  -- "With well-formed tables that somebody altered, calls follow the steps above on what is recorded": leaf 1 seems far, so leaf 2 is read
  -- alone
  pub as_recorded : match_by_steps ABC altered (level 1) ≡ some (match_with 1 36 1 2 (2 ∷ []))
  -- .. and when both seem far, the first one is read: no best distance is found yet
  pub first_is_read : match_by_steps ABC both_altered (level 1) ≡ some (match_with 0 4 1 1 (1 ∷ []))

pub matching_examples : MatchingExamples
unfolding everything
matching_examples = record {
  sum_gaps = refl;
  scatter_gaps = refl;
  bound_terms = refl;
  own_bound_lem = refl;
  same_total = refl;
  parents = refl;
  leaf_numbers = refl;
  in_order = refl;
  orders = refl;
  above = refl;
  nothing_found = refl;
  nearest = refl;
  least_of_all = refl;
  lowest_of_all = refl;
  no_answer = refl;
  on_the_trail = refl;
  off_the_trail = refl;
  as_recorded = refl;
  first_is_read = refl;
}

-- ---- "Traps of the trade"

abbrev zeros : Trace
zeros = + 0 ∷ + 0 ∷ []

-- a parent of one segment; a child that is cut, with ranges so wide that its own bound is 0
abbrev cut : Tree
cut =
    node (seg 2 (+ 20) (+ 20) 0 0 ∷ []) (inner (test 1 2 by_sum (+ 16)) 1 2)
    ∷ node (seg 1 (+ 0) (+ 20) 0 0 ∷ seg 2 (+ 0) (+ 20) 0 0 ∷ []) (leaf (0 ∷ []))
    ∷ node (seg 2 (+ 20) (+ 20) 0 0 ∷ []) (leaf (1 ∷ []))
    ∷ []

-- n = 1, leaf size 1, (4) and (0): leaf 1 is {1}, leaf 2 is {0}
abbrev four_and_zero : List Trace
four_and_zero = (+ 4 ∷ []) ∷ (+ 0 ∷ []) ∷ []

pub record TrapExamples : Type 0 where
  -- "Subtracting floor root from floor root: for scatters 9 and 8 that gives 1, though the roots differ by less than 0.2"
  pub floor_from_floor : floor_root 9 - floor_root 8 ≡ 1
  pub nine_and_eight : scatter_gap 8 9 9 ≡ 0
  pub eight_and_nine : scatter_gap 9 8 8 ≡ 0
  -- "Stopping at an equal bound: a lower number is lost": (2) is at distance 4 from both, and both leaves are at bound 4
  pub equal_bounds : map (bound (tree_of (measures 1 2 1) four_and_zero) (+ 2 ∷ [])) (1 ∷ 2 ∷ []) ≡ 4 ∷ 4 ∷ []
  pub lower_number : match_by_steps four_and_zero (tree_of (measures 1 2 1) four_and_zero) (+ 2 ∷ []) ≡ some (match_with 0 4 2 2 (1 ∷ 2 ∷ []))
  -- "Taking a cut child's bound as never below its parent's: separate ranges and rounding break that, so the path's greatest counts"
  pub own_bounds : map (own_bound zeros) cut ≡ 200 ∷ 0 ∷ 200 ∷ []
  pub bounds : map (bound cut zeros) (0 ∷ 1 ∷ 2 ∷ []) ≡ 200 ∷ 200 ∷ 200 ∷ []
  -- "Letting an added trace move a threshold": with (9,9,9,9) added T is still 16
  pub same_threshold : (node_at (tree_of (measures 4 8 2) (ABC ++ (level 9 ∷ []))) 0).kind ≡ inner (test 1 4 by_sum (+ 16)) 1 2

pub trap_examples : TrapExamples
unfolding everything
trap_examples = record {
  floor_from_floor = refl;
  nine_and_eight = refl;
  eight_and_nine = refl;
  equal_bounds = refl;
  lower_number = refl;
  own_bounds = refl;
  bounds = refl;
  same_threshold = refl;
}

-- ---- "Well-formed tables"

abbrev fits : Tree → Bool
fits = well_formed_tree sample_limit (measures 4 8 2) 3

-- the tree of A, B, C with another kind, or other segments, at a node
abbrev kind_at : ℕ → Kind → Tree
kind_at number kind = change_at tree number (λ a. node a.segments kind)

abbrev segments_at : ℕ → List Segment → Tree
segments_at number segments = change_at tree number (λ a. node segments a.kind)

-- .. with another test at node 0, with other children of it, with other traces in leaves 1 and 2
abbrev tested_by : Test → Tree
tested_by t = kind_at 0 (inner t 1 2)

abbrev with_children : ℕ → ℕ → Tree
with_children left right = kind_at 0 (inner (test 1 4 by_sum (+ 16)) left right)

abbrev with_leaves : List ℕ → List ℕ → Tree
with_leaves first second = change_at (kind_at 1 (leaf first)) 2 (λ a. node a.segments (leaf second))

-- a node whose four samples are 0
abbrev plain : Kind → Node
plain kind = node (seg 4 (+ 0) (+ 0) 0 0 ∷ []) kind

-- a leaf of segments of one sample each
abbrev singles : ℕ → Tree
singles k = node (map (λ end. seg end (+ 0) (+ 0) 0 0) (counting k 1)) (leaf (0 ∷ [])) ∷ []

-- a leaf of three traces with these right ends
abbrev ending_at : List ℕ → Tree
ending_at ends = node (map (λ end. seg end (+ 0) (+ 0) 0 0) ends) (leaf (0 ∷ 1 ∷ 2 ∷ [])) ∷ []

pub record WellFormedExamples : Type 0 where
  -- what adding makes; a tree that somebody altered: the test, the children's order, the ranges, up to their limits; the traces of the
  -- leaves; leaves above the leaf size
  pub as_made : fits tree ≡ true
  pub other_tests : map (λ t. fits (tested_by t)) (test 2 3 by_sum (− 2097152) ∷ test 4 4 by_sum (+ 1048576) ∷ test 2 3 by_scatter (+ 0) ∷ test 2 3 by_scatter (+ 2097152) ∷ []) ≡ replicate 4 true
  pub other_children : fits (with_children 2 1) ≡ true
  pub other_ranges : map (λ s. fits (segments_at 1 s)) ((seg 2 (+ 9) (+ 9) 0 1 ∷ seg 4 (− 1048576) (+ 1048576) 7 7 ∷ []) ∷ (seg 4 (− 2097152) (− 2097152) 0 4398046511104 ∷ []) ∷ []) ≡ true ∷ true ∷
      []
  pub other_leaves : map fits (with_leaves (1 ∷ []) (0 ∷ 2 ∷ []) ∷ with_leaves (0 ∷ 1 ∷ []) (2 ∷ []) ∷ []) ≡ true ∷ true ∷ []
  pub over_size : well_formed_tree sample_limit (measures 4 8 1) 3 tree ≡ true
  pub nothing_stored : well_formed_tree sample_limit (measures 4 8 2) 0 [] ≡ true
  -- "measures in range"
  pub measures_out : map (λ m. well_formed_tree sample_limit m 3 tree) (measures 4 8 0 ∷ measures 4 8 65 ∷ measures 4 4097 2 ∷ []) ≡ replicate 3 false
  -- "trace count at most capacity"
  pub count_at_most : map (λ c. well_formed_tree sample_limit (measures 4 c 2) 3 tree) (3 ∷ 2 ∷ []) ≡ true ∷ false ∷ []
  -- "no node exactly when no trace"
  pub no_node : map (λ count. well_formed_tree sample_limit (measures 4 8 2) count []) (0 ∷ 3 ∷ []) ≡ true ∷ false ∷ []
  pub no_trace : well_formed_tree sample_limit (measures 4 8 2) 0 tree ≡ false
  -- "inner children numbered above their parent": nodes 1 and 2 below each other, so that each is a child once; node 1 below itself; a
  -- child that is no node
  pub below_each_other : fits (plain (leaf (0 ∷ [])) ∷ plain (inner (test 1 4 by_sum (+ 0)) 2 3) ∷ plain (inner (test 1 4 by_sum (+ 0)) 1 4) ∷ plain (leaf (1 ∷ [])) ∷ plain (leaf (2 ∷ [])) ∷ []) ≡
      false
  pub below_itself : fits (plain (leaf (0 ∷ [])) ∷ plain (inner (test 1 4 by_sum (+ 0)) 1 2) ∷ plain (leaf (1 ∷ 2 ∷ [])) ∷ []) ≡ false
  pub no_such_node : fits (plain (inner (test 1 4 by_sum (+ 0)) 1 2) ∷ plain (leaf (0 ∷ 1 ∷ 2 ∷ [])) ∷ []) ≡ false
  -- "every node but 0 a child once": one twice and one never; one that has no parent
  pub twice_a_child : fits (with_children 1 1) ≡ false
  pub no_parent : fits (plain (leaf (0 ∷ [])) ∷ plain (leaf (1 ∷ 2 ∷ [])) ∷ []) ≡ false
  -- "at most 16 ends"
  pub sixteen_ends : well_formed_tree sample_limit (measures 16 8 2) 1 (singles 16) ≡ true
  pub seventeen_ends : well_formed_tree sample_limit (measures 17 8 2) 1 (singles 17) ≡ false
  -- "rising, last n": twice the same, falling, from 0, last 3, last 5, none; in a tree of one leaf
  pub ends_refused : map (λ ends. fits (ending_at ends)) ((2 ∷ 2 ∷ 4 ∷ []) ∷ (3 ∷ 2 ∷ 4 ∷ []) ∷ (0 ∷ 4 ∷ []) ∷ (3 ∷ []) ∷ (5 ∷ []) ∷ [] ∷ []) ≡ replicate 6 false
  pub ends_taken : map (λ ends. fits (ending_at ends)) ((4 ∷ []) ∷ (1 ∷ 4 ∷ []) ∷ []) ≡ replicate 2 true
  -- "a child's ends including its parent's"
  pub end_lost : fits (segments_at 0 (seg 2 (+ 0) (+ 0) 0 0 ∷ seg 4 (+ 0) (+ 0) 0 0 ∷ [])) ≡ false
  -- "every trace number in one leaf": in none, in two, a number that is not stored
  pub not_in_one_leaf : map fits (with_leaves (0 ∷ []) (1 ∷ []) ∷ with_leaves (0 ∷ []) (0 ∷ 1 ∷ 2 ∷ []) ∷ with_leaves (0 ∷ []) (1 ∷ 2 ∷ 3 ∷ []) ∷ []) ≡ replicate 3 false
  -- "rising there, no leaf empty"
  pub not_rising : fits (with_leaves (0 ∷ []) (2 ∷ 1 ∷ [])) ≡ false
  pub empty_leaf : map fits (with_leaves [] (0 ∷ 1 ∷ 2 ∷ []) ∷ with_leaves (0 ∷ 1 ∷ 2 ∷ []) [] ∷ []) ≡ false ∷ false ∷ []
  -- "least ≤ greatest"
  pub least_above : map (λ s. fits (segments_at 1 (s ∷ []))) (seg 4 (+ 1) (+ 0) 0 0 ∷ seg 4 (+ 0) (+ 0) 2 1 ∷ []) ≡ false ∷ false ∷ []
  -- "The well-formed limits become w × 524,288 and w² × 2^38"
  pub past_limits : map (λ s. fits (segments_at 1 (s ∷ []))) (seg 4 (− 2097153) (+ 0) 0 0 ∷ seg 4 (+ 0) (+ 2097153) 0 0 ∷ seg 4 (+ 0) (+ 0) 0 4398046511105 ∷ []) ≡ replicate 3 false
  -- "T between twice those limits"
  pub thresholds_refused : map (λ t. fits (tested_by t)) (test 4 4 by_sum (+ 1048577) ∷ test 4 4 by_sum (− 1048577) ∷ test 4 4 by_scatter (− 1) ∷ test 4 4 by_scatter (+ 1048577) ∷ []) ≡ replicate 4
      false
  -- "on a run inside 1 to n": from 0, to 5, none
  pub runs_refused : map (λ t. fits (tested_by t)) (test 0 4 by_sum (+ 0) ∷ test 1 5 by_sum (+ 0) ∷ test 3 2 by_sum (+ 0) ∷ []) ≡ replicate 3 false

pub well_formed_examples : WellFormedExamples
unfolding everything
well_formed_examples = record {
  as_made = refl;
  other_tests = refl;
  other_children = refl;
  other_ranges = refl;
  other_leaves = refl;
  over_size = refl;
  nothing_stored = refl;
  measures_out = refl;
  count_at_most = refl;
  no_node = refl;
  no_trace = refl;
  below_each_other = refl;
  below_itself = refl;
  no_such_node = refl;
  twice_a_child = refl;
  no_parent = refl;
  sixteen_ends = refl;
  seventeen_ends = refl;
  ends_refused = refl;
  ends_taken = refl;
  end_lost = refl;
  not_in_one_leaf = refl;
  not_rising = refl;
  empty_leaf = refl;
  least_above = refl;
  past_limits = refl;
  thresholds_refused = refl;
  runs_refused = refl;
}

-- ---- the table of refusals

abbrev refusals : List Refusal
refusals =
    measure ∷ short_table ∷ spoiled ∷ wrong_trace ∷ full ∷ empty ∷ short_trail ∷ sheet_length ∷ torn_block 7 ∷ bad_sheet ∷ bad_k ∷ bad_recording
    ∷ loose_record ∷ bad_batch ∷ sample_range ∷ bad_edges ∷ unlike_libraries ∷ no_leaves ∷ crossed_range ∷ []

pub record RefusalExamples : Type 0 where
  -- "A refusal gives its number and a place: the first block at fault for 9, else 0"
  pub numbers : map number_of refusals ≡ counting 19 1
  pub places : map place_of refusals ≡ 0 ∷ 0 ∷ 0 ∷ 0 ∷ 0 ∷ 0 ∷ 0 ∷ 0 ∷ 7 ∷ 0 ∷ 0 ∷ 0 ∷ 0 ∷ 0 ∷ 0 ∷ 0 ∷ 0 ∷ 0 ∷ 0 ∷ []
  -- the first condition that holds counts; "No condition, no refusal"
  pub first : first_of (false refuses measure ∷ true refuses full ∷ true refuses empty ∷ []) ≡ some full
  pub no_condition : first_of (false refuses measure ∷ false refuses full ∷ []) ≡ none

pub refusal_examples : RefusalExamples
unfolding everything
refusal_examples = record { numbers = refl; places = refl; first = refl; no_condition = refl }

-- ---- "Sheets"

-- bytes with some of them changed
abbrev edited : List (ℕ × ℕ) → List ℕ → List ℕ
edited edits bytes = foldl (λ bytes edit. set bytes edit.0 edit.1) bytes edits

-- n = 254, one trace: the samples 1 to 254
abbrev long : List Trace
long = map pos (counting 254 1) ∷ []

-- the bytes of a block from a place on
abbrev in_block : ℕ → ℕ → ℕ → List ℕ
in_block number place k = part place k (get_or (blocks_of narrow (measures 254 1 1) long (unlabelled long)) number [])

-- n = 2, capacity 8, leaf size 2, seven traces and a query
abbrev eight : List Trace
eight = (+ 19 ∷ + 22 ∷ []) ∷ (+ 35 ∷ − 39 ∷ []) ∷ (+ 39 ∷ − 35 ∷ []) ∷ (− 28 ∷ + 12 ∷ []) ∷ (+ 2 ∷ + 19 ∷ []) ∷ (+ 6 ∷ − 11 ∷ []) ∷ (+ 32 ∷ − 3 ∷ []) ∷ (+ 7 ∷ − 26 ∷ []) ∷ []

abbrev sheet : List ℕ
sheet = plain_sheet (measures 2 8 2) eight

pub record SheetExamples : Type 0 where
  -- "all fields low byte first"
  pub low_first : bytes_of 2 258 ≡ 2 ∷ 1 ∷ []
  pub low_first_read : number_in (2 ∷ 1 ∷ []) ≡ 258
  -- "two's complement"
  pub coded_samples : map (coded narrow) (+ 32767 ∷ + 1 ∷ + 0 ∷ − 1 ∷ − 32768 ∷ []) ≡ (255 ∷ 127 ∷ []) ∷ (1 ∷ 0 ∷ []) ∷ (0 ∷ 0 ∷ []) ∷ (255 ∷ 255 ∷ []) ∷ (0 ∷ 128 ∷ []) ∷ []
  pub decoded_samples : map (decoded narrow) ((255 ∷ 127 ∷ []) ∷ (1 ∷ 0 ∷ []) ∷ (0 ∷ 0 ∷ []) ∷ (255 ∷ 255 ∷ []) ∷ (0 ∷ 128 ∷ []) ∷ []) ≡ + 32767 ∷ + 1 ∷ + 0 ∷ − 1 ∷ − 32768 ∷ []
  -- "kind, 1 for block 0, 2 for others"
  pub kinds : map (λ number. map (is_kind narrow number 2) (0 ∷ 1 ∷ 2 ∷ 3 ∷ 4 ∷ 5 ∷ [])) (0 ∷ 1 ∷ 4145 ∷ [])
      ≡ (false ∷ true ∷ false ∷ false ∷ false ∷ false ∷ []) ∷ (false ∷ false ∷ true ∷ false ∷ false ∷ true ∷ []) ∷ (false ∷ false ∷ true ∷ false ∷ false ∷ true ∷ []) ∷ []
  -- "total of (position + 1) × byte over positions 0 to 509, modulo 65,521": 1 × 5 + 2 × 6 + 3 × 7; then 255 at every position
  pub weights : weighted 0 (5 ∷ 6 ∷ 7 ∷ []) ≡ 38
  pub check_of_255 : check_of (replicate 512 255) ≡ 8628
  -- "In block 0 bytes 4 to 7 hold the letters TRCL (ASCII), then two bytes each for n, capacity, leaf size, trace count"
  pub head : head_of (measures 256 4096 64) 513 ≡ 84 ∷ 82 ∷ 67 ∷ 76 ∷ 0 ∷ 1 ∷ 0 ∷ 16 ∷ 64 ∷ 0 ∷ 1 ∷ 2 ∷ []
  -- "Bytes 0 to 1: block number", "Byte 3: 0", "All else is 0": block 258, which carries one byte
  pub block_258 : block 2 258 (9 ∷ []) ≡ 2 ∷ 1 ∷ 2 ∷ 0 ∷ 9 ∷ (replicate 505 0 ++ 55 ∷ 0 ∷ [])
  -- "253 samples each from byte 4, .. running on across blocks"
  pub sample_253 : in_block 1 508 2 ≡ 253 ∷ 0 ∷ []
  pub sample_254 : in_block 2 4 4 ≡ 254 ∷ 0 ∷ 0 ∷ 0 ∷ []
  pub long_read_back : judge_sheet (plain_sheet (measures 254 1 1) long) ≡ holds_plain (measures 254 1 1) long
  -- "With k traces there are 1 + (k × n / 253 rounded up) blocks": none, 253 samples, 254, the largest library
  pub block_counts : blocks_needed_as narrow 0 256 [] ∷ blocks_needed_as narrow 1 253 [] ∷ blocks_needed_as narrow 2 127 [] ∷ blocks_needed_as narrow 4096 256 [] ∷ [] ≡ 1 ∷ 2 ∷ 3 ∷ 4146 ∷ []
  -- the bytes of a sheet, as another implementation writes them
  pub bytes : sheet
      ≡ 0 ∷ 0 ∷ 1 ∷ 0 ∷ 84 ∷ 82 ∷ 67 ∷ 76 ∷ 2 ∷ 0 ∷ 8 ∷ 0 ∷ 2 ∷ 0 ∷ 8 ∷ 0 ∷ (replicate 494 0
      ++ 196 ∷ 8
      ∷ 1 ∷ 0 ∷ 2 ∷ 0 ∷ 19 ∷ 0 ∷ 22 ∷ 0 ∷ 35 ∷ 0 ∷ 217 ∷ 255 ∷ 39 ∷ 0 ∷ 221 ∷ 255 ∷ 228 ∷ 255 ∷ 12 ∷ 0 ∷ 2 ∷ 0 ∷ 19 ∷ 0 ∷ 6 ∷ 0 ∷ 245 ∷ 255 ∷ 32 ∷ 0 ∷ 253 ∷ 255 ∷ 7 ∷ 0 ∷ 230 ∷ 255 ∷
      (replicate 474 0
      ++ 237 ∷ 22 ∷ []))
  -- a library without traces is one block, and is read back
  pub empty_sheet : judge_sheet (plain_sheet (measures 2 8 2) []) ≡ holds_plain (measures 2 8 2) []
  -- 8, "reading: 0, not a multiple of 512, above" document 02 §9's "8,373 blocks"
  pub lengths : map is_wrong_length (0 ∷ 511 ∷ 512 ∷ 513 ∷ 4286976 ∷ 4287488 ∷ []) ≡ true ∷ true ∷ false ∷ true ∷ false ∷ true ∷ []
  -- 9, the check: one that is 0, and the same with 65,521 in its place
  pub check_field : map (λ edits. is_torn narrow 1 1 (edited ((0, 1) ∷ (2, 2) ∷ (233, 1) ∷ (509, 128) ∷ edits) (replicate 512 0))) ([] ∷ ((510, 241) ∷ (511, 255) ∷ []) ∷ []) ≡ false ∷ true ∷ []
  -- "9 over all blocks", the place being "the first block at fault"
  pub torn : judge_sheet (edited ((516, 20) ∷ []) sheet) ≡ refused (torn_block 1)

pub sheet_examples : SheetExamples
unfolding everything
sheet_examples = record {
  low_first = refl;
  low_first_read = refl;
  coded_samples = refl;
  decoded_samples = refl;
  kinds = refl;
  weights = refl;
  check_of_255 = refl;
  head = refl;
  block_258 = refl;
  sample_253 = refl;
  sample_254 = refl;
  long_read_back = refl;
  block_counts = refl;
  bytes = refl;
  empty_sheet = refl;
  lengths = refl;
  check_field = refl;
  torn = refl;
}

-- ---- the program

-- the sheet with some bytes changed, cut to a size, and the line that the program prints
pub record Damage : Type 0 where
  pub edits : List (ℕ × ℕ)
  pub size : ℕ
  pub line : program.Line

abbrev damage : List (ℕ × ℕ) → ℕ → program.Line → Damage
damage edits size line = record { edits = edits; size = size; line = line }

-- a damage at each field. The check of the changed block, at 510 and 511 or at 1022 and 1023, is changed with it where it is not said to be
-- left
abbrev pub damages : List Damage
damages =
    -- nothing
    damage [] 1024 (program.found 5 226 1 1)
    -- a sample, its check left
    ∷ damage ((516, 20) ∷ []) 1024 (program.refused_line 9 1)
    -- a sample of the query, with its check
    ∷ damage ((544, 8) ∷ (1022, 14) ∷ (1023, 23) ∷ []) 1024 (program.found 5 229 1 1)
    -- n, its check left
    ∷ damage ((8, 4) ∷ []) 1024 (program.refused_line 9 0)
    -- the check's low byte
    ∷ damage ((1022, 236) ∷ []) 1024 (program.refused_line 9 1)
    -- the check's high byte, in block 0
    ∷ damage ((511, 9) ∷ []) 1024 (program.refused_line 9 0)
    -- block number of block 0
    ∷ damage ((0, 1) ∷ (510, 197) ∷ (511, 8) ∷ []) 1024 (program.refused_line 9 0)
    -- block number of block 1, low byte
    ∷ damage ((512, 2) ∷ (1022, 238) ∷ (1023, 22) ∷ []) 1024 (program.refused_line 9 1)
    -- block number of block 1, high byte
    ∷ damage ((513, 1) ∷ (1022, 239) ∷ (1023, 22) ∷ []) 1024 (program.refused_line 9 1)
    -- kind of block 0
    ∷ damage ((2, 2) ∷ (510, 199) ∷ (511, 8) ∷ []) 1024 (program.refused_line 9 0)
    -- kind of block 1
    ∷ damage ((514, 1) ∷ (1022, 234) ∷ (1023, 22) ∷ []) 1024 (program.refused_line 9 1)
    -- byte 3 of block 0
    ∷ damage ((3, 1) ∷ (510, 200) ∷ (511, 8) ∷ []) 1024 (program.refused_line 10 0)
    -- byte 3 of block 1
    ∷ damage ((515, 1) ∷ (1022, 241) ∷ (1023, 22) ∷ []) 1024 (program.refused_line 10 0)
    -- the first letter
    ∷ damage ((4, 85) ∷ (510, 201) ∷ (511, 8) ∷ []) 1024 (program.refused_line 10 0)
    -- the last letter
    ∷ damage ((7, 77) ∷ (510, 204) ∷ (511, 8) ∷ []) 1024 (program.refused_line 10 0)
    -- n 0
    ∷ damage ((8, 0) ∷ (510, 178) ∷ (511, 8) ∷ []) 1024 (program.refused_line 10 0)
    -- n 257
    ∷ damage ((8, 1) ∷ (9, 1) ∷ (510, 197) ∷ (511, 8) ∷ []) 1024 (program.refused_line 10 0)
    -- capacity 0
    ∷ damage ((10, 0) ∷ (510, 108) ∷ (511, 8) ∷ []) 1024 (program.refused_line 10 0)
    -- capacity 4,097
    ∷ damage ((10, 1) ∷ (11, 16) ∷ (510, 55) ∷ (511, 9) ∷ []) 1024 (program.refused_line 10 0)
    -- leaf size 0
    ∷ damage ((12, 0) ∷ (510, 170) ∷ (511, 8) ∷ []) 1024 (program.refused_line 10 0)
    -- leaf size 65
    ∷ damage ((12, 65) ∷ (510, 247) ∷ (511, 11) ∷ []) 1024 (program.refused_line 10 0)
    -- leaf size 258
    ∷ damage ((13, 1) ∷ (510, 210) ∷ (511, 8) ∷ []) 1024 (program.refused_line 10 0)
    -- count 9, above the capacity
    ∷ damage ((14, 9) ∷ (510, 211) ∷ (511, 8) ∷ []) 1024 (program.refused_line 10 0)
    -- count 264, above the capacity
    ∷ damage ((15, 1) ∷ (510, 212) ∷ (511, 8) ∷ []) 1024 (program.refused_line 10 0)
    -- count 7: the eighth trace is a nonzero byte
    ∷ damage ((14, 7) ∷ (510, 181) ∷ (511, 8) ∷ []) 1024 (program.refused_line 10 0)
    -- count 0: one block too many
    ∷ damage ((14, 0) ∷ (510, 76) ∷ (511, 8) ∷ []) 1024 (program.refused_line 10 0)
    -- the first byte behind the count
    ∷ damage ((16, 1) ∷ (510, 213) ∷ (511, 8) ∷ []) 1024 (program.refused_line 10 0)
    -- the last byte before the check, in block 0
    ∷ damage ((509, 1) ∷ (510, 194) ∷ (511, 10) ∷ []) 1024 (program.refused_line 10 0)
    -- the first byte behind the last sample
    ∷ damage ((548, 1) ∷ (1022, 18) ∷ (1023, 23) ∷ []) 1024 (program.refused_line 10 0)
    -- the last byte before the check, in block 1
    ∷ damage ((1021, 1) ∷ (1022, 235) ∷ (1023, 24) ∷ []) 1024 (program.refused_line 10 0)
    -- capacity 64
    ∷ damage ((10, 64) ∷ (510, 44) ∷ (511, 11) ∷ []) 1024 (program.found 5 226 1 1)
    -- capacity 65
    ∷ damage ((10, 65) ∷ (510, 55) ∷ (511, 11) ∷ []) 1024 (program.refused_line 2 0)
    -- n 64, three traces
    ∷ damage ((8, 64) ∷ (14, 3) ∷ (510, 167) ∷ (511, 10) ∷ []) 1024 (program.found 1 0 1 2)
    -- n 65, three traces: 195 samples would fit, n does not
    ∷ damage ((8, 65) ∷ (14, 3) ∷ (510, 176) ∷ (511, 10) ∷ []) 1024 (program.refused_line 2 0)
    -- capacity 65 and byte 3: 10 before 2
    ∷ damage ((3, 1) ∷ (10, 65) ∷ (510, 59) ∷ (511, 11) ∷ []) 1024 (program.refused_line 10 0)
    -- both blocks torn: the first is named
    ∷ damage ((8, 4) ∷ (516, 20) ∷ []) 1024 (program.refused_line 9 0)
    -- a letter, and block 1 torn: 9 before 10
    ∷ damage ((4, 85) ∷ (516, 20) ∷ (510, 201) ∷ (511, 8) ∷ []) 1024 (program.refused_line 9 1)
    -- block 0 alone
    ∷ damage [] 512 (program.refused_line 10 0)
    -- cut short
    ∷ damage [] 1000 (program.refused_line 8 0)
    -- block 1 torn, and cut short: 8 before 9
    ∷ damage ((516, 20) ∷ []) 1023 (program.refused_line 8 0)
    -- no byte
    ∷ damage [] 0 (program.refused_line 8 0)
    ∷ []

pub record ProgramExamples : Type 0 where
  -- "For A, B, C and (1,1,1,1) it prints `0 4 1 1`"
  pub printed : program.program_line (plain_sheet (measures 4 8 2) (ABC ++ (level 1 ∷ []))) ≡ program.found 0 4 1 1
  -- "in decimal with single spaces": the bytes of `0 4 1 1` and `refused 6 0`, a line feed behind them; of 0, 7, 10 and the largest
  -- distance
  pub printed_match : program.printed (plain_sheet (measures 4 8 2) (ABC ++ (level 1 ∷ []))) ≡ 48 ∷ 32 ∷ 52 ∷ 32 ∷ 49 ∷ 32 ∷ 49 ∷ 10 ∷ []
  pub printed_refusal : program.printed (plain_sheet (measures 2 8 2) []) ≡ 114 ∷ 101 ∷ 102 ∷ 117 ∷ 115 ∷ 101 ∷ 100 ∷ 32 ∷ 54 ∷ 32 ∷ 48 ∷ 10 ∷ []
  pub digits : map program.decimal (0 ∷ 7 ∷ 10 ∷ 1099478073600 ∷ []) ≡ (48 ∷ []) ∷ (55 ∷ []) ∷ (49 ∷ 48 ∷ []) ∷ (49 ∷ 48 ∷ 57 ∷ 57 ∷ 52 ∷ 55 ∷ 56 ∷ 48 ∷ 55 ∷ 51 ∷ 54 ∷ 48 ∷ 48 ∷ []) ∷ []
  -- "A refusal prints `refused`, number, place"
  pub damaged : map (λ (d : Damage). program.program_line (take d.size (edited d.edits sheet))) damages ≡ map (λ (d : Damage). d.line) damages
  -- a block too many: it is torn, or the number of blocks is wrong
  pub more_blocks : map (λ more. program.program_line (sheet ++ more)) (replicate 512 0 ∷ block 2 2 [] ∷ []) ≡ program.refused_line 9 2 ∷ program.refused_line 10 0 ∷ []
  -- "No earlier trace is refusal 6": one trace, none
  pub no_earlier : map (λ traces. program.program_line (plain_sheet (measures 2 8 2) traces)) ((take 1 eight) ∷ [] ∷ []) ≡ program.refused_line 6 0 ∷ program.refused_line 6 0 ∷ []
  -- "tables for n ≤ 64 and capacity ≤ 64; .. a larger n or capacity refusal 2", and that before 6: no sheet here has a trace
  pub too_large : map (λ m. program.program_line (plain_sheet m [])) (measures 64 64 2 ∷ measures 65 64 2 ∷ measures 64 65 2 ∷ [])
      ≡ program.refused_line 6 0 ∷ program.refused_line 2 0 ∷ program.refused_line 2 0 ∷ []
  -- "one sheet of at most 65,536 bytes ..; a longer input is refusal 8": 128 blocks of zeros are torn, 129 are too long, torn or not
  pub too_long : map (λ size. program.program_line (replicate size 0)) (65536 ∷ 66048 ∷ []) ≡ program.refused_line 9 0 ∷ program.refused_line 8 0 ∷ []

pub program_examples : ProgramExamples
unfolding everything
program_examples = record { printed = refl; printed_match = refl; printed_refusal = refl; digits = refl; damaged = refl; more_blocks = refl; no_earlier = refl; too_large = refl; too_long = refl }
