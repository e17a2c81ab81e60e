-- Document 02, §11, by computation: two libraries together, by the steps and in closed form, and what is refused.
use Prim.Native.Nat.{ℕ}
use mathlib.Core.Path.{◌≡◌, refl}
use mathlib.Core.Option.{none, some}
use mathlib.Core.List.{List, [], ◌∷◌, ◌++◌}
use lib.ListN.{length, set}
use Rattle.dstree.specs.Measures.{Trace, measures}
use Rattle.dstree.specs.Node.{leaf, node}
use Rattle.dstree.specs.Adding.{tree_of}
use Rattle.dstree.specs.Refusals.{first_of, wrong_trace, sample_range, empty, short_trail, unlike_libraries}
use Rattle.dstree.specs.Pair.{Indexed, indexed, Which, of_factory, of_bench, PairMatch, pair_conditions, pair_of, pair_by_steps}
use Rattle.dstree.proofs.Notation.{+, seg}
use Rattle.dstree.proofs.Everything.{everything}

-- library, trace, distance, traces read, the factory's trail and the bench's
abbrev gives : Which → ℕ → ℕ → ℕ → List ℕ → List ℕ → PairMatch
gives which trace distance traces factory_trail bench_trail = record {
  which = which;
  trace = trace;
  distance = distance;
  leaves = length (factory_trail ++ bench_trail);
  traces = traces;
  factory_trail = factory_trail;
  bench_trail = bench_trail;
}

-- the same by the steps and in closed form
record Both (f b : Indexed) (query : Trace) (m : PairMatch) : Type 0 where
  steps : pair_by_steps f b query ≡ m
  closed : pair_of f b query ≡ m

-- ---- n = 1, leaf size 1: libraries of such samples, in leaf 0, or from leaf 1 on

abbrev one : ℕ → Trace
one x = + x ∷ []

abbrev library : List Trace → Indexed
library traces = indexed traces (tree_of (measures 1 8 1) traces)

-- 0 in leaf 1, 4 in leaf 2
abbrev two : Indexed
two = library (one 0 ∷ one 4 ∷ [])

-- "In each library the leaves read are those with a bound at most the joint distance": none of the factory's, whose own nearest is at 4
none_of_one : Both two (library (one 2 ∷ [])) (one 2) (gives of_bench 0 0 1 [] (0 ∷ []))
unfolding everything
none_of_one = record { steps = refl; closed = refl }

-- a bound equal to the joint distance is read, in both; "the factory's on equal distance, then the lower number"
equal_bounds : Both two (library (one 0 ∷ [])) (one 2) (gives of_factory 0 4 3 (1 ∷ 2 ∷ []) (0 ∷ []))
unfolding everything
equal_bounds = record { steps = refl; closed = refl }

-- .. also where its number is the higher one
factory_first : Both two (library (one 4 ∷ [])) (one 4) (gives of_factory 1 0 2 (2 ∷ []) (0 ∷ []))
unfolding everything
factory_first = record { steps = refl; closed = refl }

-- the bench's is nearer: a leaf of the factory that its match alone would read is left out, for 1 is at 9 and its bound 9 above 1
nearer_bench : Both (library (one 1 ∷ [])) (library (one 5 ∷ one 9 ∷ [])) (one 4) (gives of_bench 0 1 1 [] (1 ∷ []))
unfolding everything
nearer_bench = record { steps = refl; closed = refl }

-- "One library may be empty"
bench_empty : Both two (library []) (one 1) (gives of_factory 0 1 1 (1 ∷ []) [])
unfolding everything
bench_empty = record { steps = refl; closed = refl }

factory_empty : Both (library []) two (one 1) (gives of_bench 0 1 1 [] (1 ∷ []))
unfolding everything
factory_empty = record { steps = refl; closed = refl }

-- well formed, but leaf 2 says that its sums are 9: the steps follow what is recorded
abbrev loose : Indexed
loose = indexed (one 0 ∷ one 4 ∷ []) (set two.tree 2 (node (seg 1 (+ 9) (+ 9) 0 0 ∷ []) (leaf (1 ∷ []))))

by_records : pair_by_steps loose (library (one 7 ∷ [])) (one 4) ≡ gives of_bench 0 9 1 [] (0 ∷ [])
unfolding everything
by_records = refl

-- ---- what is refused: 17, 4, 15, 6, 7, in this order

record Refused : Type 0 where
  unlike : first_of (pair_conditions 1 2 0 0 0 0 (one 0) [] []) ≡ some unlike_libraries
  unlike_wrong : first_of (pair_conditions 1 2 0 0 0 0 [] [] []) ≡ some unlike_libraries
  wrong : first_of (pair_conditions 2 2 0 0 0 0 (one 0) [] []) ≡ some wrong_trace
  wrong_outside : first_of (pair_conditions 2 2 0 0 0 0 (one 524288) [] []) ≡ some wrong_trace
  outside : first_of (pair_conditions 1 1 0 0 0 0 (one 524288) [] []) ≡ some sample_range
  both_empty : first_of (pair_conditions 1 1 0 0 0 0 (one 524287) [] []) ≡ some empty
  one_empty : first_of (pair_conditions 1 1 0 2 0 2 (one 0) [] (0 ∷ 0 ∷ [])) ≡ none
  short_first : first_of (pair_conditions 1 1 2 2 2 2 (one 0) (0 ∷ []) (0 ∷ 0 ∷ [])) ≡ some short_trail
  short_second : first_of (pair_conditions 1 1 2 2 2 2 (one 0) (0 ∷ 0 ∷ []) (0 ∷ [])) ≡ some short_trail
  own_leaves : first_of (pair_conditions 1 1 2 1 2 1 (one 0) (0 ∷ 0 ∷ []) (0 ∷ [])) ≡ none
  fine : first_of (pair_conditions 1 1 2 2 2 2 (one 0) (0 ∷ 0 ∷ []) (0 ∷ 0 ∷ [])) ≡ none

refused : Refused
unfolding everything
refused = record {
  unlike = refl;
  unlike_wrong = refl;
  wrong = refl;
  wrong_outside = refl;
  outside = refl;
  both_empty = refl;
  one_empty = refl;
  short_first = refl;
  short_second = refl;
  own_leaves = refl;
  fine = refl;
}
