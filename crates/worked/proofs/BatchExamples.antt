-- Document 02, §7, by computation: batches by the steps and in closed form, and what is refused.
use Prim.Native.Nat.{ℕ}
use mathlib.Core.Path.{◌≡◌, refl}
use mathlib.Core.Option.{none, some}
use mathlib.Core.List.{List, [], ◌∷◌, map}
use lib.ListN.{length, replicate, set}
use lib.IntN.{pos}
use Rattle.dstree.specs.Measures.{Trace, measures}
use Rattle.dstree.specs.Node.{leaf, node, Tree}
use Rattle.dstree.specs.Adding.{tree_of}
use Rattle.dstree.specs.Matching.{Near, match_by_steps}
use Rattle.dstree.specs.Refusals.{first_of, wrong_trace, empty, short_trail, bad_batch}
use Rattle.dstree.specs.Examples.{level, ABC, tree, match_with}
use Rattle.dstree.specs.Batch.{queries_in, batch_conditions, Batch, batch_of, batch_read, batch_by_steps}
use Rattle.dstree.proofs.Notation.{+, −, seg}
use Rattle.dstree.proofs.KExamples.{at}
use Rattle.dstree.proofs.Everything.{everything}

abbrev gives : List Near → List ℕ → Batch
gives answers trail = record { answers = answers; leaves = length trail; trail = trail }

-- the leaves in the order in which they are read, and the same batch by the steps and in closed form
record Both (stored : List Trace) (tree : Tree) (queries : List Trace) (read : List ℕ) (batch : Batch) : Type 0 where
  reads : batch_read stored tree queries ≡ read
  steps : batch_by_steps stored tree queries ≡ batch
  closed : batch_of stored tree queries ≡ batch

-- ---- document 01's A, B and C: leaf 1 is {A}, leaf 2 is {B, C}

-- (4,4,4,4) reads leaf 2; (2,2,2,2), with both bounds 16, reads leaf 1 and passes leaf 2 over. "The trail lists the leaves read by rising
-- number"
passed_over : Both ABC tree (level 4 ∷ level 2 ∷ []) (2 ∷ 1 ∷ []) (gives (at 1 0 ∷ at 0 16 ∷ []) (1 ∷ 2 ∷ []))
unfolding everything
passed_over = record { reads = refl; steps = refl; closed = refl }

-- (2,2,2,2) reads both leaves: the others have their best, and their next bounds, 4 and 0, are not above; both leaves are passed over
all_read : Both ABC tree (level 2 ∷ level 1 ∷ level 4 ∷ []) (1 ∷ 2 ∷ []) (gives (at 0 16 ∷ at 0 4 ∷ at 1 0 ∷ []) (1 ∷ 2 ∷ []))
unfolding everything
all_read = record { reads = refl; steps = refl; closed = refl }

-- a batch of one: the match's leaf
one_alone : Both ABC tree (level 1 ∷ []) (1 ∷ []) (gives (at 0 4 ∷ []) (1 ∷ []))
unfolding everything
one_alone = record { reads = refl; steps = refl; closed = refl }

-- ---- n = 3, leaf size 1: (0,0,0), (1,1,0), (0,0,0). Leaf 1 is {0, 2}, leaf 2 is {1}

abbrev three : List Trace
three = (+ 0 ∷ + 0 ∷ + 0 ∷ []) ∷ (+ 1 ∷ + 1 ∷ + 0 ∷ []) ∷ (+ 0 ∷ + 0 ∷ + 0 ∷ []) ∷ []

-- "the queries come as one run of samples"
abbrev four : List Trace
four = queries_in 3 4 (+ 0 ∷ + 0 ∷ + 0 ∷ + 0 ∷ − 1 ∷ − 1 ∷ + 1 ∷ + 1 ∷ + 0 ∷ + 1 ∷ + 1 ∷ + 0 ∷ [])

four_of_three : Both three (tree_of (measures 3 37 1) three) four (1 ∷ 2 ∷ []) (gives (at 0 0 ∷ at 0 2 ∷ at 1 0 ∷ at 1 0 ∷ []) (1 ∷ 2 ∷ []))
unfolding everything
four_of_three = record { reads = refl; steps = refl; closed = refl }

-- ---- n = 1, leaf size 1: 0 in leaf 1, 4 in leaf 2

abbrev two : List Trace
two = (+ 0 ∷ []) ∷ (+ 4 ∷ []) ∷ []

abbrev tree_of_two : Tree
tree_of_two = tree_of (measures 1 8 1) two

-- "no leaf is read twice": one that two queries need counts once
twice_wanted : Both two tree_of_two (queries_in 1 2 (+ 0 ∷ + 0 ∷ [])) (1 ∷ []) (gives (at 0 0 ∷ at 0 0 ∷ []) (1 ∷ []))
unfolding everything
twice_wanted = record { reads = refl; steps = refl; closed = refl }

by_number : Both two tree_of_two (queries_in 1 2 (+ 4 ∷ + 0 ∷ [])) (2 ∷ 1 ∷ []) (gives (at 1 0 ∷ at 0 0 ∷ []) (1 ∷ 2 ∷ []))
unfolding everything
by_number = record { reads = refl; steps = refl; closed = refl }

-- well formed, but leaf 2 says that its sums are 9
abbrev loose : Tree
loose = set tree_of_two 2 (node (seg 1 (+ 9) (+ 9) 0 0 ∷ []) (leaf (1 ∷ [])))

-- "where other well-formed tables break [a claim], that answer is the program's": alone, 4 is answered by trace 0, for leaf 2 is not
-- read; behind 9, for which leaf 2 is read, it is answered by trace 1
record Loose : Type 0 where
  alone : match_by_steps two loose (+ 4 ∷ []) ≡ some (match_with 0 16 1 1 (1 ∷ []))
  behind : batch_by_steps two loose (queries_in 1 2 (+ 9 ∷ + 4 ∷ [])) ≡ gives (at 1 25 ∷ at 1 0 ∷ []) (2 ∷ [])

loose_tables : Loose
unfolding everything
loose_tables = record { alone = refl; behind = refl }

-- ---- what is refused, of a library for traces of one sample with two traces in two leaves

abbrev run : ℕ → Trace
run size = replicate size (pos 0)

abbrev trail : ℕ → List ℕ
trail places = replicate places 0

record Refused : Type 0 where
  -- "0 or more than 16 queries, or an answer list of another length than the batch", also a longer one; before 4
  bad : map first_of
      (batch_conditions 1 2 2 0 0 (run 5) (trail 2) ∷ batch_conditions 1 2 2 17 17 (run 17) (trail 2)
      ∷ batch_conditions 1 2 2 1 2 (run 1) (trail 2) ∷ batch_conditions 1 2 2 2 1 (run 1) (trail 2) ∷ [])
      ≡ some bad_batch ∷ some bad_batch ∷ some bad_batch ∷ some bad_batch ∷ []
  -- "a run not n times their number long is 4", another multiple of n too, and before 6; then 6; then 7, by the number of leaves
  then : map first_of
      (batch_conditions 1 2 2 2 2 (run 1) (trail 2) ∷ batch_conditions 1 0 0 2 2 (run 3) (trail 0)
      ∷ batch_conditions 1 0 0 1 1 (run 1) (trail 0) ∷ batch_conditions 1 2 2 1 1 (run 1) (trail 1) ∷ [])
      ≡ some wrong_trace ∷ some wrong_trace ∷ some empty ∷ some short_trail ∷ []
  fine : map first_of (batch_conditions 1 2 2 1 1 (run 1) (trail 2) ∷ batch_conditions 3 2 2 16 16 (run 48) (trail 9) ∷ []) ≡ none ∷ none ∷ []

refused : Refused
unfolding everything
refused = record { bad = refl; then = refl; fine = refl }
