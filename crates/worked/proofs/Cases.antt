-- Small libraries with what another implementation of documents 01 and 02 makes of them, as two tables, with a query and without; and the
-- definitions give the same, by computation. These few have each kind of split (by sum and scatter, whole and cut segments), ties in gain
-- and in distance, leaves over size, gains and sums below zero. The calls, which are proved equal to the definitions, are run on all of
-- `vectors/` (`rust/tests/vectors.rs`).
-- Written by `tools/cases.py` from `vectors/libraries.txt`, the libraries that `vectors/cases.txt` names.
use Prim.Native.Nat.{ℕ}
use mathlib.Core.Path.{◌≡◌, refl}
use mathlib.Core.Bool.{Bool, true}
use mathlib.Core.Option.{Option, some}
use mathlib.Core.List.{List, [], ◌∷◌, map}
use lib.ListN.{length}
use Rattle.integer.specs.Words.{counting}
use Rattle.dstree.specs.Measures.{Trace, Measures, measures, sample_limit, is_library}
use Rattle.dstree.specs.Node.{by_sum, by_scatter, leaf, inner, node, Tree}
use Rattle.dstree.specs.Adding.{tree_of}
use Rattle.dstree.specs.Matching.{bound, Match, match_by_steps, match_of}
use Rattle.dstree.specs.WellFormed.{well_formed_tree}
use Rattle.dstree.specs.Sheet.{Judged}
use Rattle.dstree.specs.SheetWidths.{judge_sheet}
use Rattle.dstree.specs.Examples.{match_with}
use Rattle.dstree.proofs.Notation.{+, −, seg, test, plain_sheet, holds_plain}
use Rattle.dstree.proofs.Everything.{everything}

-- ---- what is compared

-- a library and a query; then what the other implementation says: the tree, the bound of every node, the match with its trail
pub record Case : Type 0 where
  pub measures : Measures
  pub traces : List Trace
  pub query : Trace
  pub tree : Tree
  pub bounds : List ℕ
  pub match : Match

-- what the definitions say of a library and a query
pub record CaseOutcome : Type 0 where
  pub tree : Tree
  pub bounds : List ℕ
  pub match : Match
  pub steps : Option Match
  pub sound : Bool
  pub library : Bool
  pub sheet : Judged

-- computed: the tree from the traces alone, all else on the tree that is given
abbrev pub computed : Case → CaseOutcome
computed c = record {
  tree = tree_of c.measures c.traces;
  bounds = map (bound c.tree c.query) (counting (length c.tree) 0);
  match = match_of c.traces c.tree c.query;
  steps = match_by_steps c.traces c.tree c.query;
  sound = well_formed_tree sample_limit c.measures (length c.traces) c.tree;
  library = is_library sample_limit c.measures c.traces;
  sheet = judge_sheet (plain_sheet c.measures c.traces);
}

-- expected: the given tree, bounds and match, the match by its steps too; well-formed tables of a library, whose sheet reads back
abbrev pub expected : Case → CaseOutcome
expected c = record {
  tree = c.tree;
  bounds = c.bounds;
  match = c.match;
  steps = some c.match;
  sound = true;
  library = true;
  sheet = holds_plain c.measures c.traces;
}

-- ---- the table

abbrev pub cases : List Case
cases =
    -- identical-5: no candidate parts equal traces, so the leaf stays whole, four times its size
    record {
      measures = measures 3 56 2;
      traces = (− 7528 ∷ + 18019 ∷ − 16825 ∷ []) ∷ (− 7528 ∷ + 18019 ∷ − 16825 ∷ []) ∷ (− 7528 ∷ + 18019 ∷ − 16825 ∷ []) ∷ (− 7528 ∷ + 18019
          ∷ − 16825 ∷ []) ∷ (− 7528 ∷ + 18019 ∷ − 16825 ∷ []) ∷ (− 7528 ∷ + 18019 ∷ − 16825 ∷ []) ∷ (− 7528 ∷ + 18019 ∷ − 16825 ∷ [])
          ∷ (− 7528 ∷ + 18019 ∷ − 16825 ∷ []) ∷ [];
      query = − 7528 ∷ + 18019 ∷ − 16825 ∷ [];
      tree =
          node (seg 3 (− 6334) (− 6334) 1953187754 1953187754 ∷ []) (leaf (0 ∷ 1 ∷ 2 ∷ 3 ∷ 4 ∷ 5 ∷ 6 ∷ 7 ∷ []))
          ∷ [];
      bounds = 0 ∷ [];
      match = match_with 0 0 1 8 (0 ∷ []);
    }
    -- tiny-1: n = 1; twice the last trace's figure is just T, so it goes left
    ∷ record {
      measures = measures 1 7 2;
      traces = (+ 2 ∷ []) ∷ (+ 0 ∷ []) ∷ (+ 2 ∷ []) ∷ (+ 1 ∷ []) ∷ [];
      query = + 1 ∷ [];
      tree =
          node (seg 1 (+ 0) (+ 2) 0 0 ∷ []) (inner (test 1 1 by_sum (+ 2)) 1 2)
          ∷ node (seg 1 (+ 0) (+ 1) 0 0 ∷ []) (leaf (1 ∷ 3 ∷ []))
          ∷ node (seg 1 (+ 2) (+ 2) 0 0 ∷ []) (leaf (0 ∷ 2 ∷ []))
          ∷ [];
      bounds = 0 ∷ 0 ∷ 1 ∷ [];
      match = match_with 3 0 1 2 (1 ∷ []);
    }
    -- n2-3: cuts into single samples; a tie in gain between left half and right half, by sum: the left half is earlier
    ∷ record {
      measures = measures 2 8 2;
      traces = (+ 19 ∷ + 22 ∷ []) ∷ (+ 35 ∷ − 39 ∷ []) ∷ (+ 39 ∷ − 35 ∷ []) ∷ (− 28 ∷ + 12 ∷ []) ∷ (+ 2 ∷ + 19 ∷ []) ∷ (+ 6 ∷ − 11 ∷ [])
          ∷ (+ 32 ∷ − 3 ∷ []) ∷ [];
      query = + 7 ∷ − 26 ∷ [];
      tree =
          node (seg 2 (− 16) (+ 41) 9 5476 ∷ []) (inner (test 1 1 by_sum (+ 58)) 1 2)
          ∷ node (seg 1 (− 28) (+ 19) 0 0 ∷ seg 2 (− 11) (+ 22) 0 0 ∷ []) (inner (test 1 1 by_sum (− 9)) 3 4)
          ∷ node (seg 1 (+ 32) (+ 39) 0 0 ∷ seg 2 (− 39) (− 3) 0 0 ∷ []) (inner (test 2 2 by_sum (− 42)) 7 8)
          ∷ node (seg 1 (− 28) (− 28) 0 0 ∷ seg 2 (+ 12) (+ 12) 0 0 ∷ []) (leaf (3 ∷ []))
          ∷ node (seg 1 (+ 2) (+ 19) 0 0 ∷ seg 2 (− 11) (+ 22) 0 0 ∷ []) (inner (test 2 2 by_sum (+ 11)) 5 6)
          ∷ node (seg 1 (+ 6) (+ 6) 0 0 ∷ seg 2 (− 11) (− 11) 0 0 ∷ []) (leaf (5 ∷ []))
          ∷ node (seg 1 (+ 2) (+ 19) 0 0 ∷ seg 2 (+ 19) (+ 22) 0 0 ∷ []) (leaf (0 ∷ 4 ∷ []))
          ∷ node (seg 1 (+ 35) (+ 39) 0 0 ∷ seg 2 (− 39) (− 35) 0 0 ∷ []) (leaf (1 ∷ 2 ∷ []))
          ∷ node (seg 1 (+ 32) (+ 32) 0 0 ∷ seg 2 (− 3) (− 3) 0 0 ∷ []) (leaf (6 ∷ []))
          ∷ [];
      bounds = 5 ∷ 225 ∷ 625 ∷ 2669 ∷ 225 ∷ 226 ∷ 2025 ∷ 865 ∷ 1154 ∷ [];
      match = match_with 5 226 1 1 (5 ∷ []);
    }
    -- near-square-7: up to four segments, and a test by scatter
    ∷ record {
      measures = measures 5 56 3;
      traces = (+ 0 ∷ − 6 ∷ + 3 ∷ − 6 ∷ − 6 ∷ []) ∷ (+ 3 ∷ − 8 ∷ + 1 ∷ − 8 ∷ − 5 ∷ []) ∷ (+ 4 ∷ − 2 ∷ − 1 ∷ − 3 ∷ − 5 ∷ []) ∷ (+ 2 ∷ − 8
          ∷ + 3 ∷ − 9 ∷ − 5 ∷ []) ∷ (+ 0 ∷ − 3 ∷ + 3 ∷ − 9 ∷ − 7 ∷ []) ∷ (+ 4 ∷ − 8 ∷ + 1 ∷ − 7 ∷ − 6 ∷ []) ∷ (+ 0 ∷ − 6 ∷ − 1 ∷ − 4
          ∷ − 4 ∷ []) ∷ (+ 1 ∷ − 2 ∷ + 0 ∷ − 7 ∷ − 1 ∷ []) ∷ (+ 3 ∷ − 4 ∷ + 1 ∷ − 4 ∷ − 6 ∷ []) ∷ (+ 4 ∷ − 5 ∷ − 1 ∷ − 7 ∷ − 1 ∷ [])
          ∷ (+ 3 ∷ − 8 ∷ + 0 ∷ − 6 ∷ − 4 ∷ []) ∷ [];
      query = + 5 ∷ − 8 ∷ + 3 ∷ − 7 ∷ − 7 ∷ [];
      tree =
          node (seg 5 (− 17) (− 7) 120 626 ∷ []) (inner (test 1 2 by_sum (− 4)) 1 2)
          ∷ node (seg 2 (− 6) (− 3) 9 144 ∷ seg 5 (− 13) (− 9) 18 248 ∷ []) (inner (test 4 5 by_scatter (+ 4)) 3 4)
          ∷ node (seg 2 (− 1) (+ 2) 9 81 ∷ seg 5 (− 9) (− 8) 24 86 ∷ []) (inner (test 1 1 by_sum (+ 5)) 7 8)
          ∷ node (seg 2 (− 6) (− 3) 9 144 ∷ seg 3 (− 1) (+ 3) 0 0 ∷ seg 5 (− 16) (− 8) 0 4 ∷ []) (inner (test 2 2 by_sum (− 11)) 5 6)
          ∷ node (seg 2 (− 6) (− 5) 100 121 ∷ seg 3 (+ 1) (+ 3) 0 0 ∷ seg 5 (− 14) (− 13) 9 16 ∷ []) (leaf (1 ∷ 3 ∷ []))
          ∷ node (seg 1 (+ 0) (+ 4) 0 0 ∷ seg 2 (− 8) (− 6) 0 0 ∷ seg 3 (− 1) (+ 3) 0 0 ∷ seg 5 (− 13) (− 8) 0 4
          ∷ []) (inner (test 1 1 by_sum (+ 4)) 9 10)
          ∷ node (seg 1 (+ 0) (+ 0) 0 0 ∷ seg 2 (− 3) (− 3) 0 0 ∷ seg 3 (+ 3) (+ 3) 0 0 ∷ seg 5 (− 16) (− 16) 4 4 ∷ []) (leaf (4
          ∷ []))
          ∷ node (seg 1 (+ 1) (+ 1) 0 0 ∷ seg 2 (− 2) (− 2) 0 0 ∷ seg 5 (− 8) (− 8) 86 86 ∷ []) (leaf (7 ∷ []))
          ∷ node (seg 1 (+ 3) (+ 4) 0 0 ∷ seg 2 (− 5) (− 2) 0 0 ∷ seg 5 (− 9) (− 9) 24 78 ∷ []) (leaf (2 ∷ 8 ∷ 9 ∷ []))
          ∷ node (seg 1 (+ 0) (+ 0) 0 0 ∷ seg 2 (− 6) (− 6) 0 0 ∷ seg 3 (− 1) (+ 3) 0 0 ∷ seg 5 (− 12) (− 8) 0 0 ∷ []) (leaf (0 ∷ 6
          ∷ []))
          ∷ node (seg 1 (+ 3) (+ 4) 0 0 ∷ seg 2 (− 8) (− 8) 0 0 ∷ seg 3 (+ 0) (+ 1) 0 0 ∷ seg 5 (− 13) (− 10) 1 4 ∷ []) (leaf (5
          ∷ 10 ∷ []))
          ∷ [];
      bounds = 1 ∷ 1 ∷ 17 ∷ 1 ∷ 9 ∷ 2 ∷ 54 ∷ 61 ∷ 20 ∷ 31 ∷ 6 ∷ [];
      match = match_with 5 6 1 2 (10 ∷ []);
    }
    -- permuted-then-parted-4: a leaf that nothing parts is parted when trace 4 joins; its larger child stays over size until trace 5 joins
    ∷ record {
      measures = measures 2 28 3;
      traces = (− 259 ∷ + 62 ∷ []) ∷ (− 259 ∷ + 62 ∷ []) ∷ (− 259 ∷ + 62 ∷ []) ∷ (− 259 ∷ + 62 ∷ []) ∷ (− 259 ∷ + 4 ∷ []) ∷ (− 495 ∷ + 62
          ∷ []) ∷ [];
      query = − 259 ∷ + 62 ∷ [];
      tree =
          node (seg 2 (− 433) (− 197) 69169 310249 ∷ []) (inner (test 2 2 by_sum (+ 66)) 1 2)
          ∷ node (seg 1 (− 259) (− 259) 0 0 ∷ seg 2 (+ 4) (+ 4) 0 0 ∷ []) (leaf (4 ∷ []))
          ∷ node (seg 1 (− 495) (− 259) 0 0 ∷ seg 2 (+ 62) (+ 62) 0 0 ∷ []) (inner (test 1 1 by_sum (− 754)) 3 4)
          ∷ node (seg 1 (− 495) (− 495) 0 0 ∷ seg 2 (+ 62) (+ 62) 0 0 ∷ []) (leaf (5 ∷ []))
          ∷ node (seg 1 (− 259) (− 259) 0 0 ∷ seg 2 (+ 62) (+ 62) 0 0 ∷ []) (leaf (0 ∷ 1 ∷ 2 ∷ 3 ∷ []))
          ∷ [];
      bounds = 0 ∷ 3364 ∷ 0 ∷ 55696 ∷ 0 ∷ [];
      match = match_with 0 0 1 4 (4 ∷ []);
    }
    -- lowest-number-first: a leaf that five traces leave whole; at the sixth both new leaves 3 and 4 are over size, and 3, 4, 5 split in
    -- this order
    ∷ record {
      measures = measures 5 8 1;
      traces = (+ 0 ∷ + 1 ∷ + 0 ∷ + 0 ∷ + 1 ∷ []) ∷ (+ 0 ∷ + 1 ∷ + 0 ∷ + 1 ∷ + 0 ∷ []) ∷ (+ 0 ∷ + 1 ∷ + 1 ∷ + 0 ∷ + 0 ∷ []) ∷ (+ 1 ∷ + 0
          ∷ + 0 ∷ + 0 ∷ + 1 ∷ []) ∷ (+ 1 ∷ + 0 ∷ + 1 ∷ + 0 ∷ + 0 ∷ []) ∷ (+ 0 ∷ + 0 ∷ + 0 ∷ + 0 ∷ + 0 ∷ []) ∷ [];
      query = + 0 ∷ + 0 ∷ + 1 ∷ + 1 ∷ + 0 ∷ [];
      tree =
          node (seg 5 (+ 0) (+ 2) 0 6 ∷ []) (inner (test 1 2 by_sum (+ 1)) 1 2)
          ∷ node (seg 2 (+ 0) (+ 0) 0 0 ∷ seg 5 (+ 0) (+ 0) 0 0 ∷ []) (leaf (5 ∷ []))
          ∷ node (seg 2 (+ 1) (+ 1) 1 1 ∷ seg 5 (+ 1) (+ 1) 2 2 ∷ []) (inner (test 1 1 by_sum (+ 1)) 3 4)
          ∷ node (seg 1 (+ 0) (+ 0) 0 0 ∷ seg 2 (+ 1) (+ 1) 0 0 ∷ seg 5 (+ 1) (+ 1) 2 2 ∷ []) (inner (test 3 3 by_sum (+ 1)) 5 6)
          ∷ node (seg 1 (+ 1) (+ 1) 0 0 ∷ seg 2 (+ 0) (+ 0) 0 0 ∷ seg 5 (+ 1) (+ 1) 2 2 ∷ []) (inner (test 3 3 by_sum (+ 1)) 7 8)
          ∷ node (seg 1 (+ 0) (+ 0) 0 0 ∷ seg 2 (+ 1) (+ 1) 0 0 ∷ seg 3 (+ 0) (+ 0) 0 0 ∷ seg 5 (+ 1) (+ 1) 1 1
          ∷ []) (inner (test 4 4 by_sum (+ 1)) 9 10)
          ∷ node (seg 1 (+ 0) (+ 0) 0 0 ∷ seg 2 (+ 1) (+ 1) 0 0 ∷ seg 3 (+ 1) (+ 1) 0 0 ∷ seg 5 (+ 0) (+ 0) 0 0 ∷ []) (leaf (2
          ∷ []))
          ∷ node (seg 1 (+ 1) (+ 1) 0 0 ∷ seg 2 (+ 0) (+ 0) 0 0 ∷ seg 3 (+ 0) (+ 0) 0 0 ∷ seg 5 (+ 1) (+ 1) 1 1 ∷ []) (leaf (3
          ∷ []))
          ∷ node (seg 1 (+ 1) (+ 1) 0 0 ∷ seg 2 (+ 0) (+ 0) 0 0 ∷ seg 3 (+ 1) (+ 1) 0 0 ∷ seg 5 (+ 0) (+ 0) 0 0 ∷ []) (leaf (4
          ∷ []))
          ∷ node (seg 1 (+ 0) (+ 0) 0 0 ∷ seg 2 (+ 1) (+ 1) 0 0 ∷ seg 3 (+ 0) (+ 0) 0 0 ∷ seg 4 (+ 0) (+ 0) 0 0
          ∷ seg 5 (+ 1) (+ 1) 0 0 ∷ []) (leaf (0 ∷ []))
          ∷ node (seg 1 (+ 0) (+ 0) 0 0 ∷ seg 2 (+ 1) (+ 1) 0 0 ∷ seg 3 (+ 0) (+ 0) 0 0 ∷ seg 4 (+ 1) (+ 1) 0 0
          ∷ seg 5 (+ 0) (+ 0) 0 0 ∷ []) (leaf (1 ∷ []))
          ∷ [];
      bounds = 0 ∷ 2 ∷ 2 ∷ 2 ∷ 2 ∷ 2 ∷ 2 ∷ 2 ∷ 2 ∷ 4 ∷ 2 ∷ [];
      match = match_with 1 2 5 5 (1 ∷ 6 ∷ 7 ∷ 8 ∷ 10 ∷ []);
    }
    -- tiny-5: a tie in gain at node 1 between the left half by scatter and the right half by sum: the earlier one wins
    ∷ record {
      measures = measures 5 22 2;
      traces = (+ 1 ∷ − 2 ∷ − 2 ∷ + 2 ∷ − 1 ∷ []) ∷ (+ 1 ∷ + 0 ∷ + 2 ∷ + 2 ∷ + 0 ∷ []) ∷ (− 1 ∷ − 1 ∷ + 0 ∷ + 2 ∷ + 1 ∷ []) ∷ (+ 2 ∷ − 1
          ∷ − 1 ∷ + 1 ∷ − 1 ∷ []) ∷ (− 1 ∷ + 0 ∷ + 1 ∷ − 1 ∷ + 1 ∷ []) ∷ [];
      query = − 2 ∷ − 1 ∷ + 0 ∷ + 2 ∷ + 2 ∷ [];
      tree =
          node (seg 5 (− 2) (+ 5) 20 66 ∷ []) (inner (test 1 5 by_sum (+ 3)) 1 2)
          ∷ node (seg 5 (− 2) (+ 1) 20 66 ∷ []) (inner (test 1 2 by_scatter (+ 3)) 3 4)
          ∷ node (seg 5 (+ 5) (+ 5) 20 20 ∷ []) (leaf (1 ∷ []))
          ∷ node (seg 2 (− 2) (− 1) 0 1 ∷ seg 5 (+ 1) (+ 3) 6 8 ∷ []) (leaf (2 ∷ 4 ∷ []))
          ∷ node (seg 2 (− 1) (+ 1) 9 9 ∷ seg 5 (− 1) (− 1) 8 26 ∷ []) (leaf (0 ∷ 3 ∷ []))
          ∷ [];
      bounds = 0 ∷ 0 ∷ 5 ∷ 2 ∷ 13 ∷ [];
      match = match_with 2 2 1 2 (3 ∷ []);
    }
    -- uncut-spread: the leaf's own spread is that of its uncut segments, so the left half gains 4 and wins over the whole segment's 2
    ∷ record {
      measures = measures 2 4 1;
      traces = (− 2 ∷ − 3 ∷ []) ∷ (− 1 ∷ − 3 ∷ []) ∷ [];
      query = − 1 ∷ − 2 ∷ [];
      tree =
          node (seg 2 (− 5) (− 4) 1 4 ∷ []) (inner (test 1 1 by_sum (− 3)) 1 2)
          ∷ node (seg 1 (− 2) (− 2) 0 0 ∷ seg 2 (− 3) (− 3) 0 0 ∷ []) (leaf (0 ∷ []))
          ∷ node (seg 1 (− 1) (− 1) 0 0 ∷ seg 2 (− 3) (− 3) 0 0 ∷ []) (leaf (1 ∷ []))
          ∷ [];
      bounds = 1 ∷ 2 ∷ 1 ∷ [];
      match = match_with 1 1 1 1 (2 ∷ []);
    }
    -- greatest-below-zero: gains of -6, -2, -2, -2: the greatest wins, the earliest of three, below zero as well
    ∷ record {
      measures = measures 4 4 2;
      traces = (+ 2 ∷ + 0 ∷ − 2 ∷ + 1 ∷ []) ∷ (+ 1 ∷ + 0 ∷ − 2 ∷ + 2 ∷ []) ∷ (− 2 ∷ + 2 ∷ + 1 ∷ + 0 ∷ []) ∷ [];
      query = + 0 ∷ + 1 ∷ + 0 ∷ + 1 ∷ [];
      tree =
          node (seg 4 (+ 1) (+ 1) 35 35 ∷ []) (inner (test 1 2 by_scatter (+ 5)) 1 2)
          ∷ node (seg 2 (+ 1) (+ 2) 1 4 ∷ seg 4 (− 1) (+ 0) 9 16 ∷ []) (leaf (0 ∷ 1 ∷ []))
          ∷ node (seg 2 (+ 0) (+ 0) 16 16 ∷ seg 4 (+ 1) (+ 1) 1 1 ∷ []) (leaf (2 ∷ []))
          ∷ [];
      bounds = 3 ∷ 3 ∷ 5 ∷ [];
      match = match_with 1 7 2 3 (1 ∷ 2 ∷ []);
    }
    -- extremes-6: samples at both limits, parted by sum and then by a half; all three leaves are read
    ∷ record {
      measures = measures 12 11 4;
      traces = (+ 32767 ∷ − 32768 ∷ + 32767 ∷ + 32767 ∷ + 32767 ∷ + 32767 ∷ + 32767 ∷ + 32767 ∷ + 32767 ∷ − 32768 ∷ − 32768 ∷ − 32768 ∷ [])
          ∷ (+ 32767 ∷ + 32767 ∷ + 32767 ∷ − 32768 ∷ + 32767 ∷ − 32768 ∷ − 32768 ∷ − 32768 ∷ + 32767 ∷ + 32767 ∷ + 32767 ∷ + 32767 ∷ [])
          ∷ (− 32768 ∷ − 32768 ∷ + 32767 ∷ + 32767 ∷ − 32768 ∷ − 32768 ∷ + 32767 ∷ − 32768 ∷ − 32768 ∷ + 32767 ∷ − 32768 ∷ − 32768 ∷ [])
          ∷ (+ 32767 ∷ − 32768 ∷ − 32768 ∷ + 32767 ∷ + 32767 ∷ + 32767 ∷ + 32767 ∷ − 32768 ∷ + 32767 ∷ − 32768 ∷ − 32768 ∷ + 32767 ∷ [])
          ∷ (+ 32767 ∷ + 32767 ∷ + 32767 ∷ − 32768 ∷ + 32767 ∷ − 32768 ∷ + 32767 ∷ − 32768 ∷ + 32767 ∷ − 32768 ∷ + 32767 ∷ + 32767 ∷ [])
          ∷ (+ 32767 ∷ + 32767 ∷ + 32767 ∷ − 32768 ∷ + 32767 ∷ + 32767 ∷ + 32767 ∷ + 32767 ∷ − 32768 ∷ + 32767 ∷ − 32768 ∷ − 32768 ∷ [])
          ∷ (− 32768 ∷ − 32768 ∷ + 32767 ∷ − 32768 ∷ + 32767 ∷ − 32768 ∷ − 32768 ∷ − 32768 ∷ − 32768 ∷ − 32768 ∷ − 32768 ∷ + 32767 ∷ [])
          ∷ (− 32768 ∷ + 32767 ∷ + 32767 ∷ + 32767 ∷ − 32768 ∷ + 32767 ∷ − 32768 ∷ + 32767 ∷ − 32768 ∷ − 32768 ∷ − 32768 ∷ + 32767 ∷ [])
          ∷ (− 32768 ∷ − 32768 ∷ − 32768 ∷ + 32767 ∷ + 32767 ∷ − 32768 ∷ + 32767 ∷ − 32768 ∷ − 32768 ∷ − 32768 ∷ − 32768 ∷ − 32768 ∷ [])
          ∷ [];
      query = − 32768 ∷ + 32767 ∷ + 32767 ∷ + 32767 ∷ + 32767 ∷ − 32768 ∷ + 32767 ∷ − 32768 ∷ − 32768 ∷ + 32767 ∷ − 32768 ∷ − 32768 ∷ [];
      tree =
          node (seg 12 (− 196611) (+ 131064) 115960578075 154614104100 ∷ []) (inner (test 1 12 by_sum (− 12)) 1 2)
          ∷ node (seg 12 (− 196611) (− 6) 115960578075 154614104100 ∷ []) (leaf (2 ∷ 6 ∷ 7 ∷ 8 ∷ []))
          ∷ node (seg 12 (+ 65529) (+ 131064) 137434759200 150319267875 ∷ []) (inner (test 1 6 by_sum (+ 196599)) 3 4)
          ∷ node (seg 6 (+ 65532) (+ 65532) 34358689800 34358689800 ∷ seg 12 (− 3) (+ 65532) 34358689800 38653526025 ∷ []) (leaf (1
          ∷ 3 ∷ 4 ∷ []))
          ∷ node (seg 6 (+ 131067) (+ 131067) 21474181125 21474181125 ∷ seg 12 (− 3) (− 3) 38653526025 38653526025 ∷ []) (leaf (0
          ∷ 5 ∷ []))
          ∷ [];
      bounds = 0 ∷ 0 ∷ 360422936 ∷ 715806038 ∷ 1703835792 ∷ [];
      match = match_with 2 8589672450 3 9 (1 ∷ 3 ∷ 4 ∷ []);
    }
    -- tie-distance-1: all distances and all bounds are equal: an equal bound is still read, so that trace 0 in the last leaf is named
    ∷ record {
      measures = measures 2 25 3;
      traces = (+ 34 ∷ − 31 ∷ []) ∷ (+ 39 ∷ − 26 ∷ []) ∷ (+ 39 ∷ − 26 ∷ []) ∷ (+ 39 ∷ − 26 ∷ []) ∷ (+ 39 ∷ − 26 ∷ []) ∷ (+ 29 ∷ − 26 ∷ [])
          ∷ (+ 29 ∷ − 26 ∷ []) ∷ (+ 39 ∷ − 26 ∷ []) ∷ (+ 39 ∷ − 26 ∷ []) ∷ (+ 34 ∷ − 21 ∷ []) ∷ (+ 34 ∷ − 31 ∷ []) ∷ (+ 34 ∷ − 31 ∷ [])
          ∷ (+ 29 ∷ − 26 ∷ []) ∷ (+ 29 ∷ − 26 ∷ []) ∷ (+ 34 ∷ − 31 ∷ []) ∷ (+ 34 ∷ − 31 ∷ []) ∷ (+ 39 ∷ − 26 ∷ []) ∷ (+ 34 ∷ − 31 ∷ [])
          ∷ (+ 34 ∷ − 21 ∷ []) ∷ (+ 29 ∷ − 26 ∷ []) ∷ (+ 29 ∷ − 26 ∷ []) ∷ (+ 34 ∷ − 31 ∷ []) ∷ (+ 34 ∷ − 21 ∷ []) ∷ (+ 34 ∷ − 21 ∷ [])
          ∷ [];
      query = + 34 ∷ − 26 ∷ [];
      tree =
          node (seg 2 (+ 3) (+ 13) 3025 4225 ∷ []) (inner (test 1 1 by_sum (+ 73)) 1 2)
          ∷ node (seg 1 (+ 29) (+ 34) 0 0 ∷ seg 2 (− 31) (− 21) 0 0 ∷ []) (inner (test 2 2 by_sum (− 52)) 3 4)
          ∷ node (seg 1 (+ 39) (+ 39) 0 0 ∷ seg 2 (− 26) (− 26) 0 0 ∷ []) (leaf (1 ∷ 2 ∷ 3 ∷ 4 ∷ 7 ∷ 8 ∷ 16 ∷ []))
          ∷ node (seg 1 (+ 29) (+ 34) 0 0 ∷ seg 2 (− 31) (− 26) 0 0 ∷ []) (inner (test 1 1 by_sum (+ 63)) 5 6)
          ∷ node (seg 1 (+ 34) (+ 34) 0 0 ∷ seg 2 (− 21) (− 21) 0 0 ∷ []) (leaf (9 ∷ 18 ∷ 22 ∷ 23 ∷ []))
          ∷ node (seg 1 (+ 29) (+ 29) 0 0 ∷ seg 2 (− 26) (− 26) 0 0 ∷ []) (leaf (5 ∷ 6 ∷ 12 ∷ 13 ∷ 19 ∷ 20 ∷ []))
          ∷ node (seg 1 (+ 34) (+ 34) 0 0 ∷ seg 2 (− 31) (− 31) 0 0 ∷ []) (leaf (0 ∷ 10 ∷ 11 ∷ 14 ∷ 15 ∷ 17 ∷ 21 ∷ []))
          ∷ [];
      bounds = 0 ∷ 0 ∷ 25 ∷ 0 ∷ 25 ∷ 25 ∷ 25 ∷ [];
      match = match_with 0 25 4 24 (2 ∷ 4 ∷ 5 ∷ 6 ∷ []);
    }
    -- near-square-6: node 3, which is cut, and node 6 below it have own bound 0, node 1 above them 1: the path's greatest counts
    ∷ record {
      measures = measures 3 22 2;
      traces = (+ 2 ∷ − 3 ∷ + 6 ∷ []) ∷ (+ 1 ∷ + 2 ∷ + 5 ∷ []) ∷ (+ 1 ∷ + 1 ∷ + 6 ∷ []) ∷ (+ 1 ∷ + 1 ∷ + 6 ∷ []) ∷ (+ 2 ∷ − 1 ∷ + 3 ∷ [])
          ∷ (− 1 ∷ + 1 ∷ + 9 ∷ []) ∷ (+ 1 ∷ − 1 ∷ + 3 ∷ []) ∷ (+ 0 ∷ + 1 ∷ + 4 ∷ []) ∷ (+ 1 ∷ + 2 ∷ + 5 ∷ []) ∷ (+ 0 ∷ − 2 ∷ + 8 ∷ [])
          ∷ [];
      query = + 1 ∷ + 1 ∷ + 3 ∷ [];
      tree =
          node (seg 3 (+ 3) (+ 9) 24 168 ∷ []) (inner (test 1 1 by_sum (+ 3)) 1 2)
          ∷ node (seg 1 (− 1) (+ 1) 0 0 ∷ seg 3 (+ 2) (+ 10) 9 100 ∷ []) (inner (test 2 2 by_sum (+ 3)) 3 4)
          ∷ node (seg 1 (+ 2) (+ 2) 0 0 ∷ seg 3 (+ 2) (+ 3) 16 81 ∷ []) (leaf (0 ∷ 4 ∷ []))
          ∷ node (seg 1 (− 1) (+ 1) 0 0 ∷ seg 2 (− 2) (+ 1) 0 0 ∷ seg 3 (+ 3) (+ 9) 0 0 ∷ []) (inner (test 1 1 by_sum (+ 0)) 5 6)
          ∷ node (seg 1 (+ 1) (+ 1) 0 0 ∷ seg 2 (+ 2) (+ 2) 0 0 ∷ seg 3 (+ 5) (+ 5) 0 0 ∷ []) (leaf (1 ∷ 8 ∷ []))
          ∷ node (seg 1 (− 1) (+ 0) 0 0 ∷ seg 2 (− 2) (+ 1) 0 0 ∷ seg 3 (+ 4) (+ 9) 0 0 ∷ []) (inner (test 3 3 by_sum (+ 13)) 9 10)
          ∷ node (seg 1 (+ 1) (+ 1) 0 0 ∷ seg 2 (− 1) (+ 1) 0 0 ∷ seg 3 (+ 3) (+ 6) 0 0 ∷ []) (inner (test 2 2 by_sum (+ 0)) 7 8)
          ∷ node (seg 1 (+ 1) (+ 1) 0 0 ∷ seg 2 (− 1) (− 1) 0 0 ∷ seg 3 (+ 3) (+ 3) 0 0 ∷ []) (leaf (6 ∷ []))
          ∷ node (seg 1 (+ 1) (+ 1) 0 0 ∷ seg 2 (+ 1) (+ 1) 0 0 ∷ seg 3 (+ 6) (+ 6) 0 0 ∷ []) (leaf (2 ∷ 3 ∷ []))
          ∷ node (seg 1 (+ 0) (+ 0) 0 0 ∷ seg 2 (+ 1) (+ 1) 0 0 ∷ seg 3 (+ 4) (+ 4) 0 0 ∷ []) (leaf (7 ∷ []))
          ∷ node (seg 1 (− 1) (+ 0) 0 0 ∷ seg 2 (− 2) (+ 1) 0 0 ∷ seg 3 (+ 8) (+ 9) 0 0 ∷ []) (leaf (5 ∷ 9 ∷ []))
          ∷ [];
      bounds = 1 ∷ 1 ∷ 4 ∷ 1 ∷ 5 ∷ 2 ∷ 1 ∷ 4 ∷ 9 ∷ 2 ∷ 26 ∷ [];
      match = match_with 7 2 1 1 (9 ∷ []);
    }
    ∷ []

pub cases_agree : map computed cases ≡ map expected cases
unfolding everything
cases_agree = refl

-- ---- without a query: a library, and the tree that the other implementation makes of it

pub record GrownCase : Type 0 where
  pub measures : Measures
  pub traces : List Trace
  pub tree : Tree

abbrev pub grown_cases : List GrownCase
grown_cases =
    -- floor-roots-4a: scatters 4, 9 and 0: the middle of the roots parts 0 from 4 and 9, and the candidate wins that was not the winner by
    -- scatters
    record {
      measures = measures 2 8 2;
      traces = (+ 0 ∷ + 2 ∷ []) ∷ (+ 1 ∷ − 2 ∷ []) ∷ (− 2 ∷ − 2 ∷ []) ∷ [];
      tree =
          node (seg 2 (− 4) (+ 2) 0 9 ∷ []) (inner (test 1 2 by_scatter (+ 3)) 1 2)
          ∷ node (seg 2 (− 4) (− 4) 0 0 ∷ []) (leaf (2 ∷ []))
          ∷ node (seg 2 (− 1) (+ 2) 4 9 ∷ []) (leaf (0 ∷ 1 ∷ []))
          ∷ [];
    }
    -- floor-roots-4b: unequal scatters with equal floor roots, of the whole segment and of its halves: no candidate parts the leaf, which
    -- stays whole
    ∷ record {
      measures = measures 5 4 1;
      traces = (+ 50 ∷ − 50 ∷ + 0 ∷ + 0 ∷ + 3 ∷ []) ∷ (+ 50 ∷ − 50 ∷ − 1 ∷ + 1 ∷ + 3 ∷ []) ∷ [];
      tree =
          node (seg 5 (+ 3) (+ 3) 25036 25046 ∷ []) (leaf (0 ∷ 1 ∷ []))
          ∷ [];
    }
    -- floor-roots-4c: T is a sum of roots, the records keep scatters
    ∷ record {
      measures = measures 3 8 1;
      traces = (+ 0 ∷ + 0 ∷ + 0 ∷ []) ∷ (+ 0 ∷ + 1 ∷ − 1 ∷ []) ∷ [];
      tree =
          node (seg 3 (+ 0) (+ 0) 0 6 ∷ []) (inner (test 1 3 by_scatter (+ 2)) 1 2)
          ∷ node (seg 3 (+ 0) (+ 0) 0 0 ∷ []) (leaf (0 ∷ []))
          ∷ node (seg 3 (+ 0) (+ 0) 6 6 ∷ []) (leaf (1 ∷ []))
          ∷ [];
    }
    -- inside-04-11: three tests, the first by scatter: the floor roots of 13,000,000 and 28,000,000 make T
    ∷ record {
      measures = measures 14 17 3;
      traces = (+ 0 ∷ + 0 ∷ + 0 ∷ + 0 ∷ + 0 ∷ + 0 ∷ + 0 ∷ + 0 ∷ + 0 ∷ + 0 ∷ + 0 ∷ + 0 ∷ + 0 ∷ + 1000 ∷ []) ∷ (+ 0 ∷ + 0 ∷ + 0 ∷ + 0 ∷ + 0
          ∷ + 0 ∷ + 0 ∷ + 0 ∷ + 0 ∷ + 1000 ∷ + 0 ∷ + 0 ∷ + 0 ∷ + 1000 ∷ []) ∷ (+ 0 ∷ + 0 ∷ + 0 ∷ + 0 ∷ + 0 ∷ + 0 ∷ + 0 ∷ + 0 ∷ + 0 ∷ + 0
          ∷ + 0 ∷ + 1000 ∷ + 0 ∷ − 1000 ∷ []) ∷ (+ 0 ∷ + 0 ∷ + 0 ∷ + 0 ∷ + 0 ∷ + 0 ∷ + 1000 ∷ + 0 ∷ + 0 ∷ + 0 ∷ + 0 ∷ + 0 ∷ + 0 ∷ + 0
          ∷ []) ∷ (+ 0 ∷ + 1000 ∷ + 0 ∷ + 0 ∷ + 0 ∷ + 0 ∷ + 0 ∷ + 1000 ∷ − 1000 ∷ + 0 ∷ + 0 ∷ + 0 ∷ + 0 ∷ + 0 ∷ []) ∷ (+ 0 ∷ + 1000
          ∷ + 0 ∷ + 0 ∷ + 0 ∷ + 0 ∷ + 0 ∷ + 0 ∷ + 0 ∷ + 0 ∷ + 0 ∷ − 1000 ∷ + 0 ∷ + 0 ∷ []) ∷ (+ 0 ∷ + 0 ∷ + 0 ∷ − 1000 ∷ + 0 ∷ + 0 ∷ + 0
          ∷ + 1000 ∷ + 0 ∷ + 0 ∷ + 0 ∷ + 0 ∷ + 0 ∷ + 0 ∷ []) ∷ (+ 0 ∷ + 1000 ∷ + 0 ∷ + 0 ∷ + 0 ∷ + 0 ∷ + 0 ∷ + 0 ∷ + 0 ∷ + 0 ∷ − 1000
          ∷ + 0 ∷ + 0 ∷ + 0 ∷ []) ∷ (+ 1000 ∷ + 0 ∷ + 0 ∷ + 0 ∷ + 0 ∷ + 0 ∷ + 1000 ∷ + 0 ∷ + 0 ∷ + 0 ∷ + 0 ∷ + 0 ∷ + 0 ∷ + 0 ∷ []) ∷ [];
      tree =
          node (seg 14 (+ 0) (+ 2000) 13000000 41000000 ∷ []) (inner (test 1 14 by_scatter (+ 8896)) 1 2)
          ∷ node (seg 14 (+ 1000) (+ 1000) 13000000 13000000 ∷ []) (leaf (0 ∷ 3 ∷ []))
          ∷ node (seg 14 (+ 0) (+ 2000) 24000000 41000000 ∷ []) (inner (test 8 14 by_sum (+ 1000)) 3 4)
          ∷ node (seg 7 (+ 0) (+ 2000) 0 10000000 ∷ seg 14 (− 1000) (+ 0) 0 14000000 ∷ []) (inner (test 8 14 by_sum (− 1000)) 5 6)
          ∷ node (seg 7 (− 1000) (+ 0) 0 6000000 ∷ seg 14 (+ 1000) (+ 2000) 6000000 10000000 ∷ []) (leaf (1 ∷ 6 ∷ []))
          ∷ node (seg 7 (+ 1000) (+ 1000) 6000000 6000000 ∷ seg 14 (− 1000) (− 1000) 6000000 6000000 ∷ []) (leaf (5 ∷ 7 ∷ []))
          ∷ node (seg 7 (+ 0) (+ 2000) 0 10000000 ∷ seg 14 (+ 0) (+ 0) 0 14000000 ∷ []) (leaf (2 ∷ 4 ∷ 8 ∷ []))
          ∷ [];
    }
    ∷ []

pub grown_agree : map (λ (c : GrownCase). tree_of c.measures c.traces) grown_cases ≡ map (λ (c : GrownCase). c.tree) grown_cases
unfolding everything
grown_agree = refl

pub grown_formed : map (λ (c : GrownCase). well_formed_tree sample_limit c.measures (length c.traces) c.tree) grown_cases ≡ map (λ (c : GrownCase). true) grown_cases
unfolding everything
grown_formed = refl
