-- Document 01, the table of refusals, and what document 02 adds to it.
use Rattle.std.specs.Prelude.{ℕ, Bool, not, List, [], ◌∷◌, length, eqb, ltb, if◌then◌else◌}
use Rattle.std.proofs.Math.Option.{Option, none, some}
use Rattle.dstree.specs.Measures.{Trace, are_samples}

-- the table's words. A torn block has a place: "the first block at fault"
pub data Refusal : Type 0 where
  measure short_table spoiled wrong_trace full empty short_trail sheet_length : Refusal
  torn_block : ℕ → Refusal
  bad_sheet : Refusal
  -- document 02, §1: "11 bad k, outside 1 to 16"
  bad_k : Refusal
  -- document 02, §2: "12 bad recording"
  bad_recording : Refusal
  -- document 02, §6: "13 loose record, when well-formed tables hold a figure that isn't exactly the recomputed one"
  loose_record : Refusal
  -- document 02, §7: "14 bad batch"
  bad_batch : Refusal
  -- document 02, §9: "15 sample range, for an added trace, query or sheet with a sample outside the limits"
  sample_range : Refusal
  -- document 02, §10: "16 bad edges, wrong count or not rising"
  bad_edges : Refusal
  -- document 02, §11: "17 unlike libraries, when their n differ"
  unlike_libraries : Refusal
  -- document 02, §12: "18 no leaves, for L = 0"
  no_leaves : Refusal
  -- document 02, §13: "19 crossed range, a low above its high"
  crossed_range : Refusal

-- the table's numbers
unfoldable pub number_of : Refusal → ℕ
number_of measure = 1
number_of short_table = 2
number_of spoiled = 3
number_of wrong_trace = 4
number_of full = 5
number_of empty = 6
number_of short_trail = 7
number_of sheet_length = 8
number_of (torn_block block) = 9
number_of bad_sheet = 10
number_of bad_k = 11
number_of bad_recording = 12
number_of loose_record = 13
number_of bad_batch = 14
number_of sample_range = 15
number_of bad_edges = 16
number_of unlike_libraries = 17
number_of no_leaves = 18
number_of crossed_range = 19

-- "a place: the first block at fault for 9, else 0"
unfoldable pub place_of : Refusal → ℕ
place_of measure = 0
place_of short_table = 0
place_of spoiled = 0
place_of wrong_trace = 0
place_of full = 0
place_of empty = 0
place_of short_trail = 0
place_of sheet_length = 0
place_of (torn_block block) = block
place_of bad_sheet = 0
place_of bad_k = 0
place_of bad_recording = 0
place_of loose_record = 0
place_of bad_batch = 0
place_of sample_range = 0
place_of bad_edges = 0
place_of unlike_libraries = 0
place_of no_leaves = 0
place_of crossed_range = 0

-- a condition of the table with its refusal
pub record Condition : Type 0 where
  pub holds : Bool
  pub refusal : Refusal

infix 68 ◌refuses◌
abbrev pub ◌refuses◌ : Bool → Refusal → Condition
holds refuses refusal = record { holds = holds; refusal = refusal }

-- the first condition that holds, in the table's order. "No condition, no refusal"
unfoldable pub first_of : List Condition → Option Refusal
first_of [] = none
first_of (c ∷ rest) = let later = first_of rest in if c.holds then some c.refusal else later

-- what every search refuses of its run of samples, which is to be so long, and of its trail, in a library with so many traces and leaves:
-- 4, 15, 6, 7
abbrev pub run_conditions : ℕ → ℕ → ℕ → Trace → List ℕ → List Condition
run_conditions size traces leaves run trail =
    not (eqb (length run) size) refuses wrong_trace
    ∷ not (are_samples run) refuses sample_range
    ∷ eqb traces 0 refuses empty
    ∷ ltb (length trail) leaves refuses short_trail
    ∷ []
