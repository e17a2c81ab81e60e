-- Document 02, §9: sheets of both widths. What holds of sheets of one format stands in Sheet; here is which format a library takes, and
-- which one a sheet of any bytes is in.
use Rattle.std.specs.Prelude.{ℕ, ◌≤◌, ◌≡◌, Bool, true, false, not, ◌&&◌, List, [], ◌∷◌, ◌++◌, length, T, eqb}
use Rattle.integer.specs.Words.{every}
use Rattle.dstree.specs.Measures.{Trace, Measures, sample_limit, are_within, are_samples, is_library}
use Rattle.dstree.specs.Labels.{Label, are_labels}
use Rattle.dstree.specs.Refusals.{bad_sheet, sample_range, Condition, ◌refuses◌, first_of}
use Rattle.dstree.specs.Sheet.{Format, narrow, wide, narrow_limit, sheet_as, blocks_needed_as, blocks_in, measures_in, count_in, kind_in}
use Rattle.dstree.specs.Sheet.{sample_blocks_in, traces_in_blocks, conditions_as, Judged, holds, judged_by, library_in}
use Rattle.dstree.specs.Node.{Tree}
use Rattle.dstree.specs.WellFormed.{well_formed_tree}

-- the two formats, by whether a sheet is "wide"
abbrev pub format_by : Bool → Format
format_by true = wide
format_by false = narrow

-- ---- writing

-- "all fit 16 bits"
unfoldable pub all_narrow : List Trace → Bool
all_narrow traces = every (are_within narrow_limit) traces

-- "A library whose samples all fit 16 bits is written as before. Any other uses kind 3 .."
unfoldable pub format_of : List Trace → Format
format_of traces = format_by (not (all_narrow traces))

-- the sheet of a library, and how many blocks it has
unfoldable pub sheet_of : Measures → List Trace → List Label → List ℕ
sheet_of m traces labels = sheet_as (format_of traces) m traces labels

unfoldable pub blocks_needed : Measures → List Trace → List Label → ℕ
blocks_needed m traces labels = blocks_needed_as (format_of traces) (length traces) m.n labels

-- ---- reading

-- by the kind of block 0: "A sample block whose kind doesn't go with block 0's is a wrong kind". (A block 0 of another kind is torn in
-- either format)
unfoldable pub is_wide : List ℕ → Bool
is_wide bytes = eqb (kind_in bytes) wide.head_kind

abbrev pub format_in : List ℕ → Format
format_in bytes = format_by (is_wide bytes)

-- the traces that some blocks hold
unfoldable pub traces_held : Format → List (List ℕ) → List Trace
traces_held f [] = []
traces_held f (first ∷ others) = traces_in_blocks f (count_in first) (measures_in first).n (sample_blocks_in others)

-- "A wide sheet whose samples all fit 16 bits is refused as 10"; "15 sample range, for a .. sheet with a sample outside the limits, .. on
-- sheets after 10"
unfoldable pub range_conditions : Bool → List Trace → List Condition
range_conditions says_wide traces =
    (says_wide && all_narrow traces) refuses bad_sheet ∷ not (every are_samples traces) refuses sample_range ∷ []

-- "Reading: 8; 9 over all blocks; 10", and 15
unfoldable pub sheet_conditions : List ℕ → List Condition
sheet_conditions bytes =
    conditions_as (format_in bytes) bytes ++ range_conditions (is_wide bytes) (traces_held (format_in bytes) (blocks_in bytes))

unfoldable pub judge_sheet : List ℕ → Judged
judge_sheet bytes = judged_by (first_of (sheet_conditions bytes)) (library_in (format_in bytes) (blocks_in bytes))

-- ---- what is claimed, beside both round trips

-- "old traces keep every figure": no figure, tree or search depends on the limit. What is claimed within 20 bits is so of a library
-- within 16, which "is written as before" and is read again from that sheet
pub record KeepsOld (m : Measures) (traces : List Trace) (labels : List Label) : Type 0 where
  pub library : T (is_library sample_limit m traces)
  pub as_before : sheet_of m traces labels ≡ sheet_as narrow m traces labels
  pub as_many : blocks_needed m traces labels ≡ blocks_needed_as narrow (length traces) m.n labels
  pub read_again : T (are_labels (length traces) labels) → judge_sheet (sheet_as narrow m traces labels) ≡ holds m traces labels

abbrev pub OldLibraries : Type 0
OldLibraries = (m : Measures) (traces : List Trace) (labels : List Label) → T (is_library narrow_limit m traces) → KeepsOld m traces labels

-- .. and a tree that is well-formed within a limit is so within a wider one
abbrev pub OldTrees : Type 0
OldTrees = (limit wider : ℕ) → limit ≤ wider → (m : Measures) (count : ℕ) (tree : Tree) → T (well_formed_tree limit m count tree)
    → T (well_formed_tree wider m count tree)
