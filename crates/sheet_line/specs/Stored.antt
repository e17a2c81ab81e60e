-- What has to hold so that the last trace of a sheet can be matched among the earlier ones.
use Rattle.std.specs.Prelude.{ℕ, ◌+◌, ◌≤◌, ◌≡◌, List, [], ℤ, length, take}
use Rattle.std.proofs.Math.Option.{none}
use Rattle.dstree.specs.Measures.{Measures, measures, work_needed}
use Rattle.dstree.specs.Refusals.{first_of}
use Rattle.dstree.specs.Sheet.{measures_in}
use Rattle.dstree.specs.Program.{program_most}
use Rattle.dstree.specs.Book.{Lent}
use Rattle.tables.specs.Tables.{tables}
use Rattle.tables.specs.Judge.{Room}
use Rattle.tables.specs.Holds.{Holds}
use Rattle.sheet_blocks.specs.Blocks.{block_at}
use Rattle.sheet_blocks.specs.Traces.{size_of, count_of, sheet_traces}
use Rattle.sheet_line.specs.Conditions.{program_conditions}

-- the measures that the program has tables for. (What tables need does not depend on the leaf size)
abbrev pub most : Measures
most = measures program_most program_most 1

-- tables with the places that these need, and a sheet that the program does not refuse
pub record Roomy (lengths : Lent) (sheet : List ℕ) : Type 0 where
  pub fine : first_of (program_conditions sheet) ≡ none
  pub room : Room lengths most

-- tables that hold the traces before the last one of such a sheet
pub record EarlierStored (control : List ℕ) (samples nodes : List ℤ) (links work sheet : List ℕ) (n last : ℕ) : Type 0 where
  pub fine : first_of (program_conditions sheet) ≡ none
  pub size : n ≡ size_of sheet
  pub before_last : last + 1 ≡ count_of sheet
  pub earlier : Holds (tables control samples nodes links []) (measures_in (block_at sheet 0)) (take last (sheet_traces sheet))
  pub work_long : work_needed (measures_in (block_at sheet 0)) ≤ length work
