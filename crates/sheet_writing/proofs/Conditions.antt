-- Tables and a sheet that nothing is refused of: the sheet has room for every block.
use Prim.Native.Nat.{ℕ, ◌*◌, ◌≤◌}
use mathlib.Core.Path.{◌≡◌, sym, ap₂, subst}
use mathlib.Core.Bool.{Bool, not}
use mathlib.Core.Option.{none}
use mathlib.Core.List.{List}
use native.Mathlib.Nat.{mul-le-mul_right}
use native.Mathlib.Omega.{arith}
use lib.ListN.{length}
use lib.Dec.{ltb}
use borrow.Author.Tests.{ltb-false}
use Rattle.dstree.specs.Measures.{samples_needed, labels_needed}
use Rattle.dstree.specs.Refusals as word
use Rattle.dstree.specs.Refusals.{first_of}
use Rattle.dstree.specs.Sheet.{block_size, blocks_needed_as}
use Rattle.dstree.specs.SheetWidths.{format_by, format_of, all_narrow, blocks_needed}
use Rattle.dstree.proofs.Conditions.{none_first, none_both}
use Rattle.tables.specs.Tables.{Tables, measures_of, trace_count}
use Rattle.tables.specs.View.{traces_in, labels_in}
use Rattle.tables.specs.Answers.{made_conditions}
use Rattle.tables.proofs.Judged.{accepted}
use Rattle.tables.proofs.Views.{traces_size}
use Rattle.insertion_memory.proofs.FromTables.{facts}
use Rattle.calls.specs.Effects.{writes}
use Rattle.sheet_writing.specs.Filled.{Fillable}

-- the blocks that the definition needs, in the library's own format
pub own_need : (t : Tables) (four : Bool) → four ≡ not (all_narrow (traces_in t))
    → blocks_needed (measures_of t) (traces_in t) (labels_in t) ≡ blocks_needed_as (format_by four) (trace_count t) (measures_of t).n (labels_in t)
unfolding blocks_needed format_of
own_need t four own =
    ap₂ (λ (b : Bool) (k : ℕ). blocks_needed_as (format_by b) k (measures_of t).n (labels_in t)) (sym own) (traces_size t)

pub fillable : (t : Tables) (sheet : List ℕ) (four : Bool) → first_of (writes t sheet).conditions ≡ none → four ≡ not (all_narrow (traces_in t))
    → Fillable t.control t.samples t.labels (format_by four) (length sheet)
unfolding writes labels_in samples_needed labels_needed
fillable t sheet four e own =
    let need : ℕ = block_size * blocks_needed (measures_of t) (traces_in t) (labels_in t) in
    let parts = none_both (made_conditions t) _ e in
    let ok = accepted t parts.0 in
    let long = none_first (ltb (length sheet) need) word.sheet_length _ parts.1 in
    let most = (facts t ok.formed).room in
    record {
      count_few = omega (arith, most, ok.range.capacity_high);
      n_few = ok.range.n_high;
      samples_long = omega (arith, mul-le-mul_right (measures_of t).n most, ok.room.long.samples_long);
      labels_long = omega (arith, most, ok.room.labels_room);
      sheet_long = subst (λ (k : ℕ). block_size * k ≤ length sheet) (own_need t four own) (ltb-false (length sheet) need long.0);
    }
