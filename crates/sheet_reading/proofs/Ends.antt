-- What a sheet's own conditions say of reading it, and the two ways that reading ends.
use mathlib.Core.Path.{◌≡◌, refl, sym, ap, ◌∙◌}
use mathlib.Core.Option.{Option, none, some}
use mathlib.Core.List.{List, []}
use Prim.Native.Nat.{ℕ}
use native.Mathlib.Omega.{arith}
use Rattle.dstree.specs.Measures.{Measures}
use Rattle.dstree.specs.Refusals as word
use Rattle.dstree.specs.Refusals.{Condition, first_of}
use Rattle.dstree.specs.Sheet.{measures_in, refused, holds, library_in, judged_by}
use Rattle.dstree.specs.SheetWidths.{sheet_conditions, judge_sheet}
use Rattle.dstree.specs.Book.{Lent, reading, beside_of, done, control_short, tables_short, short_conditions, reading_conditions}
use Rattle.tables.specs.Layout.{layout}
use Rattle.tables.specs.Tables.{Tables, lent_of}
use Rattle.tables.specs.Answers.{found_by}
use Rattle.tables.specs.declared.Refusal.{Refusal}
use Rattle.std.specs.Prelude.{Ok, Err}
use Rattle.dstree.proofs.Conditions.{none_first}
use Rattle.tables.specs.Judge.{LongEnough}
use Rattle.tables.proofs.Judged.{room_of}
use Rattle.sheet_blocks.specs.Blocks.{block_at}
use Rattle.sheet_blocks.specs.Traces.{sheet_traces, sheet_labels}
use Rattle.sheet_blocks.proofs.Places.{blocks_are}
use Rattle.sheet_judging.proofs.Samples.{fine, range}
use Rattle.calls.specs.Outcome.{outcome}
use Rattle.calls.specs.Effects.{loaded, loaded_by, reads, effect_of, outcome_on}
use Rattle.calls.proofs.Ends.{ends_refused, ends_done}
use Rattle.sheet_reading.specs.Answered.{answer_by}

module _ (bytes : List ℕ) where
  -- what block 0 says
  abbrev pub said : Measures
  said = measures_in (block_at bytes 0)

  judged_refused : (why : word.Refusal) → first_of (sheet_conditions bytes) ≡ some why → judge_sheet bytes ≡ refused why
  unfolding judge_sheet judged_by
  judged_refused why e = rw e

  pub judged_holds : first_of (sheet_conditions bytes) ≡ none → judge_sheet bytes ≡ holds said (sheet_traces bytes) (sheet_labels bytes)
  unfolding judge_sheet judged_by library_in
  judged_holds e = rw (e, blocks_are bytes (fine bytes e).whole)

  -- ---- conditions

  module _ (lengths : Lent) where
    pub refused_first : (why : word.Refusal) → first_of (sheet_conditions bytes) ≡ some why
        → some why ≡ first_of (reading_conditions layout lengths (judge_sheet bytes))
    unfolding reading_conditions first_of
    refused_first why e = rw (judged_refused why e)

    pub short_only : first_of (sheet_conditions bytes) ≡ none
        → reading_conditions layout lengths (judge_sheet bytes) ≡ short_conditions layout lengths said
    unfolding reading_conditions
    short_only e = rw (judged_holds e)

    -- nothing is refused of a sheet only if the sheet alone is not
    pub sheet_fine : first_of (reading_conditions layout lengths (judge_sheet bytes)) ≡ none → first_of (sheet_conditions bytes) ≡ none
    sheet_fine e = by (first_of (sheet_conditions bytes)) refl
      where
        by : (o : Option word.Refusal) → first_of (sheet_conditions bytes) ≡ o → first_of (sheet_conditions bytes) ≡ none
        by none p = p
        by (some why) p = let z : ◌≡◌ {A = ℕ} 0 1 = cc (refused_first why p, e) in absurd (omega arith)

    -- .. and the tables then have room for its measures
    pub accepted : first_of (reading_conditions layout lengths (judge_sheet bytes)) ≡ none → LongEnough lengths said
    accepted e =
        let sound = sheet_fine e in
        let short : first_of (short_conditions layout lengths said) ≡ none = ap first_of (sym (short_only sound)) ∙ e in
        let one = none_first (control_short layout lengths) _ _ short in
        let two = none_first (tables_short layout lengths said) _ _ one.1 in
        record { range = range bytes (fine bytes sound); room = room_of lengths said one.0 two.0 }

-- ---- answers

module _ (t : Tables) (bytes : List ℕ) where
  abbrev refusals : List Condition
  refusals = reading_conditions layout (lent_of t) (judge_sheet bytes)

  pub refused_answer : (why : Refusal) → first_of refusals ≡ found_by (Err why)
      → outcome (answer_by (Err why)) t [] ≡ outcome_on (reading bytes) t
  unfolding answer_by outcome_on effect_of beside_of reads
  refused_answer why e = ends_refused t [] (reads t bytes) why e

  loaded_is : first_of (sheet_conditions bytes) ≡ none → loaded t (said bytes) (sheet_traces bytes) (sheet_labels bytes) ≡ loaded_by t (judge_sheet bytes)
  unfolding loaded_by
  loaded_is sound = rw (judged_holds bytes sound) refl

  pub done_answer : (after : Tables) → first_of refusals ≡ none → after ≡ loaded t (said bytes) (sheet_traces bytes) (sheet_labels bytes)
      → outcome (answer_by (Ok tt)) after [] ≡ outcome_on (reading bytes) t
  unfolding answer_by outcome_on effect_of beside_of reads
  done_answer after e p = ends_done t [] (reads t bytes) done after [] e refl (p ∙ loaded_is (sheet_fine bytes (lent_of t) e)) refl
