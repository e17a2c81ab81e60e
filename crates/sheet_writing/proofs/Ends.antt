-- The two ways that writing ends, as the definition has them: a refusal with everything as it was, and the sheet.
use Prim.Native.Nat.{ℕ, ◌*◌}
use mathlib.Core.Path.{◌≡◌, refl, sym, ap, ap₂, ◌∙◌}
use mathlib.Core.Bool.{Bool, not}
use mathlib.Core.Option.{none}
use mathlib.Core.List.{List, [], ◌∷◌}
use lib.IntN.{ℤ}
use lib.ListN.{length, take, drop}
use lib.Seq.{take_at}
use Rattle.dstree.specs.Refusals.{first_of}
use Rattle.dstree.specs.Sheet.{block_size, blocks_needed_as, sheet_as}
use Rattle.dstree.specs.SheetWidths.{format_by, format_of, all_narrow, blocks_needed, sheet_of}
use Rattle.dstree.specs.Book.{writing, beside_of, written, answering, over}
use Rattle.tables.specs.Tables.{Tables, measures_of, trace_count, labelled_tables}
use Rattle.tables.specs.View.{traces_in, labels_in}
use Rattle.dstree.proofs.SheetWidths.{half_by, format_sound}
use Rattle.tables.specs.declared.Refusal.{Refusal}
use Rattle.calls.specs.Outcome.{outcome, unless_refused}
use Rattle.calls.specs.Effects.{writes, effect_of, outcome_on}
use Rattle.sheet_writing.specs.Answered.{answer_by, refusal_in}
use Rattle.sheet_writing.specs.Filled.{sheet_tables}
use Rattle.std.specs.Prelude.{Ok, Err}
use Rattle.sheet_writing.proofs.Conditions.{own_need}
use Rattle.sheet_writing.proofs.Stored.{stored_length}

pub refused_answer : (t : Tables) (sheet : List ℕ) (why : Refusal) → first_of (writes t sheet).conditions ≡ refusal_in (Err why)
    → outcome (answer_by (Err why) sheet) t (sheet ∷ []) ≡ outcome_on (writing sheet) t
unfolding refusal_in answer_by outcome_on effect_of beside_of unless_refused
refused_answer t sheet why e = rw e

module _ (control : List ℕ) (samples nodes : List ℤ) (links work labels sheet : List ℕ) where
  abbrev lent : Tables
  lent = labelled_tables control samples nodes links work labels

  abbrev blocks : ℕ
  blocks = blocks_needed (measures_of lent) (traces_in lent) (labels_in lent)

  abbrev whole : List ℕ
  whole = sheet_of (measures_of lent) (traces_in lent) (labels_in lent)

  abbrev taken : Tables
  taken = sheet_tables control samples labels

  -- what the definition then has
  written_is : outcome (answering (written blocks whole)) lent (over whole sheet ∷ [])
      ≡ outcome (answering (writes lent sheet).result) (writes lent sheet).after (writes lent sheet).beside
  unfolding writes
  written_is = refl

  accepted : first_of (writes lent sheet).conditions ≡ none
      → outcome (answering (written blocks whole)) lent (over whole sheet ∷ []) ≡ outcome_on (writing sheet) lent
  unfolding outcome_on effect_of beside_of unless_refused
  accepted e = rw e written_is

  module _ (four : Bool) (own : four ≡ not (all_narrow (traces_in lent))) where
    -- nodes, links and search work do not bear on the sheet
    same : sheet_as (format_by four) (measures_of taken) (traces_in taken) (labels_in taken) ≡ whole
    unfolding traces_in labels_in sheet_of format_of
    same = ap (λ (b : Bool). sheet_as (format_by b) (measures_of lent) (traces_in lent) (labels_in lent)) own

    same_blocks : blocks_needed_as (format_by four) (trace_count taken) (measures_of taken).n (labels_in taken) ≡ blocks
    unfolding labels_in
    same_blocks = sym (own_need lent four own)

    full : length whole ≡ block_size * blocks
    unfolding traces_in labels_in
    full =
        ap length (sym same) ∙ stored_length taken (format_by four) (half_by four) (format_sound four) ∙ ap (λ (k : ℕ). block_size * k) same_blocks

    pub written_answer : (sheet' : List ℕ) (count : ℕ) → first_of (writes lent sheet).conditions ≡ none
        → count ≡ blocks_needed_as (format_by four) (trace_count taken) (measures_of taken).n (labels_in taken)
        → sheet' ≡ over (sheet_as (format_by four) (measures_of taken) (traces_in taken) (labels_in taken)) sheet
        → outcome (answer_by (Ok count) sheet') lent (sheet' ∷ []) ≡ outcome_on (writing sheet) lent
    unfolding answer_by
    written_answer sheet' count e counted filled =
        ap₂ (λ (c : ℕ) (s : List ℕ). outcome (answering (written c (take (block_size * c) s))) lent (s ∷ [])) (counted ∙ same_blocks)
        (filled ∙ ap (λ (s : List ℕ). over s sheet) same)
        ∙ ap (λ (s : List ℕ). outcome (answering (written blocks s)) lent (over whole sheet ∷ []))
        (take_at whole (drop (length whole) sheet) (block_size * blocks) full)
        ∙ accepted e
