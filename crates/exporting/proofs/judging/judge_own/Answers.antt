-- `exporting::judging::judge_own` meets its contract: rate, number and samples first, then the buffer's length.
use Prim.Native.Nat.{ℕ}
use mathlib.Core.Path.{◌≡◌, refl, sym, ap₂, ◌∙◌}
use mathlib.Core.Bool.{Bool, true, false, not, ◌&&◌}
use mathlib.Core.Option.{none, some}
use mathlib.Core.List.{List, [], ◌∷◌}
use lib.IntN.{ℤ}
use lib.ListN.{length, get_or}
use lib.Dec.{ltb}
use borrow.Author.Tests.{lt-ltb, le-ltb}
use Rattle.dstree.specs.Refusals.{Condition, ◌refuses◌, first_of, sheet_length, bad_recording}
use Rattle.dstree.specs.Measures.{Trace, are_within}
use Rattle.dstree.specs.Sheet.{narrow_limit}
use Rattle.dstree.specs.Recording.{rate_limit, recording_size}
use Rattle.dstree.specs.Book.{export_conditions}
use Rattle.tables.specs.Tables.{Tables, tables, measures_of, trace_count}
use Rattle.tables.specs.View.{traces_in}
use Rattle.tables.specs.Answers.{word_of, found_by}
use Rattle.exporting.proofs.judging.judge_own.Goals as goal

-- the conditions, of what the code compares: rate, number and samples in one
abbrev tested : List ℕ → Bool → ℕ → List Condition
tested buffer fits n = not fits refuses bad_recording ∷ ltb (length buffer) (recording_size n) refuses sheet_length ∷ []

both_or_one : (fits small short : Bool)
    → first_of (not fits refuses bad_recording ∷ not small refuses bad_recording ∷ short refuses sheet_length ∷ [])
    ≡ first_of (not (fits && small) refuses bad_recording ∷ short refuses sheet_length ∷ [])
unfolding first_of
both_or_one true small short = refl
both_or_one false small short = refl

module _ (control : List ℕ) (samples : List ℤ) (buffer : List ℕ) (number rate : ℕ) (fits : Bool) (n : ℕ) where
  abbrev head : Tables
  head = tables control [] [] [] []

  abbrev trace : Trace
  trace = get_or (traces_in (tables control samples [] [] [])) number []

  -- what is known of what the code compares
  module _ (fits_is : fits ≡ (ltb rate rate_limit && ltb number (trace_count head)) && are_within narrow_limit trace) (n_is : n ≡ (measures_of head).n) where
    abbrev conditions : List Condition
    conditions = export_conditions (measures_of head) (trace_count head) trace number rate buffer

    tested_is : first_of conditions ≡ first_of (tested buffer fits n)
    tested_is =
        both_or_one (ltb rate rate_limit && ltb number (trace_count head)) (are_within narrow_limit trace)
        (ltb (length buffer) (recording_size (measures_of head).n))
        ∙ sym (ap₂ (λ (b : Bool) (k : ℕ). first_of (tested buffer b k)) fits_is n_is)

    bad : fits ≡ false → first_of conditions ≡ some bad_recording
    unfolding first_of
    bad e = tested_is ∙ rw e refl

    short : fits ≡ true → ltb (length buffer) (recording_size n) ≡ true → first_of conditions ≡ some sheet_length
    unfolding first_of
    short e s = tested_is ∙ rw (e, s) refl

    fine : fits ≡ true → ltb (length buffer) (recording_size n) ≡ false → first_of conditions ≡ none
    unfolding first_of
    fine e s = tested_is ∙ rw (e, s) refl

pub returns-then-bad : goal.returns-then-bad
unfolding found_by word_of
returns-then-bad c =
    let a = c.args in
    sym (bad a.control.now a.samples.now a.buffer.now a.number a.rate _ _ c.recordable-bad.ensures (c.wide.ensures ∙ c.field.ensures) c.if-bad.true)

pub returns-then-short : goal.returns-then-short
unfolding found_by word_of
returns-then-short c =
    let a = c.args in
    sym (short a.control.now a.samples.now a.buffer.now a.number a.rate _ _ c.recordable-bad.ensures (c.wide.ensures ∙ c.field.ensures) c.if-bad.false
    (lt-ltb _ _ c.if-short.true))

pub returns : goal.returns
unfolding found_by
returns c =
    let a = c.args in
    sym (fine a.control.now a.samples.now a.buffer.now a.number a.rate _ _ c.recordable-bad.ensures (c.wide.ensures ∙ c.field.ensures) c.if-bad.false
    (le-ltb _ _ c.if-short.false))
