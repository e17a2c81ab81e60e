-- `importing::judging::judge` meets its contract: tables are judged first, then the file.
use mathlib.Core.Path.{◌≡◌, sym, ap, ◌∙◌}
use mathlib.Core.Option.{Option, none, some}
use mathlib.Core.List.{List}
use Prim.Native.Nat.{ℕ}
use lib.ListN.{length}
use Rattle.dstree.specs.Refusals.{Refusal, Condition, first_of}
use Rattle.dstree.specs.Recording.{judge_recording, file_traces}
use Rattle.dstree.specs.Book.{import_conditions}
use Rattle.dstree.proofs.Conditions.{first_some, first_none}
use Rattle.tables.specs.Tables.{Tables, measures_of, trace_count}
use Rattle.tables.specs.Shared.{tables_lent}
use Rattle.tables.specs.Answers.{found_by, made_conditions}
use Rattle.tables.proofs.Judged.{accepted}
use Rattle.tables.proofs.Views.{tree_formed}
use Rattle.tables.proofs.Passed.{passed}
use Rattle.calls.specs.Effects.{imports}
use Rattle.importing.specs.Answered.{answer_by, count_unless}
use Rattle.importing.proofs.Answers.{answer_is}
use Rattle.importing.proofs.judging.judge.Goals as goal

module _ (t : Tables) (bytes : List ℕ) where
  -- the conditions behind those of the tables
  abbrev own : List Condition
  own = import_conditions (measures_of t) (trace_count t) (judge_recording (measures_of t).n bytes)

  -- the answer, by the first of all conditions
  first_is : (o : Option Refusal) → first_of (imports t bytes).conditions ≡ o
      → count_unless o (length (file_traces (judge_recording (measures_of t).n bytes)))
      ≡ count_unless (first_of (imports t bytes).conditions) (length (file_traces (judge_recording (measures_of t).n bytes)))
  first_is o e = ap (λ (p : Option Refusal). count_unless p (length (file_traces (judge_recording (measures_of t).n bytes)))) (sym e)

  -- what the tables refuse
  refused : (why : Refusal) → first_of (made_conditions t) ≡ some why → first_of (imports t bytes).conditions ≡ some why
  unfolding imports
  refused why e = first_some (made_conditions t) own why e

  -- the tables are taken, so that the file decides
  only : first_of (made_conditions t) ≡ none → first_of (imports t bytes).conditions ≡ first_of own
  unfolding imports
  only nothing = first_none (made_conditions t) own nothing

pub judge_file-requires : goal.judge_file-requires
unfolding found_by
judge_file-requires c =
    let t = tables_lent c.args.lent in
    let ok = accepted t (sym c.in_ok-judge_tables.ensures) in
    (ok.range.n_low, (tree_formed t ok.formed).room)

pub returns-in_err-judge_tables : goal.returns-in_err-judge_tables
unfolding found_by answer_by count_unless
returns-in_err-judge_tables c =
    let t = tables_lent c.args.lent in
    let b = c.args.bytes.now in
    rw (passed c.from_residual.result _ c.from_residual.ensures.1) (first_is t b _ (refused t b _ (sym c.in_err-judge_tables.ensures)) ∙ answer_is t b)

pub returns : goal.returns
unfolding found_by
returns c =
    let t = tables_lent c.args.lent in
    let b = c.args.bytes.now in
    c.judge_file.ensures ∙ first_is t b _ (only t b (sym c.in_ok-judge_tables.ensures)) ∙ answer_is t b
