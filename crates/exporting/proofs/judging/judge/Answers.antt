-- `exporting::judging::judge` meets its contract: tables are judged first, then the rest.
use mathlib.Core.Path.{sym, ◌∙◌}
use mathlib.Core.List.{List, []}
use Prim.Native.Nat.{ℕ}
use lib.ListN.{get_or}
use native.Mathlib.Nat.{mul-le-mul_right}
use native.Mathlib.Omega.{arith}
use Rattle.dstree.specs.Measures.{samples_needed}
use Rattle.dstree.specs.Refusals.{Condition}
use Rattle.dstree.specs.Book.{export_conditions}
use Rattle.tables.specs.Tables.{Tables, measures_of, trace_count}
use Rattle.tables.specs.Shared.{tables_lent}
use Rattle.tables.specs.View.{traces_in}
use Rattle.tables.specs.Answers.{found_by, made_conditions}
use Rattle.tables.proofs.Judged.{accepted}
use Rattle.tables.proofs.Views.{tree_formed}
use Rattle.well_formed.proofs.Refused.{passed_first, none_first_of}
use Rattle.calls.specs.Effects.{exports}
use Rattle.exporting.proofs.judging.judge.Goals as goal

-- the conditions behind those of the tables
abbrev own : Tables → ℕ → ℕ → List ℕ → List Condition
own t number rate buffer = export_conditions (measures_of t) (trace_count t) (get_or (traces_in t) number []) number rate buffer

-- every stored trace is among the samples
pub judge_own-requires : goal.judge_own-requires
unfolding found_by samples_needed
judge_own-requires c =
    let t = tables_lent c.args.lent in
    let ok = accepted t (sym c.in_ok-judge_tables.ensures) in
    omega (arith, mul-le-mul_right (measures_of t).n (tree_formed t ok.formed).room, ok.room.long.samples_long)

pub returns-in_err-judge_tables : goal.returns-in_err-judge_tables
unfolding exports
returns-in_err-judge_tables c =
    let a = c.args in
    let t = tables_lent a.lent in
    passed_first (made_conditions t) (own t a.number a.rate a.buffer.now) _ _ c.from_residual.ensures.1 c.in_err-judge_tables.ensures

pub returns : goal.returns
unfolding exports traces_in
returns c =
    let a = c.args in
    let t = tables_lent a.lent in
    c.judge_own.ensures ∙ sym (none_first_of (made_conditions t) (own t a.number a.rate a.buffer.now) c.in_ok-judge_tables.ensures)
