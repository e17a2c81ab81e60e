-- `checking::judging::judge` meets its contract: tables are judged first, and only then are figures recomputed.
use mathlib.Core.Path.{sym}
use mathlib.Core.Bool.{not}
use mathlib.Core.List.{[], ◌∷◌}
use Rattle.dstree.specs.Refusals.{first_of, ◌refuses◌, loose_record}
use Rattle.dstree.specs.Checking.{is_exact}
use Rattle.tables.specs.Shared.{tables_lent}
use Rattle.tables.specs.View.{tree_in, traces_in}
use Rattle.tables.specs.Answers.{word_of, found_by, made_conditions}
use Rattle.well_formed.proofs.Refused.{passed_first}
use Rattle.calls.specs.Effects.{checks}
use Rattle.checking.proofs.Ends.{sound, last_condition}
use Rattle.checking.proofs.judging.judge.Goals as goal

pub is_exact-requires : goal.is_exact-requires
unfolding found_by
is_exact-requires c =
    let l = c.args.lent in
    sound l.control.now l.samples.now l.nodes.now l.links.now l.work.now l.labels.now (sym c.in_ok-judge_tables.ensures)

pub returns-then-not-is_exact : goal.returns-then-not-is_exact
unfolding found_by word_of first_of
returns-then-not-is_exact c =
    let l = c.args.lent in
    rw (last_condition l.control.now l.samples.now l.nodes.now l.links.now l.work.now l.labels.now _ (sym c.in_ok-judge_tables.ensures) c.is_exact.ensures, c.if-not-is_exact.true)

pub returns-in_err-judge_tables : goal.returns-in_err-judge_tables
unfolding checks
returns-in_err-judge_tables c =
    let t = tables_lent c.args.lent in
    passed_first (made_conditions t) (not (is_exact (traces_in t) (tree_in t)) refuses loose_record ∷ []) _ _ c.from_residual.ensures.1 c.in_err-judge_tables.ensures

pub returns : goal.returns
unfolding found_by first_of
returns c =
    let l = c.args.lent in
    rw (last_condition l.control.now l.samples.now l.nodes.now l.links.now l.work.now l.labels.now _ (sym c.in_ok-judge_tables.ensures) c.is_exact.ensures, c.if-not-is_exact.false)
