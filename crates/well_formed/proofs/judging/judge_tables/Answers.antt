-- `well_formed::judging::judge_tables` meets its contract: what lengths and measures refuse comes first, and only then are contents tested.
use mathlib.Core.Path.{sym, ap, ◌∙◌}
use mathlib.Core.Bool.{not}
use mathlib.Core.List.{[], ◌∷◌}
use Rattle.dstree.specs.Refusals as word
use Rattle.dstree.specs.Refusals.{◌refuses◌, first_of}
use Rattle.tables.specs.Tables.{lent_of, measures_of}
use Rattle.tables.specs.Shared.{tables_lent}
use Rattle.tables.specs.View.{well_formed}
use Rattle.tables.specs.Judge.{lent_conditions_of}
use Rattle.tables.specs.Answers.{word_of, found_by}
use Rattle.tables.proofs.Judged.{lends}
use Rattle.tables.proofs.Samples.{made_is}
use Rattle.well_formed.proofs.Refused.{by_contents, passed_first}
use Rattle.well_formed.proofs.judging.judge_tables.Goals as goal

pub returns-in_err-judge_lent : goal.returns-in_err-judge_lent
returns-in_err-judge_lent c =
    let t = tables_lent c.args.lent in
    let found = rw (c.lengths.ensures, c.measures.ensures) at c.in_err-judge_lent.ensures in
    passed_first (lent_conditions_of (lent_of t) (measures_of t)) (not (well_formed t) refuses word.spoiled ∷ []) _ _ c.from_residual.ensures.1 found
    ∙ ap first_of (sym (made_is t))

pub well_formed-requires : goal.well_formed-requires
unfolding found_by
well_formed-requires c =
    let t = tables_lent c.args.lent in
    lends t (sym (rw (c.lengths.ensures, c.measures.ensures) at c.in_ok-judge_lent.ensures))

pub returns-then-not-well_formed : goal.returns-then-not-well_formed
unfolding found_by word_of first_of
returns-then-not-well_formed c =
    let a = c.args.lent in
    let nothing = sym (rw (c.lengths.ensures, c.measures.ensures) at c.in_ok-judge_lent.ensures) in
    rw (by_contents a.control.now a.samples.now a.nodes.now a.links.now a.work.now a.labels.now nothing, ← c.well_formed-2.ensures, c.if-not-well_formed.true)

pub returns : goal.returns
unfolding found_by first_of
returns c =
    let a = c.args.lent in
    let nothing = sym (rw (c.lengths.ensures, c.measures.ensures) at c.in_ok-judge_lent.ensures) in
    rw (by_contents a.control.now a.samples.now a.nodes.now a.links.now a.work.now a.labels.now nothing, ← c.well_formed-2.ensures, c.if-not-well_formed.false)
