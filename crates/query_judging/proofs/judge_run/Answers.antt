-- `query_judging::judge_run` meets its contract: each return answers for one condition, the ones before it being false.
use mathlib.Core.Path.{sym, ap, ◌∙◌}
use lib.ListN.{length}
use lib.Dec.{ltb}
use borrow.Author.Tests.{eq-eqb, ne_eqb}
use Rattle.dstree.specs.Refusals.{first_of}
use Rattle.tables.specs.Tables.{tables}
use Rattle.tables.specs.Answers.{word_of, found_by}
use Rattle.query_judging.proofs.Counted.{leaves_counted}
use Rattle.query_judging.proofs.judge_run.Goals as goal

pub returns-then-wrong : goal.returns-then-wrong
unfolding found_by word_of first_of
returns-then-wrong c samples links work =
    rw (ne_eqb (length c.args.run.now) c.args.size c.if-wrong.true)

pub returns-then-outside : goal.returns-then-outside
unfolding found_by word_of first_of
returns-then-outside c samples links work =
    rw (eq-eqb (length c.args.run.now) c.args.size c.if-wrong.false, sym c.are_samples-outside.ensures ∙ c.if-outside.true)

pub returns-then-empty : goal.returns-then-empty
unfolding found_by word_of first_of
returns-then-empty c samples links work =
    rw (
      eq-eqb (length c.args.run.now) c.args.size c.if-wrong.false,
      sym c.are_samples-outside.ensures ∙ c.if-outside.false,
      sym c.field-stored.ensures,
      eq-eqb c.field-stored.result 0 c.if-empty.true,
    )

pub returns-then-is_short : goal.returns-then-is_short
unfolding found_by word_of first_of
returns-then-is_short c samples links work =
    let t = tables c.args.control.now samples c.args.nodes.now links work in
    rw (
      eq-eqb (length c.args.run.now) c.args.size c.if-wrong.false,
      sym c.are_samples-outside.ensures ∙ c.if-outside.false,
      sym c.field-stored.ensures,
      ne_eqb c.field-stored.result 0 c.if-empty.false,
      ap (ltb (length c.args.trail.now)) (leaves_counted t) ∙ sym c.is_short.ensures ∙ c.if-is_short.true,
    )

pub returns : goal.returns
unfolding found_by word_of first_of
returns c samples links work =
    let t = tables c.args.control.now samples c.args.nodes.now links work in
    rw (
      eq-eqb (length c.args.run.now) c.args.size c.if-wrong.false,
      sym c.are_samples-outside.ensures ∙ c.if-outside.false,
      sym c.field-stored.ensures,
      ne_eqb c.field-stored.result 0 c.if-empty.false,
      ap (ltb (length c.args.trail.now)) (leaves_counted t) ∙ sym c.is_short.ensures ∙ c.if-is_short.false,
    )
