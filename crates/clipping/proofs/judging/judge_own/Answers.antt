-- `clipping::judging::judge_own` meets its contract: each return answers for one condition, the ones before it being false.
use mathlib.Core.Path.{sym, ◌∙◌}
use native.Mathlib.Omega.{arith}
use lib.ListN.{length}
use borrow.Author.Tests.{eq-eqb, ne_eqb, lt-ltb, le-ltb}
use Rattle.dstree.specs.Refusals.{first_of}
use Rattle.tables.specs.Answers.{word_of, found_by}
use Rattle.clipping.proofs.judging.judge_own.Goals as goal

pub returns-then-wrong : goal.returns-then-wrong
unfolding found_by word_of first_of
returns-then-wrong c =
    rw (
      sym (c.wide-n.ensures ∙ c.field.ensures),
      ne_eqb (length c.args.lows.now) c.wide-n.result c.if-wrong.true,
    )

pub returns-then-wrong-2 : goal.returns-then-wrong-2
unfolding found_by word_of first_of
returns-then-wrong-2 c =
    rw (
      sym (c.wide-n.ensures ∙ c.field.ensures),
      eq-eqb (length c.args.lows.now) c.wide-n.result c.if-wrong.false,
      ne_eqb (length c.args.highs.now) c.wide-n.result c.if-wrong-2.true,
    )

pub returns-then-outside : goal.returns-then-outside
unfolding found_by word_of first_of
returns-then-outside c =
    rw (
      sym (c.wide-n.ensures ∙ c.field.ensures),
      eq-eqb (length c.args.lows.now) c.wide-n.result c.if-wrong.false,
      eq-eqb (length c.args.highs.now) c.wide-n.result c.if-wrong-2.false,
      sym c.are_samples-outside.ensures ∙ c.if-outside.true,
    )

pub returns-then-outside-2 : goal.returns-then-outside-2
unfolding found_by word_of first_of
returns-then-outside-2 c =
    rw (
      sym (c.wide-n.ensures ∙ c.field.ensures),
      eq-eqb (length c.args.lows.now) c.wide-n.result c.if-wrong.false,
      eq-eqb (length c.args.highs.now) c.wide-n.result c.if-wrong-2.false,
      sym c.are_samples-outside.ensures ∙ c.if-outside.false,
      sym c.are_samples-outside-2.ensures ∙ c.if-outside-2.true,
    )

pub returns-then-is_crossed : goal.returns-then-is_crossed
unfolding found_by word_of first_of
returns-then-is_crossed c =
    rw (
      sym (c.wide-n.ensures ∙ c.field.ensures),
      eq-eqb (length c.args.lows.now) c.wide-n.result c.if-wrong.false,
      eq-eqb (length c.args.highs.now) c.wide-n.result c.if-wrong-2.false,
      sym c.are_samples-outside.ensures ∙ c.if-outside.false,
      sym c.are_samples-outside-2.ensures ∙ c.if-outside-2.false,
      sym c.is_crossed.ensures ∙ c.if-is_crossed.true,
    )

pub returns-then-stored-eq0 : goal.returns-then-stored-eq0
unfolding found_by word_of first_of
returns-then-stored-eq0 c =
    rw (
      sym (c.wide-n.ensures ∙ c.field.ensures),
      eq-eqb (length c.args.lows.now) c.wide-n.result c.if-wrong.false,
      eq-eqb (length c.args.highs.now) c.wide-n.result c.if-wrong-2.false,
      sym c.are_samples-outside.ensures ∙ c.if-outside.false,
      sym c.are_samples-outside-2.ensures ∙ c.if-outside-2.false,
      sym c.is_crossed.ensures ∙ c.if-is_crossed.false,
      sym (c.wide-stored.ensures ∙ c.field-2.ensures),
      eq-eqb c.wide-stored.result 0 (omega (arith, c.if-stored-eq0.true)),
    )

pub returns-then-list-stored : goal.returns-then-list-stored
unfolding found_by word_of first_of
returns-then-list-stored c =
    rw (
      sym (c.wide-n.ensures ∙ c.field.ensures),
      eq-eqb (length c.args.lows.now) c.wide-n.result c.if-wrong.false,
      eq-eqb (length c.args.highs.now) c.wide-n.result c.if-wrong-2.false,
      sym c.are_samples-outside.ensures ∙ c.if-outside.false,
      sym c.are_samples-outside-2.ensures ∙ c.if-outside-2.false,
      sym c.is_crossed.ensures ∙ c.if-is_crossed.false,
      sym (c.wide-stored.ensures ∙ c.field-2.ensures),
      ne_eqb c.wide-stored.result 0 (λ q. omega (arith, q, c.if-stored-eq0.false)),
      lt-ltb (length c.args.list.now) c.wide-stored.result c.if-list-stored.true,
    )

pub returns : goal.returns
unfolding found_by word_of first_of
returns c =
    rw (
      sym (c.wide-n.ensures ∙ c.field.ensures),
      eq-eqb (length c.args.lows.now) c.wide-n.result c.if-wrong.false,
      eq-eqb (length c.args.highs.now) c.wide-n.result c.if-wrong-2.false,
      sym c.are_samples-outside.ensures ∙ c.if-outside.false,
      sym c.are_samples-outside-2.ensures ∙ c.if-outside-2.false,
      sym c.is_crossed.ensures ∙ c.if-is_crossed.false,
      sym (c.wide-stored.ensures ∙ c.field-2.ensures),
      ne_eqb c.wide-stored.result 0 (λ q. omega (arith, q, c.if-stored-eq0.false)),
      le-ltb (length c.args.list.now) c.wide-stored.result c.if-list-stored.false,
    )
