-- `pairing::judging::judge_own` meets its contract: each return answers for one condition, the ones before it being false.
use borrow.Author.Tests.{eq-eqb, ne_eqb}
use mathlib.Core.Path.{sym, ◌∙◌}
use native.Mathlib.Omega.{arith}
use lib.ListN.{length}
use Rattle.dstree.specs.Refusals.{first_of}
use Rattle.tables.specs.Answers.{word_of, found_by}
use Rattle.pairing.proofs.judging.judge_own.Goals as goal

pub returns-then-unlike : goal.returns-then-unlike
unfolding found_by word_of first_of
returns-then-unlike c =
    rw (
      sym (c.wide-n.ensures ∙ c.field.ensures),
      sym (c.wide.ensures ∙ c.field-2.ensures),
      ne_eqb c.wide-n.result c.wide.result c.if-unlike.true,
    )

pub returns-then-wrong : goal.returns-then-wrong
unfolding found_by word_of first_of
returns-then-wrong c =
    rw (
      sym (c.wide-n.ensures ∙ c.field.ensures),
      sym (c.wide.ensures ∙ c.field-2.ensures),
      eq-eqb c.wide-n.result c.wide.result c.if-unlike.false,
      ne_eqb (length c.args.query.now) c.wide-n.result c.if-wrong.true,
    )

pub returns-then-outside : goal.returns-then-outside
unfolding found_by word_of first_of
returns-then-outside c =
    rw (
      sym (c.wide-n.ensures ∙ c.field.ensures),
      sym (c.wide.ensures ∙ c.field-2.ensures),
      eq-eqb c.wide-n.result c.wide.result c.if-unlike.false,
      eq-eqb (length c.args.query.now) c.wide-n.result c.if-wrong.false,
      sym c.are_samples-outside.ensures ∙ c.if-outside.true,
    )

pub returns-then-none_stored : goal.returns-then-none_stored
unfolding found_by word_of first_of
returns-then-none_stored c =
    rw (
      sym (c.wide-n.ensures ∙ c.field.ensures),
      sym (c.wide.ensures ∙ c.field-2.ensures),
      eq-eqb c.wide-n.result c.wide.result c.if-unlike.false,
      eq-eqb (length c.args.query.now) c.wide-n.result c.if-wrong.false,
      sym c.are_samples-outside.ensures ∙ c.if-outside.false,
      sym c.none_stored.ensures ∙ c.if-none_stored.true,
    )

pub is_short-requires : goal.is_short-requires
is_short-requires c =
    let p = c.requires in
    (omega (arith, p.0, p.1, p.2, p.3), omega (arith, p.0, p.1, p.2, p.3))

pub returns-then-is_short : goal.returns-then-is_short
unfolding found_by word_of first_of
returns-then-is_short c =
    rw (
      sym (c.wide-n.ensures ∙ c.field.ensures),
      sym (c.wide.ensures ∙ c.field-2.ensures),
      eq-eqb c.wide-n.result c.wide.result c.if-unlike.false,
      eq-eqb (length c.args.query.now) c.wide-n.result c.if-wrong.false,
      sym c.are_samples-outside.ensures ∙ c.if-outside.false,
      sym c.none_stored.ensures ∙ c.if-none_stored.false,
      sym c.is_short.ensures ∙ c.if-is_short.true,
    )

pub is_short-requires-2 : goal.is_short-requires-2
is_short-requires-2 c =
    let p = c.requires in
    (omega (arith, p.0, p.1, p.2, p.3), omega (arith, p.0, p.1, p.2, p.3))

pub returns-then-is_short-2 : goal.returns-then-is_short-2
unfolding found_by word_of first_of
returns-then-is_short-2 c =
    rw (
      sym (c.wide-n.ensures ∙ c.field.ensures),
      sym (c.wide.ensures ∙ c.field-2.ensures),
      eq-eqb c.wide-n.result c.wide.result c.if-unlike.false,
      eq-eqb (length c.args.query.now) c.wide-n.result c.if-wrong.false,
      sym c.are_samples-outside.ensures ∙ c.if-outside.false,
      sym c.none_stored.ensures ∙ c.if-none_stored.false,
      sym c.is_short.ensures ∙ c.if-is_short.false,
      sym c.is_short-2.ensures ∙ c.if-is_short-2.true,
    )

pub returns : goal.returns
unfolding found_by word_of first_of
returns c =
    rw (
      sym (c.wide-n.ensures ∙ c.field.ensures),
      sym (c.wide.ensures ∙ c.field-2.ensures),
      eq-eqb c.wide-n.result c.wide.result c.if-unlike.false,
      eq-eqb (length c.args.query.now) c.wide-n.result c.if-wrong.false,
      sym c.are_samples-outside.ensures ∙ c.if-outside.false,
      sym c.none_stored.ensures ∙ c.if-none_stored.false,
      sym c.is_short.ensures ∙ c.if-is_short.false,
      sym c.is_short-2.ensures ∙ c.if-is_short-2.false,
    )
