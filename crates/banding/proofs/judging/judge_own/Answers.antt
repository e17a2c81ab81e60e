-- `banding::judging::judge_own` meets its contract: each return answers for one condition, the ones before it being false.
use Prim.Native.Nat.{◌*◌, ◌-◌}
use mathlib.Core.Path.{sym, ◌∙◌}
use native.Mathlib.Omega.{arith}
use lib.ListN.{length}
use borrow.Author.Tests.{lt-ltb, le-ltb, eq-eqb, ne_eqb}
use Rattle.integer.proofs.Tests.{is_true}
use Rattle.dstree.specs.Refusals.{first_of}
use Rattle.tables.specs.Answers.{word_of, found_by}
use Rattle.band_counts.proofs.Reached.{edges_are}
use Rattle.banding.proofs.judging.judge_own.Goals as goal

pub returns-then-wrong : goal.returns-then-wrong
unfolding found_by word_of first_of
returns-then-wrong c =
    rw (sym (c.wide-n.ensures ∙ c.field.ensures), ne_eqb (length c.args.query.now) c.wide-n.result c.if-wrong.true)

pub returns-then-outside : goal.returns-then-outside
unfolding found_by word_of first_of
returns-then-outside c =
    rw (
      sym (c.wide-n.ensures ∙ c.field.ensures),
      eq-eqb (length c.args.query.now) c.wide-n.result c.if-wrong.false,
      sym c.are_samples-outside.ensures ∙ c.if-outside.true,
    )

pub returns-then-bad : goal.returns-then-bad
unfolding found_by word_of first_of
returns-then-bad c =
    rw (
      sym (c.wide-n.ensures ∙ c.field.ensures),
      eq-eqb (length c.args.query.now) c.wide-n.result c.if-wrong.false,
      sym c.are_samples-outside.ensures ∙ c.if-outside.false,
      sym c.are_edges-bad.ensures ∙ c.if-bad.true,
    )

pub overflow_sub-edges : goal.overflow_sub-edges
overflow_sub-edges c =
    omega (arith, edges_are c.args.edges.now (is_true (sym c.are_edges-bad.ensures ∙ c.if-bad.false)))

pub overflow_mul-edges : goal.overflow_mul-edges
overflow_mul-edges c =
    omega (arith, edges_are c.args.edges.now (is_true (sym c.are_edges-bad.ensures ∙ c.if-bad.false)))

pub returns-then-list-edges : goal.returns-then-list-edges
unfolding found_by word_of first_of
returns-then-list-edges c =
    rw (
      sym (c.wide-n.ensures ∙ c.field.ensures),
      eq-eqb (length c.args.query.now) c.wide-n.result c.if-wrong.false,
      sym c.are_samples-outside.ensures ∙ c.if-outside.false,
      sym c.are_edges-bad.ensures ∙ c.if-bad.false,
      lt-ltb (length c.args.list.now) (2 * (length c.args.edges.now - 1)) c.if-list-edges.true,
    )

pub returns : goal.returns
unfolding found_by word_of first_of
returns c =
    rw (
      sym (c.wide-n.ensures ∙ c.field.ensures),
      eq-eqb (length c.args.query.now) c.wide-n.result c.if-wrong.false,
      sym c.are_samples-outside.ensures ∙ c.if-outside.false,
      sym c.are_edges-bad.ensures ∙ c.if-bad.false,
      le-ltb (length c.args.list.now) (2 * (length c.args.edges.now - 1)) (omega (arith, c.if-list-edges.false)),
    )
