-- `sheet_reading::judging::judge_short` meets its contract: each return answers for one condition, the ones before it being false.
use mathlib.Core.Path.{sym, ◌∙◌}
use Rattle.dstree.specs.Refusals.{first_of}
use Rattle.tables.specs.Answers.{word_of, found_by}
use Rattle.sheet_reading.proofs.judging.judge_short.Goals as goal

pub returns-then-control_short : goal.returns-then-control_short
unfolding found_by word_of first_of
returns-then-control_short c = λ leaf_size.
    let g = c.args.lengths in
    rw (sym (c.control_short.ensures g.samples g.nodes g.links g.work g.labels) ∙ c.if-control_short.true)

pub returns-then-tables_short : goal.returns-then-tables_short
unfolding found_by word_of first_of
returns-then-tables_short c = λ leaf_size.
    let g = c.args.lengths in
    rw (
      sym (c.control_short.ensures g.samples g.nodes g.links g.work g.labels) ∙ c.if-control_short.false,
      sym (c.tables_short.ensures g.control leaf_size) ∙ c.if-tables_short.true,
    )

pub returns : goal.returns
unfolding found_by first_of
returns c = λ leaf_size.
    let g = c.args.lengths in
    rw (
      sym (c.control_short.ensures g.samples g.nodes g.links g.work g.labels) ∙ c.if-control_short.false,
      sym (c.tables_short.ensures g.control leaf_size) ∙ c.if-tables_short.false,
    )
