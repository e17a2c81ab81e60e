-- `tables::control::judge_opening` meets its contract: each return is the first condition that held, and the tests before it were passed.
use mathlib.Core.Path.{sym, ◌∙◌}
use Rattle.dstree.specs.Refusals.{first_of}
use Rattle.tables.specs.Judge.{measures_by, opening_conditions_of}
use Rattle.tables.specs.Answers.{word_of, found_by}
use Rattle.tables.proofs.Range.{in_range_lem}
use Rattle.tables.proofs.control.judge_opening.Goals as goal

pub returns-then-not-measures_fit : goal.returns-then-not-measures_fit
unfolding first_of opening_conditions_of found_by word_of
returns-then-not-measures_fit c =
    let a = c.args in
    rw (← c.measures_fit.ensures, c.if-not-measures_fit.true)

pub returns-then-control_short : goal.returns-then-control_short
unfolding first_of opening_conditions_of found_by word_of
returns-then-control_short c =
    let a = c.args in
    rw (
      ← c.measures_fit.ensures,
      c.if-not-measures_fit.false,
      ← c.control_short.ensures a.lengths.samples a.lengths.nodes a.lengths.links a.lengths.work a.lengths.labels,
      c.if-control_short.true,
    )

pub tables_short-requires : goal.tables_short-requires
tables_short-requires c =
    let a = c.args in
    let r = in_range_lem (measures_by a.measures) (sym c.measures_fit.ensures ∙ c.if-not-measures_fit.false) in
    (r.n_high, r.capacity_high)

pub returns-then-tables_short : goal.returns-then-tables_short
unfolding first_of opening_conditions_of found_by word_of
returns-then-tables_short c =
    let a = c.args in
    rw (
      ← c.measures_fit.ensures,
      c.if-not-measures_fit.false,
      ← c.control_short.ensures a.lengths.samples a.lengths.nodes a.lengths.links a.lengths.work a.lengths.labels,
      c.if-control_short.false,
      ← c.tables_short.ensures a.lengths.control a.measures.leaf_size,
      c.if-tables_short.true,
    )

pub returns : goal.returns
unfolding first_of opening_conditions_of found_by word_of
returns c =
    let a = c.args in
    rw (
      ← c.measures_fit.ensures,
      c.if-not-measures_fit.false,
      ← c.control_short.ensures a.lengths.samples a.lengths.nodes a.lengths.links a.lengths.work a.lengths.labels,
      c.if-control_short.false,
      ← c.tables_short.ensures a.lengths.control a.measures.leaf_size,
      c.if-tables_short.false,
    )
