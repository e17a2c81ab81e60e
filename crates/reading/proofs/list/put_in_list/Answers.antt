-- `reading::list::put_in_list` meets its contract: there is room, or the trace is no nearer than the last, or the last goes (`Records`).
use mathlib.Core.Path.{sym, ◌∙◌}
use native.Mathlib.Omega.{arith}
use Rattle.reading.proofs.Records.{placed_more, placed_none, placed_nearer, ordered_ahead}
use Rattle.reading.proofs.list.put_in_list.Goals as goal

pub insert-requires : goal.insert-requires
insert-requires c = (omega (arith, c.requires.long, c.if-listed-k.true), c.requires.ordered)

pub overflow_add-result : goal.overflow_add-result
overflow_add-result c = omega (arith, c.if-listed-k.true, c.ranges.k)

pub returns-then-listed-k : goal.returns-then-listed-k
returns-then-listed-k c =
    let a = c.args in
    let i = c.insert in
    placed_more a.k a.listed a.trace a.distance a.list.now c.requires i.new.list c.if-listed-k.true i.ensures.nears
    i.ensures.rest

pub overflow_sub-k : goal.overflow_sub-k
overflow_sub-k c = omega (arith, c.requires.some_record)

pub comes_before-requires : goal.comes_before-requires
comes_before-requires c = omega (arith, c.requires.long, c.requires.some_record)

pub returns-then-not-comes_before : goal.returns-then-not-comes_before
returns-then-not-comes_before c =
    let a = c.args in
    placed_none a.k a.listed a.trace a.distance a.list.now c.requires c.if-listed-k.false
    (sym c.comes_before.ensures ∙ c.if-not-comes_before.true)

pub overflow_sub-k-2 : goal.overflow_sub-k-2
overflow_sub-k-2 c = omega (arith, c.requires.some_record)

pub insert-requires-2 : goal.insert-requires-2
insert-requires-2 c =
    let a = c.args in (
      omega (arith, c.requires.long, c.requires.some_record),
      ordered_ahead a.k a.listed a.trace a.distance a.list.now c.requires
          c.if-listed-k.false,
    )

pub returns : goal.returns
returns c =
    let i = c.insert-2 in
    let a = c.args in
    placed_nearer a.k a.listed a.trace a.distance a.list.now c.requires c.if-listed-k.false i.new.list
    (sym c.comes_before.ensures ∙ c.if-not-comes_before.false)
    i.ensures.nears i.ensures.rest
