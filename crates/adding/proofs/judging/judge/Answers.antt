-- `adding::judging::judge` meets its contract: tables are judged first, then each return answers for one condition, the ones before it
-- being false.
use mathlib.Core.Path.{◌≡◌, sym, ap, ap₂, ◌∙◌}
use Prim.Native.Nat.{ℕ}
use mathlib.Core.List.{List}
use mathlib.Core.Option.{none}
use borrow.Author.Tests.{eq-eqb, ne_eqb}
use lib.ListN.{length}
use Rattle.dstree.specs.Measures.{Trace, measures}
use Rattle.dstree.specs.Labels.{Label}
use Rattle.dstree.specs.Refusals.{Condition, first_of}
use Rattle.dstree.specs.Book.{add_conditions}
use Rattle.dstree.proofs.Conditions.{first_none}
use Rattle.tables.specs.Tables.{Tables, measures_of, trace_count}
use Rattle.tables.specs.Shared.{tables_lent}
use Rattle.tables.specs.Answers.{word_of, found_by, made_conditions}
use Rattle.well_formed.proofs.Refused.{passed_first}
use Rattle.calls.specs.Effects.{adds}
use Rattle.adding.proofs.judging.judge.Goals as goal

module _ (t : Tables) (x : Trace) (n capacity k : ℕ) (n_is : n ≡ (measures_of t).n) (capacity_is : capacity ≡ (measures_of t).capacity) (k_is : k ≡ trace_count t) where
  -- the conditions behind those of the tables, of what the code compares
  abbrev tested : List Condition
  tested = add_conditions (measures n capacity 0) k x

  tested_is : tested ≡ add_conditions (measures_of t) (trace_count t) x
  tested_is =
      ap (λ (m : ℕ). add_conditions (measures m capacity 0) k x) n_is
      ∙ ap₂ (λ (c j : ℕ). add_conditions (measures (measures_of t).n c 0) j x) capacity_is k_is

  -- the tables are taken, so that the rest decides
  only : first_of (made_conditions t) ≡ none → (l : Label) → first_of (adds t x l).conditions ≡ first_of tested
  unfolding adds
  only e l = first_none (made_conditions t) _ e ∙ ap first_of (sym tested_is)

pub returns-then-wrong : goal.returns-then-wrong
unfolding found_by word_of first_of
returns-then-wrong c = λ l.
    let a = c.args in
    let t = tables_lent a.lent in
    let decides = only t a.trace.now c.wide-n.result c.field-capacity.result c.field-k.result (c.wide-n.ensures ∙ c.field.ensures) c.field-capacity.ensures c.field-k.ensures
    (sym c.in_ok-judge_tables.ensures) l in
    let other_size = ne_eqb (length a.trace.now) c.wide-n.result c.if-wrong.true in
    rw (decides, other_size)

pub returns-then-outside : goal.returns-then-outside
unfolding found_by word_of first_of
returns-then-outside c = λ l.
    let a = c.args in
    let t = tables_lent a.lent in
    let decides = only t a.trace.now c.wide-n.result c.field-capacity.result c.field-k.result (c.wide-n.ensures ∙ c.field.ensures) c.field-capacity.ensures c.field-k.ensures
    (sym c.in_ok-judge_tables.ensures) l in
    let same_size = eq-eqb (length a.trace.now) c.wide-n.result c.if-wrong.false in
    rw (decides, same_size, ← c.are_samples-outside.ensures, c.if-outside.true)

pub returns-then-full : goal.returns-then-full
unfolding found_by word_of first_of
returns-then-full c = λ l.
    let a = c.args in
    let t = tables_lent a.lent in
    let decides = only t a.trace.now c.wide-n.result c.field-capacity.result c.field-k.result (c.wide-n.ensures ∙ c.field.ensures) c.field-capacity.ensures c.field-k.ensures
    (sym c.in_ok-judge_tables.ensures) l in
    let same_size = eq-eqb (length a.trace.now) c.wide-n.result c.if-wrong.false in
    let at_capacity = eq-eqb c.field-k.result c.field-capacity.result c.if-full.true in
    rw (decides, same_size, ← c.are_samples-outside.ensures, c.if-outside.false, at_capacity)

pub returns-in_err-judge_tables : goal.returns-in_err-judge_tables
unfolding adds
returns-in_err-judge_tables c = λ l.
    let a = c.args in
    let t = tables_lent a.lent in
    passed_first (made_conditions t) _ _ _ c.from_residual.ensures.1 c.in_err-judge_tables.ensures

pub returns : goal.returns
unfolding found_by first_of
returns c = λ l.
    let a = c.args in
    let t = tables_lent a.lent in
    let decides = only t a.trace.now c.wide-n.result c.field-capacity.result c.field-k.result (c.wide-n.ensures ∙ c.field.ensures) c.field-capacity.ensures c.field-k.ensures
    (sym c.in_ok-judge_tables.ensures) l in
    let same_size = eq-eqb (length a.trace.now) c.wide-n.result c.if-wrong.false in
    let below_capacity = ne_eqb c.field-k.result c.field-capacity.result c.if-full.false in
    rw (decides, same_size, ← c.are_samples-outside.ensures, c.if-outside.false, below_capacity)
