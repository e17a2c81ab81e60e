-- `batching::judging::judge_own` meets its contract: what is no batch is refused first, then what a search refuses of a run of n times as
-- many samples.
use Prim.Native.Nat.{ℕ, ◌*◌, ◌≤◌}
use mathlib.Core.Path.{sym, ap, ◌∙◌}
use native.Mathlib.Omega.{arith}
use native.Mathlib.Nat.{mul-le-mul}
use Rattle.dstree.specs.Refusals.{first_of}
use Rattle.tables.specs.Tables.{tables}
use Rattle.tables.specs.Answers.{word_of, found_by}
use Rattle.calls.specs.Effects.{run_conditions_in}
use Rattle.batching.proofs.Taken.{batch_range}
use Rattle.batching.proofs.judging.judge_own.Goals as goal

pub returns-then-not-is_batch : goal.returns-then-not-is_batch
unfolding found_by word_of first_of
returns-then-not-is_batch c samples links work =
    rw (sym c.is_batch.ensures ∙ c.if-not-is_batch.true)

pub overflow_mul-n : goal.overflow_mul-n
overflow_mul-n c =
    let a = c.args in
    let p : c.wide-n.result * a.many ≤ 256 * 16 =
    mul-le-mul {n₁ = c.wide-n.result} {m₁ = a.many} {n₂ = 256} {m₂ = 16}
    (omega (arith, c.wide-n.ensures, c.field.ensures, c.requires.2))
    (omega (arith, (batch_range a.many a.places (sym c.is_batch.ensures ∙ c.if-not-is_batch.false)).1)) in
    omega (arith, p)

pub judge_run-requires : goal.judge_run-requires
judge_run-requires c =
    (c.requires.0, c.requires.1)

pub returns : goal.returns
unfolding first_of
returns c samples links work =
    let a = c.args in
    let t = tables a.control.now samples a.nodes.now links work in
    rw (sym c.is_batch.ensures ∙ c.if-not-is_batch.false) (c.judge_run.ensures samples links work
    ∙ ap (λ (n : ℕ). first_of (run_conditions_in t (n * a.many) a.queries.now a.trail.now))
    (c.wide-n.ensures ∙ c.field.ensures))
