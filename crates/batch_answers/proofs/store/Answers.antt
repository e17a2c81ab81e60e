-- `batch_answers::store` meets its contract: in each turn one record more is stored (`Over`), and all of them are what is defined (`Whole`).
use mathlib.Core.Path.{◌≡◌, sym, ap, ◌∙◌}
use Prim.Native.Nat.{ℕ, ◌<◌}
use mathlib.Core.Bool.{true}
use mathlib.Core.List.{List}
use native.Mathlib.Omega.{arith}
use lib.ListN.{length, set}
use Rattle.batching.specs.Answered.{answer_at}
use Rattle.batching.specs.declared.AnswerRecord.{AnswerRecord}
use Rattle.batch_answers.specs.Over.{with_first_values}
use Rattle.batch_answers.specs.AnswerRecords.{store_outcome}
use Rattle.batch_answers.proofs.Over.{over_none, over_more}
use Rattle.batch_answers.proofs.Whole.{left_alone, all_stored}
use Rattle.batch_answers.proofs.store.Goals as goal

pub returns-then-answers-found : goal.returns-then-answers-found
returns-then-answers-found c = left_alone c.args.found c.args.answers.now c.if-answers-found.true

pub loop-i-init : goal.loop-i-init
loop-i-init c = sym (over_none (answer_at c.args.found) c.args.answers.now)

pub loop-i-preserved : goal.loop-i-preserved
loop-i-preserved c =
    let i = c.loop-i.i in
    let less : i < length c.args.answers.now = omega (arith, c.loop-i-test.true, c.loop-i.auto.answers) in
    ap (λ (l : List AnswerRecord). set l i c.answer_at.result) c.loop-i.invariant
    ∙ ap (set (with_first_values (answer_at c.args.found) i c.args.answers.now) i) c.answer_at.ensures
    ∙ over_more (answer_at c.args.found) c.args.answers.now i less

pub returns : goal.returns
returns c =
    let all : c.loop-i.i ≡ length c.args.answers.now = omega arith in
    ap (store_outcome true) (c.loop-i.invariant ∙ ap (λ (k : ℕ). with_first_values (answer_at c.args.found) k c.args.answers.now) all)
    ∙ all_stored c.args.found c.args.answers.now c.if-answers-found.false
