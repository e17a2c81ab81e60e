-- `sheet_reading::judging::judge_reading` meets its contract: the sheet first, and then, with its measures, the tables.
use mathlib.Core.Path.{sym, ap, ◌∙◌}
use native.Mathlib.Omega.{arith}
use Rattle.dstree.specs.Measures.{Measures}
use Rattle.dstree.specs.Refusals.{first_of}
use Rattle.dstree.specs.Book.{short_conditions}
use Rattle.tables.specs.Layout.{layout}
use Rattle.tables.specs.Judge.{lengths_by}
use Rattle.tables.specs.Answers.{found_by}
use Rattle.tables.proofs.Passed.{passed}
use Rattle.sheet_blocks.proofs.Places.{first_inside}
use Rattle.sheet_judging.proofs.Samples.{fine, range}
use Rattle.sheet_reading.proofs.Ends.{refused_first, short_only}
use Rattle.sheet_reading.proofs.judging.judge_reading.Goals as goal

pub head_of-head-requires : goal.head_of-head-requires
unfolding found_by
head_of-head-requires c = first_inside c.args.sheet.now (fine c.args.sheet.now (sym c.in_ok-judge_sheet.ensures)).whole

pub judge_short-requires : goal.judge_short-requires
unfolding found_by
judge_short-requires c =
    let r = range c.args.sheet.now (fine c.args.sheet.now (sym c.in_ok-judge_sheet.ensures)) in
    let m = c.head_of-head.ensures.measures_are in
    (omega (arith, r.n_high, ap (λ (k : Measures). k.n) m), omega (arith, r.capacity_high, ap (λ (k : Measures). k.capacity) m))

pub returns-in_err-judge_sheet : goal.returns-in_err-judge_sheet
unfolding found_by
returns-in_err-judge_sheet c =
    rw (passed c.from_residual.result _ c.from_residual.ensures.1)
    (refused_first c.args.sheet.now (lengths_by c.args.lengths) _ (sym c.in_err-judge_sheet.ensures))

pub returns : goal.returns
unfolding found_by
returns c =
    let bytes = c.args.sheet.now in
    let lengths = lengths_by c.args.lengths in
    c.judge_short.ensures c.head_of-head.result.leaf
    ∙ ap (λ (m : Measures). first_of (short_conditions layout lengths m)) (sym c.head_of-head.ensures.measures_are)
    ∙ ap first_of (sym (short_only bytes lengths (sym c.in_ok-judge_sheet.ensures)))
