-- `sheet_line::answer_of` meets its contract: what was judged says which way the call ends.
use mathlib.Core.Path.{sym}
use Rattle.tables.specs.Answers.{found_by}
use Rattle.tables.proofs.Passed.{passed}
use Rattle.sheet_line.proofs.Judged.{refused_line}
use Rattle.sheet_line.proofs.answer_of.Goals as goal

pub match_sound-requires : goal.match_sound-requires
unfolding found_by
match_sound-requires c = sym c.in_ok-judge_program.ensures

pub returns-in_err-judge_program : goal.returns-in_err-judge_program
returns-in_err-judge_program c =
    rw (passed c.from_residual.result _ c.from_residual.ensures.1) (refused_line c.args.sheet.now _ c.in_err-judge_program.ensures)
