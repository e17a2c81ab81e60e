-- `sheet_line::line` meets its contract: the line of the sheet's answer, where it has room.
use mathlib.Core.Path.{ap, ap₂, ◌∙◌}
use lib.ListN.{length}
use borrow.Author.Tests.{lt-ltb, le-ltb}
use Rattle.dstree.specs.Program.{Line, text, printed}
use Rattle.tables.specs.Beginning.{over}
use Rattle.sheet_line.specs.Lines.{put, line_in}
use Rattle.sheet_line.proofs.line.Goals as goal

pub returns-then-out-lt84 : goal.returns-then-out-lt84
unfolding line_in
returns-then-out-lt84 c = rw (lt-ltb _ _ c.if-out-lt84.true)

pub returns : goal.returns
unfolding line_in printed
returns c =
    let p = c.put_line in
    let out = c.args.out.now in
    rw (le-ltb _ _ c.if-out-lt84.false)
    (ap₂ put p.ensures.0 p.ensures.1 ∙ ap (λ (l : Line). put (length (text l)) (over (text l) out)) c.answer_of-answer.ensures)
