-- `sheet_line::text::put_line` meets its contract: the line of either case.
use mathlib.Core.Path.{sym, ap, ap₂, ◌∙◌}
use Rattle.dstree.specs.Program.{refused_line, refusal_line}
use Rattle.sheet_line.specs.Lines.{line_by}
use Rattle.sheet_line.proofs.Texts.{as_line}
use Rattle.sheet_line.proofs.text.put_line.Goals as goal

pub returns-in-Ok : goal.returns-in-Ok
unfolding line_by
returns-in-Ok c =
    let p = c.put_numbers in
    let out = c.args.out.now in
    as_line p.result p.new.out out _ _ (sym (ap line_by c.in-Ok.is)) p.ensures

pub returns-in-Err : goal.returns-in-Err
unfolding line_by refusal_line
returns-in-Err c =
    let p = c.put_refusal in
    let out = c.args.out.now in
    as_line p.result p.new.out out _ _ (ap₂ refused_line c.number-number.ensures c.place-block.ensures ∙ sym (ap line_by c.in-Err.is)) p.ensures
