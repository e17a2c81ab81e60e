-- `sheet_judging::contents::head_of` meets its contract.
use Rattle.sheet_judging.proofs.Heads.{says}
use Rattle.sheet_judging.proofs.contents.head_of.Goals as goal

pub returns : goal.returns
returns c =
    says c.args.sheet.now _ _ _ _ c.two_bytes.ensures.0 c.two_bytes-2.ensures.0
    c.two_bytes-3.ensures.0 c.two_bytes-4.ensures.0
